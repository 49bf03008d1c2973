-- Laws of records, and of documents of SARIF.
use Rattle.std.specs.Prelude.{◌≡◌, ℕ, Bool, true, false, List, [], ◌∷◌, ◌++◌, option_map}
use Rattle.std.specs.List.{AllByRecursion, flat_map}
use Rattle.msc_record.specs.Plain.{CheckRecord, ListedEntry}
use Rattle.msc_record.specs.Entries.{listed_json}
use Rattle.msc_record.specs.Records.{check_json, comma, end_text, entry_text, head_text, line_of, run_text}
use Rattle.msc_record.specs.SarifPlain.{ListedFinding, Scan}
use Rattle.msc_record.specs.Results.{listed_finding_json}
use Rattle.msc_record.specs.Documents.{ending_text, finding_text, sarif_head_text, sarif_json, steps_text}
use Rattle.msc_record.specs.Numbers.{EndingHasNumbers, HeadHasNumbers, ListedFindingHasNumbers, ListedHasNumbers}
use Rattle.msc_record.specs.Values.{ReadsBack, json_text}

-- the values of a list, one after another, by the text of the first one and those of the others
abbrev pub list_text : {A : Type 0} → (Bool → A → List ℕ) → List A → List ℕ
list_text text [] = []
list_text text (x ∷ xs) = text true x ++ flat_map (text false) xs

-- ---- records

-- an entry with its run
abbrev pub listed_text : Bool → ListedEntry → List ℕ
listed_text is_first e = entry_text is_first e.entry (option_map run_text e.run)

-- An entry is printed as a value of JSON, with its run as the last member.
abbrev pub EntriesAreJson : Type 0
EntriesAreJson =
    (is_first : Bool) (e : ListedEntry)
    → listed_text is_first e ≡ comma is_first ++ json_text (listed_json e)

-- The parts of a record, one after another, are the record.
abbrev pub PartsMakeRecords : Type 0
PartsMakeRecords =
    (r : CheckRecord)
    → head_text r.head ++ (list_text listed_text r.list ++ end_text) ≡ line_of (check_json r)

-- The record of a check is read as the value that was printed, if the numbers of its parts are
-- numbers of JSON.
abbrev pub RecordsReadBack : Type 0
RecordsReadBack =
    (r : CheckRecord) → HeadHasNumbers r.head → AllByRecursion ListedHasNumbers r.list
    → ReadsBack (check_json r)

-- ---- documents of SARIF

-- a finding with its run
abbrev pub listed_finding_text : Bool → ListedFinding → List ℕ
listed_finding_text is_first f =
    finding_text is_first f.finding (option_map (steps_text f.finding.file) f.run)

-- A finding is printed as a value of JSON, with its run as a member.
abbrev pub FindingsAreJson : Type 0
FindingsAreJson =
    (is_first : Bool) (f : ListedFinding)
    → listed_finding_text is_first f ≡ comma is_first ++ json_text (listed_finding_json f)

-- The parts of a document, one after another, are the document.
abbrev pub PartsMakeDocuments : Type 0
PartsMakeDocuments =
    (s : Scan)
    → sarif_head_text s.version
    ++ (list_text listed_finding_text s.findings ++ ending_text s.ending)
    ≡ line_of (sarif_json s)

-- A document is read as the value that was printed, if the numbers of its parts are numbers of
-- JSON.
abbrev pub DocumentsReadBack : Type 0
DocumentsReadBack =
    (s : Scan) → AllByRecursion ListedFindingHasNumbers s.findings → EndingHasNumbers s.ending
    → ReadsBack (sarif_json s)
