-- Numbers of records. A record is read as what was printed if the text of each is a number of JSON;
-- so it is below 2 ^ 64.
use Rattle.std.specs.Prelude.{ℕ, List, IfSome}
use Rattle.json.specs.Tree.{HasNumbers, MembersHaveNumbers}
use Rattle.msc_record.specs.declared.event.EventNumber.{EventNumber}
use Rattle.msc_record.specs.Members.{Member, members_of}
use Rattle.msc_record.specs.Plain.{Entry, Head, ListedEntry}
use Rattle.msc_record.specs.Entries.{entry_members, run_json}
use Rattle.msc_record.specs.Heads.{head_members}
use Rattle.msc_record.specs.SarifPlain.{Ending, Finding, ListedFinding, Step}
use Rattle.msc_record.specs.Results.{finding_members, steps_json}
use Rattle.msc_record.specs.Documents.{ending_members}

-- those of members
abbrev pub HaveNumbers : List Member → Type 0
HaveNumbers ms = MembersHaveNumbers (members_of ms)

-- those of a head, of an entry, and of a run
abbrev pub HeadHasNumbers : Head → Type 0
HeadHasNumbers h = HaveNumbers (head_members h)

abbrev pub EntryHasNumbers : Entry → Type 0
EntryHasNumbers e = HaveNumbers (entry_members e)

abbrev pub RunHasNumbers : List EventNumber → Type 0
RunHasNumbers events = HasNumbers (run_json events)

abbrev pub ListedHasNumbers : ListedEntry → Type 0
ListedHasNumbers e = EntryHasNumbers e.entry × IfSome e.run RunHasNumbers

-- those of a finding, of a run of a file, and of the end of a document of SARIF
abbrev pub FindingHasNumbers : Finding → Type 0
FindingHasNumbers f = HaveNumbers (finding_members f)

abbrev pub StepsHaveNumbers : List ℕ → List Step → Type 0
StepsHaveNumbers file steps = HasNumbers (steps_json file steps)

abbrev pub EndingHasNumbers : Ending → Type 0
EndingHasNumbers e = HaveNumbers (ending_members e)

abbrev pub ListedFindingHasNumbers : ListedFinding → Type 0
ListedFindingHasNumbers f =
    FindingHasNumbers f.finding × IfSome f.run (StepsHaveNumbers f.finding.file)
