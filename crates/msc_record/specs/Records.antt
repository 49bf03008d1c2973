-- Records as JSON, and their bytes, which are printed in parts.
use Rattle.std.specs.Prelude.{ℕ, Bool, cond, List, [], ◌∷◌, ◌++◌, Option, None, Some, codes, map}
use Rattle.json.specs.Json.{Json}
use Rattle.json.specs.Print.{print}
use Rattle.json.specs.Token.{Token, begin_array, begin_object, key}
use Rattle.msc_record.specs.declared.event.EventNumber.{EventNumber}
use Rattle.msc_record.specs.Members.{array_of, object_of, tokens_of}
use Rattle.msc_record.specs.Values.{json_text}
use Rattle.msc_record.specs.Plain.{Entry, CheckRecord, Head, Refusal}
use Rattle.msc_record.specs.Entries.{entry_members, listed_json, run_json}
use Rattle.msc_record.specs.Faults.{refusal_members}
use Rattle.msc_record.specs.Heads.{head_members}

-- the record of what a check found, and that of a refusal
abbrev pub check_json : CheckRecord → Json
check_json f =
    object_of (head_members f.head ++ (codes "list", array_of (map listed_json f.list)) ∷ [])

abbrev pub refusal_json : Refusal → Json
refusal_json r = object_of (refusal_members r)

-- a record is a line
abbrev pub line_of : Json → List ℕ
line_of j = json_text j ++ codes "\n"

-- the first part of a record: up to the bracket that opens its list
abbrev pub head_tokens : Head → List Token
head_tokens h =
    begin_object ∷ (tokens_of (head_members h) ++ (key (codes "list") ∷ begin_array ∷ []))

abbrev pub head_text : Head → List ℕ
head_text h = print (head_tokens h)

-- a run, which is printed once for all entries that it shows
abbrev pub run_text : List EventNumber → List ℕ
run_text events = json_text (run_json events)

abbrev pub comma : Bool → List ℕ
comma is_first = cond is_first [] (codes ",")

-- the text of a run as the last member of an entry; 34 is a quotation mark
abbrev pub run_part : Option (List ℕ) → List ℕ
run_part None = []
run_part (Some run) = 44 ∷ 34 ∷ (codes "run" ++ (34 ∷ 58 ∷ run))

-- an entry, with the text of a run that shows it
abbrev pub entry_text : Bool → Entry → Option (List ℕ) → List ℕ
entry_text is_first e run =
    comma is_first
    ++ (print (begin_object ∷ tokens_of (entry_members e)) ++ (run_part run ++ codes "}"))

-- the last part of a record
abbrev pub end_text : List ℕ
end_text = codes "]}\n"

-- a refusal, which is a whole record
abbrev pub refusal_text : Refusal → List ℕ
refusal_text r = line_of (refusal_json r)
