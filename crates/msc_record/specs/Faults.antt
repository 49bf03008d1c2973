-- Refusals in JSON.
use Rattle.std.specs.Prelude.{List, [], ◌∷◌, ◌++◌, Option, None, Some, codes, map}
use Rattle.json.specs.Json.{Json, string}
use Rattle.msc_record.specs.declared.fault.FaultPosition.{FaultPosition}
use Rattle.msc_record.specs.Members.{Member, array_of, member_if, member_if_any, natural, object_of, or_null, text}
use Rattle.msc_record.specs.Plain.{Fault, FaultNote, Refusal}
use Rattle.msc_record.specs.Heads.{opening_members}

-- where a fault is, if it has a place; a place in a chart has a byte
abbrev pub place_members : FaultPosition → List Member
place_members p =
    (codes "line", natural p.line) ∷ (codes "column", natural p.column)
    ∷ member_if natural (codes "byte") p.byte

abbrev pub place_if : Option FaultPosition → List Member
place_if None = []
place_if (Some p) = place_members p

abbrev pub note_members : FaultNote → List Member
note_members n = (codes "text", text n.text) ∷ place_if n.position

abbrev pub note_json : FaultNote → Json
note_json n = object_of (note_members n)

abbrev pub notes_json : List FaultNote → Json
notes_json notes = array_of (map note_json notes)

abbrev pub fault_members : Fault → List Member
fault_members f =
    (codes "stage", string f.stage) ∷ (codes "number", or_null natural f.number)
    ∷ (codes "text", text f.text) ∷ (codes "sentence", string f.sentence)
    ∷ (place_if f.position ++ (codes "notes", notes_json f.notes) ∷ [])

abbrev pub fault_json : Fault → Json
fault_json f = object_of (fault_members f)

-- the first fault, and those after it
abbrev pub faults_members : Refusal → List Member
faults_members r = fault_members r.fault ++ member_if_any fault_json (codes "further") r.further

abbrev pub faults_json : Refusal → Json
faults_json r = object_of (faults_members r)

unfoldable pub refusal_members : Refusal → List Member
refusal_members r = opening_members r.opening ++ (codes "fault", faults_json r) ∷ []
