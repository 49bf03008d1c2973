-- Races, and pairs of two rounds, in JSON.
use Rattle.std.specs.Prelude.{ℕ, Bool, cond, true, List, [], ◌∷◌, ◌++◌, Option, None, Some, codes, map}
use Rattle.json.specs.Json.{Json, boolean, string}
use Rattle.msc_record.specs.declared.event.EventNumber.{EventNumber}
use Rattle.msc_record.specs.Members.{Member, array_of, member_if, natural, object_of, text}
use Rattle.msc_record.specs.Plain.{Entry, ListedEntry, ListedScenario}
use Rattle.msc_record.specs.Events.{event_json, number_json}

abbrev pub scenario_members : Option ListedScenario → List Member
scenario_members None = []
scenario_members (Some s) =
    (codes "scenario", natural s.scenario) ∷ (codes "choose", array_of (map natural s.choices))
    ∷ (codes "scenarios", natural s.scenarios) ∷ []

-- only a pair of two rounds has this
abbrev pub again_members : Bool → List Member
again_members is_next = cond is_next ((codes "again", boolean true) ∷ []) []

abbrev pub notes_json : List (List ℕ) → Json
notes_json notes = array_of (map string notes)

-- its kind and its words
abbrev pub spoken_members : Entry → List Member
spoken_members e =
    (codes "kind", string e.kind) ∷ (codes "always", boolean e.is_always)
    ∷ (codes "sentence", string e.sentence) ∷ (codes "notes", notes_json e.notes) ∷ []

-- its events
abbrev pub pair_members : Entry → List Member
pair_members e =
    (codes "first", event_json e.first) ∷ (codes "second", event_json e.second)
    ∷ (codes "needs", array_of (number_json e.needed ∷ number_json e.output ∷ [])) ∷ []

-- all members but the run
unfoldable pub entry_members : Entry → List Member
entry_members e =
    scenario_members e.scenario
    ++ ((codes "instance", text e.instance)
    ∷ (again_members e.is_next ++ (spoken_members e ++ pair_members e)))

-- a run: the numbers of its events
abbrev pub run_json : List EventNumber → Json
run_json events = array_of (map number_json events)

abbrev pub listed_json : ListedEntry → Json
listed_json e = object_of (entry_members e.entry ++ member_if run_json (codes "run") e.run)
