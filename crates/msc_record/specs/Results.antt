-- Findings in SARIF (version 2.1.0, section 3.27).
use Rattle.std.specs.Prelude.{ℕ, ◌==◌, cond, List, [], ◌∷◌, ◌++◌, Option, None, Some, codes, drop, length, map}
use Rattle.std.specs.Fmt.{decimal}
use Rattle.std.specs.List.{enumerate_from, flat_map}
use Rattle.json.specs.Json.{Json, string}
use Rattle.msc_record.specs.declared.location.Region.{Region}
use Rattle.msc_record.specs.declared.result.Level.{Level}
use Rattle.msc_record.specs.declared.result.Level.TheVariants.{Error, Warning}
use Rattle.msc_record.specs.Members.{Member, array_of, member_if, member_if_any, natural, object_of, text}
use Rattle.msc_record.specs.SarifPlain.{Finding, ListedFinding, Mark, Step}
use Rattle.msc_record.specs.Locations.{location_json, location_members, message_json, physical_json}
use Rattle.msc_record.specs.Uris.{file_uri}

abbrev pub level_word : Level → List ℕ
level_word Error = codes "error"
level_word Warning = codes "warning"

-- ---- the message

-- the architecture, if the command line names several
abbrev pub queues_part : Option (List ℕ) → List ℕ
queues_part None = []
queues_part (Some queues) = codes " [" ++ (queues ++ codes "]")

abbrev pub others_part : List (List ℕ) → List ℕ
others_part notes = flat_map (λ note. codes "; " ++ note) notes

abbrev pub notes_part : List (List ℕ) → List ℕ
notes_part [] = []
notes_part (note ∷ notes) = codes ": " ++ (note ++ others_part notes)

abbrev pub message_text : Finding → List ℕ
message_text f = f.sentence ++ (queues_part f.queues ++ notes_part f.notes)

-- ---- the locations

-- the first mark; without marks the file alone
abbrev pub first_region : List Mark → Option Region
first_region [] = None
first_region (m ∷ ms) = Some m.region

-- the label of a mark, or else its line
abbrev pub label_text : Mark → List ℕ
label_text m = cond (length m.label == 0) (codes "line " ++ decimal m.region.start_line) m.label

-- a further mark, with its number
abbrev pub related_members : List ℕ → ℕ → Mark → List Member
related_members uri id m =
    (codes "id", natural id) ∷ (codes "physicalLocation", physical_json uri (Some m.region))
    ∷ (codes "message", message_json (label_text m)) ∷ []

abbrev pub related_json : List ℕ → ℕ × Mark → Json
related_json uri p = object_of (related_members uri p.0 p.1)

-- the marks after the first one, with numbers from 0
abbrev pub numbered_marks : List Mark → List (ℕ × Mark)
numbered_marks ms = enumerate_from 0 (drop 1 ms)

-- ---- the result

abbrev pub words_members : Finding → List Member
words_members f =
    (codes "ruleId", string f.rule) ∷ (codes "level", string (level_word f.level))
    ∷ (codes "message", message_json (message_text f)) ∷ []

abbrev pub places_members : List ℕ → List Mark → List Member
places_members uri marks =
    (codes "locations", array_of (location_json uri (first_region marks) ∷ []))
    ∷ member_if_any (related_json uri) (codes "relatedLocations") (numbered_marks marks)

-- all members but the run and the fingerprint
unfoldable pub finding_members : Finding → List Member
finding_members f = words_members f ++ places_members (file_uri f.file) f.marks

-- an event of a run
abbrev pub place_members : List ℕ → Step → List Member
place_members uri s =
    location_members uri (Some s.region) ++ (codes "message", message_json s.text) ∷ []

abbrev pub step_members : List ℕ → Step → List Member
step_members uri s = (codes "location", object_of (place_members uri s)) ∷ []

abbrev pub step_json : List ℕ → Step → Json
step_json uri s = object_of (step_members uri s)

abbrev pub steps_json : List ℕ → List Step → Json
steps_json file steps = array_of (map (step_json (file_uri file)) steps)

-- a run, through which viewers step; of one thread
abbrev pub flows_json : List ℕ → List Step → Json
flows_json file steps =
    array_of (object_of ((
      codes "threadFlows",
      array_of (object_of ((codes "locations", steps_json file steps) ∷ []) ∷ []),
    ) ∷ []) ∷ [])

-- what stays the same when lines move
abbrev pub key_members : List ℕ → List Member
key_members key = (codes "race/v1", text key) ∷ []

abbrev pub key_json : List ℕ → Json
key_json key = object_of (key_members key)

abbrev pub listed_finding_json : ListedFinding → Json
listed_finding_json f =
    object_of (finding_members f.finding
    ++ (member_if (flows_json f.finding.file) (codes "codeFlows") f.run
    ++ member_if key_json (codes "partialFingerprints") f.finding.key))
