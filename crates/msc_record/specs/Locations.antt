-- Where something is in a file, in SARIF (version 2.1.0, sections 3.28 to 3.30).
use Rattle.std.specs.Prelude.{ℕ, List, [], ◌∷◌, Option, codes}
use Rattle.json.specs.Json.{Json, string}
use Rattle.msc_record.specs.declared.location.Region.{Region}
use Rattle.msc_record.specs.Members.{Member, member_if, natural, object_of}

abbrev pub region_members : Region → List Member
region_members r =
    (codes "startLine", natural r.start_line) ∷ (codes "startColumn", natural r.start_column)
    ∷ (codes "endLine", natural r.end_line) ∷ (codes "endColumn", natural r.end_column) ∷ []

abbrev pub region_json : Region → Json
region_json r = object_of (region_members r)

abbrev pub artifact_members : List ℕ → List Member
artifact_members uri = (codes "uri", string uri) ∷ []

abbrev pub artifact_json : List ℕ → Json
artifact_json uri = object_of (artifact_members uri)

-- a file, or a region of it
abbrev pub physical_members : List ℕ → Option Region → List Member
physical_members uri region =
    (codes "artifactLocation", artifact_json uri) ∷ member_if region_json (codes "region") region

abbrev pub physical_json : List ℕ → Option Region → Json
physical_json uri region = object_of (physical_members uri region)

abbrev pub location_members : List ℕ → Option Region → List Member
location_members uri region = (codes "physicalLocation", physical_json uri region) ∷ []

abbrev pub location_json : List ℕ → Option Region → Json
location_json uri region = object_of (location_members uri region)

-- a text of SARIF
abbrev pub message_members : List ℕ → List Member
message_members text = (codes "text", string text) ∷ []

abbrev pub message_json : List ℕ → Json
message_json text = object_of (message_members text)
