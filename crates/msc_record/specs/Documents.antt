-- Documents of SARIF (version 2.1.0), and their bytes, which are printed in parts.
use Rattle.std.specs.Prelude.{ℕ, Bool, not, ◌==◌, List, [], ◌∷◌, ◌++◌, Option, None, Some, codes, map}
use Rattle.json.specs.Json.{Json, boolean, string}
use Rattle.json.specs.Print.{print}
use Rattle.json.specs.Token.{Token, begin_array, begin_object, end_array, end_object, key}
use Rattle.msc_record.specs.Members.{Member, array_of, member_if_any, natural, object_of, tokens_of}
use Rattle.msc_record.specs.Values.{json_text}
use Rattle.msc_record.specs.Records.{comma}
use Rattle.msc_record.specs.SarifPlain.{Ending, Failure, Finding, Scan, Step}
use Rattle.msc_record.specs.Locations.{artifact_json, location_json, message_json}
use Rattle.msc_record.specs.Results.{finding_members, key_json, listed_finding_json, steps_json}
use Rattle.msc_record.specs.Rules.{tool_json}
use Rattle.msc_record.specs.Uris.{file_uri}

-- ---- what it says

-- what precedes the results
abbrev pub run_members : List ℕ → List Member
run_members version =
    (codes "tool", tool_json version)
    ∷ (codes "columnKind", string (codes "unicodeCodePoints")) ∷ []

-- a file
abbrev pub file_members : List ℕ → List Member
file_members name = (codes "location", artifact_json (file_uri name)) ∷ []

abbrev pub file_json : List ℕ → Json
file_json name = object_of (file_members name)

-- a file that failed
abbrev pub failure_members : Failure → List Member
failure_members f =
    (codes "level", string (codes "error")) ∷ (codes "message", message_json f.sentence)
    ∷ (codes "locations", array_of (location_json (file_uri f.file) None ∷ [])) ∷ []

abbrev pub failure_json : Failure → Json
failure_json f = object_of (failure_members f)

-- how the scan ended; a status of 4 says that something failed
abbrev pub invocation_members : Ending → List Member
invocation_members e =
    (codes "executionSuccessful", boolean (not (e.status == 4)))
    ∷ (codes "exitCode", natural e.status)
    ∷ member_if_any failure_json (codes "toolExecutionNotifications") e.failures

abbrev pub invocation_json : Ending → Json
invocation_json e = object_of (invocation_members e)

-- what follows the results
abbrev pub ending_members : Ending → List Member
ending_members e =
    (codes "artifacts", array_of (map file_json e.files))
    ∷ (codes "invocations", array_of (invocation_json e ∷ [])) ∷ []

-- all of a scan
abbrev pub scan_members : Scan → List Member
scan_members s =
    run_members s.version
    ++ ((codes "results", array_of (map listed_finding_json s.findings)) ∷ ending_members s.ending)

abbrev pub schema : List ℕ
schema = codes "https://json.schemastore.org/sarif-2.1.0.json"

abbrev pub schema_members : List Member
schema_members =
    (codes "$schema", string schema) ∷ (codes "version", string (codes "2.1.0")) ∷ []

abbrev pub sarif_json : Scan → Json
sarif_json s =
    object_of (schema_members ++ (codes "runs", array_of (object_of (scan_members s) ∷ [])) ∷ [])

-- ---- its bytes

-- the first part: up to the bracket that opens the results
abbrev pub runs_tokens : List Token
runs_tokens = key (codes "runs") ∷ begin_array ∷ begin_object ∷ []

abbrev pub results_tokens : List Token
results_tokens = key (codes "results") ∷ begin_array ∷ []

abbrev pub sarif_head_tokens : List ℕ → List Token
sarif_head_tokens version =
    (begin_object ∷ tokens_of schema_members)
    ++ (runs_tokens ++ (tokens_of (run_members version) ++ results_tokens))

unfoldable pub sarif_head_text : List ℕ → List ℕ
sarif_head_text version = print (sarif_head_tokens version)

-- a run of a file, which is printed once for all findings that it shows
abbrev pub steps_text : List ℕ → List Step → List ℕ
steps_text file steps = json_text (steps_json file steps)

-- the text of a run as a member, between these; 34 is a quotation mark
abbrev pub flow_front : List ℕ
flow_front =
    44 ∷ 34 ∷ (codes "codeFlows" ++ (34 ∷ 58 ∷ 91 ∷ 123 ∷ 34 ∷ (codes "threadFlows"
    ++ (34 ∷ 58 ∷ 91 ∷ 123 ∷ 34 ∷ (codes "locations" ++ (34 ∷ 58 ∷ []))))))

abbrev pub flow_back : List ℕ
flow_back = codes "}]}]"

abbrev pub flows_part : Option (List ℕ) → List ℕ
flows_part None = []
flows_part (Some run) = flow_front ++ (run ++ flow_back)

-- the fingerprint as a member, after this
abbrev pub key_front : List ℕ
key_front = 44 ∷ 34 ∷ (codes "partialFingerprints" ++ (34 ∷ 58 ∷ []))

abbrev pub key_part : Option (List ℕ) → List ℕ
key_part None = []
key_part (Some lasting) = key_front ++ json_text (key_json lasting)

-- a finding, with the text of a run that shows it
abbrev pub finding_text : Bool → Finding → Option (List ℕ) → List ℕ
finding_text is_first f run =
    comma is_first
    ++ (print (begin_object ∷ tokens_of (finding_members f))
    ++ (flows_part run ++ (key_part f.key ++ codes "}")))

-- the last part
abbrev pub ending_tokens : Ending → List Token
ending_tokens e =
    end_array ∷ (tokens_of (ending_members e) ++ (end_object ∷ end_array ∷ end_object ∷ []))

unfoldable pub ending_text : Ending → List ℕ
ending_text e = print (ending_tokens e) ++ codes "\n"
