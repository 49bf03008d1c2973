-- The parts of a document of SARIF are the document.
use Rattle.std.proofs.Common.{◌≡◌, ℕ, Bool, true, false, List, [], ◌∷◌, ◌++◌, Option, None, Some, codes, map, option_map, refl, sym, ap, ◌∙◌, append_assoc, append-nil}
use Rattle.std.proofs.lemmas.Grind.{flat_map-append}
use Rattle.json.specs.Json.{string}
use Rattle.msc_record.specs.Locations.{message_json}
use Rattle.json.specs.Print.{escape_byte, print, print_from}
use Rattle.json.specs.Token.{Token, begin_array, begin_object, end_array, end_object, key}
use Rattle.json.specs.Tree.{json_tokens}
use Rattle.msc_record.specs.Members.{Member, array_of, member_if, member_tokens, object_of, tokens_of}
use Rattle.msc_record.specs.SarifPlain.{Ending, Finding, ListedFinding, Scan, Step}
use Rattle.msc_record.specs.Results.{finding_members, flows_json, key_json, level_word, listed_finding_json, message_text, places_members, steps_json}
use Rattle.msc_record.specs.Documents.{ending_members, ending_text, ending_tokens, flow_front, flows_part, key_part, results_tokens, run_members, runs_tokens, sarif_head_text, sarif_head_tokens, sarif_json, scan_members, schema_members, steps_text}
use Rattle.msc_record.specs.Records.{comma, line_of}
use Rattle.msc_record.specs.Uris.{file_uri}
use Rattle.msc_record.specs.Values.{json_text}
use Rattle.msc_record.specs.Laws.{list_text, listed_finding_text}
use Rattle.msc_record.proofs.PrintLemmas.{end_append, end_of, list_then, object_in_parts, object_text, parts_text, print_brace, print_value, some_members_end, values_tokens}

-- ---- a finding

print_key_name : (ts : List Token) → print_from true (key (codes "partialFingerprints") ∷ ts) ≡ 44 ∷ 34 ∷ (codes "partialFingerprints" ++ (34 ∷ 58 ∷ print_from false ts))
unfolding print_from escape_byte
print_key_name ts = refl

-- the fingerprint of a finding, and its brace
print_key : (lasting : Option (List ℕ))
    → print_from true (tokens_of (member_if key_json (codes "partialFingerprints") lasting) ++ end_object ∷ []) ≡ key_part lasting ++ codes "}"
print_key None = print_brace true
print_key (Some lasting) =
    let tokens = json_tokens (key_json lasting) in
    ap (λ ts. print_from true (key (codes "partialFingerprints") ∷ (ts ++ end_object ∷ []))) (append-nil tokens)
    ∙ print_key_name (tokens ++ end_object ∷ [])
    ∙ ap (λ t. 44 ∷ 34 ∷ (codes "partialFingerprints" ++ (34 ∷ 58 ∷ t))) (print_value (key_json lasting) (end_object ∷ []) ∙ ap (λ t. json_text (key_json lasting) ++ t) (print_brace true))

-- a flow is opened, and closed, in tokens and in bytes
abbrev flow_opens : List Token → List Token
flow_opens ts = key (codes "codeFlows") ∷ begin_array ∷ begin_object ∷ key (codes "threadFlows") ∷ begin_array ∷ begin_object ∷ key (codes "locations") ∷ ts

abbrev flow_closes : List Token → List Token
flow_closes ts = end_object ∷ end_array ∷ end_object ∷ end_array ∷ ts

flow_regrouped : (steps rest : List Token)
    → key (codes "codeFlows") ∷ ((begin_array ∷ ((begin_object ∷ key (codes "threadFlows") ∷ ((begin_array ∷ ((begin_object ∷ key (codes "locations") ∷ (steps ++ end_object ∷ [])) ++ end_array ∷ [])) ++ end_object ∷ [])) ++ end_array ∷ [])) ++ rest)
    ≡ flow_opens (steps ++ flow_closes rest)
flow_regrouped steps rest = simp append_assoc

print_flow_front : (ts : List Token) → print_from true (flow_opens ts) ≡ flow_front ++ print_from false ts
unfolding print_from escape_byte
print_flow_front ts = refl

print_flow_back : (ts : List Token) → print_from true (flow_closes ts) ≡ codes "}]}]" ++ print_from true ts
unfolding print_from
print_flow_back ts = refl

-- the run of a finding, before other tokens
print_flows : (file : List ℕ) (run : Option (List Step)) (rest : List Token)
    → print_from true (tokens_of (member_if (flows_json file) (codes "codeFlows") run) ++ rest) ≡ flows_part (option_map (steps_text file) run) ++ print_from true rest
print_flows file None rest = refl
print_flows file (Some steps) rest =
    let tokens = json_tokens (steps_json file steps) in
    let flows = json_tokens (flows_json file steps) in
    ap (λ ts. print_from true (key (codes "codeFlows") ∷ (ts ++ rest))) (append-nil flows)
    ∙ ap (print_from true) (flow_regrouped tokens rest)
    ∙ print_flow_front (tokens ++ flow_closes rest)
    ∙ ap (λ t. flow_front ++ t) (print_value (steps_json file steps) (flow_closes rest) ∙ ap (λ t. steps_text file steps ++ t) (print_flow_back rest))
    ∙ ap (λ t. flow_front ++ t) (sym (append_assoc (steps_text file steps) (codes "}]}]") (print_from true rest)))
    ∙ sym (append_assoc flow_front (steps_text file steps ++ codes "}]}]") (print_from true rest))

-- after the members of a finding a value has ended
finding_ends : (f : Finding) → end_of false (tokens_of (finding_members f)) ≡ true
unfolding finding_members
finding_ends f =
    let rule : Member = (codes "ruleId", string f.rule) in
    let level : Member = (codes "level", string (level_word f.level)) in
    let message : Member = (codes "message", message_json (message_text f)) in
    some_members_end false rule (level ∷ message ∷ places_members (file_uri f.file) f.marks)

pub finding_is_json : (is_first : Bool) (f : ListedFinding) → listed_finding_text is_first f ≡ comma is_first ++ json_text (listed_finding_json f)
finding_is_json is_first f =
    let members = finding_members f.finding in
    let run = member_if (flows_json f.finding.file) (codes "codeFlows") f.run in
    let lasting = member_if key_json (codes "partialFingerprints") f.finding.key in
    let front = print (begin_object ∷ tokens_of members) in
    let flows = flows_part (option_map (steps_text f.finding.file) f.run) in
    ap (λ t. comma is_first ++ t)
    (ap (λ t. front ++ (flows ++ t)) (sym (print_key f.finding.key))
    ∙ ap (λ t. front ++ t) (sym (print_flows f.finding.file f.run (tokens_of lasting ++ end_object ∷ [])))
    ∙ ap (λ ts. front ++ print_from true ts) (sym (append_assoc (tokens_of run) (tokens_of lasting) (end_object ∷ [])) ∙ ap (λ ts. ts ++ end_object ∷ []) (sym (flat_map-append member_tokens run lasting)))
    ∙ sym (object_text members (run ++ lasting) (finding_ends f.finding)))

-- ---- a document

print_ending : (e : Ending) (c : Bool) → print_from c (ending_tokens e) ≡ print (ending_tokens e)
unfolding print_from
print_ending e true = refl
print_ending e false = refl

-- the only run, before other tokens
run_regrouped : (tool values ending rest : List Token)
    → ((begin_object ∷ tool) ++ ((key (codes "results") ∷ begin_array ∷ (values ++ end_array ∷ ending)) ++ end_object ∷ [])) ++ rest
    ≡ begin_object ∷ (tool ++ (results_tokens ++ (values ++ end_array ∷ (ending ++ end_object ∷ rest))))
run_regrouped tool values ending rest =
    let results = values ++ end_array ∷ ending in
    ap (λ ts. begin_object ∷ ts)
    (append_assoc tool (key (codes "results") ∷ begin_array ∷ (results ++ end_object ∷ [])) rest
    ∙ ap (λ ts. tool ++ (key (codes "results") ∷ begin_array ∷ ts))
    (append_assoc results (end_object ∷ []) rest ∙ append_assoc values (end_array ∷ ending) (end_object ∷ rest)))

regrouped : (schema tool values ending : List Token)
    → schema ++ ((key (codes "runs") ∷ ((begin_array ∷ (((begin_object ∷ tool) ++ ((key (codes "results") ∷ begin_array ∷ (values ++ end_array ∷ ending)) ++ end_object ∷ [])) ++ end_array ∷ [])) ++ [])) ++ end_object ∷ [])
    ≡ (schema ++ (runs_tokens ++ (tool ++ results_tokens))) ++ (values ++ end_array ∷ (ending ++ (end_object ∷ end_array ∷ end_object ∷ [])))
regrouped schema tool values ending =
    let run = (begin_object ∷ tool) ++ ((key (codes "results") ∷ begin_array ∷ (values ++ end_array ∷ ending)) ++ end_object ∷ []) in
    let rest = values ++ end_array ∷ (ending ++ (end_object ∷ end_array ∷ end_object ∷ [])) in
    ap (λ ts. schema ++ (key (codes "runs") ∷ begin_array ∷ ts))
    (ap (λ ts. ts ++ end_object ∷ []) (append-nil (run ++ end_array ∷ []))
    ∙ append_assoc run (end_array ∷ []) (end_object ∷ [])
    ∙ run_regrouped tool values ending (end_array ∷ end_object ∷ []))
    ∙ ap (λ ts. schema ++ (runs_tokens ++ ts)) (sym (append_assoc tool results_tokens rest))
    ∙ ap (λ ts. schema ++ ts) (sym (append_assoc runs_tokens (tool ++ results_tokens) rest))
    ∙ sym (append_assoc schema (runs_tokens ++ (tool ++ results_tokens)) rest)

-- the tokens of a document in two parts
document_in_parts : (s : Scan) → json_tokens (sarif_json s) ≡ sarif_head_tokens s.version ++ (values_tokens listed_finding_json s.findings ++ ending_tokens s.ending)
document_in_parts s =
    let schema = begin_object ∷ tokens_of schema_members in
    let tool = tokens_of (run_members s.version) in
    let ending = tokens_of (ending_members s.ending) in
    let runs = λ (ts : List Token). schema ++ ((key (codes "runs") ∷ ((begin_array ∷ (ts ++ end_array ∷ [])) ++ [])) ++ end_object ∷ []) in
    object_in_parts schema_members ((codes "runs", array_of (object_of (scan_members s) ∷ [])) ∷ [])
    ∙ ap runs (object_in_parts (run_members s.version) ((codes "results", array_of (map listed_finding_json s.findings)) ∷ ending_members s.ending))
    ∙ ap (λ ts. runs ((begin_object ∷ tool) ++ (ts ++ end_object ∷ []))) (list_then listed_finding_json (codes "results") s.findings ending)
    ∙ regrouped schema tool (values_tokens listed_finding_json s.findings) ending

-- no value has ended after the bracket of the results
head_open : (version : List ℕ) → end_of false (sarif_head_tokens version) ≡ false
head_open version =
    let tool = tokens_of (run_members version) in
    end_append false (begin_object ∷ tokens_of schema_members) (runs_tokens ++ (tool ++ results_tokens))
    ∙ end_append (end_of false (begin_object ∷ tokens_of schema_members)) runs_tokens (tool ++ results_tokens)
    ∙ end_append false tool results_tokens

pub parts_are_the_document : (s : Scan)
    → sarif_head_text s.version ++ (list_text listed_finding_text s.findings ++ ending_text s.ending) ≡ line_of (sarif_json s)
unfolding sarif_head_text ending_text
parts_are_the_document s =
    let head = print (sarif_head_tokens s.version) in
    let list = list_text listed_finding_text s.findings in
    let ending = print (ending_tokens s.ending) in
    ap (λ t. head ++ t) (sym (append_assoc list ending (codes "\n")))
    ∙ sym (append_assoc head (list ++ ending) (codes "\n"))
    ∙ ap (λ t. t ++ codes "\n")
    (parts_text listed_finding_json listed_finding_text finding_is_json (ending_tokens s.ending) ending (print_ending s.ending) (sarif_head_tokens s.version) s.findings (head_open s.version)
    ∙ ap print (sym (document_in_parts s)))
