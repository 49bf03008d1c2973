-- The parts of a record are the record.
use Rattle.std.proofs.Common.{◌≡◌, Bool, true, false, List, [], ◌∷◌, ◌++◌, Option, None, Some, codes, map, option_map, refl, sym, ap, ◌∙◌, append_assoc, append-nil}
use Rattle.std.proofs.lemmas.Grind.{flat_map-append}
use Rattle.json.specs.Print.{escape_byte, print, print_from}
use Rattle.json.specs.Token.{Token, begin_array, begin_object, end_array, end_object, key}
use Rattle.json.specs.Tree.{json_tokens}
use Rattle.msc_record.specs.declared.event.EventNumber.{EventNumber}
use Rattle.msc_record.specs.Members.{Member, array_of, member_if, member_tokens, text, tokens_of}
use Rattle.msc_record.specs.Plain.{CheckRecord, Entry, Head, ListedEntry}
use Rattle.msc_record.specs.Entries.{again_members, entry_members, listed_json, pair_members, run_json, scenario_members, spoken_members}
use Rattle.msc_record.specs.Heads.{head_members}
use Rattle.msc_record.specs.Records.{check_json, comma, end_text, head_text, head_tokens, line_of, run_part, run_text}
use Rattle.msc_record.specs.Values.{json_text}
use Rattle.msc_record.specs.Laws.{list_text, listed_text}
use Rattle.msc_record.proofs.PrintLemmas.{end_append, end_of, list_then, object_in_parts, object_text, parts_text, print_brace, print_value, some_members_end, values_tokens}

-- ---- an entry

print_run_key : (ts : List Token) → print_from true (key (codes "run") ∷ ts) ≡ 44 ∷ 34 ∷ (codes "run" ++ (34 ∷ 58 ∷ print_from false ts))
unfolding print_from escape_byte
print_run_key ts = refl

-- the run of an entry, and its brace
print_run : (run : Option (List EventNumber))
    → print_from true (tokens_of (member_if run_json (codes "run") run) ++ end_object ∷ []) ≡ run_part (option_map run_text run) ++ codes "}"
print_run None = print_brace true
print_run (Some events) =
    let tokens = json_tokens (run_json events) in
    ap (λ ts. print_from true (key (codes "run") ∷ (ts ++ end_object ∷ []))) (append-nil tokens)
    ∙ print_run_key (tokens ++ end_object ∷ [])
    ∙ ap (λ t. 44 ∷ 34 ∷ (codes "run" ++ (34 ∷ 58 ∷ t))) (print_value (run_json events) (end_object ∷ []) ∙ ap (λ t. run_text events ++ t) (print_brace true))

-- after the members of an entry a value has ended
entry_ends : (e : Entry) → end_of false (tokens_of (entry_members e)) ≡ true
unfolding entry_members
entry_ends e =
    let scenario = scenario_members e.scenario in
    let others = again_members e.is_next ++ (spoken_members e ++ pair_members e) in
    let instance : Member = (codes "instance", text e.instance) in
    ap (end_of false) (flat_map-append member_tokens scenario (instance ∷ others))
    ∙ end_append false (tokens_of scenario) (tokens_of (instance ∷ others))
    ∙ some_members_end (end_of false (tokens_of scenario)) instance others

pub entry_is_json : (is_first : Bool) (e : ListedEntry) → listed_text is_first e ≡ comma is_first ++ json_text (listed_json e)
entry_is_json is_first e =
    let front = print (begin_object ∷ tokens_of (entry_members e.entry)) in
    ap (λ t. comma is_first ++ t)
    (ap (λ t. front ++ t) (sym (print_run e.run))
    ∙ sym (object_text (entry_members e.entry) (member_if run_json (codes "run") e.run) (entry_ends e.entry)))

-- ---- a record

-- what closes the list and the record
abbrev closing : List Token
closing = end_array ∷ end_object ∷ []

print_closing : (c : Bool) → print_from c closing ≡ codes "]}"
unfolding print_from
print_closing true = refl
print_closing false = refl

-- the tokens of a record in two parts
record_in_parts : (r : CheckRecord) → json_tokens (check_json r) ≡ head_tokens r.head ++ (values_tokens listed_json r.list ++ closing)
record_in_parts r =
    let front = tokens_of (head_members r.head) in
    let list = member_tokens (codes "list", array_of (map listed_json r.list)) in
    object_in_parts (head_members r.head) ((codes "list", array_of (map listed_json r.list)) ∷ [])
    ∙ ap (λ ts. (begin_object ∷ front) ++ (ts ++ end_object ∷ [])) (append-nil list)
    ∙ ap (λ ts. (begin_object ∷ front) ++ ts) (list_then listed_json (codes "list") r.list (end_object ∷ []))
    ∙ sym (append_assoc (begin_object ∷ front) (key (codes "list") ∷ begin_array ∷ []) (values_tokens listed_json r.list ++ closing))

-- no value has ended after the bracket of the list
head_open : (h : Head) → end_of false (head_tokens h) ≡ false
head_open h = end_append false (begin_object ∷ tokens_of (head_members h)) (key (codes "list") ∷ begin_array ∷ [])

pub parts_are_the_record : (r : CheckRecord) → head_text r.head ++ (list_text listed_text r.list ++ end_text) ≡ line_of (check_json r)
parts_are_the_record r =
    let list = list_text listed_text r.list in
    ap (λ t. head_text r.head ++ t) (sym (append_assoc list (codes "]}") (codes "\n")))
    ∙ sym (append_assoc (head_text r.head) (list ++ codes "]}") (codes "\n"))
    ∙ ap (λ t. t ++ codes "\n")
    (parts_text listed_json listed_text entry_is_json closing (codes "]}") print_closing (head_tokens r.head) r.list (head_open r.head)
    ∙ ap print (sym (record_in_parts r)))
