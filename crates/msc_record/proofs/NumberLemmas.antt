-- Tokens that are read back have numbers of JSON.
use Rattle.std.proofs.Common.{◌≡◌, List, [], ◌∷◌, ◌++◌, Option, None, Some, Result, codes, map, sym, subst, ap, ◌∙◌, append_assoc, append-nil}
use Rattle.std.specs.Prelude.{IfSome, OnOk}
use Rattle.std.specs.List.{AllByRecursion}
use Rattle.std.proofs.lemmas.Result.{on_ok_weaker}
use Rattle.json.specs.Json.{Json, null, boolean, number, string, array, object, Items, no_items, item, Members, no_members, member}
use Rattle.json.specs.Lex.{tokens}
use Rattle.json.specs.Print.{print, ArePrintableOrBad}
use Rattle.json.specs.Token.{Token}
use Rattle.json.specs.Tree.{HasNumbers, ItemsHaveNumbers, MembersHaveNumbers, items_tokens, json_tokens, members_tokens}
use Rattle.json.specs.Written.{Written}
use Rattle.json.proofs.Numbered.{ArePrintableOrBad-tokens}
use Rattle.msc_record.specs.declared.event.EventNumber.{EventNumber}
use Rattle.msc_record.specs.Members.{Member, array_of, items_of, member_if, members_of, tokens_of}
use Rattle.msc_record.specs.Plain.{CheckRecord, ListedEntry}
use Rattle.msc_record.specs.Entries.{entry_members, listed_json, run_json}
use Rattle.msc_record.specs.Heads.{head_members}
use Rattle.msc_record.specs.Numbers.{HeadHasNumbers, ListedHasNumbers, HaveNumbers, RunHasNumbers}
use Rattle.msc_record.specs.Records.{check_json}
use Rattle.msc_record.specs.Writing.{Adds}

-- what is read can be printed
pub printable : (ts : List Token) → tokens (print ts) ≡ ts → ArePrintableOrBad ts
printable ts e = subst ArePrintableOrBad e (ArePrintableOrBad-tokens (print ts))

-- from the front of printable tokens
mutual
  pub numbers_in_json : (j : Json) (rest : List Token) → ArePrintableOrBad (json_tokens j ++ rest) → HasNumbers j × ArePrintableOrBad rest
  numbers_in_json null rest h = (tt, h.1)
  numbers_in_json (boolean b) rest h = (tt, h.1)
  numbers_in_json (number s) rest h = (h.0, h.1)
  numbers_in_json (string s) rest h = (tt, h.1)
  numbers_in_json (array js) rest h = numbers_in_items js rest h.1
  numbers_in_json (object ms) rest h = numbers_in_members ms rest h.1

  pub numbers_in_items : (js : Items) (rest : List Token) → ArePrintableOrBad (items_tokens js ++ rest) → ItemsHaveNumbers js × ArePrintableOrBad rest
  numbers_in_items no_items rest h = (tt, h.1)
  numbers_in_items (item j js) rest h =
      let first = numbers_in_json j (items_tokens js ++ rest) (subst ArePrintableOrBad (append_assoc (json_tokens j) (items_tokens js) rest) h) in
      let others = numbers_in_items js rest first.1 in
      ((first.0, others.0), others.1)

  pub numbers_in_members : (ms : Members) (rest : List Token) → ArePrintableOrBad (members_tokens ms ++ rest) → MembersHaveNumbers ms × ArePrintableOrBad rest
  numbers_in_members no_members rest h = (tt, h.1)
  numbers_in_members (member k j ms) rest h =
      let first = numbers_in_json j (members_tokens ms ++ rest) (subst ArePrintableOrBad (append_assoc (json_tokens j) (members_tokens ms) rest) h.1) in
      let others = numbers_in_members ms rest first.1 in
      ((first.0, others.0), others.1)

-- those of members, before other tokens
pub numbers_before : (ms : List Member) (rest : List Token) → ArePrintableOrBad (tokens_of ms ++ rest) → MembersHaveNumbers (members_of ms)
numbers_before [] rest h = tt
numbers_before (m ∷ ms) rest h =
    let first = numbers_in_json m.1 (tokens_of ms ++ rest) (subst ArePrintableOrBad (append_assoc (json_tokens m.1) (tokens_of ms) rest) h.1) in
    (first.0, numbers_before ms rest first.1)

-- those of members, and of a value
pub numbers_of_members : (ms : List Member) → ArePrintableOrBad (tokens_of ms) → MembersHaveNumbers (members_of ms)
numbers_of_members ms h = numbers_before ms [] (subst ArePrintableOrBad (sym (append-nil (tokens_of ms))) h)

pub numbers_of_json : (j : Json) → ArePrintableOrBad (json_tokens j) → HasNumbers j
numbers_of_json j h = (numbers_in_json j [] (subst ArePrintableOrBad (sym (append-nil (json_tokens j))) h)).0

-- what a writer has added to nothing is printable, since it is read back
pub added_is_printable : {E : Type 0} {r : Result (Unit {0}) E} {old new : Written} (ts : List Token)
    → old.tokens ≡ [] → Adds r old new ts → tokens (print new.tokens) ≡ new.tokens → OnOk r (ArePrintableOrBad ts)
added_is_printable {E} {r} {old} {new} ts start added back =
    on_ok_weaker r (λ e. subst ArePrintableOrBad (e ∙ ap (λ l. l ++ ts) start) (printable new.tokens back)) added.ok

-- members in two parts
pub numbers_append : (xs ys : List Member) → HaveNumbers xs → HaveNumbers ys → HaveNumbers (xs ++ ys)
numbers_append [] ys first second = second
numbers_append (x ∷ xs) ys first second = (first.0, numbers_append xs ys first.1 second)

run_numbers : (run : Option (List EventNumber)) → IfSome run RunHasNumbers → HaveNumbers (member_if run_json (codes "run") run)
run_numbers None h = tt
run_numbers (Some events) h = (h, tt)

listed_numbers : (e : ListedEntry) → ListedHasNumbers e → HasNumbers (listed_json e)
listed_numbers e h = numbers_append (entry_members e.entry) (member_if run_json (codes "run") e.run) h.0 (run_numbers e.run h.1)

list_numbers : (es : List ListedEntry) → AllByRecursion ListedHasNumbers es → ItemsHaveNumbers (items_of (map listed_json es))
list_numbers [] h = tt
list_numbers (e ∷ es) h = (listed_numbers e h.0, list_numbers es h.1)

-- the numbers of all parts of a record are those of the record
pub check_numbers : (f : CheckRecord) → HeadHasNumbers f.head → AllByRecursion ListedHasNumbers f.list → HasNumbers (check_json f)
check_numbers f head list = numbers_append (head_members f.head) ((codes "list", array_of (map listed_json f.list)) ∷ []) head (list_numbers f.list list, tt)
