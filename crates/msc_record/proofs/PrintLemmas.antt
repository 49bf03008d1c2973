-- How values are printed in parts. `end_of c ts` says whether a value has just ended after the
-- tokens ts, if c says so before them.
use Rattle.std.proofs.Common.{◌≡◌, ℕ, Bool, true, false, List, [], ◌∷◌, ◌++◌, codes, map, fold, refl, sym, ap, ◌∙◌, append_assoc}
use Rattle.std.specs.List.{flat_map}
use Rattle.std.proofs.lemmas.Grind.{flat_map-append}
use Rattle.json.specs.Json.{Json, null, boolean, number, string, array, object, Items, no_items, item, Members, no_members, member}
use Rattle.json.specs.Print.{ends, print, print_from}
use Rattle.json.specs.Token.{Token, begin_array, begin_object, end_array, end_object, key}
use Rattle.json.specs.Tree.{items_tokens, json_tokens, members_tokens}
use Rattle.json.proofs.Printed.Tokens.{print_from-append}
use Rattle.msc_record.specs.Members.{Member, array_of, member_tokens, object_of, tokens_of}
use Rattle.msc_record.specs.Records.{comma}
use Rattle.msc_record.specs.Values.{json_text}
use Rattle.msc_record.specs.Laws.{list_text}
use Rattle.msc_record.proofs.MemberLemmas.{items_then_end, members_then_end}

abbrev pub end_of : Bool → List Token → Bool
end_of c ts = fold (λ _ t. ends t) c ts

pub end_append : (c : Bool) (ts us : List Token) → end_of c (ts ++ us) ≡ end_of (end_of c ts) us
end_append c [] us = refl
end_append c (t ∷ ts) us = end_append (ends t) ts us

-- a value ends, with its last token
mutual
  json_ends : (c : Bool) (j : Json) → end_of c (json_tokens j) ≡ true
  json_ends c null = refl
  json_ends c (boolean b) = refl
  json_ends c (number s) = refl
  json_ends c (string s) = refl
  json_ends c (array js) = items_end false js
  json_ends c (object ms) = members_end false ms

  items_end : (c : Bool) (js : Items) → end_of c (items_tokens js) ≡ true
  items_end c no_items = refl
  items_end c (item j js) = end_append c (json_tokens j) (items_tokens js) ∙ items_end (end_of c (json_tokens j)) js

  members_end : (c : Bool) (ms : Members) → end_of c (members_tokens ms) ≡ true
  members_end c no_members = refl
  members_end c (member k j ms) = end_append false (json_tokens j) (members_tokens ms) ∙ members_end (end_of false (json_tokens j)) ms

-- and so do members after a value
more_members_end : (ms : List Member) → end_of true (tokens_of ms) ≡ true
more_members_end [] = refl
more_members_end (m ∷ ms) =
    end_append false (json_tokens m.1) (tokens_of ms)
    ∙ ap (λ c. end_of c (tokens_of ms)) (json_ends false m.1)
    ∙ more_members_end ms

pub some_members_end : (c : Bool) (m : Member) (ms : List Member) → end_of c (tokens_of (m ∷ ms)) ≡ true
some_members_end c m ms =
    end_append false (json_tokens m.1) (tokens_of ms)
    ∙ ap (λ e. end_of e (tokens_of ms)) (json_ends false m.1)
    ∙ more_members_end ms

-- a value before other tokens
pub print_value : (j : Json) (ts : List Token) → print_from false (json_tokens j ++ ts) ≡ json_text j ++ print_from true ts
print_value j ts =
    print_from-append false (json_tokens j) ts ∙ ap (λ c. json_text j ++ print_from c ts) (json_ends false j)

-- a value after another one
print_next : (j : Json) (ts : List Token) → print_from true (json_tokens j ++ ts) ≡ codes "," ++ print_from false (json_tokens j ++ ts)
unfolding print_from
print_next null ts = refl
print_next (boolean b) ts = refl
print_next (number s) ts = refl
print_next (string s) ts = refl
print_next (array js) ts = refl
print_next (object ms) ts = refl

-- ---- objects

pub print_brace : (c : Bool) → print_from c (end_object ∷ []) ≡ codes "}"
unfolding print_from
print_brace true = refl
print_brace false = refl

-- an object with members in two parts
pub object_in_parts : (xs ys : List Member) → json_tokens (object_of (xs ++ ys)) ≡ (begin_object ∷ tokens_of xs) ++ (tokens_of ys ++ end_object ∷ [])
object_in_parts xs ys =
    ap (λ ts. begin_object ∷ ts)
    (members_then_end (xs ++ ys)
    ∙ ap (λ ts. ts ++ end_object ∷ []) (flat_map-append member_tokens xs ys)
    ∙ append_assoc (tokens_of xs) (tokens_of ys) (end_object ∷ []))

-- its text, if a value has ended after the first part
pub object_text : (xs ys : List Member) → end_of false (tokens_of xs) ≡ true
    → json_text (object_of (xs ++ ys)) ≡ print (begin_object ∷ tokens_of xs) ++ print_from true (tokens_of ys ++ end_object ∷ [])
object_text xs ys ended =
    let front = begin_object ∷ tokens_of xs in
    let rest = tokens_of ys ++ end_object ∷ [] in
    ap print (object_in_parts xs ys) ∙ print_from-append false front rest ∙ ap (λ c. print front ++ print_from c rest) ended

-- ---- lists of values, by their texts, each with a comma before it but for the first one

abbrev pub values_tokens : {A : Type 0} → (A → Json) → List A → List Token
values_tokens json xs = flat_map (λ x. json_tokens (json x)) xs

-- a list as a member, before other tokens
pub list_then : {A : Type 0} (json : A → Json) (name : List ℕ) (xs : List A) (rest : List Token)
    → member_tokens (name, array_of (map json xs)) ++ rest ≡ key name ∷ begin_array ∷ (values_tokens json xs ++ end_array ∷ rest)
list_then json name xs rest =
    ap (λ ts. key name ∷ begin_array ∷ ts)
    (ap (λ ts. ts ++ rest) (items_then_end json xs) ∙ append_assoc (values_tokens json xs) (end_array ∷ []) rest)

module _ {A : Type 0} (json : A → Json) (text : Bool → A → List ℕ) (each : (is_first : Bool) (x : A) → text is_first x ≡ comma is_first ++ json_text (json x)) (closing : List Token) (closed : List ℕ) (closes : (c : Bool) → print_from c closing ≡ closed) where
  -- values after the first one
  others_text : (xs : List A) → print_from true (values_tokens json xs ++ closing) ≡ flat_map (text false) xs ++ closed
  others_text [] = closes true
  others_text (x ∷ xs) =
      let j = json x in
      let rest = values_tokens json xs ++ closing in
      ap (print_from true) (append_assoc (json_tokens j) (values_tokens json xs) closing)
      ∙ print_next j rest
      ∙ ap (λ t. codes "," ++ t) (print_value j rest)
      ∙ ap (λ t. codes "," ++ (json_text j ++ t)) (others_text xs)
      ∙ sym (append_assoc (codes "," ++ json_text j) (flat_map (text false) xs) closed)
      ∙ ap (λ t. (t ++ flat_map (text false) xs) ++ closed) (sym (each false x))

  values_text : (xs : List A) → print_from false (values_tokens json xs ++ closing) ≡ list_text text xs ++ closed
  values_text [] = closes false
  values_text (x ∷ xs) =
      let j = json x in
      let rest = values_tokens json xs ++ closing in
      ap (print_from false) (append_assoc (json_tokens j) (values_tokens json xs) closing)
      ∙ print_value j rest
      ∙ ap (λ t. json_text j ++ t) (others_text xs)
      ∙ sym (append_assoc (json_text j) (flat_map (text false) xs) closed)
      ∙ ap (λ t. (t ++ flat_map (text false) xs) ++ closed) (sym (each true x))

  -- the values, between what precedes them and what follows them
  pub parts_text : (before : List Token) (xs : List A) → end_of false before ≡ false
      → print before ++ (list_text text xs ++ closed) ≡ print (before ++ (values_tokens json xs ++ closing))
  parts_text before xs open_yet =
      let rest = values_tokens json xs ++ closing in
      ap (λ t. print before ++ t) (sym (values_text xs) ∙ ap (λ c. print_from c rest) (sym open_yet)) ∙ sym (print_from-append false before rest)
