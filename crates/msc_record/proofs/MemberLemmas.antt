-- The tokens of arrays and objects.
use Rattle.std.proofs.Common.{◌≡◌, ℕ, List, [], ◌∷◌, ◌++◌, Bor, Option, None, Some, map, option_map, refl, sym, ap, ◌∙◌, append_assoc}
use Rattle.std.specs.Option.{option_copied}
use Rattle.std.specs.List.{flat_map}
use Rattle.json.specs.Json.{Json, array, item}
use Rattle.json.specs.Token.{end_array, end_object, key}
use Rattle.json.specs.Tree.{items_tokens, json_tokens, members_tokens}
use Rattle.msc_record.specs.Members.{Member, array_of, items_of, member_if, member_if_any, members_of, tokens_of}

-- the values of an array, one after another, and the bracket that closes it
pub items_then_end : {A : Type 0} (json : A → Json) (xs : List A)
    → items_tokens (items_of (map json xs)) ≡ flat_map (λ x. json_tokens (json x)) xs ++ end_array ∷ []
items_then_end json [] = refl
items_then_end json (x ∷ xs) =
    ap (λ ts. json_tokens (json x) ++ ts) (items_then_end json xs)
    ∙ sym (append_assoc (json_tokens (json x)) (flat_map (λ y. json_tokens (json y)) xs) (end_array ∷ []))

-- the members of an object, one after another, and the brace that closes it
pub members_then_end : (ms : List Member) → members_tokens (members_of ms) ≡ tokens_of ms ++ end_object ∷ []
members_then_end [] = refl
members_then_end (m ∷ ms) =
    ap (λ ts. key m.0 ∷ (json_tokens m.1 ++ ts)) (members_then_end ms)
    ∙ ap (λ ts. key m.0 ∷ ts) (sym (append_assoc (json_tokens m.1) (tokens_of ms) (end_object ∷ [])))

-- an array of lent values, as one of plain ones
pub items_of_plain : {A B : Type 0} (json : B → Json) (plain : A → B) (xs : List A)
    → items_of (map json (map plain xs)) ≡ items_of (map (λ x. json (plain x)) xs)
items_of_plain json plain [] = refl
items_of_plain json plain (x ∷ xs) = ap (item (json (plain x))) (items_of_plain json plain xs)

-- a member with such an array, if it is not empty
pub member_if_any_plain : {A B : Type 0} (json : B → Json) (plain : A → B) (name : List ℕ) (xs : List A)
    → member_if_any json name (map plain xs) ≡ member_if_any (λ x. json (plain x)) name xs
member_if_any_plain json plain name [] = refl
member_if_any_plain json plain name (x ∷ xs) =
    ap (λ js. (name, array (item (json (plain x)) js)) ∷ []) (items_of_plain json plain xs)

-- a member with such an array, if there is one
pub member_if_plain : {A B : Type 0} (json : B → Json) (plain : A → B) (name : List ℕ) (xs : Option (Bor (List A)))
    → member_if (λ ys. array_of (map json ys)) name (option_map (λ ys. map plain ys.now) xs)
    ≡ member_if (λ ys. array_of (map (λ x. json (plain x)) ys)) name (option_copied xs)
member_if_plain json plain name None = refl
member_if_plain json plain name (Some ys) = ap (λ js. (name, array js) ∷ []) (items_of_plain json plain ys.now)
