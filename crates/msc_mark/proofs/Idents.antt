-- What marks call events, compared.
use Rattle.std.proofs.Common.{◌≡◌, ℕ, Bool, true, false, ◌&&◌, nat_eq, List, Option, None, Some, [], ◌∷◌, ◌++◌, ◌+◌, ◌<◌, ◌≤◌, length, get_or, slice_get, if◌then◌else◌, refl, sym, ap, ◌∙◌, subst, true≢false, arith, inl, inr, Bor}
use Rattle.std.specs.Cmp.Lexicographic.{pointwise, bytes_decides}
use Rattle.std.specs.List.{position, list_any, IsDistinct}
use Rattle.std.specs.Option.{option_copied, option_eq}
use Rattle.std.specs.Str.{bytes_eq}
use Rattle.std.proofs.lemmas.Bool.{and_from, and_parts, cases_lt}
use Rattle.std.proofs.lemmas.List.{get_or_append_left, get_or_push}
use Rattle.msc_chart.specs.Drawings.{Drawing}
use Rattle.msc_chart.specs.Events.{same_number}
use Rattle.msc_mark.specs.declared.ident.Ident as code
use Rattle.msc_mark.specs.contracts.ident.IdentPartialEq.TheImpl as derived
use Rattle.msc_mark.specs.Accepting.{name_at, number_at}
use Rattle.msc_mark.specs.Named.{hears, AreApart, IsNumbered}
use Rattle.msc_mark.proofs.Numbers.{one_place, place_is, place_none}

-- what the code computes for `==`
abbrev pub same : code.Ident → code.Ident → Bool
same = derived.eq-value.it

-- the code compares numbers as the definition does
numbers_same : (m n : Option (Bor (List ℕ)))
    → option_eq (λ (x y : Bor (List ℕ)). pointwise nat_eq x.now y.now) m n ≡ same_number (option_copied m) (option_copied n)
numbers_same None None = refl
numbers_same None (Some y) = refl
numbers_same (Some x) None = refl
numbers_same (Some x) (Some y) = refl

-- and names
pub same_is : (a b : code.Ident) → same a b ≡ hears (Some a) b.name.now (option_copied b.number)
same_is a b = ap (λ r. bytes_eq a.name.now b.name.now && r) (numbers_same a.number b.number)

number_true : (m n : Option (List ℕ)) → same_number m n ≡ true → m ≡ n
number_true None None h = refl
number_true None (Some y) h = absurd (true≢false (sym h))
number_true (Some x) None h = absurd (true≢false (sym h))
number_true (Some x) (Some y) h = ap Some ((bytes_decides x y).0 h)

number_same : (m n : Option (List ℕ)) → m ≡ n → same_number m n ≡ true
number_same None None h = refl
number_same None (Some y) h = cc
number_same (Some x) None h = cc
number_same (Some x) (Some y) h = let inner : x ≡ y = cc in (bytes_decides x y).1 inner

-- what is equal has one name and one number
same_parts : (a b : code.Ident) → same a b ≡ true
    → (a.name.now ≡ b.name.now) × (option_copied a.number ≡ option_copied b.number)
same_parts a b h =
    let p = and_parts _ _ (sym (same_is a b) ∙ h) in
    ((bytes_decides a.name.now b.name.now).0 p.0, number_true (option_copied a.number) (option_copied b.number) p.1)

-- and the other way round
same_from : (a b : code.Ident) → a.name.now ≡ b.name.now → option_copied a.number ≡ option_copied b.number
    → same a b ≡ true
same_from a b name number =
    same_is a b ∙ and_from _ _ ((bytes_decides a.name.now b.name.now).1 name) (number_same (option_copied a.number) (option_copied b.number) number)

-- keys that differ are apart
pub apart_from : (keys : List code.Ident) → IsDistinct same keys → AreApart keys
apart_from keys distinct = record {
  one = λ p q a b here there name number.
      one_place same keys p q a b distinct here there (same_from a b name number) (same_from b a (sym name) (sym number));
}

-- the number that is put is that of the key that the event has
pub put_is : (keys : List code.Ident) (i k : code.Ident) (p q : ℕ) → AreApart keys → position (same i) keys ≡ Some p
    → slice_get keys q ≡ Some k → nat_eq q p ≡ hears (Some i) k.name.now (option_copied k.number)
put_is keys i k p q apart found there =
    place_is same keys i k p q found there (λ a first one other.
    let m = same_parts i a one in let n = same_parts i k other in
    apart.one q p k a there first (sym n.0 ∙ m.0) (sym n.1 ∙ m.1))
    ∙ same_is i k

-- where no key is found, none is what the event has
pub put_none : (keys : List code.Ident) (i k : code.Ident) (q : ℕ) → list_any (same i) keys ≡ false
    → slice_get keys q ≡ Some k → hears (Some i) k.name.now (option_copied k.number) ≡ false
put_none keys i k q none there = sym (same_is i k) ∙ place_none same keys i k q none there

module _ (d : Drawing) (keys more : List code.Ident)
    (stays : (q : ℕ) (k : code.Ident) → slice_get keys q ≡ Some k → slice_get more q ≡ Some k) where
  -- an event keeps its number
  number_stays : (f at : ℕ) → IsNumbered d keys f at → IsNumbered d more f at
  number_stays f at h = record { key = h.key; there = stays at h.key h.there; name = h.name; number = h.number }

  -- one event more is numbered
  pub numbered_more : (e n : ℕ) (numbers : List ℕ) (i k : code.Ident) → slice_get more n ≡ Some k → same i k ≡ true
      → i.name.now ≡ name_at d e → option_copied i.number ≡ number_at d e → length numbers ≡ e
      → ((f : ℕ) → f < e → IsNumbered d keys f (get_or numbers f 0))
      → (f : ℕ) → f < e + 1 → IsNumbered d more f (get_or (numbers ++ n ∷ []) f 0)
  numbered_more e n numbers i k there equal name number size so_far f less =
      elim (cases_lt f e) [
        | inl before ↦
            let stands : get_or numbers f 0 ≡ get_or (numbers ++ n ∷ []) f 0 =
            sym (get_or_append_left numbers (n ∷ []) 0 f (omega (arith, size, before))) in
            subst (IsNumbered d more f) stands (number_stays f (get_or numbers f 0) (so_far f before))
        | inr past ↦
            let last : f ≡ e = omega arith in
            let stands : n ≡ get_or (numbers ++ n ∷ []) f 0 = sym (get_or_push numbers n 0 f (size ∙ sym last)) in
            let parts = same_parts i k equal in
            let own : IsNumbered d more e n = record { key = k; there = there; name = sym parts.0 ∙ name; number = sym parts.1 ∙ number } in
            subst (λ g. IsNumbered d more g (get_or (numbers ++ n ∷ []) f 0)) (sym last) (subst (IsNumbered d more e) stands own)
      ]

-- one key more at most
pub few_more : (m n e : ℕ) (b : Bool) → m ≡ n + (if b then 1 else 0) → n ≤ e → m ≤ e + 1
few_more m n e true is few = omega arith
few_more m n e false is few = omega arith
