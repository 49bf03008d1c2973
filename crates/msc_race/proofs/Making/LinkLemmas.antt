-- Linked lists: putting a number at the end, and taking the first.
use Rattle.std.proofs.Common.{◌≡◌, ◌≢◌, ℕ, zero, suc, ◌<◌, ◌↔◌, true, false, List, [], ◌∷◌, ◌++◌, length, get_or, set, eqb, refl, sym, ap, ◌∙◌, subst, arith, get_or-set_same, get_or-set_other}
use Rattle.std.proofs.lemmas.Bool.{eq-eqb, or_left, or_right}
use Rattle.msc_chart.specs.Lists.{occurs, IsFirst}
use Rattle.msc_race.specs.QueuedRuns.{IsLinked, IsQueue}
use Rattle.msc_race.proofs.Shared.{clash}
use Rattle.msc_chart.proofs.ListLemmas.{IsDistinct}

-- the last number is one of the list
linked_last : (next : List ℕ) (last a : ℕ) (xs : List ℕ) → IsLinked next last a xs → occurs (a ∷ xs) last ≡ true
unfolding occurs
linked_last next last a [] h = or_left (eqb a last) false (eq-eqb a last (sym h))
linked_last next last a (b ∷ xs) h = or_right (eqb a last) (occurs (b ∷ xs) last) (linked_last next last b xs h.1)

-- links that agree on the list lead over it too
linked_same : (next other : List ℕ) (last a : ℕ) (xs : List ℕ)
    → ((y : ℕ) → occurs (a ∷ xs) y ≡ true → get_or other y 0 ≡ get_or next y 0)
    → IsLinked next last a xs → IsLinked other last a xs
unfolding occurs
linked_same next other last a [] agree h = h
linked_same next other last a (b ∷ xs) agree h = (
  agree a (or_left (eqb a a) (occurs (b ∷ xs) a) (eq-eqb a a refl)) ∙ h.0,
  linked_same next other last b xs (λ y there. agree y (or_right (eqb a y) (occurs (b ∷ xs) y) there)) h.1,
)

-- a number that the last one is linked to is the new last
linked_push : (next : List ℕ) (last a x : ℕ) (xs : List ℕ) → IsDistinct (a ∷ xs) → last < length next
    → IsLinked next last a xs → IsLinked (set next last x) x a (xs ++ x ∷ [])
linked_push next last a x [] once inside h = (rw (← h) (get_or-set_same next last x 0 inside), refl)
linked_push next last a x (b ∷ xs) once inside h =
    let apart : a ≢ last = λ same. clash (subst (λ (z : ℕ). occurs (b ∷ xs) z ≡ true) (sym same) (linked_last next last b xs h.1)) once.0 in
    (get_or-set_other next last a x 0 apart ∙ h.0, linked_push next last b x xs once.1 inside h.1)

module _ (none : ℕ) (next : List ℕ) (head last : ℕ) where
  -- a queue without a head is empty
  pub empty_queue : (xs : List ℕ) → IsQueue none next head last xs → head ≡ none
      → ((y : ℕ) → occurs xs y ≡ true → y < none) → xs ≡ []
  unfolding occurs
  empty_queue [] h same below = refl
  empty_queue (a ∷ xs) h same below =
      let less : a < none = below a (or_left (eqb a a) (occurs xs a) (eq-eqb a a refl)) in
      absurd (let first = h.0 in omega (arith, less, first, same))

  -- the last of a queue with a head is in it
  pub last_in : (xs : List ℕ) → IsQueue none next head last xs → head ≢ none → occurs xs last ≡ true
  last_in [] h other = absurd (other h)
  last_in (a ∷ xs) h other = linked_last next last a xs h.1

  -- links that agree on a queue lead over it too
  pub queue_same : (links xs : List ℕ) → ((y : ℕ) → occurs xs y ≡ true → get_or links y 0 ≡ get_or next y 0)
      → IsQueue none next head last xs → IsQueue none links head last xs
  queue_same links [] agree h = h
  queue_same links (a ∷ xs) agree h = (h.0, linked_same next links last a xs agree h.1)

  -- a number is put at the end of a queue with a head
  pub queue_push : (x : ℕ) (xs : List ℕ) → IsQueue none next head last xs → head ≢ none → IsDistinct xs → last < length next
      → IsQueue none (set next last x) head x (xs ++ x ∷ [])
  queue_push x [] h other once inside = absurd (other h)
  queue_push x (a ∷ xs) h other once inside = (h.0, linked_push next last a x xs once inside h.1)

  -- where the first is the last, nothing follows
  pub queue_ends : (s : ℕ) (rest : List ℕ) → IsQueue none next head last (s ∷ rest) → IsDistinct (s ∷ rest) → last ≡ s → rest ≡ []
  queue_ends s [] h once same = refl
  queue_ends s (b ∷ rest) h once same =
      clash (subst (λ (z : ℕ). occurs (b ∷ rest) z ≡ true) same (linked_last next last b rest h.1.1)) once.0

  -- else its link leads to the first of what follows
  pub queue_goes_on : (s : ℕ) (rest : List ℕ) → IsQueue none next head last (s ∷ rest) → last ≢ s
      → IsFirst rest (get_or next s 0) × IsQueue none next (get_or next s 0) last rest
  queue_goes_on s [] h other = absurd (other h.1)
  queue_goes_on s (b ∷ rest) h other = (sym h.1.0, (h.1.0, h.1.1))

-- the first of a list, and the rest
pub first_parts : (xs : List ℕ) (s : ℕ) → IsFirst xs s → (rest : List ℕ) × (xs ≡ s ∷ rest)
first_parts [] s h = absurd h
first_parts (x ∷ xs) s h = (xs, ap (λ y. y ∷ xs) h)

-- the first of a list that is not empty is the first with one more at its end
pub first_append : (xs : List ℕ) (x y s : ℕ) → occurs xs y ≡ true → IsFirst (xs ++ x ∷ []) s ↔ IsFirst xs s
unfolding occurs
first_append [] x y s h = cc
first_append (a ∷ xs) x y s h = (λ f. f, λ f. f)

-- a list has one first
pub first_unique : (xs : List ℕ) (s t : ℕ) → IsFirst xs s → IsFirst xs t → s ≡ t
first_unique [] s t h k = absurd h
first_unique (x ∷ xs) s t h k = sym h ∙ k

-- the first of the rest occurs in the list
pub first_later : (s : ℕ) (rest : List ℕ) (t : ℕ) → IsFirst rest t → occurs (s ∷ rest) t ≡ true
unfolding occurs
first_later s [] t h = absurd h
first_later s (b ∷ rest) t h = or_right (eqb s t) _ (or_left (eqb b t) _ (eq-eqb b t h))

-- what stands at a place of a list does not depend on what is read past its end
pub any_default : (xs : List ℕ) (i d e : ℕ) → i < length xs → get_or xs i d ≡ get_or xs i e
any_default [] i d e h = absurd (omega arith)
any_default (x ∷ xs) zero d e h = refl
any_default (x ∷ xs) (suc i) d e h = any_default xs i d e (omega arith)
