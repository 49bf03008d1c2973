-- The races of one event after the other, in a list that ascends by first events.
use Rattle.std.proofs.Common.{◌≡◌, ℕ, zero, suc, ◌+◌, ◌-◌, ◌<◌, ◌≤◌, List, [], ◌∷◌, ◌++◌, length, get_or, set, map, drop, take, slice_range, inl, inr, refl, sym, ap, subst, ◌∙◌, arith}
use Rattle.std.specs.List.Sorted.{IsNonDecreasingBy}
use Rattle.std.proofs.Math.Seq.{take-add, take-length}
use Rattle.std.proofs.lemmas.Bool.{cases_lt}
use Rattle.std.proofs.lemmas.List.{get_or-drop, get_or-take, get_or_default, length-take}
use Rattle.msc_chart.specs.declared.event.ChartEvent.{ChartEvent}
use Rattle.msc_draw.specs.Marking.{AreOf}
use Rattle.msc_draw.specs.Numbering.{AreAscending, IsEndOf}

module _ (races : List (ℕ × ℕ)) (start e end : ℕ) (is : IsEndOf races start e end) where
  -- those in this range are pairs of the event with events
  pub range_of : (events : List ChartEvent) → AreAscending events races
      → AreOf (length events) e (slice_range races start end)
  range_of events h k d inside =
      let short : k < end - start =
      omega (arith, inside, length-take (end - start) (drop start races)) in
      let below : start + k < length races = omega (arith, short, is.within) in
      let at = get_or-take (end - start) (drop start races) k d short
      ∙ get_or-drop start races k d in
      let own : (get_or races (start + k) d).0 ≡ e =
      ap (λ (p : ℕ × ℕ). p.0) (get_or_default races (start + k) d (0, 0) below)
      ∙ is.own (start + k) (omega arith) (omega (arith, short)) in
      subst (λ (p : ℕ × ℕ). (p.0 ≡ e) × (p.1 < length events)) (sym at)
      (own, (h.known (start + k) d below).1)

  -- with them the races before them are those before the end
  pub range_on : take start races ++ slice_range races start end ≡ take end races
  range_on =
      let sum : start + (end - start) ≡ end = omega (arith, is.later) in
      sym (take-add start (end - start) races) ∙ ap (λ (n : ℕ). take n races) sum

  -- and the next race is of a later event
  pub next_later : IsNonDecreasingBy (λ (p : ℕ × ℕ). p.0) races
      → (start < length races → e ≤ (get_or races start (0, 0)).0)
      → end < length races → e + 1 ≤ (get_or races end (0, 0)).0
  next_later ascend first inside =
      let up = ascend start end (0, 0) is.later inside in
      let here = first (omega (arith, is.later, inside)) in
      let other = is.other inside in
      omega (arith, up, here, other)

-- where the next race is of no event, all races are noted
pub all_noted : (events : List ChartEvent) (races : List (ℕ × ℕ)) (start n : ℕ)
    → AreAscending events races → n ≡ length events → start ≤ length races
    → (start < length races → n ≤ (get_or races start (0, 0)).0) → take start races ≡ races
all_noted events races start n h many within left =
    let end : start ≡ length races = elim (cases_lt start (length races)) [
      | inl less ↦ absurd (omega (arith, left less, (h.known start (0, 0) less).0, many))
      | inr more ↦ omega (arith, within, more)
    ] in
    ap (λ (k : ℕ). take k races) end ∙ take-length races

-- a list whose items are replaced one by one
module _ {X : Type 0} (f : X → X) where
  -- it keeps its length
  pub replaced_long : (xs : List X) (i : ℕ) → length (map f (take i xs) ++ drop i xs) ≡ length xs
  replaced_long [] zero = refl
  replaced_long [] (suc i) = refl
  replaced_long (x ∷ xs) zero = refl
  replaced_long (x ∷ xs) (suc i) = ap suc (replaced_long xs i)

  -- one more item
  replaced_next : (xs : List X) (i : ℕ) (d : X) → i < length xs
      → set (map f (take i xs) ++ drop i xs) i (f (get_or (map f (take i xs) ++ drop i xs) i d))
      ≡ map f (take (suc i) xs) ++ drop (suc i) xs
  replaced_next [] i d inside = absurd (omega (arith, inside))
  replaced_next (x ∷ xs) zero d inside = refl
  replaced_next (x ∷ xs) (suc i) d inside =
      ap (λ (l : List X). f x ∷ l) (replaced_next xs i d (omega (arith, inside)))

  pub replaced_more : (xs now next : List X) (i n : ℕ) (d y : X) → i < length xs → n ≡ suc i
      → now ≡ map f (take i xs) ++ drop i xs → y ≡ f (get_or now i d) → next ≡ set now i y
      → next ≡ map f (take n xs) ++ drop n xs
  replaced_more xs now next i n d y inside more is item put =
      put ∙ ap (λ (z : X). set now i z) item
      ∙ ap (λ (l : List X). set l i (f (get_or l i d))) is ∙ replaced_next xs i d inside
      ∙ ap (λ (k : ℕ). map f (take k xs) ++ drop k xs) (sym more)
