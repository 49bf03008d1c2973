-- Marks that are equal: two ends, since each action has a number of its own.
use Rattle.std.proofs.Common.{◌≡◌, ℕ, ◌+◌, ◌<◌, ◌≤◌, true, List, [], ◌∷◌, map, take, suc, zero, refl, sym, ap, ◌∙◌, subst, true≢false, inl, inr, arith}
use Rattle.std.proofs.lemmas.Bool.{cases_lt, and_parts, eqb-true}
use Rattle.msc_chart.specs.declared.end.Mark as code
use Rattle.msc_chart.specs.declared.end.Mark.TheVariants as marks
use Rattle.msc_chart.specs.declared.end.DraftEvent as coded
use Rattle.msc_chart.specs.declared.end.Act as code_act
use Rattle.msc_chart.specs.declared.end.Act.TheVariants as code_acts
use Rattle.msc_chart.specs.Events.Act.{OfMessage}
use Rattle.msc_chart.specs.Views.{end_view, mark_view, mark_at, marks_from}
use Rattle.msc_chart.specs.Lists.{StandsAt}
use Rattle.msc_chart.specs.Numbering.{AreNewBelow, IsFirstRepeat}
use Rattle.msc_chart.specs.Faults.{IsTwice}
use Rattle.msc_chart.proofs.Places.{any-place, place-any, take-place, place-take, map-place, place-map}
use Rattle.msc_chart.proofs.MatchingLemmas.{equal_ends-true, mark_same, mark_same-from}

-- the mark of an action has this number
abbrev pub HasNumber : ℕ → code.Mark → Type 0
HasNumber e (marks.OfMessage x) = Unit {0}
HasNumber e (marks.Action n text) = n ≡ e

-- the mark of each action has the number of its place
abbrev pub AreOwn : List code.Mark → Type 0
AreOwn ms = (e : ℕ) (m : code.Mark) → StandsAt ms e m → HasNumber e m

-- a mark that is made for a place has its number
made_for : (k : ℕ) (a : code_act.Act) → HasNumber k (mark_at k a)
made_for k (code_acts.OfMessage x) = tt
made_for k (code_acts.Action text) = refl

-- so have the marks of events
numbered_from : (k : ℕ) (xs : List coded.DraftEvent) (j : ℕ) (m : code.Mark) → StandsAt (marks_from k xs) j m → HasNumber (k + j) m
numbered_from k [] j m h = cc
numbered_from k (x ∷ xs) zero m h =
    let same : mark_at k x.act ≡ m = cc in
    let number : k ≡ k + 0 = omega arith in
    subst (λ (n : ℕ). HasNumber n m) number (subst (HasNumber k) same (made_for k x.act))
numbered_from k (x ∷ xs) (suc j) m h =
    let number : (k + 1) + j ≡ k + suc j = omega arith in
    subst (λ (n : ℕ). HasNumber n m) number (numbered_from (k + 1) xs j m h)

-- so each action of them has the number of its place
pub marks_own : (events : List coded.DraftEvent) (ms : List code.Mark) → ms ≡ marks_from 0 events → AreOwn ms
marks_own events ms same e m h =
    let number : 0 + e ≡ e = omega arith in
    subst (λ (n : ℕ). HasNumber n m) number (numbered_from 0 events e m (subst (λ l. StandsAt l e m) same h))

module _ (ms : List code.Mark) where
  -- equal marks at two places are two ends
  two_ends : (i j : ℕ) → j < i → (a b : code.Mark) → StandsAt ms i a → StandsAt ms j b → HasNumber i a → HasNumber j b → mark_same a b ≡ true → IsTwice (map mark_view ms) i
  two_ends i j below (marks.OfMessage a) (marks.OfMessage b) p q h k same =
      (end_view a, place-map mark_view ms i (marks.OfMessage a) p, (j, below, subst (StandsAt (map mark_view ms) j) (ap OfMessage (sym (equal_ends-true a b same))) (place-map mark_view ms j (marks.OfMessage b) q)))
  two_ends i j below (marks.OfMessage a) (marks.Action n t) p q h k same = absurd (true≢false (sym same))
  two_ends i j below (marks.Action n t) (marks.OfMessage b) p q h k same = absurd (true≢false (sym same))
  two_ends i j below (marks.Action n t) (marks.Action l u) p q h k same =
      let one : n ≡ l = eqb-true n l (and_parts _ _ same).0 in absurd (omega (arith, one, h, k, below))

  -- the first mark that is equal to an earlier one is an end that stands earlier too
  pub twice_from : AreOwn ms → (i : ℕ) → IsFirstRepeat mark_same ms i → IsTwice (map mark_view ms) i
  twice_from own i h =
      let r = any-place (mark_same h.item) (take i ms) h.repeats in
      let t = take-place ms i r.0 r.1 r.2 in
      two_ends i r.0 t.0 h.item r.1 h.itself t.1 (own i h.item h.itself) (own r.0 r.1 t.1) r.3

  -- no end stands twice among marks that are all new
  pub none_twice : (i k : ℕ) → AreNewBelow mark_same ms i → IsTwice (map mark_view ms) k → i ≤ k
  none_twice i k new h =
      elim (cases_lt k i) [
        | inl below ↦
            let x = map-place mark_view ms k (OfMessage h.0) h.1 in
            let y = map-place mark_view ms h.2.0 (OfMessage h.0) h.2.2 in
            absurd (true≢false (sym (place-any (mark_same x.0) (take k ms) h.2.0 y.0 (place-take ms k h.2.0 y.0 h.2.1 y.1) (mark_same-from x.0 y.0 h.0 x.2 y.2)) ∙ new k x.0 below x.1))
        | inr ge ↦ ge
      ]
