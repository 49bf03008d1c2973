-- What bars have of the races that they are made of.
use Rattle.std.proofs.Common.{◌≡◌, ℕ, zero, suc, ◌+◌, ◌-◌, ◌<◌, ◌≤◌, Bool, true, false, cond, ◌&&◌, List, [], length, get_or, Option, None, Some, eqb, nat_lt, inl, inr, sym, subst, ◌∙◌, refl, arith}
use Rattle.std.specs.List.{range_with_len}
use Rattle.std.proofs.lemmas.Bool.{and_parts, and_from, eqb-true, eq-eqb, ltb-true, false_from_ne_true, not_from_false}
use Rattle.msc_chart.specs.declared.event.ChartEvent.{ChartEvent}
use Rattle.msc_chart.specs.Charts.{line, segment}
use Rattle.msc_chart.specs.Lists.{occurs, Occurs, StandsAt}
use Rattle.msc_chart.proofs.ListLemmas.{by_test, clash}
use Rattle.msc_chart.proofs.Numbers.{find_below}
use Rattle.msc_picture.specs.declared.scene.RaceBar.{RaceBar}
use Rattle.msc_picture.specs.Laws.{BarsRace, BarsHaveNoOther}
use Rattle.std.proofs.lemmas.Option.{slice_get-get_or}
use Rattle.msc_picture.proofs.Events.{before_parts}
use Rattle.msc_picture.specs.Bars.{AreDrawnPairs, AreEventPairs, is_from, end_of, is_end_of, ends_of, bar_over, bar_at, bars_of}
use Rattle.msc_picture.specs.Rows.{share_segment, begins_segment, reach_of}
use Rattle.msc_picture.proofs.Reaching.{Reaches, Begins, reach_has}
use Rattle.msc_picture.proofs.Standing.{stands, stands_flat, flat_where, kept, any_there, any_where}
use Rattle.msc_chart.proofs.ListLemmas.{filter-passes as kept_passes}

module _ (events : List ChartEvent) where
  -- what it says that two events share a segment
  pub share_parts : (e f : ℕ) → share_segment events e f ≡ true
      → (line events e ≡ line events f) × (segment events e ≡ segment events f)
  share_parts e f h =
      let p = and_parts (eqb (line events e) (line events f)) (eqb (segment events e) (segment events f))
      h in
      (eqb-true (line events e) (line events f) p.0, eqb-true (segment events e) (segment events f) p.1)

  -- and what makes them share one
  pub share_from : (e f : ℕ) → line events e ≡ line events f → segment events e ≡ segment events f
      → share_segment events e f ≡ true
  share_from e f l s =
      and_from (eqb (line events e) (line events f)) (eqb (segment events e) (segment events f))
      (eq-eqb (line events e) (line events f) l) (eq-eqb (segment events e) (segment events f) s)

-- sharing a segment goes on
pub share_on : (events : List ChartEvent) (e f g : ℕ) → share_segment events e f ≡ true
    → share_segment events f g ≡ true → share_segment events e g ≡ true
share_on events e f g h k =
    let p = share_parts events e f h in
    let q = share_parts events f g k in
    share_from events e g (p.0 ∙ q.0) (p.1 ∙ q.1)

-- an event is of its own segment
share_own : (events : List ChartEvent) (e : ℕ) → share_segment events e e ≡ true
share_own events e = share_from events e e refl refl

-- an event begins the segment of each event
beginner : (events : List ChartEvent) (e : ℕ)
    → (b : ℕ) × (b ≤ e) × (share_segment events b e ≡ true) × (begins_segment events b ≡ true)
beginner events e = elim (find_below (λ x. share_segment events x e) (e + 1)) [
  | inl found ↦
      let b = found.0 in (
        b,
        omega (arith, found.1),
        found.2,
        not_from_false _ (false_from_ne_true _ (λ before.
            let parts = and_parts (nat_lt 0 b) _ before in
            let positive = ltb-true 0 b parts.0 in
            let earlier = share_on events (b - 1) b e parts.1 found.2 in
            clash earlier (found.3 (b - 1) (omega (arith, positive))))),
      )
  | inr none ↦ clash (share_own events e) (none e (omega arith))
]

-- what is drawn in an order are events
pub drawn_events : (events : List ChartEvent) (closest : List (ℕ × ℕ)) → AreDrawnPairs events closest
    → AreEventPairs events closest
drawn_events events closest drawn k d below =
    let p = get_or closest k d in
    let parts = before_parts events p.0 p.1
    (drawn p.0 p.1 (k, slice_get-get_or closest k d below)) in
    (parts.0, parts.1)

module _ (events : List ChartEvent) (closest : List (ℕ × ℕ)) (b : ℕ) where
  -- the bar of the pairs from the segment of b, over a range of places
  IsMarkOver : RaceBar → Option (ℕ × ℕ) → Type 0
  IsMarkOver bar None = ⊥
  IsMarkOver bar (Some p) =
      (bar.instance ≡ line events b)
      × (bar.upper ≡ ends_of events closest b false) × (bar.lower ≡ ends_of events closest b true)
      × (bar.first ≡ p.0 + 1) × (bar.last ≡ p.1 + 1)

  -- each bar over a range is this one
  over_is : (bar : RaceBar) (reach : Option (ℕ × ℕ)) → Occurs (bar_over events closest b reach) bar → IsMarkOver bar reach
  unfolding IsMarkOver
  over_is bar None h = let f : ⊥ = cc (h.1) in f
  over_is bar (Some p) (zero, at) =
      let made : RaceBar = record {
        instance = line events b;
        upper = ends_of events closest b false;
        lower = ends_of events closest b true;
        first = p.0 + 1;
        last = p.1 + 1;
      } in
      let is : made ≡ bar = cc in
      subst (λ (m : RaceBar). IsMarkOver m (Some p)) is (refl, refl, refl, refl, refl)
  over_is bar (Some p) (suc k, at) = let f : ⊥ = cc in absurd f

  -- its events are the ends of those pairs
  ends_over : (bar : RaceBar) (reach : Option (ℕ × ℕ)) → IsMarkOver bar reach
      → (bar.upper ≡ ends_of events closest b false) × (bar.lower ≡ ends_of events closest b true)
  unfolding IsMarkOver
  ends_over bar None is = absurd is
  ends_over bar (Some p) is = (is.1, is.2)

  -- and there is one where the range has a place
  over_some : (k : ℕ) (reach : Option (ℕ × ℕ)) → Reaches reach k → (bar : RaceBar) × Occurs (bar_over events closest b reach) bar
  unfolding Reaches
  over_some k None h = absurd h
  over_some k (Some p) h = (
    record {
      instance = line events b;
      upper = ends_of events closest b false;
      lower = ends_of events closest b true;
      first = p.0 + 1;
      last = p.1 + 1;
    },
    (0, refl),
  )

  -- the range has the place of each pair from the segment
  reached : (k : ℕ) (p : ℕ × ℕ) → StandsAt closest k p → is_from events b p ≡ true → Reaches (reach_of (is_from events b) closest) k
  unfolding Begins
  reached k p at from =
      let here : 0 + k ≡ k = omega arith in
      subst (λ (j : ℕ). Reaches (reach_of (is_from events b) closest) j) here
      (reach_has (is_from events b) None 0 k closest p tt at from)

  -- the bar has each pair from the segment
  has_pair : (bar : RaceBar) (reach : Option (ℕ × ℕ)) (k e f : ℕ) → AreEventPairs events closest → IsMarkOver bar reach
      → Reaches reach k → StandsAt closest k (e, f) → is_from events b (e, f) ≡ true → BarsRace events bar k e f
  unfolding IsMarkOver Reaches
  has_pair bar None k e f known is within at from = absurd is
  has_pair bar (Some p) k e f known is within at from =
      let n = length events in
      let there = stands closest k (e, f) (0, 0) at in
      let ends = known k (0, 0) there.0 in
      let e_below : e < n = subst (λ (p : ℕ × ℕ). p.0 < n) there.1 ends.0 in
      let f_below : f < n = subst (λ (p : ℕ × ℕ). p.1 < n) there.1 ends.1 in
      let upper : is_end_of events closest b false e ≡ true =
      any_there (λ p. is_from events b p && eqb (end_of false p) e) closest k (e, f) at
      (and_from _ _ from (eq-eqb e e refl)) in
      let lower : is_end_of events closest b true f ≡ true =
      any_there (λ p. is_from events b p && eqb (end_of true p) f) closest k (e, f) at
      (and_from _ _ from (eq-eqb f f refl)) in
      record {
        instance = is.0 ∙ (share_parts events b e from).0;
        upper = subst (λ (l : List ℕ). occurs l e ≡ true) (sym is.1)
            (kept (is_end_of events closest b false) 0 n e (omega arith) (omega arith) upper);
        lower = subst (λ (l : List ℕ). occurs l f ≡ true) (sym is.2)
            (kept (is_end_of events closest b true) 0 n f (omega arith) (omega arith) lower);
        from = (let first = is.3 in let low = within.0 in omega arith);
        to = (let last = is.4 in let high = within.1 in omega arith);
      }

  -- an end of pairs from the segment is that of one of them
  pair_of : (lower : Bool) (x : ℕ) → occurs (ends_of events closest b lower) x ≡ true
      → (k : ℕ) × StandsAt closest k (get_or closest k (0, 0)) × (is_from events b (get_or closest k (0, 0)) ≡ true)
      × (end_of lower (get_or closest k (0, 0)) ≡ x)
  pair_of lower x h =
      let passes = kept_passes (is_end_of events closest b lower) (range_with_len 0 (length events)) x h in
      let found = any_where (λ p. is_from events b p && eqb (end_of lower p) x) closest (0, 0) passes in
      let both = and_parts _ _ found.2 in
      (found.0, slice_get-get_or closest found.0 (0, 0) found.1, both.0, eqb-true _ _ both.1)

-- each pair has a bar
pub each_marked : (events : List ChartEvent) (closest : List (ℕ × ℕ)) (k e f : ℕ)
    → AreEventPairs events closest → StandsAt closest k (e, f)
    → (bar : RaceBar) × Occurs (bars_of events closest) bar × BarsRace events bar k e f
each_marked events closest k e f known at =
    let n = length events in
    let begun = beginner events e in
    let b = begun.0 in
    let there = stands closest k (e, f) (0, 0) at in
    let e_below : e < n = subst (λ (p : ℕ × ℕ). p.0 < n) there.1 (known k (0, 0) there.0).0 in
    let reach = reach_of (is_from events b) closest in
    let within = reached events closest b k (e, f) at begun.2 in
    let made = over_some events closest b k reach within in
    let in_b : Occurs (bar_at events closest b) made.0 =
    subst (λ (c : Bool). Occurs (cond c (bar_over events closest b reach) []) made.0)
    (sym begun.3) made.1 in (
      made.0,
      stands_flat (bar_at events closest) 0 n b made.0 (omega arith)
          (omega (arith, begun.1, e_below)) in_b,
      has_pair events closest b made.0 reach k e f known (over_is events closest b made.0 reach made.1) within at begun.2,
    )

-- each bar is one of the pairs from a segment
bar_from : (events : List ChartEvent) (closest : List (ℕ × ℕ)) (bar : RaceBar) → Occurs (bars_of events closest) bar
    → (b : ℕ) × IsMarkOver events closest b bar (reach_of (is_from events b) closest)
bar_from events closest bar h =
    let found = flat_where (bar_at events closest) 0 (length events) bar h in
    let b = found.0 in
    let over = bar_over events closest b (reach_of (is_from events b) closest) in (
      b,
      by_test (begins_segment events b)
          (λ yes. over_is events closest b bar (reach_of (is_from events b) closest)
          (subst (λ (c : Bool). Occurs (cond c over []) bar) yes found.3))
          (λ no.
          let none : Occurs [] bar = subst (λ (c : Bool). Occurs (cond c over []) bar) no found.3 in
          let f : ⊥ = cc (none.1) in absurd f),
    )

-- and a bar has no other event
pub no_other : BarsHaveNoOther
no_other events closest bar x drawn h =
    let known = drawn_events events closest drawn in
    let from = bar_from events closest bar h in
    let b = from.0 in
    let reach = reach_of (is_from events b) closest in
    let upper : (bar.upper ≡ ends_of events closest b false) × (bar.lower ≡ ends_of events closest b true) = ends_over events closest b bar reach from.1 in (
      λ here.
          let p = pair_of events closest b false x (subst (λ (l : List ℕ). occurs l x ≡ true) upper.0 here) in
          let pair = get_or closest p.0 (0, 0) in
          subst (λ (y : ℕ). (k : ℕ) × (f : ℕ) × StandsAt closest k (y, f) × BarsRace events bar k y f) p.3
          (p.0, pair.1, p.1, has_pair events closest b bar reach p.0 pair.0 pair.1 known from.1 (reached events closest b p.0 pair p.1 p.2) p.1 p.2),
      λ here.
          let p = pair_of events closest b true x (subst (λ (l : List ℕ). occurs l x ≡ true) upper.1 here) in
          let pair = get_or closest p.0 (0, 0) in
          subst (λ (y : ℕ). (k : ℕ) × (e : ℕ) × StandsAt closest k (e, y) × BarsRace events bar k e y) p.3
          (p.0, pair.0, p.1, has_pair events closest b bar reach p.0 pair.0 pair.1 known from.1 (reached events closest b p.0 pair p.1 p.2) p.1 p.2),
    )
