-- What bands have of the segments that they are made of.
use Rattle.std.proofs.Common.{◌≡◌, ℕ, zero, suc, ◌+◌, ◌<◌, ◌≤◌, ◌⊎◌, Bool, true, false, cond, List, [], length, Option, None, Some, eqb, inl, inr, sym, subst, ◌∙◌, refl, arith}
use Rattle.std.specs.Prelude.{slice_get}
use Rattle.std.proofs.lemmas.Bool.{cases_lt, eq-eqb, false≢true, or_left, or_right}
use Rattle.msc_chart.specs.declared.event.ChartEvent.{ChartEvent}
use Rattle.msc_chart.specs.Charts.{before, line, segment, seen, IsLinearOrder}
use Rattle.msc_chart.specs.Lists.{occurs, Occurs}
use Rattle.msc_chart.proofs.ListLemmas.{by_test, clash}
use Rattle.msc_picture.specs.declared.scene.Band.{Band}
use Rattle.msc_picture.specs.declared.scene.Row.{Row}
use Rattle.msc_picture.specs.Laws.{as_list, row_events, HasItsOtherEnd, HasOfSegment, IsBandOf, IsInRow}
use Rattle.msc_picture.specs.Rows.{band_at, band_over, bands_of, begins_band, reach_of, row_of_one, row_passes, rows_of, second_passes, share_segment}
use Rattle.msc_picture.proofs.Events.{before_from}
use Rattle.msc_picture.proofs.MarkLemmas.{share_from, share_parts}
use Rattle.msc_picture.proofs.RowLemmas.{keep_visual, row_known}
use Rattle.msc_picture.proofs.Reaching.{Reaches, Begins, Passes, EndsPass, reach_ends, reach_has}
use Rattle.msc_picture.proofs.Standing.{stands, stands_flat, flat_where}

module _ (events : List ChartEvent) (rows : List Row) (e : ℕ) where
  -- a row with an event of the segment of e
  of_segment : Row → Bool
  of_segment = row_passes (share_segment events e)

  -- an end of the range of such rows
  end_there : (k : ℕ) → Passes of_segment rows 0 k ⊎ ((q : ℕ × ℕ) × (None ≡ Some q) × (k ≡ q.0))
      → HasOfSegment events rows e k
  unfolding Passes of_segment
  end_there k (inl h) =
      let here : h.0 ≡ k = omega (arith, h.2) in
      (h.1, subst (λ (j : ℕ). slice_get rows j ≡ Some h.1) here h.3, h.4)
  end_there k (inr h) = let f : ⊥ = cc (h.1) in absurd f

  last_there : (k : ℕ) → Passes of_segment rows 0 k ⊎ ((q : ℕ × ℕ) × (None ≡ Some q) × (k ≡ q.1))
      → HasOfSegment events rows e k
  last_there k (inl h) = end_there k (inl h)
  last_there k (inr h) = let f : ⊥ = cc (h.1) in absurd f

  -- a range of such rows gives a band
  band_by : (o : Option (ℕ × ℕ)) → o ≡ reach_of of_segment rows → begins_band events e ≡ true
      → (band : Band) → Occurs (band_over (line events e) o) band → IsBandOf events rows e band
  unfolding EndsPass of_segment Reaches Begins
  band_by None same begins band h = let f : ⊥ = cc (h.1) in absurd f
  band_by (Some p) same begins band (zero, at) =
      let ends = subst (λ (o : Option (ℕ × ℕ)). EndsPass of_segment None rows 0 o) (sym same)
      (reach_ends of_segment None 0 rows) in
      let made : Band = record { instance = line events e; first = p.0; last = p.1 } in
      let is : made ≡ band = cc in
      subst (λ (b : Band). IsBandOf events rows e b) is (record {
        instance = refl;
        begins = begins;
        first = end_there p.0 ends.0;
        last = last_there p.1 ends.1;
        around = λ r has.
            let reached = reach_has of_segment None 0 r rows has.0 tt has.1 has.2 in
            let here : 0 + r ≡ r = omega arith in
            subst (λ (o : Option (ℕ × ℕ)). Reaches o r) (sym same)
            (subst (λ (j : ℕ). Reaches (reach_of of_segment rows) j) here reached);
      })
  band_by (Some p) same begins band (suc k, at) = let f : ⊥ = cc in absurd f

  -- and where one row has an event, there is a range
  some_band : (o : Option (ℕ × ℕ)) (r : ℕ) → Reaches o r
      → (band : Band) × Occurs (band_over (line events e) o) band
  unfolding Reaches
  some_band None r h = absurd h
  some_band (Some p) r h = (record { instance = line events e; first = p.0; last = p.1 }, (0, refl))

-- each band is that of a segment of several events
pub band_of_segment : (events : List ChartEvent) (rows : List Row) (band : Band)
    → Occurs (bands_of events rows) band
    → (e : ℕ) × (e < length events) × IsBandOf events rows e band
unfolding of_segment
band_of_segment events rows band h =
    let found = flat_where (band_at events rows) 0 (length events) band h in
    let e = found.0 in
    let over = band_over (line events e) (reach_of (row_passes (share_segment events e)) rows) in (
      e,
      omega (arith, found.2),
      by_test (begins_band events e)
          (λ yes. band_by events rows e (reach_of (of_segment events rows e) rows) refl yes band
          (subst (λ (c : Bool). Occurs (cond c over []) band) yes found.3))
          (λ no.
          let none : Occurs [] band = subst (λ (c : Bool). Occurs (cond c over []) band) no found.3 in
          let f : ⊥ = cc (none.1) in absurd f),
    )

-- and each such segment that stands in some row has a band
pub segment_has_band : (events : List ChartEvent) (rows : List Row) (e r : ℕ) → e < length events
    → begins_band events e ≡ true → HasOfSegment events rows e r
    → (band : Band) × Occurs (bands_of events rows) band × IsBandOf events rows e band
unfolding of_segment Begins
segment_has_band events rows e r below begins has =
    let test = of_segment events rows e in
    let reached = reach_has test None 0 r rows has.0 tt has.1 has.2 in
    let made = some_band events rows e (reach_of test rows) (0 + r) reached in
    let over = band_over (line events e) (reach_of (row_passes (share_segment events e)) rows) in
    let in_e : Occurs (band_at events rows e) made.0 =
    subst (λ (c : Bool). Occurs (cond c over []) made.0) (sym begins) made.1 in (
      made.0,
      stands_flat (band_at events rows) 0 (length events) e made.0 (omega arith) (omega arith) in_e,
      band_by events rows e (reach_of test rows) refl begins made.0 made.1,
    )

-- an event of the segment of e that a row has
has_event : (events : List ChartEvent) (rows : List Row) (e r : ℕ) → HasOfSegment events rows e r
    → (y : ℕ) × IsInRow rows r y × (share_segment events e y ≡ true)
unfolding occurs
has_event events rows e r has =
    let row = has.0 in
    let there = stands rows r row (row_of_one 0) has.1 in
    let in_row : (y : ℕ) → occurs (row_events row) y ≡ true → IsInRow rows r y =
    λ y h. record {
      within = there.0;
      event = subst (λ (w : Row). occurs (row_events w) y ≡ true) (sym there.1) h;
    } in
    by_test (share_segment events e row.first)
    (λ first. (
      row.first,
      in_row row.first (or_left (eqb row.first row.first) _
          (eq-eqb row.first row.first refl)),
      first,
    ))
    (λ off. by row.second refl in_row (rw off at has.2))
  where
    -- the second event
    by : (o : Option ℕ) → o ≡ has.0.second
        → ((y : ℕ) → occurs (row_events has.0) y ≡ true → IsInRow rows r y)
        → second_passes (share_segment events e) o ≡ true
        → (y : ℕ) × IsInRow rows r y × (share_segment events e y ≡ true)
    by None same in_row h = absurd (false≢true h)
    by (Some y) same in_row h =
        let later : occurs (as_list has.0.second) y ≡ true =
        subst (λ (o : Option ℕ). occurs (as_list o) y ≡ true) same
        (or_left (eqb y y) false (eq-eqb y y refl)) in
        (y, in_row y (or_right (eqb has.0.first y) (occurs (as_list has.0.second) y) later), h)

-- what else of its line is in a band shares its row with its own other end
pub no_other_in_band : (events : List ChartEvent) (order : List ℕ) (e r x : ℕ) (band : Band)
    → IsLinearOrder events order → IsBandOf events (rows_of events order) e band
    → IsInRow (rows_of events order) r x → line events x ≡ line events e → band.first ≤ r
    → r ≤ band.last
    → (share_segment events e x ≡ true) ⊎ HasItsOtherEnd events (rows_of events order) e r x
no_other_in_band events order e r x band linear is at_x same low high =
    let rows = rows_of events order in
    by_test (share_segment events e x) (λ own. inl own) (λ other.
    let x_known = row_known events order r x linear at_x in
    elim (cases_lt (segment events x) (segment events e)) [
      | inl above ↦
          let a = has_event events rows e band.first is.first in
          let shared = share_parts events e a.0 a.2 in
          let a_known = row_known events order band.first a.0 linear a.1 in
          let drawn : before events x a.0 ≡ true =
          before_from events x a.0 x_known a_known (same ∙ shared.0)
          (omega (arith, above, shared.1)) in
          elim (keep_visual events order r band.first x a.0 linear at_x a.1 (seen drawn)) [
            | inl less ↦ absurd (omega (arith, less, low))
            | inr here ↦
                inr (a.0, subst (λ (j : ℕ). IsInRow rows j a.0) (sym here.0) a.1, a.2, inl here.1)
          ]
      | inr ge ↦
          let differ : segment events e ≡ segment events x → ⊥ =
          λ equal. clash (share_from events e x (sym same) equal) other in
          let b = has_event events rows e band.last is.last in
          let shared = share_parts events e b.0 b.2 in
          let b_known = row_known events order band.last b.0 linear b.1 in
          let drawn : before events b.0 x ≡ true =
          before_from events b.0 x b_known x_known (sym shared.0 ∙ sym same)
          (omega (arith, ge, differ, shared.1)) in
          elim (keep_visual events order band.last r b.0 x linear b.1 at_x (seen drawn)) [
            | inl less ↦ absurd (omega (arith, less, high))
            | inr here ↦
                inr (b.0, subst (λ (j : ℕ). IsInRow rows j b.0) here.0 b.1, b.2, inr here.1)
          ]
    ])
