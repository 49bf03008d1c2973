use Rattle.std.proofs.lemmas.Bool.{cases_eq, cases_lt}
use Rattle.std.proofs.lemmas.List.{get_or-set_other, get_or-set_same, length-set}
use Rattle.std.proofs.Common.{set, true, inl, inr, ◌≡◌, ◌<◌, ◌+◌, ℕ, List, length, get_or, sym, ap, ◌∙◌, subst, arith}
use Rattle.std.specs.List.{All}
use Rattle.std.proofs.lemmas.Option.{slice_get-get_or}
use Rattle.std.proofs.lemmas.List.Elements.{All-from_get_or}
use Rattle.msc_chart.proofs.Drawn.{before_parts}
use Rattle.msc_chart.specs.Lists.{Occurs}
use Rattle.msc_reason.proofs.Counted.{counted_drawn, counted_parts}
use Rattle.msc_reason.proofs.Marking.{end_more, is_least_second}
use Rattle.msc_reason.specs.Marked.{counted_from, is_counted}
use Rattle.msc_race.specs.Wired.{EnforcedChart}
use Rattle.msc_reason.specs.declared.left_out.LeftOut.{LeftOut}
use Rattle.msc_reason.proofs.marks.Marks.of.Goals as goal

-- the second events of an event's races are events
seconds_known : (e : EnforcedChart) (allowed : LeftOut) (x n : ℕ) (pairs : List (ℕ × ℕ)) → pairs ≡ counted_from e allowed x → n ≡ length e.chart.events
    → All (λ p. p.1 < n) pairs
seconds_known e allowed x n pairs are same = All-from_get_or (λ p. p.1 < n) pairs (0, 0) (λ k inside.
    let there : Occurs pairs (get_or pairs k (0, 0)) = (k, slice_get-get_or pairs k (0, 0) inside) in
    let its = counted_parts e allowed x (get_or pairs k (0, 0)).0 (get_or pairs k (0, 0)).1 (subst (λ (l : List (ℕ × ℕ)). Occurs l (get_or pairs k (0, 0))) are there) in
    let p = before_parts e.chart.events _ _ (counted_drawn e allowed (get_or pairs k (0, 0)).0 (get_or pairs k (0, 0)).1 its.1) in
    omega (arith, p.1, same))

pub mark_seconds-requires : goal.mark_seconds-requires
mark_seconds-requires c =
    seconds_known c.args.enforced.now c.args.allowed c.loop-e.e _ _ (c.as_slice.ensures.value ∙ c.in_ok-next_counting.ensures.list)
    (c.loop-e.invariant.lasts ∙ c.events-events.ensures)

pub loop-e-preserved : goal.loop-e-preserved
loop-e-preserved c =
    let e = c.args.enforced.now in
    let n : ℕ = c.events-events.result in
    let k : ℕ = c.loop-e.e in
    let within = c.loop-e-test.true in
    let list = c.as_slice.ensures.value ∙ c.in_ok-next_counting.ensures.list in
    let again = c.as_slice-in-loop-e.ensures.value ∙ c.in_ok-next_counting.ensures.list in
    let old = c.loop-e.least.items in
    let long = c.loop-e.invariant.leasts in
    let own = is_least_second e c.args.allowed n k c.least_second.result c.as_slice-in-loop-e.result.now again c.least_second.ensures.none_below c.least_second.ensures.itself in
    record {
      reached = c.in_ok-next_counting.ensures.reached;
      lasts = c.mark_seconds.ensures.size ∙ c.loop-e.invariant.lasts;
      leasts = length-set old k c.least_second.result ∙ long;
      end = end_more e c.args.allowed k c.loop-e.last.items c.mark_seconds.new.last.items c.as_slice.result.now list c.mark_seconds.ensures.marked c.loop-e.invariant.end;
      own = λ x less. elim (cases_eq x k) [
        | inl same ↦
            let value : get_or (set old k c.least_second.result) k 0 ≡ c.least_second.result = get_or-set_same old k c.least_second.result 0 (omega (arith, long, within)) in
            rw (same, value) own
        | inr other ↦ rw (get_or-set_other old k x c.least_second.result 0 other) (c.loop-e.invariant.own x (omega (arith, less, other)))
      ];
      rest = λ x more known. rw (get_or-set_other old k x c.least_second.result 0 (λ same. absurd (omega (arith, same, more)))) (c.loop-e.invariant.rest x (omega (arith, more)) known);
    }

pub returns : goal.returns
returns c =
    let e = c.args.enforced.now in
    let n : ℕ = c.events-events.result in
    let test = is_counted e c.args.allowed in
    let same = c.events-events.ensures in
    let past = c.loop-e-test.false in
    let long = c.loop-e.invariant.leasts in
    let drawn = λ (x y : ℕ) (its : test x y ≡ true). before_parts e.chart.events x y (counted_drawn e c.args.allowed x y its) in
    record {
      lasts = c.loop-e.invariant.lasts ∙ same;
      leasts = c.sink_least.ensures.size ∙ long ∙ ap (λ (m : ℕ). m + 1) same;
      end = λ x y its. let d = drawn x y its in c.loop-e.invariant.end x y (omega (arith, d.0, same, past)) its;
      none_below = λ s x y le its.
          let d = drawn x y its in
          let one = c.sink_least.ensures.none_below s x le (omega (arith, d.0, same, long)) in
          let two = (c.loop-e.invariant.own x (omega (arith, d.0, same, past))).none_below y its in
          omega (arith, one, two);
      itself = λ s le known.
          let one = c.sink_least.ensures.itself s (omega (arith, le, same, long)) in
          elim (cases_lt one.0 n) [
            | inl less ↦
                let its = (c.loop-e.invariant.own one.0 (omega (arith, less, past))).itself (let v = one.3 in omega (arith, known, v, same)) in
                (one.0, one.1, subst (λ (y : ℕ). test one.0 y ≡ true) (sym one.3) its)
            | inr more ↦
                let h = one.2 in
                let none = c.loop-e.invariant.rest one.0 (let end = c.loop-e.auto.e-end in omega (arith, more, end)) (omega (arith, h, long)) in
                let v = one.3 in absurd (omega (arith, v, none, known, same))
          ];
    }
