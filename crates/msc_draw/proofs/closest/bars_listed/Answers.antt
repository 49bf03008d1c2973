use Rattle.std.proofs.Common.{◌≡◌, ◌+◌, ◌++◌, List, ℕ, length, ap, subst, sym, ◌∙◌, arith, refl}
use Rattle.std.specs.List.{flat_map, range_with_len}
use Rattle.msc_chart.specs.declared.event.ChartEvent.{ChartEvent}
use Rattle.msc_picture.specs.Bars.{bars_of}
use Rattle.msc_draw.specs.Listed.{listed_at}
use Rattle.msc_draw.specs.Marking.{AreOf, HoldsMarking}
use Rattle.msc_draw.proofs.Listings.{listed_are_of, listed_whole}
use Rattle.msc_picture.proofs.Ranges.{flat_next}
use Rattle.msc_draw.proofs.closest.bars_listed.Goals as goal

pub take-requires-clause-races : goal.take-requires-clause-races
take-requires-clause-races c =
    let s = c.args.listing.now in
    let e = c.loop-e.e in
    let same : c.chart-chart.result.now.events ≡ s.judged.chart.events = cc in
    let list = c.as_slice.ensures.value ∙ c.in_ok-next.ensures.list in
    subst (λ (l : List (ℕ × ℕ)). AreOf (length c.chart-chart.result.now.events) e l) (sym list)
    (subst (λ (events : List ChartEvent). AreOf (length events) e (listed_at s e)) (sym same)
    (listed_are_of s e))

pub loop-e-preserved : goal.loop-e-preserved
loop-e-preserved c =
    let s = c.args.listing.now in
    let e = c.loop-e.e in
    let so_far = flat_map (listed_at s) (range_with_len 0 e) in
    let same : c.chart-chart.result.now.events ≡ s.judged.chart.events = cc in
    let list = c.as_slice.ensures.value ∙ c.in_ok-next.ensures.list in
    let held = subst (λ (events : List ChartEvent). HoldsMarking events e so_far c.loop-e.marking)
    (sym same) c.loop-e.invariant.held in
    let next = c.in_ok-take.ensures so_far held in
    let all : so_far ++ c.as_slice.result.now ≡ flat_map (listed_at s) (range_with_len 0 (e + 1)) =
    flat_next (listed_at s) e so_far (so_far ++ c.as_slice.result.now) refl
    (ap (λ (l : List (ℕ × ℕ)). so_far ++ l) list) in
    record {
      reached = c.in_ok-next.ensures.reached;
      held = subst (λ (l : List (ℕ × ℕ)). HoldsMarking s.judged.chart.events (e + 1) l c.take.new.self) all
          (subst (λ (events : List ChartEvent). HoldsMarking events (e + 1)
          (so_far ++ c.as_slice.result.now) c.take.new.self) same next);
    }

pub returns-clause-bars : goal.returns-clause-bars
returns-clause-bars c =
    let s = c.args.listing.now in
    let e = c.loop-e.e in
    let so_far = flat_map (listed_at s) (range_with_len 0 e) in
    let same : c.chart-chart.result.now.events ≡ s.judged.chart.events = cc in
    let end : e ≡ length c.chart-chart.result.now.events = omega (arith, c.loop-e.auto.e-end, c.loop-e-test.false, c.events-e-end.ensures.number) in
    let n : e ≡ length s.judged.chart.events = end ∙ ap length same in
    let held = subst (λ (k : ℕ). HoldsMarking c.chart-chart.result.now.events k so_far c.loop-e.marking)
    end (subst (λ (events : List ChartEvent). HoldsMarking events e so_far c.loop-e.marking) (sym same)
    c.loop-e.invariant.held) in
    c.in_ok-all.ensures.bars so_far held
    ∙ ap (λ (events : List ChartEvent). bars_of events so_far) same
    ∙ ap (λ (k : ℕ). bars_of s.judged.chart.events (flat_map (listed_at s) (range_with_len 0 k))) n
    ∙ ap (bars_of s.judged.chart.events) (listed_whole s.judged s.allowed s.closest)

pub returns-clause-told : goal.returns-clause-told
returns-clause-told c =
    let s = c.args.listing.now in
    let e = c.loop-e.e in
    let same : c.chart-chart.result.now.events ≡ s.judged.chart.events = cc in
    let end : e ≡ length c.chart-chart.result.now.events = omega (arith, c.loop-e.auto.e-end, c.loop-e-test.false, c.events-e-end.ensures.number) in
    let n : e ≡ length s.judged.chart.events = end ∙ ap length same in
    c.in_ok-all.ensures.told ∙ c.loop-e.invariant.held.counted
    ∙ ap (λ (k : ℕ). length (flat_map (listed_at s) (range_with_len 0 k))) n
    ∙ ap length (listed_whole s.judged s.allowed s.closest)
