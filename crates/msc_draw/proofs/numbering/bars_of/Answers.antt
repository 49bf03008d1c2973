use Rattle.std.proofs.Common.{◌≡◌, ℕ, ◌+◌, List, length, take, ap, subst, ◌∙◌, arith}
use Rattle.msc_picture.specs.Bars.{bars_of}
use Rattle.msc_draw.specs.Marking.{HoldsMarking}
use Rattle.msc_draw.proofs.NumberLemmas.{all_noted, next_later, range_of, range_on}
use Rattle.msc_draw.proofs.numbering.bars_of.Goals as goal

pub take-requires-clause-races : goal.take-requires-clause-races
take-requires-clause-races c =
    range_of c.args.races.now c.loop-e.start c.loop-e.e _ c.end_of-end.ensures
    c.args.chart.now.events c.requires

pub loop-e-preserved : goal.loop-e-preserved
loop-e-preserved c =
    let events = c.args.chart.now.events in
    let races = c.args.races.now in
    let l = c.loop-e in
    let is = c.end_of-end.ensures in
    record {
      within = is.within;
      held = subst (λ (x : List (ℕ × ℕ)). HoldsMarking events (l.e + 1) x c.take.new.self)
          (range_on races l.start l.e _ is)
          (c.in_ok-take.ensures (take l.start races) l.invariant.held);
      left = next_later races l.start l.e _ is c.requires.ascend l.invariant.left;
    }

pub returns : goal.returns
returns c =
    let events = c.args.chart.now.events in
    let races = c.args.races.now in
    let l = c.loop-e in
    let end : l.e ≡ length events =
    omega (arith, l.auto.e-end, c.loop-e-test.false, c.events-e-end.ensures.number) in
    let held = subst (λ (k : ℕ). HoldsMarking events k (take l.start races) l.marking) end
    l.invariant.held in
    c.into_vec.ensures ∙ c.in_ok-bars.ensures.bars (take l.start races) held
    ∙ ap (bars_of events)
    (all_noted events races l.start l.e c.requires end l.invariant.within l.invariant.left)
