use Rattle.std.proofs.Common.{◌≡◌, ◌<◌, ℕ, length, arith, ap, sym, ◌∙◌}
use Rattle.std.specs.List.{flat_map, range_with_len}
use Rattle.msc_picture.specs.Bars.{bar_at}
use Rattle.msc_draw.specs.declared.marking.Marking.{Marking}
use Rattle.msc_draw.proofs.MarkingLemmas.{all_marked}
use Rattle.msc_draw.proofs.marking.Marking.finish.Goals as goal
use Rattle.msc_draw.proofs.marking.Marking.finish.Goals.{then-events-gt0+in_ok-close, else-events-gt0}

pub returns : goal.returns
returns c =
    let m = c.args.self in
    let events = c.args.chart.now.events in
    elim c.if-events-gt0.branch [
      | then-events-gt0+in_ok-close w ↦ record {
        bars = λ told h.
            let some : 0 < length events = omega (arith, w.if-events-gt0.true, c.events.ensures.number) in
            c.from_vec.ensures ∙ ap (λ (x : Marking). x.bars.items) w.all-is
            ∙ w.in_ok-close.ensures.bars
            ∙ all_marked events told m.bars.items m.upper m.lower m.begun m.reach m.told h some;
        told = ap (λ (x : Marking). x.told) w.all-is ∙ w.in_ok-close.ensures.told;
      }
      | else-events-gt0 w ↦ record {
        bars = λ told h.
            let none : length events ≡ m.begun = omega (arith, w.if-events-gt0.false, c.events.ensures.number, h.within) in
            c.from_vec.ensures ∙ ap (λ (x : Marking). x.bars.items) w.all-is ∙ h.marked
            ∙ ap (λ (n : ℕ). flat_map (bar_at events told) (range_with_len 0 n)) (sym none);
        told = ap (λ (x : Marking). x.told) w.all-is;
      }
    ]
