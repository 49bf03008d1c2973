use Rattle.std.proofs.Common.{length, get_or, sym, ap, ◌∙◌, arith}
use Rattle.std.proofs.lemmas.List.{get_or-replicate, length-replicate}
use Rattle.msc_race.proofs.Runs.EventLemmas.{output_below, output_not_local}
use Rattle.msc_race.specs.Choices.{wired_chart}
use Rattle.msc_race.proofs.spans.Spans.of.Goals as goal

pub loop-x-init : goal.loop-x-init
loop-x-init c =
    let events = (wired_chart c.args.choice.now).events in
    let firsts = c.in_ok-vec.ensures.items_if_clones_equal (λ y same. same) in
    let ends = c.in_ok-vec-2.ensures.items_if_clones_equal (λ y same. same) in
    let count = ap length firsts ∙ length-replicate _ _ in
    record {
      few = omega (arith, count, c.queue_count-queues.ensures.few);
      both = ap length ends ∙ length-replicate _ _ ∙ sym count;
      queues = λ t out. rw count (c.queue_count-queues.ensures.past t (output_below events t out) (output_not_local events t out));
      from = λ t less. absurd (omega (arith, less));
      past = λ t less. absurd (omega (arith, less));
      within = λ q known.
          let none = ap (λ l. get_or l q 0) ends ∙ get_or-replicate c.queue_count-queues.result q 0 0 (rw count at known) in
          omega (arith, none);
    }
