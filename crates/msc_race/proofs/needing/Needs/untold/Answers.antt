use Rattle.std.proofs.Common.{◌≡◌, length, ap, ◌∙◌}
use Rattle.msc_race.specs.Choices.{wired_chart}
use Rattle.msc_race.proofs.Pasts.TurnLemmas.{nexts_first, untold_ready}
use Rattle.msc_race.proofs.needing.Needs.untold.Goals as goal

pub returns : goal.returns
returns c =
    let choice = c.args.choice.now in
    let chart = wired_chart choice in
    let copied : c.in_ok-from_slice.field-0.items ≡ c.in_ok-spans.spans.firsts.items = c.in_ok-from_slice.ensures.items ∙ c.as_slice.ensures.value in
    record {
      holds = record {
        needed_row = rw c.needed.view_is c.in_ok-needed.ensures.row;
        ready_row = c.in_ok-unheld_set.ensures.row;
        needed = rw c.needed.view_is c.in_ok-needed.ensures.needed;
        spans = c.in_ok-spans.ensures;
        nexts = ap length copied;
      };
      nexts = rw copied (nexts_first chart choice.e _ _ c.args.left.now c.in_ok-spans.ensures);
      ready = untold_ready chart choice.e c.args.left.now _ c.in_ok-unheld_set.ensures.unheld;
    }
