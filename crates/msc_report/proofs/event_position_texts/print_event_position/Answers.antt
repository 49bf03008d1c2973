use Rattle.std.proofs.Common.{◌∙◌}
use Rattle.msc_report.proofs.MadeEventPositions.{event_position_put}
use Rattle.msc_report.proofs.event_position_texts.print_event_position.Goals as goal

pub returns : goal.returns
returns c =
    event_position_put c.args.event_positions.now c.args.e _ _ _ c.in_ok-append_event_position.ensures
    (c.len-from.ensures ∙ c.args.page.now.bytes.ok.0) (c.len-to.ensures ∙ c.append_event_position.new.page.bytes.ok.0)
