use Rattle.msc_report.proofs.MadeEventPositions.{event_positions_joined}
use Rattle.msc_report.proofs.event_position_texts.EventPositionTexts.print_line.Goals as goal

pub returns : goal.returns
returns c = λ event_positions are.
    rw (
      c.in_ok-extend_from_slice-5.ensures.items,
      c.in_ok-extend_from_slice-4.ensures.items,
      c.in_ok-extend_from_slice-3.ensures.items,
      c.in_ok-extend_from_slice-2.ensures.items,
      c.in_ok-extend_from_slice.ensures.items,
      c.event_position-2.ensures,
      c.event_position.ensures,
    ) (event_positions_joined event_positions c.args.self.now c.args.e c.args.f c.args.page.now.bytes.items are c.requires.e_known c.requires.f_known)
