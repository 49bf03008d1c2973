use Rattle.std.proofs.Common.{append_assoc}
use Rattle.msc_report.proofs.editor.WarningTexts.print_note.Goals as goal

pub returns : goal.returns
returns c = λ event_positions are.
    rw (
      c.in_ok-extend_from_slice-4.ensures.items,
      c.in_ok-extend_from_slice-3.ensures.items,
      c.in_ok-extend_from_slice-2.ensures.items,
      c.in_ok-extend_from_slice.ensures.items,
      c.event_position.ensures,
      are.each c.args.f c.requires,
      c.as_bytes.ensures.value,
    ) (simp append_assoc)
