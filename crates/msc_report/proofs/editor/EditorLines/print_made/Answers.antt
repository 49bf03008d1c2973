use Rattle.std.proofs.lemmas.Result.{on_ok_weaker}
use Rattle.msc_report.proofs.MadeTexts.{joined}
use Rattle.msc_report.proofs.editor.EditorLines.print_made.Goals as goal

pub returns : goal.returns
returns c = λ d event_positions texts are.
    on_ok_weaker c.print_note.result
    (joined c.args.page.now.bytes.items c.print_grave.new.page.bytes.items _ _ _ (c.in_ok-print_grave.ensures d event_positions texts are))
    (c.print_note.ensures event_positions are)
