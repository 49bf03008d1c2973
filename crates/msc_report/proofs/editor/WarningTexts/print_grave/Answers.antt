use Rattle.msc_report.proofs.MadeTexts.{seven_joined}
use Rattle.msc_report.proofs.editor.WarningTexts.print_grave.Goals as goal

pub returns : goal.returns
returns c = λ d event_positions texts are.
    let event_position = rw (c.event_position.ensures, are.each c.args.e c.requires.place_known) at c.in_ok-extend_from_slice.ensures.items in
    let level = rw (c.as_bytes.ensures.value, c.level_word-level.ensures) at c.in_ok-extend_from_slice-3.ensures.items in
    let name = rw c.word-name.ensures at c.in_ok-print_bracketed.ensures in
    seven_joined c.args.page.now.bytes.items _ _ _ _ _ _ _ _ _ _ _ _ _ _
    event_position c.in_ok-extend_from_slice-2.ensures.items level c.in_ok-extend_from_slice-4.ensures.items
    (c.in_ok-print_told_words.ensures d texts) name c.in_ok-extend_from_slice-5.ensures.items
