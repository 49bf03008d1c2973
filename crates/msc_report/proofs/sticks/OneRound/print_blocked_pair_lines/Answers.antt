use Rattle.std.proofs.lemmas.Result.{on_ok_weaker}
use Rattle.msc_report.proofs.MadeTexts.{joined}
use Rattle.msc_report.proofs.sticks.OneRound.print_blocked_pair_lines.Goals as goal

pub returns : goal.returns
returns c =
    let d = c.args.self.now.chart.now in
    let made = c.args.self.now.made in
    let needs = rw (c.other_end-s.ensures.value, c.other_end-t.ensures.value) at (c.print_placed_pair.ensures d made) in
    on_ok_weaker c.print_placed_pair.result
    (joined c.args.page.now.bytes.items c.print_told_pair.new.page.bytes.items _ _ _ (c.in_ok-print_told_pair.ensures d made))
    needs
