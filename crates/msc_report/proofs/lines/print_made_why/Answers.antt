use Rattle.std.proofs.lemmas.Result.{on_ok_weaker}
use Rattle.msc_report.proofs.MadeTexts.{joined}
use Rattle.msc_report.proofs.lines.print_made_why.Goals as goal

pub returns : goal.returns
returns c = λ d texts.
    on_ok_weaker c.print_placed_pair.result
    (joined c.args.page.now.bytes.items c.print_kind.new.page.bytes.items _ _ _ c.in_ok-print_kind.ensures)
    (c.print_placed_pair.ensures d texts)
