use Rattle.std.proofs.Common.{◌++◌, ◌∙◌, sym}
use Rattle.msc_print.proofs.KnownBytes.{Appends-append}
use Rattle.msc_scanning.specs.Putting.{header}
use Rattle.msc_scanning.proofs.Printed.{plain_said, shown_put}
use Rattle.msc_scanning.proofs.putting.stream_verdict.Goals as goal

pub returns-in-Ok-clause-printed : goal.returns-in-Ok-clause-printed
returns-in-Ok-clause-printed g c =
    let contents = g.O.Write.contents in let p = c.args.plan in let label = c.args.target.label.now in let shown = c.args.shown in
    let y = rw c.printing-words.ensures at c.in-Ok.ensures in
    let plain = sym c.is_plain.ensures ∙ c.if-not-is_plain.false in (
      header p label shown ++ y.0,
      (y.0, y.1, shown_put p label c.args.queues shown c.in-Ok.verdict y.0 y.0 (sym c.if-is_shown.ensures) (plain_said p c.args.queues y.0 plain)),
      Appends-append (contents c.args.output.now) (contents c.put_header.new.output) (contents c.check_under.new.output) (header p label shown) y.0
          c.in_ok-put_header.ensures y.2,
    )
