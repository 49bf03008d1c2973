use Rattle.std.proofs.Common.{◌++◌, ◌∙◌, sym}
use Rattle.msc_print.proofs.KnownBytes.{Appends-append}
use Rattle.msc_scanning.specs.Putting.{header}
use Rattle.msc_scanning.proofs.Printed.{shown_put}
use Rattle.msc_scanning.proofs.putting.put_page.Goals as goal

pub returns-clause-put : goal.returns-clause-put
returns-clause-put g c =
    let contents = g.O.Write.contents in let p = c.args.plan in let label = c.args.target.label.now in let shown = c.args.shown in
    let said = c.in_ok-page.page.bytes.items in (
      header p label shown ++ said,
      shown_put p label c.args.queues shown c.args.verdict c.args.page.bytes.items said (sym c.is_shown.ensures ∙ c.if-not-is_shown.false) c.in_ok-page.ensures,
      Appends-append (contents c.args.output.now) (contents c.put_header.new.output) (contents c.write_all.new.self) (header p label shown) said
          c.in_ok-put_header.ensures (rw c.as_slice.ensures.value at c.in_ok-write_all.ensures.bytes),
    )
