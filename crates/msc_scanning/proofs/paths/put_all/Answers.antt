use Rattle.std.proofs.Common.{◌++◌, ap, refl}
use Rattle.msc_print.proofs.KnownBytes.{Appends-append}
use Rattle.msc_scanning.proofs.Scanned.{appends_kept}
use Rattle.msc_scanning.proofs.paths.put_all.Goals as goal

pub returns : goal.returns
returns g c =
    let contents = g.O.Write.contents in let y = c.in_ok-end.ensures in let page = c.in_ok-page.page.bytes.items in (
      y.0 ++ page,
      (c.in_ok-end.end, y.0, y.1, refl, ap (λ (l : _). y.0 ++ l) c.in_ok-page.ensures),
      appends_kept (contents c.args.output.now) (contents c.write_all.new.self) (contents c.flush.new.self) (y.0 ++ page)
          (Appends-append (contents c.args.output.now) (contents c.put_items.new.output) (contents c.write_all.new.self) y.0 page y.2 (rw c.as_slice.ensures.value at c.in_ok-write_all.ensures.bytes))
          c.in_ok-flush.ensures.bytes,
    )
