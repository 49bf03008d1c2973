use Rattle.std.proofs.Common.{◌∙◌, List, ap, map, refl}
use Rattle.msc_scanning.specs.Scans.{has_input, items_in, plain_item}
use Rattle.msc_scanning.specs.declared.files.Item.{Item}
use Rattle.msc_scanning.specs.Words.{words_in}
use Rattle.msc_scanning.proofs.Scanned.{lent_read, scanned}
use Rattle.msc_scanning.proofs.paths.scan_all.Goals as goal

pub returns-clause-scanned : goal.returns-clause-scanned
returns-clause-scanned g c =
    let x = c.args.args in let rest = g.I.Read.remaining c.args.input.now in let left = g.I.Read.remaining c.read_input.new.input in
    scanned g.O.Write.contents x rest left (record { args = x; architectures = c.as_slice.result }) refl (c.as_slice.ensures.value ∙ c.in_ok-architectures.ensures)
    c.lent_input.result (lent_read c.in_ok-read.read c.lent_input.result c.lent_input.ensures (has_input (words_in x.paths.now)) rest left c.in_ok-read.ensures.read)
    c.in_ok-all.all.items c.in_ok-all.ensures c.as_slice-3.result.now
    (ap (λ (l : List Item). map plain_item l) c.as_slice-3.ensures.value ∙ (c.in_ok-items.ensures ∙ ap (items_in (words_in x.paths.now)) c.as_slice-2.ensures.value))
    c.put_all.result c.args.output.now c.put_all.new.output c.put_all.ensures
