use Rattle.std.proofs.Common.{subst}
use Rattle.msc_mark.specs.Named.{AreRows}
use Rattle.msc_mark.proofs.Rows.{all_kept}
use Rattle.msc_mark.proofs.named.NamedEvents.of.Goals as goal

pub invariant_of-result-2 : goal.invariant_of-result-2
invariant_of-result-2 c =
    let keys = c.in_ok-idents.idents.keys in
    let rows = subst (λ ms. AreRows keys ms c.in_ok-rows.rows.items) c.as_slice-2.ensures c.in_ok-rows.ensures in
    all_kept c.args.marks.now c.args.chart.now keys c.in_ok-idents.numbers.items c.in_ok-rows.rows.items c.in_ok-idents.ensures.numbered rows
