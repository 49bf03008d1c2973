use Rattle.std.proofs.Common.{List, arith, subst}
use Rattle.std.proofs.lemmas.List.{take_all}
use Rattle.msc_links.specs.declared.rule.Rule.{Rule}
use Rattle.msc_links.specs.Tables.{IsTableOf}
use Rattle.msc_links.proofs.Entering.{none_at_all, table_of_none}
use Rattle.msc_links.proofs.rule.table_of.Goals as goal

pub loop-place-init : goal.loop-place-init
loop-place-init c = record {
  faultless = λ k below. absurd (omega arith);
  table = table_of_none c.args.names.now c.empty-table.result c.empty-table.ensures;
}

pub returns : goal.returns
returns c =
    let names = c.args.names.now in
    let rules = c.args.rules.now in
    let past = c.loop-place-test.false in (
      none_at_all names rules c.loop-place.place past c.loop-place.invariant.faultless,
      subst (λ (l : List Rule). IsTableOf names l c.loop-place.table) (take_all c.loop-place.place rules past) c.loop-place.invariant.table,
    )
