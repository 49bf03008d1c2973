use Rattle.std.proofs.Common.{sym, ap, ◌∙◌}
use Rattle.msc_parser.specs.declared.tree.Item.TheVariants.{Single, Coregion}
use Rattle.msc_import.specs.Drafting.{drawn_event}
use Rattle.msc_import.specs.Plans.{seen}
use Rattle.msc_import.proofs.DraftLemmas.{item_one, item_many}
use Rattle.msc_import.proofs.drafting.drawn_item.Goals as goal

pub returns-then-events-ne1 : goal.returns-then-events-ne1
returns-then-events-ne1 c =
    ap Coregion c.in_ok-drawn_events.ensures ∙ sym (item_many c.args.names.now c.args.events.now c.if-events-ne1.true)

pub returns : goal.returns
returns c =
    let names = c.args.names.now in
    ap Single (c.in_ok-drawn_event.ensures ∙ ap (λ e. drawn_event names (seen e)) c.index-events-0.is) ∙ sym (item_one names c.args.events.now c.index-events-0.result c.if-events-ne1.false)
