use Rattle.std.proofs.Common.{List, [], ap, sym, ◌∙◌}
use Rattle.std.proofs.lemmas.Option.{get_or_from_slice_get}
use Rattle.msc_mermaid.specs.declared.statement.Span.{Span}
use Rattle.msc_answer.specs.Linked.{made_name, own_name, shown_name}
use Rattle.msc_answer.proofs.LineNames.{next_names}
use Rattle.msc_answer.proofs.links.names_of.Goals as goal

pub loop-i-preserved : goal.loop-i-preserved
loop-i-preserved c =
    let text = c.args.text.now in let spans = c.args.spans.now in
    rw c.in_ok-push.ensures.items
    (next_names (own_name text spans.names) (shown_name text spans) (made_name c.args.chart.now) c.loop-i.i c.loop-i.names.items
    (record { own = c.own_name.result; shown = c.shown_name.result; made = c.instance_name.result }) c.loop-i.invariant
    (c.own_name.ensures ∙ ap (λ (names : List Span). own_name text names c.loop-i.i) c.as_slice.ensures) c.shown_name.ensures
    (sym (get_or_from_slice_get c.args.chart.now.instances c.loop-i.i c.instance_name.result.now [] c.instance_name.ensures)))
