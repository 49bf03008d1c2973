use Rattle.msc_mermaid.specs.Parts.{stretch}
use Rattle.msc_markdown.proofs.PassLemmas.{own_view}
use Rattle.msc_markdown.proofs.markdown.own_parts.Goals as goal

pub returns : goal.returns
returns c =
    own_view stretch c.args.parts.now c.first_parts.result.now c.parts_behind-rest.result.now c.args.start c.args.others.now c.next_line-past.result c.saturating_sub.result c.saturating_sub-2.result c.next_line-past.ensures c.saturating_sub.ensures c.saturating_sub-2.ensures c.parts_behind-rest.ensures c.first_parts.ensures
