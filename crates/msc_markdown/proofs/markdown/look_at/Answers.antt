use Rattle.std.proofs.Common.{sym, ap, ◌∙◌}
use Rattle.msc_mermaid.specs.declared.ahead.Ahead.TheVariants.{Start}
use Rattle.msc_markdown.specs.Markdowns.{look}
use Rattle.msc_markdown.proofs.PassLemmas.{bytes_view}
use Rattle.msc_markdown.proofs.markdown.look_at.Goals as goal

pub returns : goal.returns
returns c = c.look_on.ensures ∙ ap (look Start) (sym (bytes_view c.args.parts.now))
