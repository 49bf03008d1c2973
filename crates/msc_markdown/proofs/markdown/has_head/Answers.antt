use Rattle.std.proofs.Common.{◌∙◌}
use Rattle.msc_mermaid.specs.Mermaid.{is_head}
use Rattle.msc_mermaid.specs.White.{trimmed}
use Rattle.msc_markdown.proofs.PassLemmas.{any_part}
use Rattle.msc_markdown.proofs.markdown.has_head.Goals as goal

pub returns : goal.returns
returns c = c.any_head.ensures ∙ any_part (λ l. is_head (trimmed l)) c.args.parts.now
