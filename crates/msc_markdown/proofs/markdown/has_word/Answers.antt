use Rattle.std.proofs.Common.{◌∙◌}
use Rattle.msc_markdown.specs.declared.seeking.Sought.TheVariants.{Diagram}
use Rattle.msc_markdown.specs.Seeking.{holds}
use Rattle.msc_markdown.proofs.PassLemmas.{any_part}
use Rattle.msc_markdown.proofs.markdown.has_word.Goals as goal

pub returns : goal.returns
returns c = c.any_word.ensures ∙ any_part (holds Diagram) c.args.parts.now
