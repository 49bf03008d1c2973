use Rattle.std.proofs.Common.{◌∙◌, sym}
use Rattle.msc_markdown.specs.declared.seeking.Sought.TheVariants.{Diagram}
use Rattle.msc_markdown.specs.Seeking.{holds}
use Rattle.msc_markdown.proofs.PassLemmas.{any_view}
use Rattle.msc_markdown.proofs.markdown.lines_have_word.Goals as goal

-- the test of lines is that of their bytes
pub returns : goal.returns
returns c = c.any_line_has_word.ensures ∙ sym (any_view (holds Diagram) (λ l. l.now) c.args.lines.now)
