use Rattle.std.proofs.Common.{ap, ◌∙◌}
use Rattle.msc_mark.specs.ChartComments.{chart_comment}
use Rattle.msc_mark.proofs.after_name.chart_comment.Goals as goal

pub returns : goal.returns
returns c =
    λ ts has. c.comment_of.ensures
    ∙ ap (chart_comment c.args.text.now) (c.as_slice.ensures.value ∙ c.in_ok-tokens.ensures.tokens ts has)
