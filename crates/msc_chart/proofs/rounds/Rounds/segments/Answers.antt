use Rattle.std.proofs.Common.{ℕ, ◌+◌, ◌-◌, ap, ◌∙◌}
use Rattle.msc_chart.specs.Charts.{segment}
use Rattle.msc_chart.specs.Rounds.{segments_of}
use Rattle.msc_chart.proofs.rounds.Rounds.segments.Goals as goal

pub returns-clause-value : goal.returns-clause-value
unfolding segments_of
returns-clause-value c =
    ap (λ (x : ℕ). x + 1) (c.segment.ensures ∙ ap (λ (p : ℕ). segment c.args.self.now.chart.now.events (p - 1)) c.span.ensures.past)
