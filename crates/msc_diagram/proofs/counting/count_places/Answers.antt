use Rattle.std.proofs.Common.{◌∙◌}
use Rattle.msc_diagram.proofs.counting.count_places.Goals as goal

pub returns : goal.returns
returns g c =
    let known = c.in_ok-answer.ensures in
    (known.cases, known.are, c.counts.ensures ∙ known.counts, known.stale)
