use Rattle.std.proofs.Common.{sym, subst}
use Rattle.msc_parser.specs.Parsing.{HasDraft}
use Rattle.msc_place.specs.EventPositions.{AreEventPositions}
use Rattle.msc_place.proofs.event_positions.EventPositions.of.Goals as goal

pub returns-clause-positions : goal.returns-clause-positions
returns-clause-positions c = λ t d.
    let same = c.in_ok-places.ensures in
    rw c.at.ensures (subst (λ text. AreEventPositions text t c.in_ok-positions.positions.items) same (c.in_ok-positions.ensures t (subst (λ text. HasDraft text t) (sym same) d)))
