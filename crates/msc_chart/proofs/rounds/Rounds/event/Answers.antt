use Rattle.std.proofs.Common.{ap, ◌∙◌, refl}
use Rattle.msc_chart.specs.Charts.{line, kind}
use Rattle.msc_chart.specs.Rounds.{repeated_event, segment_in, subject_in}
use Rattle.msc_chart.proofs.Drawn.{local_is}
use Rattle.msc_chart.proofs.RoundParts.{same_event}
use Rattle.msc_chart.proofs.rounds.Rounds.event.Goals as goal

pub returns : goal.returns
unfolding repeated_event segment_in subject_in
returns c =
    let events = c.args.self.now.chart.now.events in
    let here = c.place-e.ensures.event in
    let round = c.place-e.ensures.round in
    let acting = local_is events c.place-e.result.0 c.place-e.ensures.known in
    same_event (c.instance_of.ensures ∙ ap (line events) here)
    (rw (c.segments.ensures.value, c.segment.ensures, here, round) refl)
    (c.kind.ensures ∙ ap (kind events) here)
    (rw (c.number.ensures.value, c.other_end.ensures.value, here, round) refl)
    (rw (c.subject.ensures, ← acting, here, round, c.requires.locals) refl)
