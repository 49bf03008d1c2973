use Rattle.std.proofs.Common.{MatchOption, sym, subst}
use Rattle.msc_parser.specs.Drafts.{statements_of}
use Rattle.msc_chart.specs.declared.TheConstants.{ACTION_LIMIT}
use Rattle.msc_notes.specs.declared.counting.Sort.TheVariants.{Action}
use Rattle.msc_notes.specs.Faults.{HasNone, IsNth, IsFirstTooMany, IsChartPlace}
use Rattle.msc_notes.proofs.ChartPlaces.{statements_same, nth_inside, first_inside, some_begins}
use Rattle.msc_notes.proofs.chart.place.Goals as goal

pub returns-in-TooManyMessages-clause-stands : goal.returns-in-TooManyMessages-clause-stands
returns-in-TooManyMessages-clause-stands c = λ d.
    let t = c.args.draft.now in let text = c.args.places.now.text in
    let same = statements_same c.args.events.now t.sections c.requires in
    let last = subst (λ ss. MatchOption c.last_message.result (HasNone (IsFirstTooMany ss)) (IsFirstTooMany ss)) same c.last_message.ensures in
    subst (λ f. IsChartPlace text t f c.some_place.result) (sym c.in-TooManyMessages.is)
    (some_begins (IsFirstTooMany (statements_of t.sections)) text t (first_inside (statements_of t.sections)) c.last_message.result c.some_place.result last (c.some_place.ensures.stands t d))

pub returns-in-TooManyActions-clause-stands : goal.returns-in-TooManyActions-clause-stands
returns-in-TooManyActions-clause-stands c = λ d.
    let t = c.args.draft.now in let text = c.args.places.now.text in
    let same = statements_same c.args.events.now t.sections c.requires in
    let last = subst (λ ss. MatchOption c.last_action.result (HasNone (IsNth Action ACTION_LIMIT ss)) (IsNth Action ACTION_LIMIT ss)) same c.last_action.ensures in
    subst (λ f. IsChartPlace text t f c.some_place-in-TooManyActions.result) (sym c.in-TooManyActions.is)
    (some_begins (IsNth Action ACTION_LIMIT (statements_of t.sections)) text t (nth_inside Action ACTION_LIMIT (statements_of t.sections)) c.last_action.result c.some_place-in-TooManyActions.result last (c.some_place-in-TooManyActions.ensures.stands t d))
