use Rattle.std.proofs.Common.{◌∙◌, ◌≤◌, length, arith}
use Rattle.msc_chart.specs.declared.TheConstants.{EVENT_LIMIT}
use Rattle.msc_answer.proofs.LineEvents.{draws_chart, first_here, known_event, none_here}
use Rattle.msc_answer.proofs.naming.event_at_line.Goals as goal

pub overflow_cast-result : goal.overflow_cast-result
overflow_cast-result c =
    let s = c.args.source.now in
    let first = first_here s _ c.args.line c.in-Some.e (c.in_ok-places.ensures ∙ c.text.ensures) c.in-Some.ensures in
    let known = known_event s.text s.chart (draws_chart s c.requires c.facts.ensures) c.args.line c.in-Some.e first in
    let few : length s.chart.events ≤ EVENT_LIMIT = rw c.chart.ensures at c.facts-2.ensures.few_events in
    omega (arith, known, few)

pub returns-in-Some : goal.returns-in-Some
returns-in-Some c =
    let s = c.args.source.now in
    let first = first_here s _ c.args.line c.in-Some.e (c.in_ok-places.ensures ∙ c.text.ensures) c.in-Some.ensures in
    (known_event s.text s.chart (draws_chart s c.requires c.facts.ensures) c.args.line c.in-Some.e first, first)

pub returns : goal.returns
returns c = none_here c.args.source.now _ c.args.line (c.in_ok-places.ensures ∙ c.text.ensures) c.in-None.ensures
