use Rattle.std.proofs.Common.{◌≡◌, ℕ, true, false, sym, ◌∙◌}
use Rattle.msc_chart.specs.Charts.{is_controlled, is_input}
use Rattle.msc_chart.specs.Orders.{IsRace, WiredChart}
use Rattle.msc_chart.proofs.Drawn.{before_parts, input_not_local}
use Rattle.msc_chart.proofs.KindTests.{input_from_rest}
use Rattle.msc_chart.proofs.ListLemmas.{clash}
use Rattle.msc_race.specs.Views.{wiring_of}
use Rattle.msc_reason.proofs.OnePair.{race_input, share_from}
use Rattle.msc_reason.proofs.lacking.kind_of.Goals as goal

-- where the first event of a race is not controlled, it is an input
first_input : (chart : WiredChart) (e f : ℕ) → IsRace chart e f → is_controlled chart.events e ≡ false → is_input chart.events e ≡ true
first_input chart e f race none = input_from_rest chart.events e (before_parts chart.events e f race.0).0 none

pub is_controlled-requires : goal.is_controlled-requires
is_controlled-requires c = rw c.wiring-wiring.ensures.chart (before_parts c.args.enforced.now.chart.events c.args.e c.args.f c.requires.0).0

pub queue-requires-clause-known : goal.queue-requires-clause-known
queue-requires-clause-known c = rw c.wiring-wiring.ensures.chart (before_parts c.args.enforced.now.chart.events c.args.e c.args.f c.requires.0).0

pub queue-requires-2-clause-known : goal.queue-requires-2-clause-known
queue-requires-2-clause-known c = rw c.wiring-wiring.ensures.chart (before_parts c.args.enforced.now.chart.events c.args.e c.args.f c.requires.0).1

pub other_end-requires : goal.other_end-requires
other_end-requires c = rw c.wiring-wiring.ensures.chart (before_parts c.args.enforced.now.chart.events c.args.e c.args.f c.requires.0).1

pub other_end-requires-2 : goal.other_end-requires-2
other_end-requires-2 c = rw c.wiring-wiring.ensures.chart (before_parts c.args.enforced.now.chart.events c.args.e c.args.f c.requires.0).0

pub queue-requires-clause-message : goal.queue-requires-clause-message
queue-requires-clause-message c =
    let chart = wiring_of c.args.enforced.now in
    let told = rw c.wiring-wiring.ensures.chart at c.is_controlled.ensures in
    rw c.wiring-wiring.ensures.chart (input_not_local chart.events c.args.e (first_input chart c.args.e c.args.f c.requires (sym told ∙ c.if-is_controlled.false)))

pub queue-requires-2-clause-message : goal.queue-requires-2-clause-message
queue-requires-2-clause-message c =
    rw c.wiring-wiring.ensures.chart (input_not_local c.args.enforced.now.chart.events c.args.f (race_input (wiring_of c.args.enforced.now) c.args.e c.args.f c.requires))

pub returns-then-is_controlled-clause-kind : goal.returns-then-is_controlled-clause-kind
returns-then-is_controlled-clause-kind c =
    let told = rw c.wiring-wiring.ensures.chart at c.is_controlled.ensures in
    sym told ∙ c.if-is_controlled.true

pub returns-then-queue-clause-kind : goal.returns-then-queue-clause-kind
returns-then-queue-clause-kind c =
    let chart = wiring_of c.args.enforced.now in
    let told = rw c.wiring-wiring.ensures.chart at c.is_controlled.ensures in
    let one = rw (c.wiring-wiring.ensures.chart, c.wiring-wiring.ensures.queues) at c.queue.ensures in
    let other = rw (c.wiring-wiring.ensures.chart, c.wiring-wiring.ensures.queues) at c.queue-2.ensures in (
      first_input chart c.args.e c.args.f c.requires (sym told ∙ c.if-is_controlled.false),
      λ same. c.if-queue.true (one ∙ same ∙ sym other),
    )

pub returns-then-holds-clause-kind : goal.returns-then-holds-clause-kind
returns-then-holds-clause-kind c =
    let chart = wiring_of c.args.enforced.now in
    let told = rw c.wiring-wiring.ensures.chart at c.is_controlled.ensures in
    let one = rw (c.wiring-wiring.ensures.chart, c.wiring-wiring.ensures.queues) at c.queue.ensures in
    let other = rw (c.wiring-wiring.ensures.chart, c.wiring-wiring.ensures.queues) at c.queue-2.ensures in
    let late = rw (c.other_end.ensures.value, c.other_end-2.ensures.value, c.wiring-wiring.ensures.chart) at c.holds.ensures.exact in
    let first = first_input chart c.args.e c.args.f c.requires (sym told ∙ c.if-is_controlled.false) in (
      share_from chart c.args.e c.args.f first (race_input chart c.args.e c.args.f c.requires) (sym one ∙ c.if-queue.false ∙ other),
      late.0 c.if-holds.true,
    )

pub returns-clause-kind : goal.returns-clause-kind
returns-clause-kind c =
    let chart = wiring_of c.args.enforced.now in
    let told = rw c.wiring-wiring.ensures.chart at c.is_controlled.ensures in
    let one = rw (c.wiring-wiring.ensures.chart, c.wiring-wiring.ensures.queues) at c.queue.ensures in
    let other = rw (c.wiring-wiring.ensures.chart, c.wiring-wiring.ensures.queues) at c.queue-2.ensures in
    let late = rw (c.other_end.ensures.value, c.other_end-2.ensures.value, c.wiring-wiring.ensures.chart) at c.holds.ensures.exact in
    let first = first_input chart c.args.e c.args.f c.requires (sym told ∙ c.if-is_controlled.false) in (
      share_from chart c.args.e c.args.f first (race_input chart c.args.e c.args.f c.requires) (sym one ∙ c.if-queue.false ∙ other),
      λ is. clash (late.1 is) c.if-holds.false,
    )
