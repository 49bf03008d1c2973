use Rattle.std.proofs.Common.{◌≡◌, ℕ, None, true}
use Rattle.msc_chart.specs.Lists.{occurs}
use Rattle.msc_race.specs.Short.{MayComeFor}
use Rattle.msc_race.specs.Shortenings.{events_of}
use Rattle.msc_race.specs.Views.{wiring_of}
use Rattle.msc_race.proofs.Shared.{by_test, clash}
use Rattle.msc_race.proofs.Pasts.ShortWitnesses.{never_needed, short_steps}
use Rattle.msc_race.proofs.Pasts.ShortSteps.{short_less}
use Rattle.msc_race.proofs.enforced.Enforced.needed_run.Goals as goal

pub occur-requires-clause-next : goal.occur-requires-clause-next
occur-requires-clause-next c = c.in-Some.ensures.some _ c.loop-x.invariant

pub loop-x-smaller : goal.loop-x-smaller
loop-x-smaller c =
    let next = c.in-Some.ensures.some _ c.loop-x.invariant in
    short_less (wiring_of c.args.self.now) c.args.f (events_of c.loop-x.shortening) (events_of c.occur.new.self) c.in-Some.x
    (rw (c.wiring.ensures.chart, c.wiring.ensures.queues) at next) c.in_ok-occur.ensures.run

pub returns-then-lacks : goal.returns-then-lacks
returns-then-lacks c =
    let none : c.next.result ≡ None = search in
    let chart = wiring_of c.args.self.now in
    let events = events_of c.loop-x.shortening in
    let steps = c.loop-x.invariant.kept.steps in
    let last = rw none at (c.next.ensures.none _ c.loop-x.invariant) in
    let stuck : (y : ℕ) → MayComeFor chart c.args.f events y → ⊥ = rw (c.wiring.ensures.chart, c.wiring.ensures.queues) at last in
    never_needed chart c.args.f events (rw (c.wiring.ensures.chart, c.wiring.ensures.queues) at steps) (λ x next. stuck x next.itself)
    (c.lacks.ensures.0 c.if-lacks.true)

pub returns : goal.returns
returns c =
    let self = c.args.self.now in
    let chart = wiring_of self in
    let events = events_of c.loop-x.shortening in
    let steps = rw (c.wiring.ensures.chart, c.wiring.ensures.queues) at c.loop-x.invariant.kept.steps in
    let there : occurs events c.args.f ≡ true = by_test (occurs events c.args.f) (λ h. h) (λ out. clash (c.lacks.ensures.1 out) c.if-lacks.false) in
    let all = c.what_is_enforced_is_needed.ensures self.queues self.chart c.facts.ensures.chart events (short_steps chart c.args.f events steps) c.args.f there in
    rw c.into_run.ensures (steps, all)
