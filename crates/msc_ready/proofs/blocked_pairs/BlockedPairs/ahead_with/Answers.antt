use Rattle.std.proofs.Common.{ℕ, ◌≡◌, ◌<◌, List, length, get_or, sym, ◌∙◌, subst, arith}
use Rattle.msc_chart.specs.Charts.{partner}
use Rattle.msc_chart.specs.Lists.{IsLeast}
use Rattle.msc_race.proofs.Making.LinkLemmas.{any_default}
use Rattle.msc_ready.specs.Held.{ReadyChart, wiring_of, ready_in}
use Rattle.msc_ready.specs.Readiness.{ReadyOrder}
use Rattle.msc_ready.specs.BlockedPairs.{IsAhead}
use Rattle.msc_ready.specs.Views.{HasLeastFirsts, IsLeastFirst}
use Rattle.msc_ready.proofs.Shared.{clash}
use Rattle.msc_ready.proofs.Ahead.{none_first, least_held}
use Rattle.msc_ready.proofs.blocked_pairs.BlockedPairs.ahead_with.Goals as goal

-- the first that is held of an event
own : (r : ReadyChart) (firsts : List ℕ) (h g : ℕ) → HasLeastFirsts r firsts → h < length r.chart.events
    → g ≡ get_or firsts h g → IsLeastFirst r h g
own r firsts h g held below read =
    let each = held.each in
    subst (λ (x : ℕ). IsLeastFirst r h x) (sym (read ∙ any_default firsts h g 0 (omega (arith, each, below)))) (held.least h below)

-- the order of other ends that were asked for
other_ends : (r : ReadyChart) (h f x y : ℕ) → x ≡ partner r.chart.events h → y ≡ partner r.chart.events f
    → ReadyOrder (wiring_of r) (ready_in r) (partner r.chart.events h) (partner r.chart.events f) → ReadyOrder (wiring_of r) (ready_in r) x y
other_ends r h f x y same other stands =
    subst (λ (z : ℕ). ReadyOrder (wiring_of r) (ready_in r) x z) (sym other)
    (subst (λ (z : ℕ). ReadyOrder (wiring_of r) (ready_in r) z (partner r.chart.events f)) (sym same) stands)

-- and the other way round
ends_of : (r : ReadyChart) (h f x y : ℕ) → x ≡ partner r.chart.events h → y ≡ partner r.chart.events f
    → ReadyOrder (wiring_of r) (ready_in r) x y → ReadyOrder (wiring_of r) (ready_in r) (partner r.chart.events h) (partner r.chart.events f)
ends_of r h f x y same other stands =
    subst (λ (z : ℕ). ReadyOrder (wiring_of r) (ready_in r) (partner r.chart.events h) z) other
    (subst (λ (z : ℕ). ReadyOrder (wiring_of r) (ready_in r) z y) same stands)

pub returns-then-g-events : goal.returns-then-g-events
returns-then-g-events c =
    let r = c.self.inside.ready in
    let f : ℕ = c.args.f in
    let h : ℕ = c.args.h in
    let below = rw (← c.self.view_is) at c.requires.h_known in
    let held = own r c.self.inside.firsts.items h c.index-g.result.now c.self.invariant below c.index-g.ensures in
    subst (λ (r : ReadyChart). (x : ℕ) → IsAhead (wiring_of r) (ready_in r) f (x, h) → ⊥) c.self.view_is
    (none_first r f h c.index-g.result.now held (omega (arith, c.if-g-events.true, c.events.ensures)))

pub returns-then-not-holds : goal.returns-then-not-holds
returns-then-not-holds c =
    let r = c.self.inside.ready in
    let f : ℕ = c.args.f in
    let h : ℕ = c.args.h in
    subst (λ (r : ReadyChart). (x : ℕ) → IsAhead (wiring_of r) (ready_in r) f (x, h) → ⊥) c.self.view_is
    (λ x ahead.
    let stands : ReadyOrder (wiring_of r) (ready_in r) c.other_end.result c.other_end-2.result =
    other_ends r h f c.other_end.result c.other_end-2.result (rw c.chart-chart.ensures at c.other_end.ensures.value) (rw c.chart-chart.ensures at c.other_end-2.ensures.value) ahead.1 in
    clash (c.holds.ensures.1 stands) c.if-not-holds.true)

pub returns : goal.returns
returns c =
    let r = c.self.inside.ready in
    let f : ℕ = c.args.f in
    let h : ℕ = c.args.h in
    let below = rw (← c.self.view_is) at c.requires.h_known in
    let held = own r c.self.inside.firsts.items h c.index-g.result.now c.self.invariant below c.index-g.ensures in
    let stands = c.holds.ensures.0 c.if-not-holds.false in
    subst (λ (r : ReadyChart). IsLeast (λ (x : ℕ). IsAhead (wiring_of r) (ready_in r) f (x, h)) c.index-g.result.now) c.self.view_is
    (least_held r f h c.index-g.result.now held (omega (arith, c.if-g-events.false, c.events.ensures))
    (ends_of r h f c.other_end.result c.other_end-2.result (rw c.chart-chart.ensures at c.other_end.ensures.value) (rw c.chart-chart.ensures at c.other_end-2.ensures.value) stands))
