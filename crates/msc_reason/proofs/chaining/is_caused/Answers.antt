use Rattle.std.proofs.Common.{◌≡◌, ℕ, true, false, ◌↔◌, refl, sym, ◌∙◌}
use Rattle.std.specs.Prelude.{Option, None, Some, MatchOption}
use Rattle.std.specs.Option.{is_some}
use Rattle.msc_chart.specs.Charts.{is_controlled}
use Rattle.msc_chart.specs.Orders.{WiredChart, IsWired}
use Rattle.msc_chart.proofs.Drawn.{output_controlled}
use Rattle.msc_chart.proofs.ListLemmas.{clash}
use Rattle.msc_order.specs.Caused.{Caused}
use Rattle.msc_order.proofs.Once.{caused_enforced}
use Rattle.msc_race.specs.Views.{wiring_of}
use Rattle.msc_reason.specs.Links.{HasNoLink}
use Rattle.msc_reason.specs.Rules.{IsLastLink}
use Rattle.msc_reason.proofs.Walking.{controlled_caused, link_caused, over_step}
use Rattle.msc_reason.proofs.chaining.is_caused.Goals as goal

pub returns-then-is_controlled : goal.returns-then-is_controlled
returns-then-is_controlled c =
    let chart = wiring_of c.args.enforced.now in
    let is_wired = c.ends_share_queues.ensures c.args.enforced.now.queues c.args.enforced.now.chart c.facts.ensures.chart in
    let told = rw c.chart.ensures at c.is_controlled.ensures in (
      λ holds. controlled_caused chart is_wired c.args.x c.args.y (sym told ∙ c.if-is_controlled.true) (c.holds.ensures.exact.0 holds),
      λ caused. c.holds.ensures.exact.1 (caused_enforced chart c.args.x c.args.y caused),
    )

-- an event that is not controlled is caused before another exactly where a link was found
told : (chart : WiredChart) → IsWired chart → (x y : ℕ) → is_controlled chart.events x ≡ false
    → (link : Option ℕ) → MatchOption link (HasNoLink chart x y) (IsLastLink chart x y)
    → (is_some link ≡ true) ↔ Caused chart.events x y
told chart is_wired x y none None h = (
  λ no. clash no refl,
  λ caused. clash (output_controlled chart.events x (over_step chart x y caused h).0) none,
)
told chart is_wired x y none (Some z) h = (λ yes. link_caused chart is_wired x y z h.0, λ caused. refl)

pub returns : goal.returns
returns c =
    let is_wired = c.ends_share_queues.ensures c.args.enforced.now.queues c.args.enforced.now.chart c.facts.ensures.chart in
    let is = rw c.chart.ensures at c.is_controlled.ensures in
    rw c.is_some.ensures (told (wiring_of c.args.enforced.now) is_wired c.args.x c.args.y (sym is ∙ c.if-is_controlled.false)
    c.last_link.result c.last_link.ensures)
