-- How a chain is found: what a link is good for, and where there is none.
use Rattle.std.proofs.Common.{◌≡◌, ℕ, ◌<◌, ◌≤◌, Bool, true, ◌⊎◌, inl, inr, List, [], ◌∷◌, length, refl, sym, subst, arith}
use Rattle.std.proofs.lemmas.Bool.{cases_lt, false_from_ne_true}
use Rattle.msc_chart.specs.declared.event.ChartEvent.{ChartEvent}
use Rattle.msc_chart.specs.Charts.{partner, is_output, is_controlled, before, IsInTextOrder, IsLineEnd, IsSegmentEnd}
use Rattle.msc_chart.specs.Orders.{WiredChart, IsWired, Enforced, IsEnforcedOrder}
use Rattle.msc_chart.specs.Orders.Enforced.{joined}
use Rattle.msc_chart.proofs.Numbers.{count_below, count-less}
use Rattle.msc_chart.proofs.Drawn.{before_parts, controlled_no_input}
use Rattle.msc_order.specs.Caused.{Caused, IsFollowedBy}
use Rattle.msc_order.specs.Caused.Led.{led, carried, chained}
use Rattle.msc_order.proofs.Drawing.{before_later}
use Rattle.msc_order.proofs.Once.{caused_enforced, once}
use Rattle.msc_reason.specs.Chains.{IsChain, LeadsTo, Step}
use Rattle.msc_reason.specs.Chains.Step.{below, over}
use Rattle.msc_reason.specs.Links.{HasNoLink, IsNextStep, IsMate}

-- what is drawn below an event stands from the end of its segment up to the end of its line
pub drawn_range : (events : List ChartEvent) → IsInTextOrder events → (e start end f : ℕ) → IsSegmentEnd events e start → IsLineEnd events e end
    → before events e f ≡ true → (start ≤ f) × (f < end)
drawn_range events text e start end f s l b =
    let p = before_parts events e f b in
    let later = before_later events text e f b in (
      elim (cases_lt f start) [
        | inl less ↦ let t = s.together f (omega arith) less in absurd (omega (arith, t.1, p.3))
        | inr past ↦ past
      ],
      elim (cases_lt f end) [ inl inside ↦ inside | inr past ↦ absurd (l.past f past p.1 p.2) ],
    )

-- a step is caused
pub step_caused : (events : List ChartEvent) (x y : ℕ) → Step events x y → Caused events x y
step_caused events x y (below b c) = led b c
step_caused events x y (over o p) = carried o p

-- and so is what comes after a step
pub step_more : (events : List ChartEvent) (x z y : ℕ) → Step events x z → IsFollowedBy events z y → Caused events x y
step_more events x z y h (inl same) = subst (λ (w : ℕ). Caused events x w) same (step_caused events x z h)
step_more events x z y h (inr more) = chained (step_caused events x z h) more

-- what is caused begins with a step
pub first_step : (events : List ChartEvent) (x y : ℕ) → Caused events x y → (z : ℕ) × Step events x z × IsFollowedBy events z y
first_step events x y (led b c) = (y, below b c, inl refl)
first_step events x y (carried o p) = (y, over o p, inl refl)
first_step events x y (chained {y = m} h k) =
    let first = first_step events x m h in (
      first.0,
      first.1,
      elim first.2 [
        | inl same ↦ inr (subst (λ (w : ℕ). Caused events w y) (sym same) k)
        | inr more ↦ inr (chained more k)
      ],
    )

module _ (chart : WiredChart) where
  -- what follows is the event itself or enforced after it
  follows_enforced : (z y : ℕ) → IsFollowedBy chart.events z y → (z ≡ y) ⊎ Enforced chart z y
  follows_enforced z y (inl same) = inl same
  follows_enforced z y (inr more) = inr (caused_enforced chart z y more)

  -- where there is no link, what is caused after an event is reached by its message
  pub over_step : (x y : ℕ) → Caused chart.events x y → HasNoLink chart x y → (is_output chart.events x ≡ true) × IsFollowedBy chart.events (partner chart.events x) y
  over_step x y h none = by (first_step chart.events x y h)
    where
      -- the first step is over that message, since one to an event drawn below would be a link
      by : (z : ℕ) × Step chart.events x z × IsFollowedBy chart.events z y → (is_output chart.events x ≡ true) × IsFollowedBy chart.events (partner chart.events x) y
      by (z, below b c, onward) = absurd (none z (b, record { controlled = c; onward = follows_enforced z y onward }))
      by (z, over o p, onward) = (o, subst (λ (w : ℕ). IsFollowedBy chart.events w y) (sym p) onward)

  module _ (is_wired : IsWired chart) where
    -- from a controlled event all that is enforced is caused
    pub controlled_caused : (x y : ℕ) → is_controlled chart.events x ≡ true → Enforced chart x y → Caused chart.events x y
    controlled_caused x y c h =
        elim (once chart is_wired x y h) [
          | inl caused ↦ caused
          | inr more ↦ absurd (controlled_no_input chart.events x c more.1.first)
        ]

    -- a link is a step, and leads on
    pub link_step : (x y z : ℕ) → IsNextStep chart x y z → Step chart.events x z × IsFollowedBy chart.events z y
    link_step x y z link = (
      below link.0 link.1.controlled,
      elim link.1.onward [ inl same ↦ inl same | inr more ↦ inr (controlled_caused z y link.1.controlled more) ],
    )

    -- so what has a link is caused
    pub link_caused : (x y z : ℕ) → IsNextStep chart x y z → Caused chart.events x y
    link_caused x y z link = let step = link_step x y z link in step_more chart.events x z y step.0 step.1

    -- what is enforced and not caused comes by the rule of queues
    pub mate_exists : (e f : ℕ) → Enforced chart e f → (Caused chart.events e f → ⊥) → (u : ℕ) × IsMate chart e f u
    mate_exists e f h none =
        elim (once chart is_wired e f h) [ inl caused ↦ absurd (none caused) | inr more ↦ (more.0, (more.1, more.2)) ]

  module _ (acyclic : (x : ℕ) → Enforced chart x x → ⊥) where
    -- what leads to an event that is caused is a chain, since it has a step
    pub chain_from : (x : ℕ) (steps : List ℕ) (y : ℕ) → Caused chart.events x y → LeadsTo chart.events x steps y → IsChain chart.events x steps y
    chain_from x [] y caused h = absurd (acyclic x (caused_enforced chart x x (subst (λ (z : ℕ). Caused chart.events x z) (sym h) caused)))
    chain_from x (z ∷ steps) y caused h = ((λ none. absurd cc), h)

    -- from a later event of a chain fewer events are enforced after it
    pub fewer_after : (order : ℕ → ℕ → Bool) → IsEnforcedOrder chart order → (x z : ℕ) → x < length chart.events → z < length chart.events
        → Enforced chart x z → count_below (order z) (length chart.events) < count_below (order x) (length chart.events)
    fewer_after order exact x z x_known z_known h =
        count-less (order x) (order z) (length chart.events) z
        (λ k known more. exact.complete x k (joined h (exact.holds z k z_known known more)))
        z_known (exact.complete x z h)
        (false_from_ne_true (order z z) (λ loop. acyclic z (exact.holds z z z_known z_known loop)))
