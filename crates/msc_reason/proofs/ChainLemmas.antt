-- Chains of steps, and what they show of the enforced order.
use Rattle.std.proofs.Common.{◌≡◌, ◌≢◌, ℕ, ◌⊎◌, inl, inr, List, [], ◌∷◌, ◌++◌, refl, sym, subst}
use Rattle.msc_chart.specs.declared.event.ChartEvent.{ChartEvent}
use Rattle.msc_chart.specs.Charts.{partner}
use Rattle.msc_chart.specs.Orders.{WiredChart, IsWired, Enforced}
use Rattle.msc_chart.specs.Orders.Enforced.{drawn, sent, joined}
use Rattle.msc_order.specs.Caused.{Caused, IsFollowedBy}
use Rattle.msc_order.specs.Caused.Led.{led, carried, chained}
use Rattle.msc_order.proofs.Once.{once}
use Rattle.msc_reason.specs.declared.why.Why.{Why}
use Rattle.msc_reason.specs.declared.why.Why.TheVariants.{Straight, ByQueue}
use Rattle.msc_reason.specs.Chains.{Step, LeadsTo, IsChain, IsWhy}
use Rattle.msc_reason.specs.Chains.Step.{below, over}
use Rattle.msc_reason.specs.Rules.{IsChosenStep, LeadsByRule}
use Rattle.msc_reason.proofs.OnePair.{queued_before, share_from}

-- what leads to an event, and on from there, leads all the way
pub leads_on : (events : List ChartEvent) (x : ℕ) (steps : List ℕ) (y : ℕ) (more : List ℕ) (z : ℕ) → LeadsTo events x steps y → LeadsTo events y more z → LeadsTo events x (steps ++ more) z
leads_on events x [] y more z h k = subst (λ (w : ℕ). LeadsTo events w more z) (sym h) k
leads_on events x (s ∷ steps) y more z h k = (h.0, leads_on events s steps y more z h.1 k)

-- a chain that is chosen goes on by a chosen step
pub rule_on : (chart : WiredChart) (y x : ℕ) (steps : List ℕ) (z next : ℕ) → LeadsByRule chart y x steps z → IsChosenStep chart z y next
    → LeadsByRule chart y x (steps ++ next ∷ []) next
rule_on chart y x [] z next h step = (subst (λ (w : ℕ). IsChosenStep chart w y next) (sym h) step, refl)
rule_on chart y x (s ∷ steps) z next h step = (h.0, rule_on chart y s steps z next h.1 step)

-- a list with something before another one is not empty
some_first : (xs ys : List ℕ) → xs ≢ [] → (xs ++ ys) ≢ []
some_first [] ys some none = some refl
some_first (x ∷ xs) ys some none = absurd cc

-- what is caused has a chain
pub caused_chain : (events : List ChartEvent) (x y : ℕ) → Caused events x y → (steps : List ℕ) × IsChain events x steps y
caused_chain events x y (led b c) = (y ∷ [], ((λ none. absurd cc), (below b c, refl)))
caused_chain events x y (carried o p) = (y ∷ [], ((λ none. absurd cc), (over o p, refl)))
caused_chain events x y (chained {y = m} h k) =
    let first = caused_chain events x m h in
    let second = caused_chain events m y k in
    (first.0 ++ second.0, (some_first first.0 second.0 first.1.0, leads_on events x first.0 m second.0 y first.1.1 second.1.1))

module _ (chart : WiredChart) where
  -- a step is enforced
  pub step_enforced : (x y : ℕ) → Step chart.events x y → Enforced chart x y
  step_enforced x y (below b c) = drawn b c
  step_enforced x y (over o p) = sent o p

  -- what leads from x to y shows that y is x or enforced after it
  pub leads_enforced : (x : ℕ) (steps : List ℕ) (y : ℕ) → LeadsTo chart.events x steps y → (x ≡ y) ⊎ Enforced chart x y
  leads_enforced x [] y h = inl h
  leads_enforced x (z ∷ steps) y h =
      elim (leads_enforced z steps y h.1) [
        | inl same ↦ inr (subst (λ (w : ℕ). Enforced chart x w) same (step_enforced x z h.0))
        | inr more ↦ inr (joined (step_enforced x z h.0) more)
      ]

  -- a chain shows that it is
  pub chain_enforced : (x : ℕ) (steps : List ℕ) (y : ℕ) → IsChain chart.events x steps y → Enforced chart x y
  chain_enforced x [] y h = absurd (h.0 refl)
  chain_enforced x (z ∷ steps) y h =
      elim (leads_enforced z steps y h.1.1) [
        | inl same ↦ subst (λ (w : ℕ). Enforced chart x w) same (step_enforced x z h.1.0)
        | inr more ↦ joined (step_enforced x z h.1.0) more
      ]

  module _ (is_wired : IsWired chart) where
    -- what shows that e is enforced before f is right
    pub why_enough : (e f : ℕ) (why : Why) → IsWhy chart e f why → Enforced chart e f
    why_enough e f (Straight steps) h = chain_enforced e steps f h
    why_enough e f (ByQueue u outputs onward) h =
        let mates = queued_before chart is_wired e u h.mates (chain_enforced (partner chart.events e) outputs (partner chart.events u) h.chain) in
        elim (leads_enforced u onward f h.rest) [
          | inl same ↦ subst (λ (w : ℕ). Enforced chart e w) same mates
          | inr more ↦ joined mates more
        ]

    -- what an input leads on to, itself or what is caused after it
    follows_leads : (u f : ℕ) → IsFollowedBy chart.events u f → (steps : List ℕ) × LeadsTo chart.events u steps f
    follows_leads u f (inl same) = ([], same)
    follows_leads u f (inr more) = let chain = caused_chain chart.events u f more in (chain.0, chain.1.1)

    -- and there is one wherever it is enforced
    pub why_exists : (e f : ℕ) → Enforced chart e f → (why : Why) × IsWhy chart e f why
    why_exists e f h =
        elim (once chart is_wired e f h) [
          | inl straight ↦ let chain = caused_chain chart.events e f straight in (Straight chain.0, chain.1)
          | inr by ↦
              let u : ℕ = by.0 in
              let outputs = caused_chain chart.events (partner chart.events e) (partner chart.events u) by.1.outputs in
              let onward = follows_leads u f by.2 in (
                ByQueue u outputs.0 onward.0,
                record {
                  mates = share_from chart e u by.1.first by.1.second by.1.one_queue;
                  chain = outputs.1;
                  rest = onward.1;
                },
              )
        ]
