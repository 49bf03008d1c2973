-- What a race lacks is one pair of events.
use Rattle.std.proofs.Common.{◌≡◌, ◌≢◌, ℕ, true, false, ◌⊎◌, ◌↔◌, inl, inr, refl, sym, ap, ◌∙◌, subst}
use Rattle.std.proofs.lemmas.Bool.{and_parts, and_from, eqb-true, eq-eqb, false_from_ne_true}
use Rattle.msc_chart.specs.Charts.{partner, is_input, before}
use Rattle.msc_chart.specs.Orders.{WiredChart, IsWired, queue, Enforced, IsRace}
use Rattle.msc_chart.specs.Orders.Enforced.{drawn, sent, joined, queued}
use Rattle.msc_chart.proofs.Drawn.{before_parts, controlled_no_input, controlled_or_input, input_parts, not_both, partner_of_input}
use Rattle.msc_chart.proofs.ListLemmas.{by_test, clash}
use Rattle.msc_race.proofs.Runs.EventLemmas.{before_differs}
use Rattle.msc_race.proofs.Runs.EnforcedPairs.{into_input}
use Rattle.msc_reason.specs.declared.cause.RaceKind.{RaceKind}
use Rattle.msc_reason.specs.declared.cause.RaceKind.TheVariants.{Early, Queues, Unordered, Overtaken}
use Rattle.msc_reason.specs.Causes.{IsKindOf, share_queue, needed}
use Rattle.msc_reason.specs.Marked.{needed_in}

module _ (chart : WiredChart) where
  -- what the test for inputs of one queue says
  pub share_parts : (e f : ℕ) → share_queue chart e f ≡ true → (is_input chart.events e ≡ true) × (is_input chart.events f ≡ true) × (queue chart e ≡ queue chart f)
  unfolding share_queue
  share_parts e f h =
      let both = and_parts _ _ h in
      let inputs = and_parts _ _ both.0 in
      (inputs.0, inputs.1, eqb-true _ _ both.1)

  -- two inputs of one queue pass it
  pub share_from : (e f : ℕ) → is_input chart.events e ≡ true → is_input chart.events f ≡ true → queue chart e ≡ queue chart f → share_queue chart e f ≡ true
  unfolding share_queue
  share_from e f first second same = and_from _ _ (and_from _ _ first second) (eq-eqb _ _ same)

  -- of two inputs of one queue the output of the first is needed
  pub needed_output : (e f : ℕ) → share_queue chart e f ≡ true → needed chart e f ≡ partner chart.events e
  unfolding needed
  needed_output e f share = rw share refl

  -- otherwise the first event is
  pub needed_itself : (e f : ℕ) → share_queue chart e f ≡ false → needed chart e f ≡ e
  unfolding needed
  needed_itself e f apart = rw apart refl

  -- what a race of a kind needs
  pub needed_by : (e f : ℕ) (kind : RaceKind) → IsKindOf chart e f kind → needed chart e f ≡ needed_in chart.events kind e
  needed_by e f Early h = needed_itself e f (false_from_ne_true _ (λ share. controlled_no_input chart.events e h (share_parts e f share).0))
  needed_by e f Queues h = needed_itself e f (false_from_ne_true _ (λ share. h.1 (share_parts e f share).2))
  needed_by e f Unordered h = needed_output e f h.0
  needed_by e f Overtaken h = needed_output e f h.0

  -- the second event of a race is an input, since what is drawn before another event is enforced
  pub race_input : (e f : ℕ) → IsRace chart e f → is_input chart.events f ≡ true
  race_input e f race =
      elim (controlled_or_input chart.events f (before_parts chart.events e f race.0).1) [
        | inl controlled ↦ absurd (race.1 (drawn race.0 controlled))
        | inr input ↦ input
      ]

  module _ (is_wired : IsWired chart) where
    -- p is the output of f, or is enforced before it
    abbrev pub ReachesOutput : ℕ → ℕ → Type 0
    ReachesOutput p f = (p ≡ partner chart.events f) ⊎ Enforced chart p (partner chart.events f)

    -- an input is enforced after its output
    pub sent_before : (r : ℕ) → is_input chart.events r ≡ true → Enforced chart (partner chart.events r) r
    sent_before r i = sent (partner_of_input chart.events is_wired.matched r i) (is_wired.matched.to_and_fro r (input_parts chart.events r i).0)

    -- inputs of one queue come in the order of their outputs
    pub queued_before : (r u : ℕ) → share_queue chart r u ≡ true → Enforced chart (partner chart.events r) (partner chart.events u) → Enforced chart r u
    queued_before r u share h =
        let p = share_parts r u share in
        let r_below = (input_parts chart.events r p.0).0 in
        let u_below = (input_parts chart.events u p.1).0 in
        queued
        (partner_of_input chart.events is_wired.matched r p.0) (partner_of_input chart.events is_wired.matched u p.1)
        (is_wired.one_queue r r_below ∙ p.2 ∙ sym (is_wired.one_queue u u_below)) h
        (is_wired.matched.to_and_fro r r_below) (is_wired.matched.to_and_fro u u_below)

    -- what is enforced before an input of its queue has its output before that of the other
    output_reaches : (e f : ℕ) → share_queue chart e f ≡ true → Enforced chart e f → ReachesOutput (partner chart.events e) f
    output_reaches e f share h =
        let p = share_parts e f share in
        elim (into_input chart is_wired e f h p.1) [
          | inl same ↦ absurd (not_both chart.events e (rw same (partner_of_input chart.events is_wired.matched f p.1)) p.0)
          | inr other ↦ elim other [
            | inl late ↦ inr (joined (sent_before e p.0) late)
            | inr mate ↦ inr mate.2
          ]
        ]

    -- any other event that is enforced before an input is its output or comes before that
    itself_reaches : (e f : ℕ) → is_input chart.events f ≡ true → share_queue chart e f ≡ false → Enforced chart e f → ReachesOutput e f
    itself_reaches e f input apart h =
        elim (into_input chart is_wired e f h input) [
          | inl same ↦ inl same
          | inr other ↦ elim other [
            | inl late ↦ inr late
            | inr mate ↦ clash (share_from e f mate.0 input mate.1) apart
          ]
        ]

    -- two inputs with one output are one
    pub inputs_differ : (e f : ℕ) → before chart.events e f ≡ true → partner chart.events e ≢ partner chart.events f
    inputs_differ e f b same =
        let p = before_parts chart.events e f b in
        before_differs chart.events e f b
        (sym (is_wired.matched.to_and_fro e p.0) ∙ ap (partner chart.events) same ∙ is_wired.matched.to_and_fro f p.1)

    -- an event is enforced before an input below it exactly where what is needed reaches the input
    pub one_pair : (e f : ℕ) → before chart.events e f ≡ true → is_input chart.events f ≡ true → Enforced chart e f ↔ ReachesOutput (needed chart e f) f
    one_pair e f b input = by_test (share_queue chart e f)
        (λ share. subst (λ (p : ℕ). Enforced chart e f ↔ ReachesOutput p f) (sym (needed_output e f share)) (
          output_reaches e f share,
          λ reaches. elim reaches [ inl same ↦ absurd (inputs_differ e f b same) | inr h ↦ queued_before e f share h ],
        ))
        (λ apart. subst (λ (p : ℕ). Enforced chart e f ↔ ReachesOutput p f) (sym (needed_itself e f apart)) (
          itself_reaches e f input apart,
          λ reaches. elim reaches [
            | inl same ↦ rw same (sent_before f input)
            | inr h ↦ joined h (sent_before f input)
          ],
        ))
