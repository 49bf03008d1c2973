-- Each race has one kind.
use Rattle.std.proofs.Common.{◌≡◌, ◌≢◌, ℕ, true, ◌⊎◌, inl, inr, refl, sym, ap, ◌∙◌}
use Rattle.std.proofs.lemmas.Bool.{cases_eq}
use Rattle.msc_chart.specs.Charts.{partner, is_input, is_controlled}
use Rattle.msc_chart.specs.declared.queue.LinkKind.TheVariants.{Single}
use Rattle.msc_chart.specs.declared.queue.Queues.TheVariants.{Uniform}
use Rattle.msc_chart.specs.Drawings.{Drawing, IsAccepted, output_of}
use Rattle.msc_chart.specs.Orders.{WiredChart, IsWired, queue, queue_number, wired, Enforced, IsRace}
use Rattle.msc_chart.proofs.Drawn.{before_parts, controlled_no_input, controlled_or_input, input_parts, partner_of_input}
use Rattle.msc_race.proofs.Runs.Tables.{enforced_told}
use Rattle.msc_reason.specs.declared.cause.RaceKind.{RaceKind}
use Rattle.msc_reason.specs.declared.cause.RaceKind.TheVariants.{Early, Queues, Unordered, Overtaken}
use Rattle.msc_reason.specs.Causes.{IsKindOf, share_queue}
use Rattle.msc_reason.proofs.OnePair.{inputs_differ, queued_before, race_input, share_from, share_parts}

module _ (chart : WiredChart) where
  -- a race whose first event is controlled is of no other kind
  early_alone : (e f : ℕ) → is_controlled chart.events e ≡ true → (other : RaceKind) → IsKindOf chart e f other → other ≡ Early
  early_alone e f c Early h = refl
  early_alone e f c Queues h = absurd (controlled_no_input chart.events e c h.0)
  early_alone e f c Unordered h = absurd (controlled_no_input chart.events e c (share_parts chart e f h.0).0)
  early_alone e f c Overtaken h = absurd (controlled_no_input chart.events e c (share_parts chart e f h.0).0)

  -- nor is one whose first event is an input of another queue
  queues_alone : (e f : ℕ) → is_input chart.events e ≡ true → queue chart e ≢ queue chart f → (other : RaceKind) → IsKindOf chart e f other → other ≡ Queues
  queues_alone e f i apart Early h = absurd (controlled_no_input chart.events e h i)
  queues_alone e f i apart Queues h = refl
  queues_alone e f i apart Unordered h = absurd (apart (share_parts chart e f h.0).2)
  queues_alone e f i apart Overtaken h = absurd (apart (share_parts chart e f h.0).2)

  -- nor is an unordered one
  unordered_alone : (e f : ℕ) → share_queue chart e f ≡ true → (Enforced chart (partner chart.events f) (partner chart.events e) → ⊥) → (other : RaceKind) → IsKindOf chart e f other → other ≡ Unordered
  unordered_alone e f share none Early h = absurd (controlled_no_input chart.events e h (share_parts chart e f share).0)
  unordered_alone e f share none Queues h = absurd (h.1 (share_parts chart e f share).2)
  unordered_alone e f share none Unordered h = refl
  unordered_alone e f share none Overtaken h = absurd (none h.1)

  -- nor is an overtaken one
  overtaken_alone : (e f : ℕ) → share_queue chart e f ≡ true → Enforced chart (partner chart.events f) (partner chart.events e) → (other : RaceKind) → IsKindOf chart e f other → other ≡ Overtaken
  overtaken_alone e f share late Early h = absurd (controlled_no_input chart.events e h (share_parts chart e f share).0)
  overtaken_alone e f share late Queues h = absurd (h.1 (share_parts chart e f share).2)
  overtaken_alone e f share late Unordered h = absurd (h.1 late)
  overtaken_alone e f share late Overtaken h = refl

  -- a kind, and no other
  abbrev pub HasOneKind : ℕ → ℕ → Type 0
  HasOneKind e f = (kind : RaceKind) × IsKindOf chart e f kind × ((other : RaceKind) → IsKindOf chart e f other → other ≡ kind)

  module _ (is_wired : IsWired chart) where
    -- two inputs of one queue are unordered or overtaken
    kind_of_mates : (e f : ℕ) → share_queue chart e f ≡ true → HasOneKind e f
    kind_of_mates e f share =
        let p = share_parts chart e f share in
        let e_below = (input_parts chart.events e p.0).0 in
        let f_below = (input_parts chart.events f p.1).0 in
        elim (enforced_told chart is_wired (partner chart.events f) (partner chart.events e) (is_wired.matched.in_range f f_below) (is_wired.matched.in_range e e_below)) [
          | inl late ↦ (Overtaken, (share, late), overtaken_alone e f share late)
          | inr none ↦ (Unordered, (share, none), unordered_alone e f share none)
        ]

    -- each race has one kind
    pub one_kind : (e f : ℕ) → IsRace chart e f → HasOneKind e f
    one_kind e f race =
        elim (controlled_or_input chart.events e (before_parts chart.events e f race.0).0) [
          | inl c ↦ (Early, c, early_alone e f c)
          | inr i ↦ elim (cases_eq (queue chart e) (queue chart f)) [
            | inl same ↦ kind_of_mates e f (share_from chart e f i (race_input chart e f race) same)
            | inr apart ↦ (Queues, (i, apart), queues_alone e f i apart)
          ]
        ]

    -- an overtaken race is enforced in the other order
    pub overtaken_always : (e f : ℕ) → IsKindOf chart e f Overtaken → Enforced chart f e
    overtaken_always e f h =
        let p = share_parts chart e f h.0 in
        queued_before chart is_wired f e (share_from chart f e p.1 p.0 (sym p.2)) h.1

-- where each message has its own queue, an input of a queue has no other beside it
single_apart : (d : Drawing) → IsAccepted d → IsWired (wired (Uniform Single) d) → (e f : ℕ) → IsRace (wired (Uniform Single) d) e f → share_queue (wired (Uniform Single) d) e f ≡ true → ⊥
unfolding queue queue_number
single_apart d accepted is_wired e f race share =
    let p = share_parts (wired (Uniform Single) d) e f share in
    let messages = accepted.has_messages in
    let output_e = messages.back (partner d.events e) (partner_of_input d.events accepted.matched e p.0) in
    let output_f = messages.back (partner d.events f) (partner_of_input d.events accepted.matched f p.1) in
    let one_e = messages.shared e (input_parts d.events e p.0).0 in
    let one_f = messages.shared f (input_parts d.events f p.1).0 in
    inputs_differ (wired (Uniform Single) d) is_wired e f race.0
    (sym output_e ∙ ap (output_of d) (one_e ∙ p.2 ∙ sym one_f) ∙ output_f)

-- so its races are early or of two queues
pub single_kinds : (d : Drawing) → IsAccepted d → IsWired (wired (Uniform Single) d) → (e f : ℕ) → IsRace (wired (Uniform Single) d) e f
    → (kind : RaceKind) → IsKindOf (wired (Uniform Single) d) e f kind → (kind ≡ Early) ⊎ (kind ≡ Queues)
single_kinds d accepted is_wired e f race Early h = inl refl
single_kinds d accepted is_wired e f race Queues h = inr refl
single_kinds d accepted is_wired e f race Unordered h = absurd (single_apart d accepted is_wired e f race h.0)
single_kinds d accepted is_wired e f race Overtaken h = absurd (single_apart d accepted is_wired e f race h.0)
