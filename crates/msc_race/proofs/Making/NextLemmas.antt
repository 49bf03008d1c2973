-- Which mask the next event of a witness is picked with.
use Rattle.std.proofs.Common.{◌≡◌, ℕ, ◌<◌, false, ◌↔◌, inl, inr, List, Option, None, Some, IfNone}
use Rattle.std.specs.Prelude.{IsTrue}
use Rattle.msc_chart.specs.Lists.{occurs, IsLeast}
use Rattle.msc_chart.specs.Orders.{IsWired}
use Rattle.msc_chart.specs.Runs.{MayCome, IsWhole}
use Rattle.msc_chart.specs.Witness.{IsFree, IsWitnessNext, MayComeFree, SomeFreeLeft}
use Rattle.msc_order.specs.Tables.{orders}
use Rattle.msc_race.specs.declared.choosing.Choice.{Choice}
use Rattle.msc_race.specs.declared.beginning.Beginning.{Beginning}
use Rattle.msc_race.specs.Rows.{is_masked}
use Rattle.msc_race.specs.Choices.{wired_chart, event_count, IsChoice}
use Rattle.msc_race.specs.Laws.{WitnessesGoOn, WitnessStepsAreARun, NoRunIsStuck}
use Rattle.msc_race.specs.Remainders.{HoldsExactly, IsUnheld}
use Rattle.msc_race.specs.Beginnings.{run_of, HaveCommon, IsBeginning}
use Rattle.msc_race.proofs.Making.ChoiceLemmas.{iff_trans}
use Rattle.msc_race.proofs.Making.BeginningLemmas.{all_free, least_same, picked, unheld_free}

-- where nothing is there, what follows from that
pub IfNone_then : (r : Option ℕ) {P Q : Type 0} → IfNone r P → (P → Q) → IfNone r Q
IfNone_then None h f = f h
IfNone_then (Some x) h f = h

module _ (choice : Choice) (b : Beginning) where
  -- an event that may come next is picked with the mask
  abbrev pub is_picked : List ℕ → ℕ → Type 0
  is_picked mask y = IsTrue (is_masked b.lines.controlled b.queued.inputs mask y)

  -- the least event that is picked with the mask is the next one, and where none is, the run is
  -- whole
  pub record IsMask (mask : List ℕ) : Type 0 where
    pub next : (x : ℕ) → IsLeast (is_picked mask) x → IsWitnessNext (wired_chart choice) choice.e (run_of b) x
    pub whole : ((y : ℕ) → is_picked mask y → ⊥) → IsWhole (wired_chart choice) (run_of b)

  module _ (settled : IsChoice choice) (kept : IsBeginning choice b) (is_wired : IsWired (wired_chart choice)) where
    -- what is picked may come next, and has the property of the mask
    picks_of : (mask : List ℕ) (P : ℕ → Type 0) → HoldsExactly mask P → (y : ℕ)
        → is_picked mask y ↔ (MayCome (wired_chart choice) (run_of b) y × P y)
    picks_of =
        picked (wired_chart choice) is_wired (run_of b) b.lines.left.items b.lines.controlled b.queued.inputs
        kept.left kept.lines.controlled kept.queues.inputs

    -- an event of the rows is left where it is in the row of those
    free_left : HaveCommon b.remaining.free.items b.lines.left.items → SomeFreeLeft (wired_chart choice) choice.e (run_of b)
    free_left some = (some.0, (kept.told.free some.0).0 some.1, ((kept.left some.0).0 some.2).1)

    -- with no free event left, the mask is all that is left
    pub mask_of_all : WitnessStepsAreARun → NoRunIsStuck → (HaveCommon b.remaining.free.items b.lines.left.items → ⊥)
        → IsMask b.lines.left.items
    mask_of_all steps stuck none =
        let chart = wired_chart choice in
        let past = run_of b in
        let same = picks_of b.lines.left.items (λ y. (y < event_count choice) × (occurs past y ≡ false)) kept.left in
        let run = steps choice.wiring.queues choice.wiring.chart.now choice.e past kept.steps in
        record {
          next = λ x least. inr (
            λ some. none (some.0, (kept.told.free some.0).1 some.1, (kept.left some.0).1 (some.1.0, some.2)),
            least_same (is_picked b.lines.left.items) (MayCome chart past) (λ y. iff_trans (same y) (λ m. m.0, λ m. (m, (m.event, m.new)))) x least,
          );
          whole = λ nothing. elim (stuck choice.wiring.queues choice.wiring.chart.now settled.accepted past run) [
            | inl whole ↦ whole
            | inr next ↦ absurd (nothing next.0 ((same next.0).1 (next.1, (next.1.event, next.1.new))))
          ];
        }

    -- with a free event left, the mask holds those that do not wait
    mask_of_free : WitnessesGoOn → HaveCommon b.remaining.free.items b.lines.left.items → (mask : List ℕ) (P : ℕ → Type 0) → HoldsExactly mask P
        → ((y : ℕ) → (MayCome (wired_chart choice) (run_of b) y × P y) ↔ MayComeFree (wired_chart choice) choice.e (run_of b) y)
        → IsMask mask
    mask_of_free goes_on some mask P held ready =
        let chart = wired_chart choice in
        let past = run_of b in
        let same = picks_of mask P held in
        record {
          next = λ x least. inl (
            free_left some,
            least_same (is_picked mask) (MayComeFree chart choice.e past) (λ y. iff_trans (same y) (ready y)) x least,
          );
          whole = λ nothing.
              let next = goes_on choice.wiring.queues choice.wiring.chart.now settled.accepted choice.e settled.known past kept.steps (free_left some) in
              absurd (nothing next.0 ((same next.0).1 ((ready next.0).1 next.1)));
        }

    -- while an output to the queue of e that is passed on is left, these are the events that are
    -- not held
    pub mask_of_unheld : WitnessesGoOn → HaveCommon b.remaining.free.items b.lines.left.items → HaveCommon b.remaining.passed.items b.lines.left.items
        → IsMask b.remaining.unheld.items
    mask_of_unheld goes_on some passed =
        let chart = wired_chart choice in
        let past = run_of b in
        let t : ℕ = passed.0 in
        mask_of_free goes_on some b.remaining.unheld.items (IsUnheld chart choice.e) kept.told.unheld
        (unheld_free chart is_wired (orders choice.order.now) settled.enforced choice.e settled.known past t
        ((kept.told.passed t).0 passed.1) ((kept.left t).0 passed.2).1)

    -- and when none is left, all free events
    pub mask_of_rest : WitnessesGoOn → HaveCommon b.remaining.free.items b.lines.left.items → (HaveCommon b.remaining.passed.items b.lines.left.items → ⊥)
        → IsMask b.remaining.free.items
    mask_of_rest goes_on some none =
        let chart = wired_chart choice in
        let past = run_of b in
        mask_of_free goes_on some b.remaining.free.items (IsFree chart choice.e) kept.told.free
        (all_free chart is_wired (orders choice.order.now) settled.enforced choice.e settled.known past
        (λ t passed out. none (t, (kept.told.passed t).1 passed, (kept.left t).1 (passed.0.1.0, out))))
