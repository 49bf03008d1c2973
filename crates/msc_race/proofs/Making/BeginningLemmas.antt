-- The rows of a beginning of a witness hold what may come next, and what is free of it.
use Rattle.std.proofs.Common.{◌≡◌, ◌≢◌, ℕ, ◌<◌, Bool, true, false, ◌||◌, ◌↔◌, inl, inr, Result, Ok, Err, OnOk, List, [], ◌∷◌, ◌++◌, length, refl, sym, ◌∙◌, subst}
use Rattle.std.proofs.lemmas.Bool.{and_parts, and_from, or_cases, or_left, or_right}
use Rattle.msc_chart.specs.Lists.{occurs, IsLeast}
use Rattle.msc_chart.specs.Charts.{partner}
use Rattle.msc_chart.specs.Orders.{WiredChart, IsWired, queue, IsEnforcedOrder}
use Rattle.msc_chart.specs.Runs.{MayCome, is_waiting, state}
use Rattle.msc_chart.specs.Witness.{IsFree, MayComeFree}
use Rattle.msc_chart.proofs.ListLemmas.{occurs_other}
use Rattle.bit_rows.specs.Rows.{has, IsWithout}
use Rattle.msc_race.specs.Rows.{is_masked}
use Rattle.msc_race.specs.Remainders.{HoldsExactly, IsUnheld, IsPassedOnWith}
use Rattle.msc_race.specs.Fronts.{IsOpenControlled}
use Rattle.msc_race.specs.QueuedRuns.{IsArrived}
use Rattle.msc_race.specs.Beginnings.{HoldsLeft}
use Rattle.msc_race.proofs.Shared.{by_test, clash, occurs-push, first_occurs}
use Rattle.msc_race.proofs.Runs.EventLemmas.{input_below, controlled_parts, controlled_or_input, controlled_no_input, before_parts}
use Rattle.msc_chart.proofs.Waiting.{waiting_parts}
use Rattle.msc_race.proofs.Making.FrontLemmas.{still_in, was_in}
use Rattle.msc_race.proofs.Runs.FreeRuns.{test_of_held}
use Rattle.msc_race.proofs.Runs.FreeFirst.{held_queue}

-- before any event has occurred, a row of all events holds those that are left
pub all_at_first : (row : List ℕ) (P : ℕ → Type 0) → ((y : ℕ) → (has row y ≡ true) ↔ P y) → HoldsLeft row P []
unfolding occurs
all_at_first row P all y = (λ h. ((all y).0 h, refl), λ p. (all y).1 p.0)

-- when x has occurred, it is not left
pub left_after : (old new : List ℕ) (P : ℕ → Type 0) (past : List ℕ) (x : ℕ) → HoldsLeft old P past → IsWithout old new x
    → HoldsLeft new P (past ++ x ∷ [])
left_after old new P past x held without y = (
  λ h.
      let was = was_in old new x without y h in
      let p = (held y).0 was.0 in
      (p.0, occurs_other past x y was.1 ∙ p.1),
  λ p.
      let other : y ≢ x = λ same. clash (occurs-push past x) (subst (λ (z : ℕ). occurs (past ++ x ∷ []) z ≡ false) same p.1) in
      still_in old new x without y ((held y).1 (p.0, sym (occurs_other past x y other) ∙ p.1)) other,
)

-- the least with a property is the least with one that says the same
pub least_same : (P Q : ℕ → Type 0) → ((y : ℕ) → P y ↔ Q y) → (x : ℕ) → IsLeast P x → IsLeast Q x
least_same P Q same x h = record { itself = (same x).0 h.itself; none_below = λ y less q. h.none_below y less ((same y).1 q) }

module _ (chart : WiredChart) (is_wired : IsWired chart) (past left controlled inputs : List ℕ)
    (held : HoldsLeft left (λ y. y < length chart.events) past)
    (opens : (y : ℕ) → (has controlled y ≡ true) ↔ IsOpenControlled chart.events left y)
    (arrived : (y : ℕ) → (has inputs y ≡ true) ↔ IsArrived chart (λ q. state chart q past) y) where
  -- an open controlled event may come next
  controlled_may : (y : ℕ) → IsOpenControlled chart.events left y → MayCome chart past y
  controlled_may y o = record {
    event = (controlled_parts chart.events y o.controlled).0;
    new = ((held y).0 o.remains).1;
    controlled = λ again x drawn. by_test (occurs past x) (λ there. there)
        (λ out. clash ((held x).1 ((before_parts chart.events x y drawn).0, out)) (o.ready x drawn));
    input = λ i. absurd (controlled_no_input chart.events y o.controlled i);
  }

  -- so may an input whose message is the first of its queue
  input_may : (y : ℕ) → IsArrived chart (λ q. state chart q past) y → MayCome chart past y
  input_may y a =
      let below = input_below chart.events y a.input in
      let q : ℕ = queue chart y in
      let first = first_occurs (is_waiting chart q past) past (partner chart.events y) a.first in
      let out = (waiting_parts chart q past (partner chart.events y) first.1).2 in
      record {
        event = below;
        new = subst (λ (z : ℕ). occurs past z ≡ false) (is_wired.matched.to_and_fro y below) out;
        controlled = λ o. absurd (controlled_no_input chart.events y o a.input);
        input = λ again. a.first;
      }

  -- and nothing else may
  may_rows : (y : ℕ) → MayCome chart past y → (has controlled y || has inputs y) ≡ true
  may_rows y may =
      elim (controlled_or_input chart.events y may.event) [
        | inl o ↦ or_left (has controlled y) (has inputs y) ((opens y).1 (record {
          controlled = o;
          remains = (held y).1 (may.event, may.new);
          ready = λ x drawn. by_test (has left x) (λ there. clash (may.controlled o x drawn) ((held x).0 there).1) (λ out. out);
        }))
        | inr i ↦ or_right (has controlled y) (has inputs y) ((arrived y).1 (record { input = i; first = may.input i }))
      ]

  -- what is picked with a mask may come next, and has the property of the mask
  pub picked : (mask : List ℕ) (P : ℕ → Type 0) → HoldsExactly mask P → (y : ℕ)
      → (is_masked controlled inputs mask y ≡ true) ↔ (MayCome chart past y × P y)
  unfolding is_masked
  picked mask P masked y = (
    λ h.
        let both = and_parts _ _ h in
        let p = (masked y).0 both.1 in
        elim (or_cases _ _ both.0) [
          | inl free ↦ (controlled_may y ((opens y).0 free), p)
          | inr input ↦ (input_may y ((arrived y).0 input), p)
        ],
    λ h. and_from _ _ (may_rows y h.0) ((masked y).1 h.1),
  )

module _ (chart : WiredChart) (is_wired : IsWired chart) (order : ℕ → ℕ → Bool) (told : IsEnforcedOrder chart order) (e : ℕ)
    (below : e < length chart.events) (past : List ℕ) where
  -- while an output that is passed on with e is left, the held controlled wait
  pub unheld_free : (t : ℕ) → IsPassedOnWith chart e t → occurs past t ≡ false → (y : ℕ)
      → (MayCome chart past y × IsUnheld chart e y) ↔ MayComeFree chart e past y
  unheld_free t passed out y = (
    λ h. record { may = h.0; free = h.1.0; ready = λ waits. h.1.1 waits.0 },
    λ m. (
      m.may,
      (
        m.free,
        λ held.
            let queues = held_queue chart is_wired order told e below y (test_of_held chart order told e below y held) in
            m.ready (held, (t, passed.0, passed.2 ∙ queues.1, out)),
      ),
    ),
  )

  -- and when none is left, nothing waits
  pub all_free : ((t : ℕ) → IsPassedOnWith chart e t → occurs past t ≡ false → ⊥) → (y : ℕ)
      → (MayCome chart past y × IsFree chart e y) ↔ MayComeFree chart e past y
  all_free none y = (
    λ h. record {
      may = h.0;
      free = h.1;
      ready = λ waits.
          let queues = held_queue chart is_wired order told e below y (test_of_held chart order told e below y waits.0) in
          none waits.1.0 (waits.1.1, queues.0, waits.1.2 ∙ sym queues.1) waits.1.3;
    },
    λ m. (m.may, m.free),
  )

-- a fact of a call that succeeded, from two others
pub on_ok : {A E : Type 0} (r : Result A E) (P Q R : Type 0) → (P → Q → R) → OnOk r P → OnOk r Q → OnOk r R
on_ok (Ok x) P Q R f h k = f h k
on_ok (Err x) P Q R f h k = h
