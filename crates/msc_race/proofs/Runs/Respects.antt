-- Every run keeps the enforced order.
use Rattle.std.proofs.Common.{◌≡◌, ℕ, true, List, ◌∙◌, sym}
use Rattle.msc_chart.specs.Lists.{occurs, until, IsFirst}
use Rattle.msc_chart.specs.Charts.{partner, is_input}
use Rattle.msc_chart.specs.Orders.{WiredChart, IsWired, queue, Enforced}
use Rattle.msc_chart.specs.Orders.Enforced.{drawn, sent, joined, queued}
use Rattle.msc_chart.specs.Runs.{Run, MayCome, Reverses, is_waiting, state}
use Rattle.msc_race.proofs.Shared.{clash, step_at, until-within, first_occurs, before_first_fails}
use Rattle.msc_race.proofs.Runs.EventLemmas.{output_below, partner_of_output}
use Rattle.msc_chart.proofs.Waiting.{taken}

module _ (chart : WiredChart) (is_wired : IsWired chart) where
  -- What is enforced before an event that may come next has occurred. By the rules of the order: a
  -- controlled event waits for what is drawn before it; the first of a queue has occurred; of two links the
  -- later is taken first, then the run up to the middle; and what stands before the first of a queue
  -- is out of the queue, so its input has occurred.
  pub earlier : (e f : ℕ) → Enforced chart e f → (past : List ℕ) → Run chart past
      → MayCome chart past f → occurs past e ≡ true
  earlier e f (drawn h o) past run may = may.controlled o e h
  earlier e f (sent o p) past run may =
      let input : is_input chart.events f ≡ true = rw (← p) (partner_of_output chart.events is_wired.matched e o) in
      let below = output_below chart.events e o in
      let back : partner chart.events f ≡ e = rw (← p) (is_wired.matched.to_and_fro e below) in
      rw (← back) (first_occurs _ _ _ (may.input input)).0
  earlier e f (joined {y = m} h k) past run may =
      let at_mid = step_at (MayCome chart) past m run (earlier m f k past run may) in
      until-within past m e (earlier e m h (until past m) at_mid.0 at_mid.1)
  earlier e f (queued {s = s} {t = t} os ot same h p q) past run may =
      let t_below = output_below chart.events t ot in
      let input : is_input chart.events f ≡ true = rw (← q) (partner_of_output chart.events is_wired.matched t ot) in
      let back : partner chart.events f ≡ t = rw (← q) (is_wired.matched.to_and_fro t t_below) in
      let queues : queue chart f ≡ queue chart t = rw (← q) (is_wired.one_queue t t_below) in
      let is_first : IsFirst (state chart (queue chart f) past) t = rw back at (may.input input) in
      let at_t = step_at (MayCome chart) past t run (first_occurs _ past t is_first).0 in
      let s_there = earlier s t h (until past t) at_t.0 at_t.1 in
      let out = before_first_fails (is_waiting chart (queue chart f) past) past t s is_first s_there in
      rw p at (taken chart (queue chart f) past s os (same ∙ sym queues) out)

  -- so it stands before the event in every run
  pub kept : (events : List ℕ) → Run chart events → (e f : ℕ) → Enforced chart e f
      → occurs events f ≡ true → occurs (until events f) e ≡ true
  kept events run e f h there =
      let at_f = step_at (MayCome chart) events f run there in
      earlier e f h (until events f) at_f.0 at_f.1

  -- and no run reverses the two
  pub never_reversed : (events : List ℕ) → Run chart events → (e f : ℕ) → Enforced chart e f
      → Reverses events e f → ⊥
  never_reversed events run e f h reverses = clash (kept events run e f h reverses.0) reverses.1
