-- Every ready run keeps the ready order.
use Rattle.std.proofs.Common.{◌≡◌, ℕ, Bool, true, List, ◌∙◌, sym}
use Rattle.msc_chart.specs.Lists.{occurs, until, IsFirst, Steps}
use Rattle.msc_chart.specs.Charts.{line, partner, is_input}
use Rattle.msc_chart.specs.Orders.{WiredChart, IsWired, queue}
use Rattle.msc_chart.specs.Runs.{MayCome, is_waiting, state}
use Rattle.msc_ready.specs.Readiness.{MayComeReady, ReadyRun, ReadyOrder}
use Rattle.msc_chart.specs.Precedence.{Precedes}
use Rattle.msc_chart.specs.Precedence.Precedes.{drawn, awaited, sent, joined, queued}
use Rattle.msc_ready.proofs.Shared.{clash, step_at, Steps-map, until-within, until-other, first_occurs, before_first_fails, output_below, partner_of_output, taken}

-- the inputs of a queue are on one line
abbrev pub HaveOneLine : WiredChart → Type 0
HaveOneLine chart =
    (r u : ℕ) → is_input chart.events r ≡ true → is_input chart.events u ≡ true
    → queue chart r ≡ queue chart u → line chart.events r ≡ line chart.events u

-- ready steps are steps
pub run_of_ready : (chart : WiredChart) (ready : ℕ → Bool) (past xs : List ℕ)
    → Steps (MayComeReady chart ready) past xs → Steps (MayCome chart) past xs
run_of_ready chart ready past xs steps =
    Steps-map (MayComeReady chart ready) (MayCome chart) (λ before x h. h.may) past xs steps

module _ (chart : WiredChart) (is_wired : IsWired chart) (ready : ℕ → Bool) where
  -- What precedes an event that may come next has occurred, by the rules of the order.
  pub earlier : {fifo : Bool} (e f : ℕ) → Precedes chart ready fifo e f → (past : List ℕ) → ReadyRun chart ready past
      → MayComeReady chart ready past f → occurs past e ≡ true
  earlier e f (drawn h o) past run may = may.may.controlled o e h
  earlier e f (awaited h i l) past run may = may.awaited i l e h
  earlier e f (sent o p) past run may =
      let input : is_input chart.events f ≡ true = rw (← p) (partner_of_output chart.events is_wired.matched e o) in
      let below = output_below chart.events e o in
      let back : partner chart.events f ≡ e = rw (← p) (is_wired.matched.to_and_fro e below) in
      rw (← back) (first_occurs _ _ _ (may.may.input input)).0
  earlier e f (joined {y = m} h k) past run may =
      let at_mid = step_at (MayComeReady chart ready) past m run (earlier m f k past run may) in
      until-within past m e (earlier e m h (until past m) at_mid.0 at_mid.1)
  earlier e f (queued {s = s} {t = t} rule os ot same h p q l) past run may =
      let t_below = output_below chart.events t ot in
      let input : is_input chart.events f ≡ true = rw (← q) (partner_of_output chart.events is_wired.matched t ot) in
      let back : partner chart.events f ≡ t = rw (← q) (is_wired.matched.to_and_fro t t_below) in
      let queues : queue chart f ≡ queue chart t = rw (← q) (is_wired.one_queue t t_below) in
      let is_first : IsFirst (state chart (queue chart f) past) t = rw back at (may.may.input input) in
      let at_t = step_at (MayComeReady chart ready) past t run (first_occurs _ past t is_first).0 in
      let s_there = earlier s t h (until past t) at_t.0 at_t.1 in
      let out = before_first_fails (is_waiting chart (queue chart f) past) past t s is_first s_there in
      rw p at (taken chart (queue chart f) past s os (same ∙ sym queues) out)

  -- so it stands before the event in every ready run
  pub kept : {fifo : Bool} (events : List ℕ) → ReadyRun chart ready events → (e f : ℕ) → Precedes chart ready fifo e f
      → occurs events f ≡ true → occurs (until events f) e ≡ true
  kept events run e f h there =
      let at_f = step_at (MayComeReady chart ready) events f run there in
      earlier e f h (until events f) at_f.0 at_f.1

  -- and not behind it
  pub not_behind : (events : List ℕ) → ReadyRun chart ready events → (e f : ℕ) → ReadyOrder chart ready e f
      → occurs (until events e) f ≡ true → ⊥
  not_behind events run e f h early =
      let there = until-within events e f early in
      clash early (until-other events e f (kept events run e f h there))
