-- The clocks of an execution rise along each log.
use Rattle.std.proofs.Common.{◌≡◌, ℕ, suc, ◌<◌, ◌≤◌, max, true, false, List, [], ◌∷◌, ◌++◌, length, get_or, refl, sym, ap, subst, ◌∙◌, append_assoc, arith}
use Rattle.std.proofs.lemmas.Bool.{false_from_ne_true}
use Rattle.std.proofs.lemmas.List.{append-nil}
use Rattle.msc_chart.specs.Orders.{WiredChart, queue}
use Rattle.msc_chart.specs.Charts.{line, partner, is_output, is_input, is_local}
use Rattle.msc_chart.specs.Lists.{Steps, occurs, until}
use Rattle.msc_chart.proofs.ListLemmas.{by_test, clash, parts, step_at, until-within, Steps-parts}
use Rattle.msc_chart.proofs.Drawn.{not_both, output_not_local, input_not_local}
use Rattle.msc_gather.specs.Schedule.{log_of, is_logged, IsSeated}
use Rattle.msc_gather.proofs.Once.{until-until, steps_from}
use Rattle.msc_execution.specs.Clocks.{Places, put_clock, clock_step, clock_from, clock_after, clock_before, clock_of, offer_of, offer_up_to}
use Rattle.msc_execution.specs.Timed.{IsTimed}
use Rattle.msc_execution.proofs.Queued.{own_offer}

module _ (chart : WiredChart) (places : Places) where
  -- the clock after one more event
  clock_from-push : (c : ℕ) (xs : List ℕ) (e : ℕ)
      → clock_from chart places c (xs ++ e ∷ [])
      ≡ clock_step chart places (clock_from chart places c xs) e
  unfolding clock_from
  clock_from-push c [] e = refl
  clock_from-push c (x ∷ xs) e = clock_from-push (clock_step chart places c x) xs e

  -- an output has the clock of its place
  pub step_output : (c e : ℕ) → is_output chart.events e ≡ true
      → clock_step chart places c e ≡ put_clock chart places e
  unfolding clock_step
  step_output c e o = rw o refl

  -- an input takes the greater of the two clocks
  pub step_input : (c e : ℕ) → is_input chart.events e ≡ true
      → clock_step chart places c e ≡ max c (put_clock chart places (partner chart.events e))
  unfolding clock_step
  step_input c e i =
      let no : is_output chart.events e ≡ false =
      false_from_ne_true _ (λ o. not_both chart.events e o i) in
      rw no (rw i refl)

  -- a local event keeps it
  pub step_local : (c e : ℕ) → is_local chart.events e ≡ true → clock_step chart places c e ≡ c
  unfolding clock_step
  step_local c e own =
      let no : is_output chart.events e ≡ false =
      false_from_ne_true _ (λ o. clash own (output_not_local chart.events e o)) in
      let nor : is_input chart.events e ≡ false =
      false_from_ne_true _ (λ i. clash own (input_not_local chart.events e i)) in
      rw no (rw nor refl)

  -- so what is no output does not lower it
  pub step_keeps : (c e : ℕ) → is_output chart.events e ≡ false → c ≤ clock_step chart places c e
  unfolding clock_step
  step_keeps c e other =
      rw other (by_test (is_input chart.events e) (λ i. rw i (omega arith))
      (λ nor. rw nor (omega arith)))

  -- after these events an output's place has a clock that is not below the instance's
  pub HasRisen : List ℕ → ℕ → Type 0
  unfolding clock_from
  HasRisen past e = is_output chart.events e ≡ true
      → clock_after chart places past < put_clock chart places e

  -- so an event does not lower the clock
  step_rises : (past : List ℕ) (e : ℕ) → HasRisen past e
      → clock_after chart places past ≤ clock_after chart places (past ++ e ∷ [])
  unfolding HasRisen
  step_rises past e kept =
      let pushed = clock_from-push 0 past e in
      by_test (is_output chart.events e)
      (λ o. let s = step_output (clock_after chart places past) e o in let k =
      kept o in omega arith)
      (λ o. let s = step_keeps (clock_after chart places past) e o in omega arith)

  -- and a list of events does not
  pub clock_rises : (past xs : List ℕ) → Steps HasRisen past xs
      → clock_after chart places past ≤ clock_after chart places (past ++ xs)
  clock_rises past [] h = rw append-nil (omega arith)
  clock_rises past (x ∷ xs) h =
      let one = step_rises past x h.0 in
      let rest : clock_after chart places (past ++ x ∷ [])
      ≤ clock_after chart places (past ++ x ∷ xs) =
      subst (λ (l : List ℕ). clock_after chart places (past ++ x ∷ []) ≤ clock_after chart places l)
      (append_assoc past (x ∷ []) xs) (clock_rises (past ++ x ∷ []) xs h.1) in
      omega arith

-- what follows from the facts of an execution
module _ {chart : WiredChart} {instances : ℕ} {logs : List (List ℕ)} {places : Places}
    (seated : IsSeated chart instances) (timed : IsTimed chart instances logs places) where
  -- the log of an event's line
  pub log_known : (x e : ℕ) → x < length chart.events → occurs (log_of chart logs x) e ≡ true
      → (e < length chart.events) × (line chart.events e ≡ line chart.events x)
  log_known x e below h = timed.lines.known (line chart.events x) e (seated.on_lines x below) h

  -- events of one line have one log
  pub log_same : (x e : ℕ) → line chart.events e ≡ line chart.events x
      → log_of chart logs e ≡ log_of chart logs x
  log_same x e same = ap (λ (i : ℕ). get_or logs i []) same

  -- what is in the log of a line is logged
  pub logged_there : (x e : ℕ) → x < length chart.events → occurs (log_of chart logs x) e ≡ true
      → is_logged chart logs e ≡ true
  logged_there x e below h = ap (λ l. occurs l e) (log_same x e (log_known x e below h).1) ∙ h

  -- the place of a logged output has a greater clock than its instance had before it
  pub put_rises : (s : ℕ) → s < length chart.events → is_logged chart logs s ≡ true
      → is_output chart.events s ≡ true
      → (clock_before chart logs places s < offer_up_to chart logs places s)
      × (offer_up_to chart logs places s ≤ put_clock chart places s)
  put_rises s below logged o =
      let there = timed.put s below logged o in
      let own : suc (clock_before chart logs places s) ≤ offer_up_to chart logs places s =
      own_offer (offer_of chart logs places) (places (queue chart s)) s there in
      (omega arith, timed.reaches (queue chart s) s there)

  -- so the outputs of a log raise the clock
  log_kept : (x : ℕ) → x < length chart.events
      → Steps (HasRisen chart places) [] (log_of chart logs x)
  unfolding HasRisen
  log_kept x below =
      steps_from (HasRisen chart places) [] (log_of chart logs x)
      (timed.lines.once (line chart.events x) (seated.on_lines x below))
      (λ e there o.
      let k = log_known x e below there in
      let rises = put_rises e k.0 (logged_there x e below there) o in
      let less : clock_before chart logs places e < put_clock chart places e =
      omega (arith, rises.0, rises.1) in
      subst (λ (l : List ℕ). clock_after chart places (until l e) < put_clock chart places e)
      (log_same x e k.1) less)

  -- along a log, the clock after an event is no greater than the clock before a later one
  pub clocks_rise : (x y : ℕ) → y < length chart.events → is_logged chart logs y ≡ true
      → occurs (until (log_of chart logs y) y) x ≡ true
      → clock_of chart logs places x ≤ clock_before chart logs places y
  clocks_rise x y below logged h =
      let log : List ℕ = log_of chart logs y in
      let x_there = until-within log y x h in
      let same = log_same y x (log_known y x below x_there).1 in
      let at_y = step_at (HasRisen chart places) log y (log_kept y below) logged in
      let p = parts (until log y) x h in
      let front : until (until log y) x ≡ until (log_of chart logs x) x =
      until-until log x y h ∙ ap (λ l. until l x) (sym same) in
      let split : until log y ≡ until (log_of chart logs x) x ++ x ∷ p.0 =
      p.1 ∙ ap (λ l. l ++ x ∷ p.0) front in
      let kept = Steps-parts (HasRisen chart places) [] (until (log_of chart logs x) x) (x ∷ p.0)
      (subst (λ (l : List ℕ). Steps (HasRisen chart places) [] l) split at_y.0) in
      let rises : clock_after chart places (until (log_of chart logs x) x ++ x ∷ [])
      ≤ clock_after chart places ((until (log_of chart logs x) x ++ x ∷ []) ++ p.0) =
      clock_rises chart places (until (log_of chart logs x) x ++ x ∷ []) p.0 kept.1.1 in
      let whole : clock_after chart places ((until (log_of chart logs x) x ++ x ∷ []) ++ p.0)
      ≡ clock_before chart logs places y =
      ap (λ l. clock_after chart places l)
      (append_assoc (until (log_of chart logs x) x) (x ∷ []) p.0 ∙ sym split) in
      let own : clock_after chart places (until (log_of chart logs x) x ++ x ∷ [])
      ≡ clock_of chart logs places x = clock_from-push chart places 0
      (until (log_of chart logs x) x) x in
      omega arith
