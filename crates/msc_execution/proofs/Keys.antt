-- What comes first in an execution has the smaller key.
use Rattle.std.proofs.Common.{◌≡◌, ℕ, suc, ◌+◌, ◌<◌, ◌≤◌, true, false, List, [], ◌∷◌, ◌++◌, length, refl, sym, ap, subst, ◌∙◌, length-append, arith}
use Rattle.std.proofs.lemmas.Bool.{false_from_ne_true}
use Rattle.msc_chart.specs.Orders.{WiredChart, queue}
use Rattle.msc_chart.specs.Charts.{line, partner, is_output, is_input}
use Rattle.msc_chart.specs.Lists.{occurs, until}
use Rattle.msc_chart.proofs.ListLemmas.{by_test, parts, until-within}
use Rattle.msc_chart.proofs.KindTests.{output_below}
use Rattle.msc_chart.proofs.Drawn.{not_both, partner_of_output}
use Rattle.msc_gather.specs.Schedule.{log_of, is_logged, is_taken_first, IsSeated}
use Rattle.msc_gather.proofs.Once.{until-until}
use Rattle.msc_execution.specs.Clocks.{Places, messages, place_number, greatest_offer, put_clock, clock_before, clock_of, offer_of, offer_up_to, key_of, comes_sooner, is_below}
use Rattle.msc_execution.specs.Timed.{IsTimed, taken_from}
use Rattle.msc_execution.proofs.Sorting.{below_first, below_then}
use Rattle.msc_execution.proofs.Queued.{offers_rise, until-front, taken_in_order}
use Rattle.msc_execution.proofs.Rising.{step_output, step_keeps, step_input, log_known, log_same, logged_there, put_rises, clocks_rise}

-- what follows from the facts of an execution
module _ {chart : WiredChart} {instances : ℕ} {logs : List (List ℕ)} {places : Places}
    (seated : IsSeated chart instances) (timed : IsTimed chart instances logs places) where
  -- the key of an output
  pub key_output : (e : ℕ) → is_output chart.events e ≡ true → key_of chart logs places e
      ≡ offer_up_to chart logs places e ∷ 0 ∷ queue chart e ∷ place_number (places (queue chart e)) e
      ∷ []
  unfolding key_of
  key_output e o = rw o refl

  -- the key of an event that is no output
  key_other : (e : ℕ) → is_output chart.events e ≡ false → key_of chart logs places e
      ≡ clock_of chart logs places e ∷ 1 ∷ line chart.events e
      ∷ length (until (log_of chart logs e) e) ∷ []
  unfolding key_of
  key_other e o = rw o refl

  -- keys are compared by what they are
  below_by : (x y : ℕ) (k l : List ℕ) → key_of chart logs places x ≡ k
      → key_of chart logs places y ≡ l → is_below k l ≡ true
      → comes_sooner chart logs places x y ≡ true
  below_by x y k l p q h = rw (p, q) h

  -- in a log the keys rise
  pub keys_in_log : (x y : ℕ) → y < length chart.events → is_logged chart logs y ≡ true
      → occurs (until (log_of chart logs y) y) x ≡ true
      → comes_sooner chart logs places x y ≡ true
  keys_in_log x y below logged h =
      let log : List ℕ = log_of chart logs y in
      let rises = clocks_rise seated timed x y below logged h in
      let x_there = until-within log y x h in
      let x_known = log_known seated timed y x below x_there in
      let x_logged = logged_there seated timed y x below x_there in
      let same = log_same seated timed y x x_known.1 in
      by_test (is_output chart.events x)
      (λ ox.
      let px = put_rises seated timed x x_known.0 x_logged ox in
      let sx = step_output chart places (clock_before chart logs places x) x ox in
      let low : offer_up_to chart logs places x ≤ clock_before chart logs places y =
      omega (arith, px.1) in
      by_test (is_output chart.events y)
      (λ oy.
      let py = put_rises seated timed y below logged oy in
      below_by x y _ _ (key_output x ox) (key_output y oy)
      (below_first _ _ _ _ (omega (arith, py.0))))
      (λ iy.
      let sy = step_keeps chart places (clock_before chart logs places y) y iy in
      below_by x y _ _ (key_output x ox) (key_other y iy)
      (below_then _ _ _ _ (omega arith) (below_first _ _ _ _ (omega arith)))))
      (λ ix. by_test (is_output chart.events y)
      (λ oy.
      let py = put_rises seated timed y below logged oy in
      below_by x y _ _ (key_other x ix) (key_output y oy)
      (below_first _ _ _ _ (omega (arith, py.0))))
      (λ iy.
      let sy = step_keeps chart places (clock_before chart logs places y) y iy in
      let line_same : line chart.events x ≡ line chart.events y = x_known.1 in
      let split = parts (until log y) x h in
      let front : until (until log y) x ≡ until (log_of chart logs x) x =
      until-until log x y h ∙ ap (λ l. until l x) (sym same) in
      let longer : length (until log y) ≡ length (until (log_of chart logs x) x) + suc
      (length split.0) =
      ap (λ l. length l) (split.1 ∙ ap (λ l. l ++ x ∷ split.0) front)
      ∙ length-append (until (log_of chart logs x) x) (x ∷ split.0) in
      below_by x y _ _ (key_other x ix) (key_other y iy)
      (below_then _ _ _ _ (omega arith)
      (below_then _ _ _ _ (omega arith)
      (below_then _ _ _ _ (omega arith) (below_first _ _ _ _ (omega arith)))))))

  -- an output's key is below its input's
  pub key_of_input : (s r : ℕ) → r < length chart.events → is_logged chart logs r ≡ true
      → is_output chart.events s ≡ true → partner chart.events s ≡ r → is_logged chart logs s ≡ true
      → comes_sooner chart logs places s r ≡ true
  key_of_input s r below logged o p s_logged =
      let ri : is_input chart.events r ≡ true =
      subst (λ (z : ℕ). is_input chart.events z ≡ true) p
      (partner_of_output chart.events seated.is_wired.matched s o) in
      let no : is_output chart.events r ≡ false =
      false_from_ne_true _ (λ or. not_both chart.events r or ri) in
      let back : partner chart.events r ≡ s = subst (λ (z : ℕ). partner chart.events z ≡ s) p
      (seated.is_wired.matched.to_and_fro s (output_below chart.events s o)) in
      let rises = put_rises seated timed s (output_below chart.events s o) s_logged o in
      let step = step_input chart places (clock_before chart logs places r) r ri in
      let same : put_clock chart places (partner chart.events r) ≡ put_clock chart places s =
      ap (λ z. put_clock chart places z) back in
      below_by s r _ _ (key_output s o) (key_other r no)
      (below_then _ _ _ _ (omega (arith, rises.1)) (below_first _ _ _ _ (omega arith)))

  -- of two outputs of a queue, the one whose input was taken first has the smaller key
  pub keys_in_queue : (s t : ℕ) → is_output chart.events s ≡ true → is_output chart.events t ≡ true
      → queue chart s ≡ queue chart t
      → is_taken_first chart logs s t ≡ true
      → comes_sooner chart logs places s t ≡ true
  keys_in_queue s t os ot same h =
      let r : ℕ = partner chart.events s in
      let u : ℕ = partner chart.events t in
      let q : ℕ = queue chart t in
      let s_below = output_below chart.events s os in
      let t_below = output_below chart.events t ot in
      let r_below = seated.is_wired.matched.in_range s s_below in
      let log : List ℕ = log_of chart logs r in
      let in_taken = taken_in_order chart seated.is_wired q log r u
      (partner_of_output chart.events seated.is_wired.matched s os)
      (seated.is_wired.one_queue s s_below ∙ same)
      (partner_of_output chart.events seated.is_wired.matched t ot) h in
      let named : occurs (until (taken_from chart q log) t) s ≡ true =
      subst (λ (z : ℕ). occurs (until (taken_from chart q log) t) z ≡ true)
      (seated.is_wired.matched.to_and_fro s s_below)
      (subst (λ (z : ℕ). occurs (until (taken_from chart q log) z) (partner chart.events r) ≡ true)
      (seated.is_wired.matched.to_and_fro t t_below) in_taken) in
      let begins = timed.taken (line chart.events r) q (seated.on_lines r r_below) in
      let in_queue : occurs (until (messages (places q)) t) s ≡ true =
      ap (λ l. occurs (until l t) s) begins.1 ∙ until-front (taken_from chart q log) begins.0 t s
      named in
      let rise = offers_rise (offer_of chart logs places) (places q) s t in_queue in
      let key_s = subst (λ (z : ℕ). key_of chart logs places s
      ≡ greatest_offer (offer_of chart logs places) (places z) s ∷ 0 ∷ z ∷ place_number (places z) s
      ∷ []) same (key_output s os) in
      below_by s t _ _ key_s (key_output t ot)
      (below_then _ _ _ _ rise.0
      (below_then _ _ _ _ (omega arith)
      (below_then _ _ _ _ (omega arith) (below_first _ _ _ _ rise.1))))
