-- The offers of an execution are 1, 2, .. without gaps, so no clock is greater than the number of
-- messages put.
use Rattle.std.proofs.Common.{◌≡◌, ℕ, zero, suc, ◌+◌, ◌<◌, ◌≤◌, max, true, ◌⊎◌, inl, inr, List, [], ◌∷◌, ◌++◌, length, get_or, refl, sym, ap, subst, ◌∙◌, length-append, arith}
use Rattle.std.proofs.lemmas.Bool.{cases_lt, cases_eq}
use Rattle.std.specs.List.{concat}
use Rattle.msc_chart.specs.Orders.{WiredChart, queue}
use Rattle.msc_chart.specs.Charts.{line, partner, is_output, is_local}
use Rattle.msc_chart.specs.Lists.{occurs, until}
use Rattle.msc_chart.proofs.ListLemmas.{by_test, parts, until-within, occurs-left, occurs-head, occurs-tail, occurs-right}
use Rattle.msc_chart.proofs.Drawn.{output_or_input, partner_of_input}
use Rattle.msc_gather.specs.Schedule.{log_of, is_logged, IsSeated}
use Rattle.msc_gather.proofs.Once.{occurs-cases, ne_occurs}
use Rattle.msc_gather.proofs.Filters.{occurs-filter}
use Rattle.msc_execution.specs.Clocks.{Places, messages, place_clock, put_clock, clock_step, clock_from, clock_after, clock_before, offer_of}
use Rattle.msc_execution.specs.Timed.{IsTimed, all_puts}
use Rattle.msc_gather.proofs.Distinct.{in_concat}
use Rattle.msc_execution.proofs.Rising.{step_output, step_input, step_local}
use Rattle.msc_execution.proofs.Timed.{logs_of_timed}

-- where each number from 1 to v is the value of an element of a list, it is no shorter than v
pub at_least_as_many : (f : ℕ → ℕ) (v : ℕ) (xs : List ℕ)
    → ((w : ℕ) → w < v → (x : ℕ) × (occurs xs x ≡ true) × (f x ≡ suc w)) → v ≤ length xs
at_least_as_many f zero xs h = omega arith
at_least_as_many f (suc n) xs h =
    let top = h n (omega arith) in
    let x : ℕ = top.0 in
    let p = parts xs x top.1 in
    let front : List ℕ = until xs x in
    let rest : List ℕ = p.0 in
    let fx : f x ≡ suc n = top.2 in
    let shorter : n ≤ length (front ++ rest) = at_least_as_many f n (front ++ rest) (λ w below.
    let found = h w (omega arith) in
    let y : ℕ = found.0 in
    let fy : f y ≡ suc w = found.2 in
    let apart : x ≡ y → ⊥ = λ same. let e : f x ≡ f y = ap f same in omega arith in
    let there : occurs (front ++ x ∷ rest) y ≡ true = ap (λ l. occurs l y) (sym p.1) ∙ found.1 in (
      y,
      by_test (occurs front y) (λ early. occurs-left front rest y early)
          (λ late. occurs-right front rest y
          (occurs-cases (x ∷ []) rest y (occurs-cases front (x ∷ rest) y there late)
          (ne_occurs x y apart))),
      fy,
    )) in
    let whole : length xs ≡ length front + suc (length rest) =
    ap (λ l. length l) p.1 ∙ length-append front (x ∷ rest) in
    let less : length (front ++ rest) ≡ length front + length rest = length-append front rest in
    omega arith

module _ {chart : WiredChart} {instances : ℕ} {logs : List (List ℕ)} {places : Places}
    (seated : IsSeated chart instances) (timed : IsTimed chart instances logs places) where
  -- an output whose message was put
  IsPut : ℕ → Type 0
  IsPut t = (t < length chart.events) × (is_output chart.events t ≡ true)
      × (is_logged chart logs t ≡ true)

  -- a clock is 0 or some message's offer
  IsOffered : ℕ → Type 0
  unfolding IsPut
  IsOffered c = (c ≡ 0) ⊎ ((t : ℕ) × IsPut t × (c ≡ offer_of chart logs places t))

  -- the clock of a place is one
  put_timed : (q s : ℕ) → occurs (messages (places q)) s ≡ true
      → IsOffered (place_clock (places q) s)
  unfolding IsOffered
  put_timed q s there =
      let o = timed.offered q s there in
      let p = timed.was_put q o.0 o.1 in
      inr (o.0, (p.0, p.1, p.2), o.2)

  -- the greater of two is one
  max_timed : (a b : ℕ) → IsOffered a → IsOffered b → IsOffered (max a b)
  unfolding IsOffered
  max_timed a b h k =
      elim (cases_lt a b) [
        | inl lt ↦ let e : b ≡ max a b = omega arith in subst (λ (c : ℕ). IsOffered c) e k
        | inr ge ↦ let e : a ≡ max a b = omega arith in subst (λ (c : ℕ). IsOffered c) e h
      ]

  -- so is the clock after an event, where that before it is one
  step_timed : (c e : ℕ) → e < length chart.events → is_logged chart logs e ≡ true → IsOffered c
      → IsOffered (clock_step chart places c e)
  step_timed c e below logged h =
      by_test (is_local chart.events e)
      (λ own. subst (λ (z : ℕ). IsOffered z) (sym (step_local chart places c e own)) h)
      (λ away. elim (output_or_input chart.events e below away) [
        | inl o ↦ subst (λ (z : ℕ). IsOffered z) (sym (step_output chart places c e o))
            (put_timed (queue chart e) e (timed.put e below logged o))
        | inr i ↦
            let s : ℕ = partner chart.events e in
            let s_logged = (logs_of_timed seated timed).sent e below logged i in
            let there = timed.put s (seated.is_wired.matched.in_range e below) s_logged
            (partner_of_input chart.events seated.is_wired.matched e i) in
            subst (λ (z : ℕ). IsOffered z) (sym (step_input chart places c e i))
            (max_timed c (put_clock chart places s) h (put_timed (queue chart s) s there))
      ])

  -- and that after a list of logged events
  from_timed : (c : ℕ) (events : List ℕ)
      → ((e : ℕ) → occurs events e ≡ true → (e < length chart.events)
      × (is_logged chart logs e ≡ true)) → IsOffered c
      → IsOffered (clock_from chart places c events)
  unfolding clock_from
  from_timed c [] known h = h
  from_timed c (e ∷ es) known h =
      let k = known e (occurs-head e es) in
      from_timed (clock_step chart places c e) es (λ d there. known d (occurs-tail e es d there))
      (step_timed c e k.0 k.1 h)

  -- what is in a log is an event and is logged
  log_events : (i e : ℕ) → i < instances → occurs (get_or logs i []) e ≡ true
      → (e < length chart.events) × (is_logged chart logs e ≡ true)
  log_events i e below h =
      let k = timed.lines.known i e below h in
      (k.0, ap (λ (j : ℕ). occurs (get_or logs j []) e) k.1 ∙ h)

  -- so the clock before an event is one
  before_timed : (e : ℕ) → e < length chart.events → IsOffered (clock_before chart logs places e)
  unfolding IsOffered
  before_timed e below =
      from_timed 0 (until (log_of chart logs e) e)
      (λ d there. log_events (line chart.events e) d (seated.on_lines e below)
      (until-within (log_of chart logs e) e d there)) (inl refl)

  -- an output that was put is an event
  put_below : (t : ℕ) → IsPut t → t < length chart.events
  unfolding IsPut
  put_below t put = put.0

  -- below an offer stand all smaller ones
  offers_whole : (v t : ℕ) → IsPut t → offer_of chart logs places t ≡ v → (w : ℕ) → w < v
      → (x : ℕ) × IsPut x × (offer_of chart logs places x ≡ suc w)
  unfolding IsOffered
  offers_whole zero t put e w less = let h : ⊥ = omega arith in absurd h
  offers_whole (suc n) t put e w less =
      elim (cases_eq w n) [
        | inl same ↦ (t, put, omega arith)
        | inr other ↦
            let before_is : clock_before chart logs places t ≡ n = omega arith in
            elim (before_timed t (put_below t put)) [
              | inl none ↦ let h : ⊥ = omega arith in absurd h
              | inr some ↦ offers_whole n some.0 some.1 (sym some.2 ∙ before_is) w (omega arith)
            ]
      ]

  -- and is among the messages put
  put_listed : (t : ℕ) → IsPut t → occurs (all_puts chart logs) t ≡ true
  unfolding IsPut all_puts
  put_listed t put =
      let line_below : line chart.events t < instances = seated.on_lines t put.0 in
      let many = timed.lines.as_many in
      occurs-filter (λ e. is_output chart.events e) (concat logs) t put.1
      ∙ in_concat logs (line chart.events t) t (omega arith) put.2

  -- so a clock that is 0 or an offer is at most the number of messages put
  timed_bounded : (c : ℕ) → IsOffered c → c ≤ length (all_puts chart logs)
  unfolding IsOffered
  timed_bounded c h =
      elim h [
        | inl none ↦ omega arith
        | inr some ↦ at_least_as_many (offer_of chart logs places) c (all_puts chart logs)
            (λ w less.
            let found = offers_whole c some.0 some.1 (sym some.2) w less in
            (found.0, put_listed found.0 found.1, found.2))
      ]

  -- No clock of an instance is greater than the number of messages put,
  pub clocks_bounded : (i : ℕ) (past rest : List ℕ) → i < instances
      → get_or logs i [] ≡ past ++ rest → clock_after chart places past
      ≤ length (all_puts chart logs)
  unfolding IsOffered
  clocks_bounded i past rest below split =
      timed_bounded (clock_after chart places past)
      (from_timed 0 past (λ e there. log_events i e below
      (ap (λ l. occurs l e) split ∙ occurs-left past rest e there)) (inl refl))

  -- and no clock of a place.
  pub places_bounded : (q s : ℕ) → occurs (messages (places q)) s ≡ true
      → place_clock (places q) s ≤ length (all_puts chart logs)
  places_bounded q s there = timed_bounded (place_clock (places q) s) (put_timed q s there)
