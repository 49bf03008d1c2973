-- Charts that are drawn from top to bottom: all orders go down, and the order from top to bottom is a run.
use Rattle.std.proofs.Common.{◌≡◌, ℕ, ◌+◌, ◌<◌, ◌≤◌, length, sym, arith, Bool, true, false, not, cond, inl, inr, eqb, List, [], ◌∷◌, ◌++◌, refl, ap, subst, ◌∙◌, append_assoc}
use Rattle.std.proofs.lemmas.Bool.{cases_lt, eqb-true, eq-eqb, and_parts, and_from, ltb-true, not_from_false}
use Rattle.msc_chart.specs.declared.event.ChartEvent.{ChartEvent}
use Rattle.msc_chart.specs.Lists.{occurs, until, IsFirst, Steps}
use Rattle.msc_chart.specs.Charts.{partner, is_output, is_input, line, before, Visual}
use Rattle.msc_chart.specs.Charts.Visual.{seen, passed, linked}
use Rattle.msc_chart.specs.Orders.{WiredChart, Enforced, IsWired, queue}
use Rattle.msc_chart.specs.Orders.Enforced.{drawn, sent, joined, queued}
use Rattle.msc_chart.specs.Runs.{MayCome, is_waiting, state}
use Rattle.msc_import_laws.specs.Heights.{height, AreDrawnAt, IsBelow, IsDownward, IsWholeRun, ShareLines}
use Rattle.msc_chart.proofs.ListLemmas.{clash, occurs-left, occurs-right, first_occurs, filter-first}
use Rattle.msc_import_laws.proofs.Words.{occurs_joined, occurs_itself, occurs_cases}

-- a test that is not true is false
pub not_true : (b : Bool) → (b ≡ true → ⊥) → b ≡ false
not_true true h = absurd (h refl)
not_true false h = refl

module _ (heights : List ℕ) (events : List ChartEvent) (at : AreDrawnAt heights events) where
  -- what precedes visibly is above
  pub visual_down : (e f : ℕ) → Visual events e f → height heights e < height heights f
  visual_down e f (seen h) = at.falls e f h
  visual_down e f (passed {s} {r} out same) = let k = at.sent e out in rw (← same) (omega (arith, k))
  visual_down e f (linked {x} {y} {z} h k) =
      let a = visual_down e y h in let b = visual_down y f k in omega (arith, a, b)

module _ (heights : List ℕ) (chart : WiredChart) (at : AreDrawnAt heights chart.events) where
  -- what is enforced is above
  pub enforced_down : (e f : ℕ) → Enforced chart e f → height heights e < height heights f
  enforced_down e f (drawn h c) = at.falls e f h
  enforced_down e f (sent out same) = let k = at.sent e out in rw (← same) (omega (arith, k))
  enforced_down e f (joined {x} {y} {z} h k) =
      let a = enforced_down e y h in let b = enforced_down y f k in omega (arith, a, b)
  enforced_down e f (queued {s} {t} {r} {u} os ot q h ps pt) =
      let a = enforced_down s t h in
      let b = at.sent s os in
      let c = at.sent t ot in
      rw (← ps, ← pt) (omega (arith, a, b, c))

-- what is drawn before another is an event
pub before_events : (events : List ChartEvent) (x y : ℕ) → before events x y ≡ true → (x < length events) × (y < length events)
unfolding before
before_events events x y h =
    let both = (and_parts _ _ h).0 in
    let each = and_parts _ _ both in
    (ltb-true x (length events) each.0, ltb-true y (length events) each.1)

pub output_event : (events : List ChartEvent) (s : ℕ) → is_output events s ≡ true → s < length events
unfolding is_output
output_event events s h = ltb-true s (length events) (and_parts _ _ h).0

pub input_event : (events : List ChartEvent) (s : ℕ) → is_input events s ≡ true → s < length events
unfolding is_input
input_event events s h = ltb-true s (length events) (and_parts _ _ h).0

module _ (heights : List ℕ) (chart : WiredChart) (wired : IsWired chart) (share : ShareLines chart) (at : AreDrawnAt heights chart.events) where
  -- what may come below those that came, where all that is above has come
  module _ (past : List ℕ) (e : ℕ) (b : IsBelow heights chart.events past e)
      (above : (y : ℕ) → y < length chart.events → height heights y < height heights e → occurs past y ≡ true) where
    -- a message that waits is that of the input
    only_waits : (t : ℕ) → is_input chart.events e ≡ true → occurs past t ≡ true → is_waiting chart (queue chart e) past t ≡ true → t ≡ partner chart.events e
    unfolding is_waiting
    only_waits t input came waits =
        let parts = and_parts _ _ waits in
        let out : is_output chart.events t ≡ true = (and_parts _ _ parts.0).0 in
        let known = output_event chart.events t out in
        let s : ℕ = partner chart.events e in
        let sent_s : is_output chart.events s ≡ true = wired.matched.other_kind e b.event ∙ input in
        let low = at.sent s sent_s in
        let back = wired.matched.to_and_fro e b.event in
        let low' : height heights e ≡ height heights s + 2 = sym (ap (height heights) back) ∙ low in
        let other = at.sent t out in
        let higher = b.below t came in
        let gone : occurs past (partner chart.events t) ≡ false = elim (occurs past (partner chart.events t)) as (λ w. not w ≡ true → w ≡ false) [ true ↦ λ q. cc | false ↦ λ q. refl ] parts.1 in
        let not_above : height heights (partner chart.events t) < height heights e → ⊥ = λ lt. clash (above (partner chart.events t) (wired.matched.in_range t known) lt) gone in
        let upto : height heights s ≤ height heights t = omega (arith, low', other, not_above) in
        elim (cases_lt (height heights s) (height heights t)) [
          | inr ge ↦ at.apart t s known (wired.matched.in_range e b.event) (omega (arith, upto, ge))
          | inl lt ↦
              let next : height heights t ≡ height heights s + 1 = omega (arith, low', higher, lt) in
              let back_t = wired.matched.to_and_fro t known in
              let in_t : is_input chart.events (partner chart.events t) ≡ true = sym (wired.matched.other_kind (partner chart.events t) (wired.matched.in_range t known)) ∙ ap (is_output chart.events) back_t ∙ out in
              let same_queue : queue chart t ≡ queue chart e = eqb-true _ _ (and_parts _ _ parts.0).1 in
              let queues : queue chart e ≡ queue chart (partner chart.events t) = sym same_queue ∙ sym (wired.one_queue t known) in
              let lines : line chart.events (partner chart.events s) ≡ line chart.events (partner chart.events t) = ap (line chart.events) back ∙ share e (partner chart.events t) input in_t queues in
              absurd (at.crossing s t sent_s out next lines)
        ]

    own_waits : is_input chart.events e ≡ true → (occurs past (partner chart.events e) ≡ true) × (is_waiting chart (queue chart e) past (partner chart.events e) ≡ true)
    unfolding is_waiting
    own_waits input =
        let s : ℕ = partner chart.events e in
        let sent_s : is_output chart.events s ≡ true = wired.matched.other_kind e b.event ∙ input in
        let back = wired.matched.to_and_fro e b.event in
        let low : height heights e ≡ height heights s + 2 = sym (ap (height heights) back) ∙ at.sent s sent_s in
        let new : occurs past e ≡ false = not_true (occurs past e) (λ h. let lt = b.below e h in omega (arith, lt)) in
        let q : eqb (queue chart s) (queue chart e) ≡ true = eq-eqb _ _ (wired.one_queue e b.event) in (
          above s (wired.matched.in_range e b.event) (omega (arith, low)),
          and_from _ _ (and_from _ _ sent_s q) (not_from_false _ (ap (occurs past) back ∙ new)),
        )

    first_waits : is_input chart.events e ≡ true → IsFirst (state chart (queue chart e) past) (partner chart.events e)
    first_waits input =
        let own = own_waits input in
        let first = filter-first (is_waiting chart (queue chart e) past) past (partner chart.events e) own.0 own.1 in
        let found = first_occurs (is_waiting chart (queue chart e) past) past first.0 first.1 in
        subst (IsFirst (state chart (queue chart e) past)) (only_waits first.0 input found.0 found.1) first.1

    pub comes : MayCome chart past e
    comes = record {
      event = b.event;
      new = not_true (occurs past e) (λ h. let lt = b.below e h in omega (arith, lt));
      controlled = λ c x h. above x (before_events chart.events x e h).0 (at.falls x e h);
      input = first_waits;
    }

-- what comes later is below
later_below : (heights : List ℕ) (events : List ChartEvent) (past xs : List ℕ) (x y : ℕ) → Steps (IsBelow heights events) past xs → occurs past x ≡ true → occurs xs y ≡ true → height heights x < height heights y
unfolding occurs
later_below heights events past [] x y h p k = cc
later_below heights events past (z ∷ xs) x y h p k =
    elim (occurs_cases z xs y k) [
      | inl same ↦ subst (λ (w : ℕ). height heights x < height heights w) same (h.0.below x p)
      | inr later ↦ later_below heights events (past ++ z ∷ []) xs x y h.1 (occurs-left past (z ∷ []) x p) later
    ]

module _ (heights : List ℕ) (events : List ChartEvent) (past : List ℕ) (x : ℕ) (xs : List ℕ) where
  -- all that is above has come
  pub all_above : Steps (IsBelow heights events) past (x ∷ xs) → ((e : ℕ) → e < length events → occurs (past ++ x ∷ xs) e ≡ true)
      → (y : ℕ) → y < length events → height heights y < height heights x → occurs past y ≡ true
  all_above h whole y known lt =
      elim (occurs_joined past (x ∷ xs) y (whole y known)) [
        | inl came ↦ came
        | inr not_yet ↦ elim (occurs_cases x xs y not_yet) [
          | inl same ↦ let e = ap (height heights) same in absurd (omega (arith, lt, e))
          | inr later ↦
              let below = later_below heights events (past ++ x ∷ []) xs x y h.1 (occurs-right past (x ∷ []) x (occurs_itself x)) later in
              absurd (omega (arith, lt, below))
        ]
      ]

module _ (heights : List ℕ) (chart : WiredChart) (wired : IsWired chart) (share : ShareLines chart) (at : AreDrawnAt heights chart.events) where
  run_from : (past xs : List ℕ) → Steps (IsBelow heights chart.events) past xs → ((e : ℕ) → e < length chart.events → occurs (past ++ xs) e ≡ true) → Steps (MayCome chart) past xs
  run_from past [] h whole = tt
  run_from past (x ∷ xs) h whole = (
    comes heights chart wired share at past x h.0 (all_above heights chart.events past x xs h whole),
    run_from (past ++ x ∷ []) xs h.1 (λ e known. rw append_assoc (whole e known)),
  )

  -- what stands before an event in the order is behind those before it
  keeps_from : (past xs : List ℕ) (x y : ℕ) → Steps (IsBelow heights chart.events) past xs → ((e : ℕ) → e < length chart.events → occurs (past ++ xs) e ≡ true) → x < length chart.events → height heights x < height heights y → occurs xs y ≡ true → occurs (past ++ until xs y) x ≡ true
  unfolding until occurs
  keeps_from past [] x y h whole known lt k = cc
  keeps_from past (z ∷ xs) x y h whole known lt k =
      (elim (eqb z y) as (λ b. eqb z y ≡ b → occurs (past ++ cond b [] (z ∷ until xs y)) x ≡ true) [
        | true ↦ λ same.
            let e : z ≡ y = eqb-true z y same in
            occurs-left past [] x (all_above heights chart.events past z xs h whole x known (rw e lt))
        | false ↦ λ other.
            let later : occurs xs y ≡ true = elim (occurs_cases z xs y k) [ inl same ↦ clash (eq-eqb z y same) other | inr later ↦ later ] in
            let rest = keeps_from (past ++ z ∷ []) xs x y h.1 (λ e known. rw append_assoc (whole e known)) known lt later in
            rw append_assoc at rest
      ]) refl

  pub whole_run : (order : List ℕ) → IsDownward heights chart.events order → IsWholeRun chart order
  whole_run order d = record {
    run = run_from [] order d.steps d.whole;
    whole = d.whole;
    keeps = λ x y h k. keeps_from [] order x y d.steps d.whole (before_events chart.events x y h).0 (at.falls x y h) k;
  }
