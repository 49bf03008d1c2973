-- In which order the events of a run and the outputs of its queues stand.
use Rattle.std.proofs.Common.{◌≡◌, ℕ, ◌<◌, ◌⊎◌, true, false, cond, ◌||◌, List, [], ◌∷◌, ◌++◌, Option, Some, eqb, inl, inr, sym, ap, subst, ◌∙◌, refl, arith}
use Rattle.std.proofs.lemmas.Bool.{or_left, or_right, or_cases, eqb-true, eq-eqb, false≢true, false_from_ne_true}
use Rattle.msc_chart.specs.Lists.{Steps, occurs, until}
use Rattle.msc_chart.specs.Orders.{WiredChart}
use Rattle.msc_chart.specs.Runs.{MayCome}
use Rattle.msc_chart.proofs.ListLemmas.{by_test, clash, until-within, occurs-left, occurs-push}
use Rattle.msc_picture.specs.RunFrames.{place_of, are_queued, queued_from}

-- what stands before y has a smaller place
pub place_less : (run : List ℕ) (x y : ℕ) → occurs (until run y) x ≡ true
    → place_of run x < place_of run y
unfolding occurs until
place_less [] x y h = absurd (false≢true h)
place_less (z ∷ zs) x y h = by_test (eqb z y)
    (λ same. absurd (false≢true (rw same at h)))
    (λ off. let rest : occurs (z ∷ until zs y) x ≡ true = rw off at h in
    by_test (eqb z x)
    (λ here. rw here (rw off (omega arith)))
    (λ apart. let later : occurs (until zs y) x ≡ true = rw apart at rest in
    rw apart (rw off (omega (arith, place_less zs x y later)))))

-- what stands before y stands before all that y stands before
pub before_on : (xs : List ℕ) (x y z : ℕ) → occurs (until xs y) x ≡ true → occurs (until xs z) y ≡ true
    → occurs (until xs z) x ≡ true
unfolding occurs until
before_on [] x y z h k = absurd (false≢true h)
before_on (w ∷ ws) x y z h k = by_test (eqb w z)
    (λ same. absurd (false≢true (rw same at k)))
    (λ off. by_test (eqb w y)
    (λ same. absurd (false≢true (rw same at h)))
    (λ apart.
    let on : occurs (w ∷ until ws y) x ≡ true = rw apart at h in
    let rest : (eqb w y || occurs (until ws z) y) ≡ true = rw off at k in
    let later : occurs (until ws z) y ≡ true = rw apart at rest in
    rw off (by_test (eqb w x)
    (λ here. or_left (eqb w x) (occurs (until ws z) x) here)
    (λ other. or_right (eqb w x) (occurs (until ws z) x)
    (before_on ws x y z (rw other at on) later)))))

-- of two items one stands before the other
pub one_first : (xs : List ℕ) (x y : ℕ) → occurs xs x ≡ true → occurs xs y ≡ true → (x ≡ y → ⊥)
    → (occurs (until xs y) x ≡ true) ⊎ (occurs (until xs x) y ≡ true)
unfolding occurs until
one_first [] x y h k apart = absurd (false≢true h)
one_first (z ∷ zs) x y h k apart = by_test (eqb z x)
    (λ x_here. by_test (eqb z y)
    (λ y_here. absurd (apart (sym (eqb-true z x x_here) ∙ eqb-true z y y_here)))
    (λ off. inl (rw off (or_left (eqb z x) (occurs (until zs y) x) x_here))))
    (λ x_off. by_test (eqb z y)
    (λ y_here. inr (rw x_off (or_left (eqb z y) (occurs (until zs x) y) y_here)))
    (λ y_off. elim (one_first zs x y (rw x_off at h) (rw y_off at k) apart) [
      | inl first ↦ inl (rw y_off (or_right (eqb z x) (occurs (until zs y) x) first))
      | inr second ↦ inr (rw x_off (or_right (eqb z y) (occurs (until zs x) y) second))
    ]))

-- what stands before an item that is new there
pub until_here : (past : List ℕ) (e : ℕ) (rest : List ℕ) → occurs past e ≡ false
    → until (past ++ e ∷ rest) e ≡ past
unfolding occurs until
until_here [] e rest new = rw (eq-eqb e e refl) refl
until_here (x ∷ xs) e rest new = by_test (eqb x e)
    (λ same. clash (or_left (eqb x e) (occurs xs e) same) new)
    (λ off. let later : occurs xs e ≡ false = rw off at new in
    rw off (ap (λ (l : List ℕ). x ∷ l) (until_here xs e rest later)))

-- a list without repeats
unfoldable pub Once : List ℕ → Type 0
Once [] = Unit {0}
Once (x ∷ xs) = (occurs xs x ≡ false) × Once xs

-- what comes later in a run is new
run_new : (chart : WiredChart) (past xs : List ℕ) (x : ℕ) → Steps (MayCome chart) past xs
    → occurs xs x ≡ true → occurs past x ≡ false
unfolding occurs
run_new chart past [] x steps there = absurd (false≢true there)
run_new chart past (e ∷ es) x steps there = elim (or_cases (eqb e x) (occurs es x) there) [
  | inl same ↦ subst (λ (w : ℕ). occurs past w ≡ false) (eqb-true e x same) steps.0.new
  | inr later ↦ false_from_ne_true _ (λ old.
      clash (occurs-left past (e ∷ []) x old)
      (run_new chart (past ++ e ∷ []) es x steps.1 later))
]

-- so a run has no repeats
pub run_once : (chart : WiredChart) (past xs : List ℕ) → Steps (MayCome chart) past xs → Once xs
unfolding Once
run_once chart past [] steps = tt
run_once chart past (e ∷ es) steps = (
  false_from_ne_true _ (λ again.
      clash (occurs-push past e) (run_new chart (past ++ e ∷ []) es e steps.1 again)),
  run_once chart (past ++ e ∷ []) es steps.1,
)

-- an output that is drawn before y for its queue
unfoldable pub QueuedThere : WiredChart → List ℕ → ℕ → ℕ → ℕ → Type 0
QueuedThere chart xs x y t =
    (are_queued chart t y ≡ true) × (occurs (until xs y) t ≡ true)
    × ((t ≡ x) ⊎ (occurs (until xs t) x ≡ true))

-- the last output of the queue, from one on: it, or a later one
queued_last : (chart : WiredChart) (xs : List ℕ) (last : ℕ) (y : ℕ)
    → (t : ℕ) × (queued_from chart (Some last) xs y ≡ Some t)
    × ((t ≡ last) ⊎ ((are_queued chart t y ≡ true) × (occurs (until xs y) t ≡ true)))
unfolding occurs until
queued_last chart [] last y = (last, refl, inl refl)
queued_last chart (z ∷ zs) last y = by_test (eqb z y)
    (λ same. (last, rw same refl, inl refl))
    (λ off. by_test (are_queued chart z y)
    (λ yes.
    let on = queued_last chart zs z y in (
      on.0,
      rw off (rw yes on.1),
      elim on.2 [
        | inl same ↦ inr (
          subst (λ (w : ℕ). are_queued chart w y ≡ true) (sym same) yes,
          rw off (or_left (eqb z on.0) (occurs (until zs y) on.0) (eq-eqb z on.0 (sym same))),
        )
        | inr later ↦ inr (
          later.0,
          rw off (or_right (eqb z on.0) (occurs (until zs y) on.0) later.1),
        )
      ],
    ))
    (λ no.
    let on = queued_last chart zs last y in (
      on.0,
      rw off (rw no on.1),
      elim on.2 [
        | inl same ↦ inl same
        | inr later ↦ inr (
          later.0,
          rw off (or_right (eqb z on.0) (occurs (until zs y) on.0) later.1),
        )
      ],
    )))

-- what stands in front is before all that comes later
front_before : (z : ℕ) (zs : List ℕ) (t : ℕ) → occurs zs z ≡ false → occurs zs t ≡ true
    → occurs (until (z ∷ zs) t) z ≡ true
unfolding occurs until
front_before z zs t new there = by_test (eqb z t)
    (λ same. clash (subst (λ (w : ℕ). occurs zs w ≡ true) (sym (eqb-true z t same)) there) new)
    (λ off. rw off (or_left (eqb z z) (occurs (until zs t) z) (eq-eqb z z refl)))

-- where an output of the queue of y stands before y, one is drawn before y for it: that, or one after
-- that
pub queued_there : (chart : WiredChart) (xs : List ℕ) (last : Option ℕ) (x y : ℕ) → Once xs
    → are_queued chart x y ≡ true → occurs (until xs y) x ≡ true
    → (t : ℕ) × (queued_from chart last xs y ≡ Some t) × QueuedThere chart xs x y t
unfolding occurs until Once QueuedThere
queued_there chart [] last x y once both h = absurd (false≢true h)
queued_there chart (z ∷ zs) last x y once both h = by_test (eqb z y)
    (λ same. absurd (false≢true (rw same at h)))
    (λ off.
    let rest : (eqb z x || occurs (until zs y) x) ≡ true = rw off at h in
    by_test (eqb z x)
    (λ here.
    let is : z ≡ x = eqb-true z x here in
    let yes : are_queued chart z y ≡ true =
    subst (λ (w : ℕ). are_queued chart w y ≡ true) (sym is) both in
    let on = queued_last chart zs z y in (
      on.0,
      rw off (rw yes on.1),
      elim on.2 [
        | inl same ↦ (
          subst (λ (w : ℕ). are_queued chart w y ≡ true) (sym same) yes,
          rw off (or_left (eqb z on.0) (occurs (until zs y) on.0) (eq-eqb z on.0 (sym same))),
          inl (same ∙ is),
        )
        | inr later ↦ (
          later.0,
          rw off (or_right (eqb z on.0) (occurs (until zs y) on.0) later.1),
          inr (subst (λ (w : ℕ). occurs (until (z ∷ zs) on.0) w ≡ true) is
              (front_before z zs on.0 once.0 (until-within zs y on.0 later.1))),
        )
      ],
    ))
    (λ apart.
    let later : occurs (until zs y) x ≡ true = rw apart at rest in
    let next = cond (are_queued chart z y) (Some z) last in
    let on = queued_there chart zs next x y once.1 both later in (
      on.0,
      rw off on.1,
      (
        on.2.0,
        rw off (or_right (eqb z on.0) (occurs (until zs y) on.0) on.2.1),
        elim on.2.2 [
          | inl same ↦ inl same
          | inr before ↦ inr (by_test (eqb z on.0)
              (λ same. clash (subst (λ (w : ℕ). occurs zs w ≡ true) (sym (eqb-true z on.0 same))
              (until-within zs y on.0 on.2.1)) once.0)
              (λ other. rw other (or_right (eqb z x) (occurs (until zs on.0) x) before)))
        ],
      ),
    )))
