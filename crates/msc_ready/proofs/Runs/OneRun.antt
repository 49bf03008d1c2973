-- There is one run of a first blocked pair.
use Rattle.std.proofs.Common.{◌≡◌, ℕ, ◌<◌, ◌⊎◌, Bool, true, false, inl, inr, List, [], ◌∷◌, ◌++◌, length, refl, sym, ap, ◌∙◌, subst, append_assoc}
use Rattle.std.specs.Prelude.{IsTrue}
use Rattle.std.proofs.lemmas.Bool.{cases_eq}
use Rattle.std.proofs.lemmas.List.{append-nil}
use Rattle.msc_chart.specs.Charts.{IsAcyclic, is_input, partner}
use Rattle.msc_chart.specs.Lists.{occurs, until, IsLeast, Steps}
use Rattle.msc_chart.specs.Orders.{WiredChart, IsWired}
use Rattle.msc_race.proofs.Runs.Witnesses.{least_unique}
use Rattle.msc_race.proofs.Runs.Deciding.{least_of}
use Rattle.msc_ready.specs.Readiness.{MayComeReady}
use Rattle.msc_ready.specs.Running.{AreBlockedPairRuns, ComesAsInput, ComesUpTo, HasOutputsUpTo, IsBlockedPairNext, IsBlockedPairRun, IsTowardNext, IsUpTo}
use Rattle.msc_ready.specs.BlockedPairs.{IsFirstBlockedPair}
use Rattle.msc_ready.proofs.Shared.{by_test, clash, not_both, occurs-left, step_at, Steps-map}
use Rattle.msc_ready.proofs.Begun.Toward.{comes_so, comes_toward, blocked_pair_run}
use Rattle.msc_ready.proofs.Runs.Growing.{AreNew, IsDecided, reach_end, some_or_none}
use Rattle.msc_ready.proofs.Runs.Keeping.{HaveOneLine}
use Rattle.msc_ready.proofs.Runs.Sticking.{ready_decided}
use Rattle.msc_race.proofs.Runs.Tables.{precedes_order}

-- of a property that can be told the least number that has it, or none has it
least_or_none : (P : ℕ → Type 0) → IsDecided P → (n : ℕ) → ((x : ℕ) → P x → x < n)
    → ((x : ℕ) × IsLeast P x) ⊎ ((x : ℕ) → P x → ⊥)
least_or_none P told n bound =
    elim (some_or_none P told n) [
      | inl found ↦ inl (least_of P told found.0 found.1)
      | inr none ↦ inr (λ x h. none x (bound x h) h)
    ]

-- where at most one number comes next, and it can be told which or that there is none, it can be
-- told of each whether it does
one_decided : (P : ℕ → Type 0) → ((x y : ℕ) → P x → P y → x ≡ y) → ((x : ℕ) × P x) ⊎ ((x : ℕ) → P x → ⊥) → IsDecided P
one_decided P unique found x =
    elim found [
      | inr none ↦ inr (none x)
      | inl next ↦ elim (cases_eq x next.0) [
        | inl same ↦ inl (subst P (sym same) next.1)
        | inr other ↦ inr (λ h. other (unique x next.0 h next.1))
      ]
    ]

-- where at most one number comes next, two lists of steps to an end are one
pub ends_alike : (May : List ℕ → ℕ → Type 0) → ((past : List ℕ) (x y : ℕ) → May past x → May past y → x ≡ y) → (past xs ys : List ℕ)
    → Steps May past xs → Steps May past ys → ((x : ℕ) → May (past ++ xs) x → ⊥) → ((x : ℕ) → May (past ++ ys) x → ⊥) → xs ≡ ys
ends_alike May unique past [] [] h k u v = refl
ends_alike May unique past [] (y ∷ ys) h k u v = absurd (u y (rw append-nil k.0))
ends_alike May unique past (x ∷ xs) [] h k u v = absurd (v x (rw append-nil h.0))
ends_alike May unique past (x ∷ xs) (y ∷ ys) h k u v =
    let same = unique past x y h.0 k.0 in
    let h2 : Steps May (past ++ y ∷ []) xs = subst (λ (z : ℕ). Steps May (past ++ z ∷ []) xs) same h.1 in
    let u2 : (z : ℕ) → May ((past ++ y ∷ []) ++ xs) z → ⊥ = λ z. rw append_assoc (subst (λ (w : ℕ). May (past ++ w ∷ xs) z → ⊥) same (u z)) in
    let v2 : (z : ℕ) → May ((past ++ y ∷ []) ++ ys) z → ⊥ = λ z. rw append_assoc (v z) in
    ap (λ z. z ∷ xs) same ∙ ap (λ l. y ∷ l) (ends_alike May unique (past ++ y ∷ []) xs ys h2 k.1 u2 v2)

module _ (chart : WiredChart) (ready : ℕ → Bool) (t : ℕ) where
  -- at most one event comes next on the way to t
  toward_unique : (past : List ℕ) (x y : ℕ) → IsTowardNext chart ready t past x → IsTowardNext chart ready t past y → x ≡ y
  toward_unique past x y a c =
      elim a.least [
        | inl u ↦ elim c.least [
          | inl v ↦ least_unique (ComesUpTo chart ready t past) x y u v
          | inr w ↦ absurd (w.0 x u.itself)
        ]
        | inr w ↦ elim c.least [
          | inl v ↦ absurd (w.0 y v.itself)
          | inr z ↦ least_unique (ComesAsInput chart ready past) x y w.1 z.1
        ]
      ]

  -- and at most one at all
  next_unique : (past : List ℕ) (x y : ℕ) → IsBlockedPairNext chart ready t past x → IsBlockedPairNext chart ready t past y → x ≡ y
  next_unique past x y h k =
      elim h [
        | inl a ↦ elim k [ inl c ↦ toward_unique past x y a c | inr d ↦ clash d.0 a.left ]
        | inr b ↦ elim k [ inl c ↦ clash b.0 c.left | inr d ↦ least_unique (MayComeReady chart ready past) x y b.1 d.1 ]
      ]

  -- what comes next so may come
  may_of_next : (past : List ℕ) (x : ℕ) → IsBlockedPairNext chart ready t past x → MayComeReady chart ready past x
  may_of_next past x h = elim h [ inl a ↦ (comes_so chart ready t past x a).0 | inr b ↦ b.1.itself ]

-- So there is one run at most for the blocked pairs of one second event.
pub one_blocked_pair_run : (chart : WiredChart) (ready : ℕ → Bool) (e g f : ℕ) (xs ys : List ℕ)
    → IsBlockedPairRun chart ready e f xs → IsBlockedPairRun chart ready g f ys → xs ≡ ys
one_blocked_pair_run chart ready e g f xs ys h k =
    let t : ℕ = partner chart.events f in
    ends_alike (IsBlockedPairNext chart ready t) (next_unique chart ready t) [] xs ys h.witness k.witness
    (λ x next. h.stuck.none x (may_of_next chart ready t xs x next))
    (λ x next. k.stuck.none x (may_of_next chart ready t ys x next))

module _ (chart : WiredChart) (is_wired : IsWired chart) (lines : HaveOneLine chart) (acyclic : IsAcyclic chart.events)
    (ready : ℕ → Bool) (t : ℕ) where
  -- it can be told whether an event may come next in a ready run
  may_told : (past : List ℕ) → IsDecided (MayComeReady chart ready past)
  may_told = ready_decided chart is_wired lines acyclic ready

  -- and whether it is t or stands before it
  up_to_told : (past : List ℕ) → IsDecided (ComesUpTo chart ready t past)
  up_to_told past x =
      let order = precedes_order chart is_wired ready true in
      elim (may_told past x) [
        | inr never ↦ inr (λ h. never h.1)
        | inl may ↦ elim (cases_eq x t) [
          | inl same ↦ inl (inl same, may)
          | inr other ↦ by_test (order.0 x t)
              (λ yes. inl (inr (order.1.holds x t yes), may))
              (λ no. inr (λ h. elim h.0 [ inl same ↦ other same | inr o ↦ clash (order.1.complete x t o) no ]))
        ]
      ]

  -- and whether it is an input
  input_told : (past : List ℕ) → IsDecided (ComesAsInput chart ready past)
  input_told past x =
      elim (may_told past x) [
        | inr never ↦ inr (λ h. never h.1)
        | inl may ↦ by_test (is_input chart.events x) (λ i. inl (i, may)) (λ o. inr (λ h. clash h.0 o))
      ]

  -- what comes next on the way to t, or that there is nothing
  toward_told : (past : List ℕ) → ((x : ℕ) × IsTowardNext chart ready t past x) ⊎ ((x : ℕ) → IsTowardNext chart ready t past x → ⊥)
  toward_told past =
      by_test (occurs past t)
      (λ there. inr (λ x h. clash there h.left))
      (λ new. elim (least_or_none (ComesUpTo chart ready t past) (up_to_told past) (length chart.events) (λ x h. h.1.may.event)) [
        | inl up ↦ inl (up.0, record { left = new; least = inl up.1 })
        | inr none ↦ elim (least_or_none (ComesAsInput chart ready past) (input_told past) (length chart.events) (λ x h. h.1.may.event)) [
          | inl own ↦ inl (own.0, record { left = new; least = inr (none, own.1) })
          | inr nothing ↦ inr (λ x h. elim h.least [ inl u ↦ none x u.itself | inr w ↦ nothing x w.1.itself ])
        ]
      ])

  -- what comes next at all, or that there is nothing
  next_told : (past : List ℕ) → ((x : ℕ) × IsBlockedPairNext chart ready t past x) ⊎ ((x : ℕ) → IsBlockedPairNext chart ready t past x → ⊥)
  next_told past =
      elim (toward_told past) [
        | inl next ↦ inl (next.0, inl next.1)
        | inr none ↦ by_test (occurs past t)
            (λ there. elim (least_or_none (MayComeReady chart ready past) (may_told past) (length chart.events) (λ x h. h.may.event)) [
              | inl own ↦ inl (own.0, inr (there, own.1))
              | inr nothing ↦ inr (λ x h. elim h [ inl a ↦ none x a | inr b ↦ nothing x b.1.itself ])
            ])
            (λ new. inr (λ x h. elim h [ inl a ↦ none x a | inr b ↦ clash b.0 new ]))
      ]

  -- steps on the way to t are new
  toward_new : AreNew (IsTowardNext chart ready t) (length chart.events)
  toward_new past x h = let may = (comes_so chart ready t past x h).0 in (may.may.event, may.may.new)

  -- and so are all steps
  next_new : AreNew (IsBlockedPairNext chart ready t) (length chart.events)
  next_new past x h = let may = may_of_next chart ready t past x h in (may.may.event, may.may.new)

  -- the way to t, as far as it goes
  abbrev Way : Type 0
  Way = (front : List ℕ) × Steps (IsTowardNext chart ready t) [] front × ((x : ℕ) → IsTowardNext chart ready t front x → ⊥)

  -- there is one
  way : Way
  way = reach_end (IsTowardNext chart ready t) (length chart.events) toward_new
      (λ past. one_decided (IsTowardNext chart ready t past) (toward_unique chart ready t past) (toward_told past)) [] tt

  -- and on from there to an end
  abbrev WholeWay : List ℕ → Type 0
  WholeWay front = (rest : List ℕ) × Steps (IsBlockedPairNext chart ready t) [] (front ++ rest)
      × ((x : ℕ) → IsBlockedPairNext chart ready t (front ++ rest) x → ⊥)

  -- the steps on the way to t are steps
  steps_of_way : (front : List ℕ) → Steps (IsTowardNext chart ready t) [] front → Steps (IsBlockedPairNext chart ready t) [] front
  steps_of_way front steps = Steps-map (IsTowardNext chart ready t) (IsBlockedPairNext chart ready t) (λ past x h. inl h) [] front steps

  whole_way : (front : List ℕ) → Steps (IsTowardNext chart ready t) [] front → WholeWay front
  whole_way front steps = reach_end (IsBlockedPairNext chart ready t) (length chart.events) next_new
      (λ past. one_decided (IsBlockedPairNext chart ready t past) (next_unique chart ready t past) (next_told past)) front
      (steps_of_way front steps)

  -- each output on the way to t is t or stands before it
  way_outputs : (front : List ℕ) → Steps (IsTowardNext chart ready t) [] front → HasOutputsUpTo chart ready t front
  way_outputs front steps s o there =
      let at_s = step_at (IsTowardNext chart ready t) front s steps there in
      elim (comes_so chart ready t (until front s) s at_s.1).1 [
        | inl up ↦ up
        | inr i ↦ absurd (not_both chart.events s o i)
      ]

  -- where something comes on the way to t, something comes next
  none_toward : (front : List ℕ) → ((x : ℕ) → IsTowardNext chart ready t front x → ⊥) → occurs front t ≡ false → (x : ℕ)
      → MayComeReady chart ready front x → (IsUpTo chart ready t x ⊎ IsTrue (is_input chart.events x)) → ⊥
  none_toward front none new x may some =
      elim (least_or_none (ComesUpTo chart ready t front) (up_to_told front) (length chart.events) (λ y h. h.1.may.event)) [
        | inl up ↦ none up.0 (record { left = new; least = inl up.1 })
        | inr no_up ↦ elim some [
          | inl up ↦ no_up x (up, may)
          | inr i ↦ elim (least_or_none (ComesAsInput chart ready front) (input_told front) (length chart.events) (λ y h. h.1.may.event)) [
            | inl own ↦ none own.0 (record { left = new; least = inr (no_up, own.1) })
            | inr nothing ↦ nothing x (i, may)
          ]
        ]
      ]

  -- so the way gets to the second output of a first blocked pair
  reaches : (e f : ℕ) → IsFirstBlockedPair chart ready e f → t ≡ partner chart.events f → (front : List ℕ)
      → Steps (IsTowardNext chart ready t) [] front → ((x : ℕ) → IsTowardNext chart ready t front x → ⊥) → occurs front t ≡ true
  reaches e f first is front steps none =
      by_test (occurs front t) (λ there. there) (λ new.
      let run = Steps-map (IsTowardNext chart ready t) (MayComeReady chart ready) (λ past x h. (comes_so chart ready t past x h).0) [] front steps in
      let next = comes_toward chart is_wired lines acyclic ready e f t first is front run (way_outputs front steps) new in
      absurd (none_toward front none new next.0 next.1.0 next.1.1))

  -- The whole way is the run of each first blocked pair with this second output.
  way_shows : (front : List ℕ) (steps : Steps (IsTowardNext chart ready t) [] front) → ((x : ℕ) → IsTowardNext chart ready t front x → ⊥)
      → (whole : WholeWay front) → (e f : ℕ) → IsFirstBlockedPair chart ready e f → t ≡ partner chart.events f
      → IsBlockedPairRun chart ready e f (front ++ whole.0)
  way_shows front steps none whole e f first is =
      let list : List ℕ = front ++ whole.0 in
      let there = reaches e f first is front steps none in
      let run = Steps-map (IsBlockedPairNext chart ready t) (MayComeReady chart ready) (may_of_next chart ready t) [] list whole.1 in
      blocked_pair_run chart is_wired ready e f t first is front list (way_outputs front steps) there (whole.0, refl) run
      (λ x may. elim (least_or_none (MayComeReady chart ready list) (may_told list) (length chart.events) (λ y h. h.may.event)) [
        | inl own ↦ whole.2 own.0 (inr (occurs-left front whole.0 t there, own.1))
        | inr nothing ↦ nothing x may
      ]) whole.1

-- So each first blocked pair has its run.
pub blocked_pair_runs : (chart : WiredChart) → IsWired chart → HaveOneLine chart → IsAcyclic chart.events → (ready : ℕ → Bool)
    → (runs : ℕ → List ℕ) × AreBlockedPairRuns chart ready runs
blocked_pair_runs chart is_wired lines acyclic ready = (
  λ f. let t : ℕ = partner chart.events f in
      let front = way chart is_wired lines acyclic ready t in
      front.0 ++ (whole_way chart is_wired lines acyclic ready t front.0 front.1).0,
  λ e f first. let t : ℕ = partner chart.events f in
      let front = way chart is_wired lines acyclic ready t in
      way_shows chart is_wired lines acyclic ready t front.0 front.1 front.2
      (whole_way chart is_wired lines acyclic ready t front.0 front.1) e f first refl,
)
