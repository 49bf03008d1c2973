-- A witness is a whole run in which the free events come first, and there is only one.
use Rattle.std.proofs.Common.{◌≡◌, ℕ, true, inl, inr, List, [], ◌∷◌, ◌++◌, refl, sym, ap, ◌∙◌, subst, append_assoc}
use Rattle.std.proofs.lemmas.Bool.{cases_order, false_from_ne_true}
use Rattle.std.proofs.lemmas.List.{append-nil}
use Rattle.msc_chart.specs.Lists.{occurs, until, IsLeast, Steps}
use Rattle.msc_chart.specs.Orders.{WiredChart, IsRace}
use Rattle.msc_chart.specs.Runs.{Run, MayCome, IsWhole, Reverses}
use Rattle.msc_chart.specs.Witness.{IsFree, MayComeFree, IsWitnessNext, IsWitness}
use Rattle.msc_chart.proofs.ListLemmas.{until-other}
use Rattle.msc_race.proofs.Shared.{clash, step_at, until-within, Steps-map}
use Rattle.msc_race.proofs.Runs.Standing.{until_swapped}
use Rattle.msc_race.proofs.Runs.EventLemmas.{before_differs, before_parts}

-- what comes next in a witness may come
pub may_of_next : (chart : WiredChart) (e : ℕ) (past : List ℕ) (x : ℕ) → IsWitnessNext chart e past x
    → MayCome chart past x
may_of_next chart e past x next = elim next [ inl a ↦ a.1.itself.may | inr b ↦ b.1.itself ]

-- The beginning of a witness is a run.
pub witness_run : (chart : WiredChart) (e : ℕ) (events : List ℕ)
    → Steps (IsWitnessNext chart e) [] events → Run chart events
witness_run chart e events steps =
    Steps-map (IsWitnessNext chart e) (MayCome chart) (may_of_next chart e) [] events steps

-- A witness is whole.
pub witness_whole : (chart : WiredChart) (e : ℕ) (events : List ℕ) → IsWitness chart e events
    → Run chart events × IsWhole chart events
witness_whole chart e events witness = (witness_run chart e events witness.0, witness.1)

-- It reverses e and each event that is free of e: at e, such an event would be left.
pub witness_reverses : (chart : WiredChart) (e : ℕ) (events : List ℕ) → IsWitness chart e events
    → (f : ℕ) → IsFree chart e f → Reverses events e f
witness_reverses chart e events witness f free = (
  witness.1 f free.0,
  false_from_ne_true _ (λ h.
      let at_e = step_at (IsWitnessNext chart e) events e witness.0 (until-within events f e h) in
      elim at_e.1 [
        | inl a ↦ a.1.itself.free.1 refl
        | inr b ↦ b.0 (f, free, until-other events e f h)
      ]),
)

-- So the event stands before e.
pub witness_before : (chart : WiredChart) (e : ℕ) (events : List ℕ) → IsWitness chart e events
    → (f : ℕ) → IsFree chart e f → occurs (until events e) f ≡ true
witness_before chart e events witness f free =
    let reverses = witness_reverses chart e events witness f free in
    until_swapped events e f free.1 reverses.0 reverses.1

-- And it reverses every race of e.
pub witness_reverses_race : (chart : WiredChart) (e : ℕ) (events : List ℕ)
    → IsWitness chart e events
    → (f : ℕ) → IsRace chart e f → Reverses events e f
witness_reverses_race chart e events witness f race =
    let facts = before_parts chart.events e f race.0 in
    witness_reverses chart e events witness f (facts.1, λ same. before_differs chart.events e f race.0 (sym same), race.1)

-- there is one least number at most
pub least_unique : (P : ℕ → Type 0) (x y : ℕ) → IsLeast P x → IsLeast P y → x ≡ y
least_unique P x y h k =
    elim (cases_order x y) [
      | inl same ↦ same
      | inr other ↦ elim other [
        | inl lt ↦ absurd (k.none_below x lt h.itself)
        | inr gt ↦ absurd (h.none_below y gt k.itself)
      ]
    ]

-- so at most one event comes next
next_unique : (chart : WiredChart) (e : ℕ) (past : List ℕ) (x y : ℕ) → IsWitnessNext chart e past x
    → IsWitnessNext chart e past y → x ≡ y
next_unique chart e past x y h k =
    elim h [
      | inl a ↦ elim k [ inl c ↦ least_unique (MayComeFree chart e past) x y a.1 c.1 | inr d ↦ absurd (d.0 a.0) ]
      | inr b ↦ elim k [ inl c ↦ absurd (b.0 c.0) | inr d ↦ least_unique (MayCome chart past) x y b.1 d.1 ]
    ]

-- nothing comes after a whole run
none_after_whole : (chart : WiredChart) (e : ℕ) (past : List ℕ) (x : ℕ)
    → IsWitnessNext chart e past x → IsWhole chart (past ++ []) → ⊥
none_after_whole chart e past x next whole =
    let may = may_of_next chart e past x next in
    clash (subst (λ (l : List ℕ). occurs l x ≡ true) (append-nil past) (whole x may.event)) may.new

-- so two witnesses with one beginning go on alike
rest_unique : (chart : WiredChart) (e : ℕ) (past xs ys : List ℕ)
    → Steps (IsWitnessNext chart e) past xs → Steps (IsWitnessNext chart e) past ys
    → IsWhole chart (past ++ xs) → IsWhole chart (past ++ ys) → xs ≡ ys
rest_unique chart e past [] [] h k u v = refl
rest_unique chart e past [] (y ∷ ys) h k u v = absurd (none_after_whole chart e past y k.0 u)
rest_unique chart e past (x ∷ xs) [] h k u v = absurd (none_after_whole chart e past x h.0 v)
rest_unique chart e past (x ∷ xs) (y ∷ ys) h k u v =
    let same = next_unique chart e past x y h.0 k.0 in
    let h2 : Steps (IsWitnessNext chart e) (past ++ y ∷ []) xs =
    subst (λ (z : ℕ). Steps (IsWitnessNext chart e) (past ++ z ∷ []) xs) same h.1 in
    let u2 : IsWhole chart ((past ++ y ∷ []) ++ xs) =
    rw append_assoc (subst (λ (z : ℕ). IsWhole chart (past ++ z ∷ xs)) same u) in
    let v2 : IsWhole chart ((past ++ y ∷ []) ++ ys) = rw append_assoc v in
    let rest = rest_unique chart e (past ++ y ∷ []) xs ys h2 k.1 u2 v2 in
    ap (λ z. z ∷ xs) same ∙ ap (λ l. y ∷ l) rest

-- There is one witness at most.
pub witness_unique : (chart : WiredChart) (e : ℕ) (xs ys : List ℕ) → IsWitness chart e xs
    → IsWitness chart e ys → xs ≡ ys
witness_unique chart e xs ys h k = rest_unique chart e [] xs ys h.0 k.0 h.1 k.1
