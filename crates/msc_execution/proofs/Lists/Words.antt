-- Lists of numbers: what occurs in them, and once.
use Rattle.std.proofs.Common.{◌≡◌, ◌⊎◌, ℕ, Bool, true, false, cond, eqb, List, [], ◌∷◌, ◌++◌, map, filter, refl, sym, ap, ◌∙◌, inl, inr, subst}
use Rattle.std.proofs.lemmas.Bool.{eqb-true, or_cases}
use Rattle.msc_chart.specs.Lists.{occurs, Steps}
use Rattle.msc_chart.specs.Drawings.{Drawing}
use Rattle.msc_chart.proofs.ListLemmas.{by_test, clash, occurs-left, occurs-push, occurs-head, occurs-tail, occurs-right, IsDistinct, filter-passes}
use Rattle.msc_execution.specs.Logs.{MayBeLogged}
use Rattle.msc_gather.proofs.Filters.{filter-within}

-- what occurs is the head or in the tail
pub head_or_tail : (x : ℕ) (xs : List ℕ) (e : ℕ) → occurs (x ∷ xs) e ≡ true
    → (x ≡ e) ⊎ (occurs xs e ≡ true)
unfolding occurs
head_or_tail x xs e h =
    elim (or_cases (eqb x e) (occurs xs e) h)
    [ inl is ↦ inl (eqb-true x e is) | inr later ↦ inr later ]

-- nothing occurs in the empty list
pub in_none : {X : Type 0} (e : ℕ) → occurs [] e ≡ true → X
unfolding occurs
in_none e h = cc

-- a head that passes is kept
pub filter_yes : (p : ℕ → Bool) (x : ℕ) (xs : List ℕ) → p x ≡ true
    → filter p (x ∷ xs) ≡ x ∷ filter p xs
filter_yes p x xs h = ap (λ (b : Bool). cond b (x ∷ filter p xs) (filter p xs)) h

-- a head that fails is not
pub filter_no : (p : ℕ → Bool) (x : ℕ) (xs : List ℕ) → p x ≡ false → filter p (x ∷ xs) ≡ filter p xs
filter_no p x xs h = ap (λ (b : Bool). cond b (x ∷ filter p xs) (filter p xs)) h

-- what passes a filter occurred, and passes
pub passes : (p : ℕ → Bool) (xs : List ℕ) (e : ℕ) → occurs (filter p xs) e ≡ true
    → (occurs xs e ≡ true) × (p e ≡ true)
passes p xs e h = (filter-within p xs e h, filter-passes p xs e h)

-- what occurs and passes is kept
pub kept : (p : ℕ → Bool) (xs : List ℕ) (e : ℕ) → occurs xs e ≡ true → p e ≡ true
    → occurs (filter p xs) e ≡ true
kept p [] e h k = in_none e h
kept p (x ∷ xs) e h k = elim (head_or_tail x xs e h) [
  | inl is ↦
      let yes : p x ≡ true = ap p is ∙ k in
      ap (λ (l : List ℕ). occurs l e) (filter_yes p x xs yes)
      ∙ subst (λ (y : ℕ). occurs (x ∷ filter p xs) y ≡ true) is (occurs-head x (filter p xs))
  | inr later ↦
      let r = kept p xs e later k in
      by_test (p x)
      (λ yes. ap (λ (l : List ℕ). occurs l e) (filter_yes p x xs yes) ∙ occurs-tail x (filter p xs) e r)
      (λ no. ap (λ (l : List ℕ). occurs l e) (filter_no p x xs no) ∙ r)
]

-- a value of what occurs occurs among the values
pub mapped : (f : ℕ → ℕ) (xs : List ℕ) (e : ℕ) → occurs xs e ≡ true → occurs (map f xs) (f e) ≡ true
mapped f [] e h = in_none e h
mapped f (x ∷ xs) e h = elim (head_or_tail x xs e h) [
  | inl is ↦ subst (λ (y : ℕ). occurs (f x ∷ map f xs) (f y) ≡ true) is (occurs-head (f x) (map f xs))
  | inr later ↦ occurs-tail (f x) (map f xs) (f e) (mapped f xs e later)
]

-- and a value that occurs is that of something which occurs
pub unmapped : (f : ℕ → ℕ) (xs : List ℕ) (m : ℕ) → occurs (map f xs) m ≡ true
    → (e : ℕ) × (occurs xs e ≡ true) × (f e ≡ m)
unmapped f [] m h = in_none m h
unmapped f (x ∷ xs) m h = elim (head_or_tail (f x) (map f xs) m h) [
  | inl is ↦ (x, occurs-head x xs, is)
  | inr later ↦ (let r = unmapped f xs m later in (r.0, occurs-tail x xs r.0 r.1, r.2))
]

-- a test that leads to nothing where it passes fails
pub fails : (b : Bool) → (b ≡ true → ⊥) → b ≡ false
fails true f = absurd (f refl)
fails false f = refl

-- what stands once stands at most once among what passes
pub once_filter : (p : ℕ → Bool) (xs : List ℕ) → IsDistinct xs → IsDistinct (filter p xs)
once_filter p [] h = tt
once_filter p (x ∷ xs) h =
    let r = once_filter p xs h.1 in
    by_test (p x)
    (λ yes.
    let new : occurs (filter p xs) x ≡ false =
    fails (occurs (filter p xs) x) (λ there. clash (passes p xs x there).0 h.0) in
    subst IsDistinct (sym (filter_yes p x xs yes)) (new, r))
    (λ no. subst IsDistinct (sym (filter_no p x xs no)) r)

-- values that tell their elements apart stand once
pub once_map : (f : ℕ → ℕ) (xs : List ℕ)
    → ((e g : ℕ) → occurs xs e ≡ true → occurs xs g ≡ true → f e ≡ f g → e ≡ g) → IsDistinct xs
    → IsDistinct (map f xs)
once_map f [] apart h = tt
once_map f (x ∷ xs) apart h = (
  fails (occurs (map f xs) (f x)) (λ there.
      let r = unmapped f xs (f x) there in
      let same : r.0 ≡ x = apart r.0 x (occurs-tail x xs r.0 r.1) (occurs-head x xs) r.2 in
      clash (subst (λ (y : ℕ). occurs xs y ≡ true) same r.1) h.0),
  once_map f xs (λ e g in_e in_g. apart e g (occurs-tail x xs e in_e) (occurs-tail x xs g in_g)) h.1,
)

-- the first of two joined lists has each of its elements once
pub once_left : (xs ys : List ℕ) → IsDistinct (xs ++ ys) → IsDistinct xs
once_left [] ys h = tt
once_left (x ∷ xs) ys h =
    (fails (occurs xs x) (λ there. clash (occurs-left xs ys x there) h.0), once_left xs ys h.1)

-- what stands once in two joined lists stands in one of them alone
pub once_apart : (xs ys : List ℕ) (e : ℕ) → IsDistinct (xs ++ ys) → occurs xs e ≡ true
    → occurs ys e ≡ true → ⊥
once_apart [] ys e h a b = in_none e a
once_apart (x ∷ xs) ys e h a b = elim (head_or_tail x xs e a) [
  | inl is ↦ clash (occurs-right xs ys x (subst (λ (y : ℕ). occurs ys y ≡ true) (sym is) b)) h.0
  | inr later ↦ once_apart xs ys e h.1 later b
]

-- a log has each event once
pub steps_once : (d : Drawing) (past xs : List ℕ) → Steps (MayBeLogged d) past xs
    → IsDistinct xs × ((e : ℕ) → occurs past e ≡ true → occurs xs e ≡ true → ⊥)
steps_once d past [] h = (tt, λ e a b. in_none e b)
steps_once d past (x ∷ xs) h =
    let r = steps_once d (past ++ x ∷ []) xs h.1 in (
      (fails (occurs xs x) (λ there. r.1 x (occurs-push past x) there), r.0),
      λ e a b. elim (head_or_tail x xs e b) [
        | inl is ↦ clash (subst (λ (y : ℕ). occurs past y ≡ true) (sym is) a) h.0.new
        | inr later ↦ r.1 e (occurs-left past (x ∷ []) e a) later
      ],
    )
