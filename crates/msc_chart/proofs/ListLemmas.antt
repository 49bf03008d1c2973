-- Lists of events: what occurs in them, and their parts.
use Rattle.std.proofs.Common.{◌≡◌, ◌≢◌, ℕ, zero, suc, ◌<◌, length, get_or, sym, arith, Bool, true, false, cond, ◌||◌, inl, inr, eqb, List, [], ◌∷◌, ◌++◌, filter, refl, ap, subst, ◌∙◌, append_assoc}
use Rattle.std.proofs.Math.Bool.{or-false}
use Rattle.std.proofs.lemmas.Bool.{eqb-true, eq-eqb, ne_eqb, or_cases, or_left, or_right}
use Rattle.std.proofs.lemmas.List.{append-nil}
use Rattle.msc_chart.specs.Lists.{occurs, until, IsFirst, Steps}

-- a fact by cases on a test
pub by_test : {X : Type 0} (b : Bool) → (b ≡ true → X) → (b ≡ false → X) → X
by_test true f g = f refl
by_test false f g = g refl

-- a test does not both pass and fail
pub clash : {X : Type 0} {b : Bool} → b ≡ true → b ≡ false → X
clash p q = cc

-- no number stands in the list twice, told from its head
abbrev pub IsDistinct : List ℕ → Type 0
IsDistinct [] = Unit {0}
IsDistinct (x ∷ xs) = (occurs xs x ≡ false) × IsDistinct xs

-- the head of a list occurs in it
pub occurs-head : (x : ℕ) (xs : List ℕ) → occurs (x ∷ xs) x ≡ true
unfolding occurs
occurs-head x xs = or_left (eqb x x) (occurs xs x) (eq-eqb x x refl)

-- and so does what occurs behind the head
pub occurs-tail : (x : ℕ) (xs : List ℕ) (e : ℕ) → occurs xs e ≡ true → occurs (x ∷ xs) e ≡ true
unfolding occurs
occurs-tail x xs e h = or_right (eqb x e) (occurs xs e) h

-- what occurs in two joined lists occurs in one of them
pub occurs-append : (xs ys : List ℕ) (e : ℕ) → occurs (xs ++ ys) e ≡ (occurs xs e || occurs ys e)
unfolding occurs
occurs-append [] ys e = refl
occurs-append (x ∷ xs) ys e = elim (eqb x e) as (λ b. (b || occurs (xs ++ ys) e) ≡ ((b || occurs xs e) || occurs ys e)) [ true ↦ refl | false ↦ occurs-append xs ys e ]

-- what occurs in a list occurs in it with more behind
pub occurs-left : (xs ys : List ℕ) (e : ℕ) → occurs xs e ≡ true → occurs (xs ++ ys) e ≡ true
occurs-left xs ys e h = occurs-append xs ys e ∙ or_left (occurs xs e) (occurs ys e) h

-- and so does what occurs in the second of two joined lists
pub occurs-right : (xs ys : List ℕ) (e : ℕ) → occurs ys e ≡ true → occurs (xs ++ ys) e ≡ true
occurs-right xs ys e h = occurs-append xs ys e ∙ or_right (occurs xs e) (occurs ys e) h

-- the list is what stands before the first e, e, and a rest
pub parts : (xs : List ℕ) (e : ℕ) → occurs xs e ≡ true → (rest : List ℕ) × (xs ≡ until xs e ++ e ∷ rest)
unfolding occurs until
parts [] e h = cc
parts (x ∷ xs) e h =
    (elim (eqb x e) as (λ b. eqb x e ≡ b → (b || occurs xs e) ≡ true → (rest : List ℕ) × (x ∷ xs ≡ cond b [] (x ∷ until xs e) ++ e ∷ rest)) [
      | true ↦ λ same k. (xs, ap (λ y. y ∷ xs) (eqb-true x e same))
      | false ↦ λ other k. let p = parts xs e k in (p.0, ap (λ l. x ∷ l) p.1)
    ]) refl h

-- what stands before the first e of a list occurs in the list
pub until-within : (xs : List ℕ) (e y : ℕ) → occurs (until xs e) y ≡ true → occurs xs y ≡ true
unfolding occurs until
until-within [] e y h = h
until-within (x ∷ xs) e y h =
    (elim (eqb x e) as (λ b. occurs (cond b [] (x ∷ until xs e)) y ≡ true → (eqb x y || occurs xs y) ≡ true) [
      | true ↦ λ k. cc
      | false ↦ λ k. elim (or_cases (eqb x y) (occurs (until xs e) y) k) [
        | inl a ↦ or_left (eqb x y) (occurs xs y) a
        | inr b ↦ or_right (eqb x y) (occurs xs y) (until-within xs e y b)
      ]
    ]) h

-- what is put behind a list changes nothing before the first e that occurs in it
pub until-append : (xs ys : List ℕ) (e : ℕ) → occurs xs e ≡ true → until (xs ++ ys) e ≡ until xs e
unfolding occurs until
until-append [] ys e h = cc
until-append (x ∷ xs) ys e h =
    (elim (eqb x e) as (λ b. (b || occurs xs e) ≡ true → cond b [] (x ∷ until (xs ++ ys) e) ≡ cond b [] (x ∷ until xs e)) [
      | true ↦ λ k. refl
      | false ↦ λ k. ap (λ l. x ∷ l) (until-append xs ys e k)
    ]) h

-- where one number stands before another, that one does not stand before it
pub until-other : (xs : List ℕ) (e f : ℕ) → occurs (until xs f) e ≡ true → occurs (until xs e) f ≡ false
unfolding occurs until
until-other [] e f h = refl
until-other (x ∷ xs) e f h =
    (elim (eqb x f) as (λ b. eqb x f ≡ b → occurs (cond b [] (x ∷ until xs f)) e ≡ true → occurs (cond (eqb x e) [] (x ∷ until xs e)) f ≡ false) [
      | true ↦ λ same k. clash k refl
      | false ↦ λ other k.
          (elim (eqb x e) as (λ b. (b || occurs (until xs f) e) ≡ true → occurs (cond b [] (x ∷ until xs e)) f ≡ false) [
            | true ↦ λ j. refl
            | false ↦ λ j. rw other (until-other xs e f j)
          ]) k
    ]) refl h

-- two lists of steps, the second from where the first ends, are one list of steps
pub Steps-append : (May : List ℕ → ℕ → Type 0) (past xs ys : List ℕ) → Steps May past xs → Steps May (past ++ xs) ys → Steps May past (xs ++ ys)
Steps-append May past [] ys h k = rw append-nil at k
Steps-append May past (x ∷ xs) ys h k = (h.0, Steps-append May (past ++ x ∷ []) xs ys h.1 (rw append_assoc k))

-- and a list of steps that is cut in two is two such lists
pub Steps-parts : (May : List ℕ → ℕ → Type 0) (past xs ys : List ℕ) → Steps May past (xs ++ ys) → Steps May past xs × Steps May (past ++ xs) ys
Steps-parts May past [] ys h = (tt, rw append-nil h)
Steps-parts May past (x ∷ xs) ys h =
    let p = Steps-parts May (past ++ x ∷ []) xs ys h.1 in
    ((h.0, p.0), (rw append_assoc at p.1))

-- what occurs in a list of steps could come after what stands before it, and that is a list of steps too
pub step_at : (May : List ℕ → ℕ → Type 0) (xs : List ℕ) (e : ℕ) → Steps May [] xs → occurs xs e ≡ true → Steps May [] (until xs e) × May (until xs e) e
step_at May xs e steps h =
    let p = parts xs e h in
    let both = Steps-parts May [] (until xs e) (e ∷ p.0) (subst (λ (l : List ℕ). Steps May [] l) p.1 steps) in
    (both.0, both.1.0)

-- the first of a filter occurs in the list, and passes
pub first_occurs : (p : ℕ → Bool) (xs : List ℕ) (s : ℕ) → IsFirst (filter p xs) s → (occurs xs s ≡ true) × (p s ≡ true)
unfolding occurs
first_occurs p [] s h = absurd h
first_occurs p (x ∷ xs) s h =
    (elim (p x) as (λ b. p x ≡ b → IsFirst (cond b (x ∷ filter p xs) (filter p xs)) s → ((eqb x s || occurs xs s) ≡ true) × (p s ≡ true)) [
      | true ↦ λ passes k. (or_left (eqb x s) (occurs xs s) (eq-eqb x s k), cc)
      | false ↦ λ fails k. let later = first_occurs p xs s k in (or_right (eqb x s) (occurs xs s) later.0, later.1)
    ]) refl h

-- nothing before the first of a filter passes it
pub before_first_fails : (p : ℕ → Bool) (xs : List ℕ) (s t : ℕ) → IsFirst (filter p xs) s → occurs (until xs s) t ≡ true → p t ≡ false
unfolding occurs until
before_first_fails p [] s t h k = absurd h
before_first_fails p (x ∷ xs) s t h k =
    (elim (p x) as (λ b. p x ≡ b → IsFirst (cond b (x ∷ filter p xs) (filter p xs)) s → p t ≡ false) [
      | true ↦ λ passes first. clash (rw (eq-eqb x s first) at k) refl
      | false ↦ λ fails first.
          (elim (eqb x s) as (λ b. occurs (cond b [] (x ∷ until xs s)) t ≡ true → p t ≡ false) [
            | true ↦ λ j. cc
            | false ↦ λ j. elim (or_cases (eqb x t) (occurs (until xs s) t) j) [
              | inl same ↦ let e : x ≡ t = eqb-true x t same in cc
              | inr later ↦ before_first_fails p xs s t first later
            ]
          ]) k
    ]) refl h

-- where something that passes occurs, the filter has a first
pub filter-first : (p : ℕ → Bool) (xs : List ℕ) (s : ℕ) → occurs xs s ≡ true → p s ≡ true → (t : ℕ) × IsFirst (filter p xs) t
unfolding occurs
filter-first p [] s h k = cc
filter-first p (x ∷ xs) s h k =
    (elim (p x) as (λ b. p x ≡ b → (t : ℕ) × IsFirst (cond b (x ∷ filter p xs) (filter p xs)) t) [
      | true ↦ λ passes. (x, refl)
      | false ↦ λ fails. elim (or_cases (eqb x s) (occurs xs s) h) [
        | inl same ↦ let e : x ≡ s = eqb-true x s same in cc
        | inr later ↦ filter-first p xs s later k
      ]
    ]) refl

-- steps of a kind are steps of a wider kind
pub Steps-map : (May Other : List ℕ → ℕ → Type 0) → ((past : List ℕ) (x : ℕ) → May past x → Other past x) → (past xs : List ℕ) → Steps May past xs → Steps Other past xs
Steps-map May Other f past [] h = tt
Steps-map May Other f past (x ∷ xs) h = (f past x h.0, Steps-map May Other f (past ++ x ∷ []) xs h.1)

-- one more step
pub Steps-push : (May : List ℕ → ℕ → Type 0) (xs : List ℕ) (x : ℕ) → Steps May [] xs → May xs x → Steps May [] (xs ++ x ∷ [])
Steps-push May xs x h k = Steps-append May [] xs (x ∷ []) h (k, tt)

-- what is put at the end of a list occurs in it
pub occurs-push : (xs : List ℕ) (e : ℕ) → occurs (xs ++ e ∷ []) e ≡ true
unfolding occurs
occurs-push xs e = occurs-append xs (e ∷ []) e ∙ or_right (occurs xs e) _ (or_left (eqb e e) false (eq-eqb e e refl))

-- what else occurs in a list with one number more at its end
pub occurs_other : (xs : List ℕ) (e x : ℕ) → x ≢ e → occurs (xs ++ e ∷ []) x ≡ occurs xs x
unfolding occurs
occurs_other xs e x other = occurs-append xs (e ∷ []) x ∙ ap (λ (b : Bool). occurs xs x || (b || false)) (ne_eqb e x (λ s. other (sym s))) ∙ or-false (occurs xs x)

-- what stands at a place occurs
pub occurs_at : (xs : List ℕ) (k : ℕ) → k < length xs → occurs xs (get_or xs k 0) ≡ true
unfolding occurs
occurs_at [] k lt = absurd (omega arith)
occurs_at (x ∷ xs) zero lt = or_left (eqb x x) (occurs xs x) (eq-eqb x x refl)
occurs_at (x ∷ xs) (suc k) lt = or_right (eqb x (get_or xs k 0)) (occurs xs (get_or xs k 0)) (occurs_at xs k (omega arith))

-- what occurs in a filter passes
pub filter-passes : (p : ℕ → Bool) (xs : List ℕ) (e : ℕ) → occurs (filter p xs) e ≡ true
    → p e ≡ true
unfolding occurs
filter-passes p [] e h = clash h refl
filter-passes p (x ∷ xs) e h =
    (elim (p x) as (λ b. p x ≡ b → occurs (cond b (x ∷ filter p xs) (filter p xs)) e ≡ true
    → p e ≡ true) [
      | true ↦ λ passes k. elim (or_cases (eqb x e) (occurs (filter p xs) e) k) [
        | inl same ↦ subst (λ (z : ℕ). p z ≡ true) (eqb-true x e same) passes
        | inr later ↦ filter-passes p xs e later
      ]
      | false ↦ λ fails k. filter-passes p xs e k
    ]) refl h

-- an event does not stand before itself
pub until-self : (xs : List ℕ) (e : ℕ) → occurs (until xs e) e ≡ false
unfolding occurs until
until-self [] e = refl
until-self (x ∷ xs) e =
    (elim (eqb x e) as (λ b. eqb x e ≡ b → occurs (cond b [] (x ∷ until xs e)) e ≡ false) [
      | true ↦ λ same. refl
      | false ↦ λ other. rw other (until-self xs e)
    ]) refl
