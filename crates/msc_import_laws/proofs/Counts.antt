-- A path has no more outputs, inputs and actions than messages.
use Rattle.std.proofs.Common.{◌≡◌, ℕ, zero, suc, ◌+◌, ◌<◌, ◌≤◌, Bool, true, false, cond, eqb, sym, arith, List, [], ◌∷◌, ◌++◌, refl, ap, ◌∙◌, count_by}
use Rattle.std.specs.List.{sum_by}
use Rattle.std.proofs.lemmas.Bool.{and_parts, eqb-true}
use Rattle.std.proofs.lemmas.List.Sums.{sum_by-append, sum_by-cons}
use Rattle.msc_chart.proofs.ListLemmas.{by_test}
use Rattle.msc_scenarios.specs.declared.steps.Message.{Message}
use Rattle.msc_scenarios.specs.declared.steps.Step.{Step}
use Rattle.msc_scenarios.specs.declared.steps.Step.TheVariants as steps
use Rattle.msc_import.specs.declared.plan.Own.{Own}
use Rattle.msc_import.specs.declared.plan.Own.TheVariants as owns
use Rattle.msc_import.specs.Plans.{is_exchange}
use Rattle.msc_import_laws.specs.Apart.{messages_in}
use Rattle.msc_import_laws.proofs.EndLists.{End, end_at, ends_at, ends_from, ends_on_lines}
use Rattle.msc_import_laws.proofs.Parts.Side.{Out, In, Alone, Lost, OutBack, InBack}
use Rattle.msc_import_laws.proofs.Parts.{Side, sides_by, sides_on}
use Rattle.msc_markdown.proofs.PassLemmas.{count_view as count_mapped}

-- one more
pub count_cons : {X : Type 0} (p : X → Bool) (x : X) (xs : List X) → count_by p (x ∷ xs) ≡ cond (p x) 1 0 + count_by p xs
count_cons p x xs = sum_by-cons (λ y. cond (p y) 1 0) x xs

-- how many of two joined lists pass
pub count_joined : {X : Type 0} (p : X → Bool) (xs ys : List X) → count_by p (xs ++ ys) ≡ count_by p xs + count_by p ys
count_joined p xs ys = sum_by-append (λ x. cond (p x) 1 0) xs ys

-- the same is counted by tests that are the same
pub count_same : {X : Type 0} (p q : X → Bool) → ((x : X) → p x ≡ q x) → (xs : List X) → count_by p xs ≡ count_by q xs
count_same p q same [] = refl
count_same p q same (x ∷ xs) =
    count_cons p x xs ∙ ap (λ (b : Bool). cond b 1 0 + count_by p xs) (same x) ∙ ap (λ (n : ℕ). cond (q x) 1 0 + n) (count_same p q same xs) ∙ sym (count_cons q x xs)

-- the sum over so many lines from this one on
over : (ℕ → ℕ) → ℕ → ℕ → ℕ
over f line zero = 0
over f line (suc n) = f line + over f (line + 1) n

over_sum : (f g : ℕ → ℕ) (line n : ℕ) → over (λ l. f l + g l) line n ≡ over f line n + over g line n
unfolding over
over_sum f g line zero = refl
over_sum f g line (suc n) = let r = over_sum f g (line + 1) n in omega (arith, r)

over_le : (f g : ℕ → ℕ) → ((l : ℕ) → f l ≤ g l) → (line n : ℕ) → over f line n ≤ over g line n
unfolding over
over_le f g h line zero = omega arith
over_le f g h line (suc n) = let r = over_le f g h (line + 1) n in let s = h line in omega (arith, r, s)

over_none : (line n : ℕ) → over (λ l. 0) line n ≡ 0
unfolding over
over_none line zero = refl
over_none line (suc n) = let r = over_none (line + 1) n in omega (arith, r)

-- one line is one line at most
past : (h line n : ℕ) → h < line → over (λ l. cond (eqb h l) 1 0) line n ≡ 0
unfolding over
past h line zero lt = refl
past h line (suc n) lt =
    let r = past h (line + 1) n (omega (arith, lt)) in
    by_test (eqb h line)
    (λ same. let e = eqb-true h line same in absurd (omega (arith, e, lt)))
    (λ other. rw other (omega (arith, r)))

once : (h line n : ℕ) → over (λ l. cond (eqb h l) 1 0) line n ≤ 1
unfolding over
once h line zero = omega arith
once h line (suc n) =
    let r = once h (line + 1) n in
    by_test (eqb h line)
    (λ same. let e = eqb-true h line same in let none = past h (line + 1) n (omega (arith, e)) in rw same (omega (arith, none)))
    (λ other. rw other (omega (arith, r)))

-- what is counted: outputs, inputs or what a line does alone
unfoldable pub is_out : Side → Bool
is_out Out = true
is_out In = false
is_out Alone = false
is_out Lost = false
is_out OutBack = true
is_out InBack = false

unfoldable pub is_in : Side → Bool
is_in Out = false
is_in In = true
is_in Alone = false
is_in Lost = false
is_in OutBack = false
is_in InBack = true

unfoldable pub is_alone : Side → Bool
is_alone Out = false
is_alone In = false
is_alone Alone = true
is_alone Lost = true
is_alone OutBack = false
is_alone InBack = false

outs : (own : Own) (pair lost from to : Bool) → count_by is_out (sides_by own pair lost from to) ≤ cond from 1 0 + cond pair (cond to 1 0) 0
unfolding is_out
outs own true lost true true = omega arith
outs own true lost true false = omega arith
outs own true lost false true = omega arith
outs own true lost false false = omega arith
outs own false true true to = omega arith
outs own false true false to = omega arith
outs owns.Action false false true true = omega arith
outs owns.Message false false true true = omega arith
outs own false false true false = omega arith
outs own false false false true = omega arith
outs own false false false false = omega arith

ins : (own : Own) (pair lost from to : Bool) → count_by is_in (sides_by own pair lost from to) ≤ cond to 1 0 + cond pair (cond from 1 0) 0
unfolding is_in
ins own true lost true true = omega arith
ins own true lost true false = omega arith
ins own true lost false true = omega arith
ins own true lost false false = omega arith
ins own false true true true = omega arith
ins own false true true false = omega arith
ins own false true false true = omega arith
ins own false true false false = omega arith
ins owns.Action false false true true = omega arith
ins owns.Message false false true true = omega arith
ins own false false true false = omega arith
ins own false false false true = omega arith
ins own false false false false = omega arith

alones : (own : Own) (pair lost from to : Bool) → count_by is_alone (sides_by own pair lost from to) ≤ cond from 1 0 + cond pair (cond to 1 0) 0
unfolding is_alone
alones own true lost true true = omega arith
alones own true lost true false = omega arith
alones own true lost false true = omega arith
alones own true lost false false = omega arith
alones own false true true to = omega arith
alones own false true false to = omega arith
alones owns.Action false false true true = omega arith
alones owns.Message false false true true = omega arith
alones own false false true false = omega arith
alones own false false false true = omega arith
alones own false false false false = omega arith

-- a test that at most one end of each message passes, over all lines
unfoldable pub OnceEach : Own → (Side → Bool) → Type 0
OnceEach own p = (m : Message) → (h : ℕ) × (g : ℕ) × ((line : ℕ) → count_by p (sides_on own line m) ≤ cond (eqb h line) 1 0 + cond (is_exchange m) (cond (eqb g line) 1 0) 0)

pub outs_once : (own : Own) → OnceEach own is_out
unfolding OnceEach
outs_once own m = (m.from, m.to, λ line. (outs own (is_exchange m) m.lost (eqb m.from line) (eqb m.to line)))

pub ins_once : (own : Own) → OnceEach own is_in
unfolding OnceEach
ins_once own m = (m.to, m.from, λ line. (ins own (is_exchange m) m.lost (eqb m.from line) (eqb m.to line)))

pub alones_once : (own : Own) → OnceEach own is_alone
unfolding OnceEach
alones_once own m = (m.from, m.to, λ line. (alones own (is_exchange m) m.lost (eqb m.from line) (eqb m.to line)))

-- what is sent back is of an arrow with two heads
exchange_both : (m : Message) → is_exchange m ≡ true → m.both ≡ true
unfolding is_exchange
exchange_both m h = (and_parts _ _ (and_parts _ _ h).0).0

-- over all lines an arrow has no more of them than messages
once_twice : (m : Message) (h g line n : ℕ) → over (λ l. cond (eqb h l) 1 0 + cond (is_exchange m) (cond (eqb g l) 1 0) 0) line n ≤ cond m.both 2 1
once_twice m h g line n =
    let sum = over_sum (λ l. cond (eqb h l) 1 0) (λ l. cond (is_exchange m) (cond (eqb g l) 1 0) 0) line n in
    let first = once h line n in
    by_test (is_exchange m)
    (λ pair.
    let both = exchange_both m pair in
    let second = once g line n in
    let same : over (λ l. cond (is_exchange m) (cond (eqb g l) 1 0) 0) line n ≡ over (λ l. cond (eqb g l) 1 0) line n = ap (λ (b : Bool). over (λ l. cond b (cond (eqb g l) 1 0) 0) line n) pair in
    let two : ◌≡◌ {A = ℕ} (cond m.both 2 1) 2 = ap (λ (b : Bool). cond b 2 1) both in
    omega (arith, sum, first, second, same, two))
    (λ single.
    let none : over (λ l. cond (is_exchange m) (cond (eqb g l) 1 0) 0) line n ≡ 0 = ap (λ (b : Bool). over (λ l. cond b (cond (eqb g l) 1 0) 0) line n) single ∙ over_none line n in
    let low : 1 ≤ cond m.both 2 1 = elim m.both as (λ b. 1 ≤ cond b 2 1) [ true ↦ omega arith | false ↦ omega arith ] in
    omega (arith, sum, first, none, low))

module _ (own : Own) (p : Side → Bool) where
  of_step : Step → ℕ → ℕ
  of_step s line = count_by (λ (x : End). p x.side) (ends_at own line 0 s)

  of_line : List Step → ℕ → ℕ
  of_line [] line = 0
  of_line (s ∷ ss) line = of_step s line + of_line ss line

  -- whichever step it is
  step_count : (line k : ℕ) (s : Step) → count_by (λ (x : End). p x.side) (ends_at own line k s) ≡ of_step s line
  unfolding of_step
  step_count line k (steps.Meets m) = count_mapped (λ (x : End). p x.side) (end_at line k m) (sides_on own line m) ∙ sym (count_mapped (λ (x : End). p x.side) (end_at line 0 m) (sides_on own line m))
  step_count line k (steps.Opens text) = refl
  step_count line k steps.Next = refl
  step_count line k steps.Closes = refl

  line_count : (line k : ℕ) (ss : List Step) → count_by (λ (x : End). p x.side) (ends_from own line k ss) ≡ of_line ss line
  unfolding of_line of_step
  line_count line k [] = refl
  line_count line k (s ∷ ss) =
      count_joined (λ (x : End). p x.side) (ends_at own line k s) (ends_from own line (k + 1) ss)
      ∙ ap (λ (n : ℕ). n + count_by (λ (x : End). p x.side) (ends_from own line (k + 1) ss)) (step_count line k s)
      ∙ ap (λ (n : ℕ). of_step s line + n) (line_count line (k + 1) ss)

  lines_count : (ss : List Step) (line n : ℕ) → count_by (λ (x : End). p x.side) (ends_on_lines own ss line n) ≡ over (of_line ss) line n
  unfolding over
  lines_count ss line zero = refl
  lines_count ss line (suc n) =
      count_joined (λ (x : End). p x.side) (ends_from own line 0 ss) (ends_on_lines own ss (line + 1) n)
      ∙ ap (λ (k : ℕ). k + count_by (λ (x : End). p x.side) (ends_on_lines own ss (line + 1) n)) (line_count line 0 ss)
      ∙ ap (λ (k : ℕ). of_line ss line + k) (lines_count ss (line + 1) n)

  module _ (each : OnceEach own p) where
    step_once : (s : Step) (line n : ℕ) → over (of_step s) line n ≤ messages_in s
    unfolding of_step OnceEach
    step_once (steps.Meets m) line n =
        let h = each m in
        let le = over_le (of_step (steps.Meets m)) (λ l. cond (eqb h.0 l) 1 0 + cond (is_exchange m) (cond (eqb h.1 l) 1 0) 0) (λ l. rw (count_mapped (λ (x : End). p x.side) (end_at l 0 m) (sides_on own l m)) (h.2 l)) line n in
        let one = once_twice m h.0 h.1 line n in
        omega (arith, le, one)
    step_once (steps.Opens text) line n = let r = over_none line n in omega (arith, r)
    step_once steps.Next line n = let r = over_none line n in omega (arith, r)
    step_once steps.Closes line n = let r = over_none line n in omega (arith, r)

    all_once : (ss : List Step) (line n : ℕ) → over (of_line ss) line n ≤ sum_by messages_in ss
    unfolding of_line
    all_once [] line n = let r = over_none line n in omega (arith, r)
    all_once (s ∷ ss) line n =
        let sum = over_sum (of_step s) (of_line ss) line n in
        let first = step_once s line n in
        let rest = all_once ss line n in
        let one = sum_by-cons messages_in s ss in
        omega (arith, sum, first, rest, one)

    -- as many pass as there are messages, at most
    pub few_pass : (ss : List Step) (line n : ℕ) → count_by (λ (x : End). p x.side) (ends_on_lines own ss line n) ≤ sum_by messages_in ss
    few_pass ss line n = let a = lines_count ss line n in let b = all_once ss line n in omega (arith, a, b)
