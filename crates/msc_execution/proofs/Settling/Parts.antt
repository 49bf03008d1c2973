-- What was got, sender by sender.
use Rattle.std.proofs.Common.{◌≡◌, ℕ, zero, suc, ◌+◌, ◌<◌, ◌≤◌, Bool, true, false, cond, eqb, List, [], ◌∷◌, filter, refl, sym, ap, ◌∙◌, inl, inr, subst, arith}
use Rattle.std.specs.Prelude.{count_by}
use Rattle.std.specs.List.{range_with_len}
use Rattle.std.proofs.lemmas.Bool.{eq-eqb, cases_lt}
use Rattle.msc_chart.specs.Lists.{occurs}
use Rattle.msc_chart.proofs.ListLemmas.{by_test, clash, occurs-head, occurs-tail, IsDistinct}
use Rattle.msc_fifo.specs.declared.entry.Entry.{Entry}
use Rattle.msc_fifo.specs.declared.entry.Entry.TheVariants.{Message, Ended}
use Rattle.msc_fifo.specs.Entries.{messages_of}
use Rattle.msc_execution.specs.Growth.{all_messages}
use Rattle.msc_execution.proofs.Lists.Words.{head_or_tail, in_none, fails}
use Rattle.msc_execution.proofs.Lists.Ranges.{count_more}

-- a message of the sender is among its messages
part_yes : (i n s : ℕ) (es : List Entry) → eqb i s ≡ true
    → messages_of s (Message i n ∷ es) ≡ n ∷ messages_of s es
part_yes i n s es h = ap (λ (b : Bool). cond b (n ∷ messages_of s es) (messages_of s es)) h

-- one of another is not
part_no : (i n s : ℕ) (es : List Entry) → eqb i s ≡ false
    → messages_of s (Message i n ∷ es) ≡ messages_of s es
part_no i n s es h = ap (λ (b : Bool). cond b (n ∷ messages_of s es) (messages_of s es)) h

-- what is among later ones is among all
part_later : (i n s : ℕ) (es : List Entry) (m : ℕ) → occurs (messages_of s es) m ≡ true
    → occurs (messages_of s (Message i n ∷ es)) m ≡ true
part_later i n s es m h =
    by_test (eqb i s)
    (λ yes. ap (λ (l : List ℕ). occurs l m) (part_yes i n s es yes)
    ∙ occurs-tail n (messages_of s es) m h)
    (λ no. ap (λ (l : List ℕ). occurs l m) (part_no i n s es no) ∙ h)

-- a message is among its sender's
part_here : (i n : ℕ) (es : List Entry) → occurs (messages_of i (Message i n ∷ es)) n ≡ true
part_here i n es =
    ap (λ (l : List ℕ). occurs l n) (part_yes i n i es (eq-eqb i i refl))
    ∙ occurs-head n (messages_of i es)

-- a message that was got is among the messages of some sender
pub in_a_part : (es : List Entry) (m : ℕ) → occurs (all_messages es) m ≡ true
    → (s : ℕ) × (occurs (messages_of s es) m ≡ true)
in_a_part [] m h = in_none m h
in_a_part (Message i n ∷ es) m h = elim (head_or_tail n (all_messages es) m h) [
  | inl is ↦ (
    i,
    subst (λ (k : ℕ). occurs (messages_of i (Message i n ∷ es)) k ≡ true) is
        (part_here i n es),
  )
  | inr later ↦ (let p = in_a_part es m later in (p.0, part_later i n p.0 es m p.1))
]
in_a_part (Ended i ∷ es) m h = in_a_part es m h

-- later messages of a sender stand once
part_once : (i n s : ℕ) (es : List Entry) → IsDistinct (messages_of s (Message i n ∷ es))
    → IsDistinct (messages_of s es)
part_once i n s es h =
    by_test (eqb i s)
    (λ yes. (let k : IsDistinct (n ∷ messages_of s es) = subst IsDistinct (part_yes i n s es yes) h in k.1))
    (λ no. subst IsDistinct (part_no i n s es no) h)

-- where each sender's messages stand once, and no two senders share one, all stand once
pub once_of_parts : (es : List Entry) → ((s : ℕ) → IsDistinct (messages_of s es))
    → ((m s t : ℕ) → occurs (messages_of s es) m ≡ true → occurs (messages_of t es) m ≡ true
    → s ≡ t)
    → IsDistinct (all_messages es)
once_of_parts [] once apart = tt
once_of_parts (Message i n ∷ es) once apart =
    let rest = once_of_parts es (λ s. part_once i n s es (once s))
    (λ m s t a b. apart m s t (part_later i n s es m a) (part_later i n t es m b)) in
    let mine : IsDistinct (n ∷ messages_of i es) =
    subst IsDistinct (part_yes i n i es (eq-eqb i i refl)) (once i) in (
      fails (occurs (all_messages es) n) (λ there.
          let p = in_a_part es n there in
          let same : p.0 ≡ i = apart n p.0 i (part_later i n p.0 es n p.1) (part_here i n es) in
          clash (ap (λ (s : ℕ). occurs (messages_of s es) n) (sym same) ∙ p.1) mine.0),
      rest,
    )
once_of_parts (Ended i ∷ es) once apart = once_of_parts es once apart

-- where a test tells the messages of one sender, they are what passes it
pub part_is_filter : (s : ℕ) (g : ℕ → Bool) (es : List Entry)
    → ((j m : ℕ) → occurs (messages_of j es) m ≡ true → eqb j s ≡ g m)
    → messages_of s es ≡ filter g (all_messages es)
part_is_filter s g [] tells = refl
part_is_filter s g (Message i n ∷ es) tells =
    let rest = part_is_filter s g es (λ j m h. tells j m (part_later i n j es m h)) in
    ap (λ (b : Bool). cond b (n ∷ messages_of s es) (messages_of s es))
    (tells i n (part_here i n es))
    ∙ ap (λ (l : List ℕ). cond (g n) (n ∷ l) l) rest
part_is_filter s g (Ended i ∷ es) tells = part_is_filter s g es (λ j m h. tells j m h)

-- what does not fall from n to n + 1 does not fall
rises : (f : ℕ → ℕ) → ((n : ℕ) → f n ≤ f (n + 1)) → (a b : ℕ) → a ≤ b → f a ≤ f b
rises f step a zero le = (let e : a ≡ 0 = omega arith in let g = ap f e in omega (arith, g))
rises f step a (suc b) le = elim (cases_lt b a) [
  | inl lt ↦ (let e : a ≡ suc b = omega arith in let g = ap f e in omega (arith, g))
  | inr ge ↦ (let r = rises f step a b ge in let m = step b in
      let e : b + 1 ≡ suc b = omega arith in let g = ap f e in omega (arith, r, m, g))
]

-- how many pass before a number that passes tells the number
module _ (p : ℕ → Bool) where
  -- how many pass before n
  before : ℕ → ℕ
  before n = count_by p (range_with_len 0 n)

  -- it does not fall
  step : (n : ℕ) → before n ≤ before (n + 1)
  unfolding before
  step n = let m = count_more p n in omega (arith, m)

  -- and rises where n passes
  more : (n : ℕ) → p n ≡ true → before (n + 1) ≡ before n + 1
  unfolding before
  more n h = let m = count_more p n in let one = ap (λ (b : Bool). cond {A = ℕ} b 1 0) h in
      omega (arith, m, one)

  -- so two numbers that pass differ in how many pass before them
  not_less : (i j : ℕ) → p i ≡ true → i < j → before i ≡ before j → ⊥
  not_less i j h lt same = let r = rises before step (i + 1) j (omega arith) in let m = more i h in
      absurd (omega (arith, r, m, same))

  -- which tells the number
  pub rank_tells : (i j : ℕ) → p i ≡ true → p j ≡ true
      → count_by p (range_with_len 0 i) ≡ count_by p (range_with_len 0 j) → i ≡ j
  unfolding before
  rank_tells i j a b same = elim (cases_lt i j) [
    | inl lt ↦ absurd (not_less i j a lt same)
    | inr ge ↦ elim (cases_lt j i) [
      | inl gt ↦ absurd (not_less j i b gt (sym same))
      | inr le ↦ omega arith
    ]
  ]
