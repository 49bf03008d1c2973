-- What inputs take in by the rule of queues.
use Rattle.std.proofs.Common.{◌≡◌, ℕ, Bool, true, false, not, ◌&&◌, ◌||◌, ◌⊎◌, inl, inr, eqb, refl, sym, ◌∙◌, subst}
use Rattle.std.proofs.lemmas.Bool.{eqb-true, eq-eqb, ne_eqb, and_parts, and_from, or_cases, or_left, or_right, cases_eq}
use Rattle.msc_chart.specs.Charts.{partner, is_output, is_input}
use Rattle.msc_chart.specs.Orders.{WiredChart, queue, IsWired, Enforced}
use Rattle.msc_chart.specs.Orders.Enforced.{joined}
use Rattle.msc_chart.proofs.Drawn.{not_both, partner_of_output}
use Rattle.msc_order.specs.Caused.{Caused}
use Rattle.msc_order.specs.Closing.{IsBetween, Keeps, HasQueueOf, HasSeen, IsOutputOf, AreSeen, IsAfterOne, IsTaken, AreMoved}
use Rattle.bit_rows.proofs.Bits.{by_test, clash}
use Rattle.msc_order.proofs.Once.{queue_enforced}
use Rattle.msc_order.proofs.Between.{in_order}

-- a number, and what the test has after it, are taken out of a row
module _ (test : ℕ → ℕ → Bool) (c : ℕ) (left less : ℕ → Bool) (drop : (y : ℕ) → less y ≡ (left y && not (eqb y c || test c y))) where
  -- what is left was there before
  pub less_left : (d : ℕ) → less d ≡ true → left d ≡ true
  less_left d h = (and_parts (left d) _ (sym (drop d) ∙ h)).0

  -- that number is there no more
  pub less_gone : less c ≡ false
  less_gone = drop c ∙ rw (eq-eqb c c refl) (gone (left c))
    where
      -- whether it was there or not
      gone : (b : Bool) → (b && false) ≡ false
      gone true = refl
      gone false = refl

module _ (chart : WiredChart) where
  -- nothing is moved yet
  pub moved_none : (left taken : ℕ → Bool) → AreMoved chart left left taken taken
  moved_none left taken = record {
    fewer = λ c h. h;
    inputs = λ c h. inl h;
    grown = λ y h. h;
    after = λ y h. inl h;
    onward = λ h. h;
  }

  -- what comes after one of fewer outputs comes after one of all
  after_fewer : (left less : ℕ → Bool) → ((c : ℕ) → less c ≡ true → left c ≡ true) → (y : ℕ) → IsAfterOne chart less y → IsAfterOne chart left y
  after_fewer left less fewer y h = (h.0, fewer h.0 h.1, h.2)

  -- some outputs are moved, and then more of them
  pub moved_more : (left less least taken more most : ℕ → Bool) → AreMoved chart left less taken more → AreMoved chart less least more most
      → AreMoved chart left least taken most
  moved_more left less least taken more most h k = record {
    fewer = λ c there. h.fewer c (k.fewer c there);
    inputs = λ c there. elim (h.inputs c there) [ inl stands ↦ k.inputs c stands | inr moved ↦ inr (k.grown _ moved) ];
    grown = λ y there. k.grown y (h.grown y there);
    after = λ y there. elim (k.after y there) [ inl old ↦ h.after y old | inr new ↦ inr (after_fewer left less h.fewer y new) ];
    onward = λ old. k.onward (h.onward old);
  }

  -- of outputs that were looked at some are left
  pub seen_fewer : (test : ℕ → ℕ → Bool) (left less : ℕ → Bool) → ((c : ℕ) → less c ≡ true → left c ≡ true) → AreSeen chart test left → AreSeen chart test less
  seen_fewer test left less fewer h = record {
    seen = λ c there. h.seen c (fewer c there);
    one_queue = λ c d first second. h.one_queue c d (fewer c first) (fewer d second);
  }

  -- all outputs are moved, and nothing else
  pub all_moved : (left less taken more : ℕ → Bool) → AreMoved chart left less taken more → ((c : ℕ) → less c ≡ true → ⊥) → ((y : ℕ) → taken y ≡ false)
      → IsTaken chart left more
  all_moved left less taken more h none blank = record {
    inputs = λ c there. elim (h.inputs c there) [ inl stands ↦ absurd (none c stands) | inr moved ↦ moved ];
    after = λ y there. elim (h.after y there) [ inl old ↦ clash old (blank y) | inr new ↦ new ];
    onward = h.onward (λ y z there caused. clash there (blank y));
  }

  -- for no output nothing is taken in
  pub taken_none : (kept taken : ℕ → Bool) → ((c : ℕ) → kept c ≡ false) → ((y : ℕ) → taken y ≡ false) → IsTaken chart kept taken
  taken_none kept taken none blank = record {
    inputs = λ c there. clash there (none c);
    after = λ y there. clash there (blank y);
    onward = λ y z there caused. clash there (blank y);
  }

  -- one output is moved: its input with what comes after it, and out of the row whatever is caused after it
  module _ (test : ℕ → ℕ → Bool) (c : ℕ) (left less taken more : ℕ → Bool) (between : IsBetween chart test) (seen : AreSeen chart test left) (there : left c ≡ true)
      (drop : (y : ℕ) → less y ≡ (left y && not (eqb y c || test c y)))
      (is : (y : ℕ) → more y ≡ (taken y || (eqb y (partner chart.events c) || test (partner chart.events c) y))) where
    -- its input is taken in
    input_there : more (partner chart.events c) ≡ true
    input_there = is _ ∙ or_right (taken _) _ (or_left (eqb (partner chart.events c) (partner chart.events c)) _ (eq-eqb _ _ refl))

    -- and what the test has after it
    row_there : (y : ℕ) → test (partner chart.events c) y ≡ true → more y ≡ true
    row_there y h = is y ∙ or_right (taken y) _ (or_right (eqb y (partner chart.events c)) _ h)

    -- the input of another output is taken in with that of c, or the output is left
    inputs_there : (d : ℕ) → left d ≡ true → (less d ≡ true) ⊎ (more (partner chart.events d) ≡ true)
    inputs_there d stands = elim (cases_eq d c) [
      | inl same ↦ inr (subst (λ (w : ℕ). more (partner chart.events w) ≡ true) (sym same) input_there)
      | inr other ↦ by_test (test c d)
          (λ caused.
          let in_queue : IsOutputOf chart (queue chart c) d = record { output = (seen.seen d stands).0; one_queue = seen.one_queue c d there stands } in
          inr (row_there (partner chart.events d) ((seen.seen c there).1 d in_queue (between.outputs c d (seen.seen c there).0 caused))))
          (λ apart. inl (drop d ∙ rw (stands, ne_eqb d c other, apart) refl))
    ]

    -- so one output is moved
    pub moved_one : AreMoved chart left less taken more
    moved_one = record {
      fewer = less_left test c left less drop;
      inputs = inputs_there;
      grown = λ y h. is y ∙ or_left (taken y) _ h;
      after = λ y h. elim (or_cases (taken y) _ (sym (is y) ∙ h)) [
        | inl old ↦ inl old
        | inr new ↦ elim (or_cases (eqb y (partner chart.events c)) _ new) [
          | inl same ↦ inr (c, there, inl (sym (eqb-true y _ same)))
          | inr after ↦ inr (c, there, inr (between.enforced _ y after))
        ]
      ];
      onward = λ old y z h caused. elim (or_cases (taken y) _ (sym (is y) ∙ h)) [
        | inl was ↦ is z ∙ or_left (taken z) _ (old y z was caused)
        | inr new ↦ elim (or_cases (eqb y (partner chart.events c)) _ new) [
          | inl same ↦ row_there z (between.caused _ z (subst (λ (w : ℕ). Caused chart.events w z) (eqb-true y _ same) caused))
          | inr after ↦ row_there z (between.onward _ y z after caused)
        ]
      ];
    }

  -- the outputs that the row of s and the mask of its queue have in common
  module _ (test masks : ℕ → ℕ → Bool) (s : ℕ) (left : ℕ → Bool) (o : is_output chart.events s ≡ true) (between : IsBetween chart test) (shown : HasSeen chart test masks)
      (is : (y : ℕ) → left y ≡ (test s y && masks (queue chart s) y)) where
    -- they are outputs of that queue and caused after s
    left_own : (c : ℕ) → left c ≡ true → IsOutputOf chart (queue chart s) c × Caused chart.events s c
    left_own c h =
        let both = and_parts (test s c) _ (sym (is c) ∙ h) in
        ((shown (queue chart s) c both.1).0, between.outputs s c o both.0)

    -- and all of them, where those were looked at
    left_all : ((c : ℕ) → IsOutputOf chart (queue chart s) c → Caused chart.events s c → masks (queue chart s) c ≡ true)
        → (c : ℕ) → IsOutputOf chart (queue chart s) c → Caused chart.events s c → left c ≡ true
    left_all later c own after = is c ∙ and_from _ _ (between.caused s c after) (later c own after)

    -- so they are of one queue, and the test has the inputs after that of each
    pub left_seen : AreSeen chart test left
    left_seen = record {
      seen = λ c h. let known = shown (queue chart s) c (and_parts (test s c) _ (sym (is c) ∙ h)).1 in (known.0.output, known.1);
      one_queue = λ c d first second. (left_own d second).0.one_queue ∙ sym (left_own c first).0.one_queue;
    }

  -- the input of s takes in what is taken for the outputs of its queue that are caused after s
  module _ (wired : IsWired chart) (test now : ℕ → ℕ → Bool) (s : ℕ) (kept taken : ℕ → Bool) (o : is_output chart.events s ≡ true) (between : IsBetween chart test)
      (own : (c : ℕ) → kept c ≡ true → IsOutputOf chart (queue chart s) c × Caused chart.events s c) (is_taken : IsTaken chart kept taken)
      (is : (x y : ℕ) → now x y ≡ (test x y || (eqb x (partner chart.events s) && taken y))) where
    -- the table keeps what it held
    row_keeps : Keeps test now
    row_keeps x y h = is x y ∙ or_left (test x y) _ h

    -- what is taken is in the row of the input
    row_has : (y : ℕ) → taken y ≡ true → now (partner chart.events s) y ≡ true
    row_has y h = is _ y ∙ or_right (test (partner chart.events s) y) _ (and_from _ _ (eq-eqb _ _ refl) h)

    -- and is enforced after it
    row_enforced : (y : ℕ) → taken y ≡ true → Enforced chart (partner chart.events s) y
    row_enforced y h =
        let found = is_taken.after y h in
        let known = own found.0 found.1 in
        let first = queue_enforced chart wired _ _ (in_order chart wired s found.0 o known.0 known.1) in
        elim found.2 [
          | inl same ↦ subst (λ (w : ℕ). Enforced chart (partner chart.events s) w) same first
          | inr after ↦ joined first after
        ]

    -- so the rule of queues holds for s
    row_queue : ((c : ℕ) → IsOutputOf chart (queue chart s) c → Caused chart.events s c → kept c ≡ true) → HasQueueOf chart now s
    row_queue all c of_queue after = row_has (partner chart.events c) (is_taken.inputs c (all c of_queue after))

    -- a pair of the table is an old one, or one of the row of the input
    row_old : (x y : ℕ) → now x y ≡ true → (test x y ≡ true) ⊎ ((x ≡ partner chart.events s) × (taken y ≡ true))
    row_old x y h = elim (or_cases (test x y) _ (sym (is x y) ∙ h)) [
      | inl old ↦ inl old
      | inr new ↦ let both = and_parts (eqb x (partner chart.events s)) _ new in inr (eqb-true x _ both.0, both.1)
    ]

    -- so the table is still between what is caused and what is enforced
    row_between : IsBetween chart now
    row_between = record {
      caused = λ x y h. row_keeps x y (between.caused x y h);
      enforced = λ x y h. elim (row_old x y h) [
        | inl old ↦ between.enforced x y old
        | inr new ↦ subst (λ (w : ℕ). Enforced chart w y) (sym new.0) (row_enforced y new.1)
      ];
      outputs = λ x y output h. elim (row_old x y h) [
        | inl old ↦ between.outputs x y output old
        | inr new ↦ absurd (not_both chart.events x output (subst (λ (w : ℕ). is_input chart.events w ≡ true) (sym new.0) (partner_of_output chart.events wired.matched s o)))
      ];
      onward = λ x y z h caused. elim (row_old x y h) [
        | inl old ↦ row_keeps x z (between.onward x y z old caused)
        | inr new ↦ subst (λ (w : ℕ). now w z ≡ true) (sym new.0) (row_has z (is_taken.onward y z new.1 caused))
      ];
    }

  -- so the rule of queues is added for s, where its row and the mask of its queue have `left` in common
  pub queue_added : IsWired chart → (test masks now : ℕ → ℕ → Bool) (s : ℕ) (left taken : ℕ → Bool) → is_output chart.events s ≡ true
      → IsBetween chart test → HasSeen chart test masks
      → ((c : ℕ) → IsOutputOf chart (queue chart s) c → Caused chart.events s c → masks (queue chart s) c ≡ true)
      → ((y : ℕ) → left y ≡ (test s y && masks (queue chart s) y)) → IsTaken chart left taken
      → ((x y : ℕ) → now x y ≡ (test x y || (eqb x (partner chart.events s) && taken y)))
      → IsBetween chart now × Keeps test now × HasQueueOf chart now s
  queue_added wired test masks now s left taken o between shown later common is_taken is =
      let own = left_own test masks s left o between shown common in
      let all = left_all test masks s left o between shown common later in (
        row_between wired test now s left taken o between own is_taken is,
        row_keeps wired test now s left taken o between own is_taken is,
        row_queue wired test now s left taken o between own is_taken is all,
      )
