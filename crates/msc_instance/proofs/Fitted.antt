-- How ends are compared with the counts of a table.
use Rattle.std.proofs.Common.{◌≡◌, ◌≢◌, ◌↔◌, ℕ, suc, ◌+◌, ◌-◌, ◌<◌, ◌≤◌, Bool, true, false, cond, List, [], ◌∷◌, ◌++◌, length, get_or, filter, set, drop, refl, sym, ap, ◌∙◌, inl, inr, arith, nat_eq, nat_lt}
use Rattle.std.specs.Prelude.{count_by}
use Rattle.std.specs.List.{range_with_len}
use Rattle.std.proofs.lemmas.Bool.{eq-eqb, ne_eqb, cases_eq, lt-ltb, le-ltb}
use Rattle.std.proofs.lemmas.List.{drop_more, drop_all, get_or-set_same, get_or-set_other, length-set, length-drop, length-map, map-id}
use Rattle.std.proofs.lemmas.List.FromFn.{filter_of_map_range_with_len_more, length-range_with_len}
use Rattle.std.proofs.lemmas.List.Sums.{count_by-le-length, sum_by-append, sum_by-cons, length-filter}
use mir.Val.{bool_byte}
use Rattle.msc_chart.specs.declared.queue.Queues.{Queues}
use Rattle.msc_chart.specs.Drawings.{Drawing}
use Rattle.msc_chart.specs.Orders.{queue_of}
use Rattle.msc_chart.proofs.ListLemmas.{by_test}
use Rattle.msc_instance.specs.Fitting.{AreCountsOf, used_numbers_from, numbers_of_ends}

-- the rest of the table's numbers, one queue on
module _ (counts : List ℕ) (q : ℕ) (within : q < length counts) where
  -- the numbers behind q
  rest : List ℕ
  rest = used_numbers_from counts (q + 1) (length counts - (q + 1))

  -- from q on they are these, with q in front where it has a message
  one_on : used_numbers_from counts q (length counts - q)
      ≡ cond (nat_lt 0 (get_or counts q 0)) (q ∷ rest) rest
  unfolding rest
  one_on = let e : length counts - q ≡ suc (length counts - (q + 1)) = omega arith in
      ap (used_numbers_from counts q) e

  -- where queue q has a message, it comes first
  sends : 0 < get_or counts q 0 → used_numbers_from counts q (length counts - q) ≡ q ∷ rest
  sends some = one_on ∙ ap (λ b. cond b (q ∷ rest) rest) (lt-ltb 0 _ some)

  -- where it has none, the others are all
  sends_none : get_or counts q 0 ≡ 0 → used_numbers_from counts q (length counts - q) ≡ rest
  sends_none none = one_on ∙ ap (λ b. cond b (q ∷ rest) rest) (le-ltb 0 _ (omega arith))

  -- a queue without messages is passed over
  pub skipped : {X : Type 0} {xs : List ℕ} → get_or counts q 0 ≡ 0 → X
      ↔ (xs ≡ used_numbers_from counts q (length counts - q))
      → X ↔ (xs ≡ used_numbers_from counts (q + 1) (length counts - (q + 1)))
  unfolding rest
  skipped none h = (λ x. h.0 x ∙ sends_none none, λ e. h.1 (e ∙ sym (sends_none none)))

  module _ {A : Type 0} (ends : List (ℕ × A)) (k : ℕ) (some : 0 < get_or counts q 0) where
    -- the number of end k is the first of those that are left
    next_is : (e : ℕ × A) → k < length ends → numbers_of_ends (drop k ends)
        ≡ (get_or ends k e).0 ∷ numbers_of_ends (drop (k + 1) ends)
    next_is e lt = ap numbers_of_ends (drop_more ends k e lt)

    -- the next end is that of the queue
    pub matched : {X : Type 0} (e : ℕ × A) → k < length ends → (get_or ends k e).0 ≡ q
        → X ↔ (numbers_of_ends (drop k ends) ≡ used_numbers_from counts q (length counts - q))
        → X ↔ (numbers_of_ends (drop (k + 1) ends) ≡ used_numbers_from counts (q + 1)
        (length counts - (q + 1)))
    unfolding rest
    matched e lt is h =
        let front : numbers_of_ends (drop k ends) ≡ q ∷ numbers_of_ends (drop (k + 1) ends) = next_is e lt
        ∙ ap (λ x. x ∷ numbers_of_ends (drop (k + 1) ends)) is in (
          λ x. let both : q ∷ numbers_of_ends (drop (k + 1) ends) ≡ q ∷ rest = sym front ∙ h.0 x
              ∙ sends some in cc,
          λ same. h.1 (front ∙ ap (λ l. q ∷ l) same ∙ sym (sends some)),
        )

    -- it is that of another queue
    pub mismatched : (e : ℕ × A) → k < length ends → (get_or ends k e).0 ≢ q
        → numbers_of_ends (drop k ends) ≡ used_numbers_from counts q (length counts - q) → ⊥
    mismatched e lt other same =
        let both : (get_or ends k e).0 ∷ numbers_of_ends (drop (k + 1) ends) ≡ q ∷ rest =
        sym (next_is e lt) ∙ same ∙ sends some in
        let wrong : (get_or ends k e).0 ≡ q = cc in
        other wrong

    -- there is none
    pub exhausted : length ends ≤ k → numbers_of_ends (drop k ends)
        ≡ used_numbers_from counts q (length counts - q) → ⊥
    exhausted le same =
        let both : [] ≡ q ∷ rest = sym (ap numbers_of_ends (drop_all k ends le)) ∙ same ∙ sends some in
        cc

-- after the last queue no end is left
pub all_seen : {A : Type 0} {X : Type 0} (counts : List ℕ) (ends : List (ℕ × A)) (k q : ℕ)
    → length counts ≤ q
    → X ↔ (numbers_of_ends (drop k ends) ≡ used_numbers_from counts q (length counts - q)) → X
    ↔ (length ends ≤ k)
all_seen {A} counts ends k q done h =
    let none : used_numbers_from counts q (length counts - q) ≡ [] =
    (let e : length counts - q ≡ 0 = omega arith in ap (used_numbers_from counts q) e) in (
      λ x. let e = ap length (h.0 x ∙ none) in omega (
        arith,
        e,
        length-map (drop k ends) (λ (y : ℕ × A). y.0),
        length-drop k ends,
      ),
      λ le. h.1 (ap numbers_of_ends (drop_all k ends le) ∙ sym none),
    )

-- one message more is counted
module _ (g : ℕ → ℕ) (queues : Queues) (d : Drawing) (i : ℕ) (n : ℕ) where
  -- how many of the messages below m that are in queue q are those of i
  own : ℕ → ℕ → ℕ
  own q m = count_by (λ k. nat_eq (g k) i) (filter (λ k. nat_eq (queue_of queues d k) q)
      (range_with_len 0 m))

  -- message n adds one to its queue where it is one of i
  own_more : (q : ℕ) → own q (n + 1) ≡ own q n + cond (nat_eq (queue_of queues d n) q)
      (cond (nat_eq (g n) i) 1 0) 0
  unfolding own
  own_more q =
      let h : ℕ → Bool = λ k. nat_eq (queue_of queues d k) q in
      let p : ℕ → Bool = λ k. nat_eq (g k) i in
      let grown : filter h (range_with_len 0 (n + 1)) ≡ filter h (range_with_len 0 n)
      ++ cond (h n) (n ∷ []) [] =
      ap (filter h) (sym (map-id (range_with_len 0 (n + 1))))
      ∙ filter_of_map_range_with_len_more h (λ x. x) 0 n n (omega arith)
      ∙ ap (λ l. filter h l ++ cond (h n) (n ∷ []) []) (map-id (range_with_len 0 n)) in
      let sum = ap (count_by p) grown ∙ sum_by-append (λ k. cond (p k) 1 0)
      (filter h (range_with_len 0 n)) (cond (h n) (n ∷ []) []) in
      by_test (h n)
      (λ yes.
      let one = ap (λ b. count_by p (cond b (n ∷ []) [])) yes in
      let its = ap (λ b. cond b (cond {A = ℕ} (p n) 1 0) 0) yes in
      let unit = sum_by-cons (λ k. cond (p k) 1 0) n [] in
      omega (arith, sum, one, its, unit))
      (λ gone.
      let none = ap (λ b. count_by p (cond b (n ∷ []) [])) gone in
      let its = ap (λ b. cond b (cond {A = ℕ} (p n) 1 0) 0) gone in
      omega (arith, sum, none, its))

  -- no count is above the number of messages
  pub own_small : (counts : List ℕ) (q : ℕ) → AreCountsOf g queues d i n counts → q < length counts
      → get_or counts q 0 ≤ n
  own_small counts q counted lt =
      let h : ℕ → Bool = λ k. nat_eq (queue_of queues d k) q in
      let few = count_by-le-length (λ k. nat_eq (g k) i) (filter h (range_with_len 0 n)) in
      let fewer = count_by-le-length h (range_with_len 0 n) in
      omega (
        arith,
        counted q lt,
        few,
        fewer,
        length-filter h (range_with_len 0 n),
        length-range_with_len 0 n,
      )

  -- so the counts stay right when message n is counted
  pub own_counted : (counts : List ℕ) (q x : ℕ) → q ≡ queue_of queues d n
      → x ≡ cond (nat_eq (g n) i) 1 0
      → AreCountsOf g queues d i n counts → AreCountsOf g queues d i (n + 1)
      (set counts q (get_or counts q 0 + x))
  unfolding own
  own_counted counts q x is one counted k lt =
      let inside : k < length counts = omega (arith, length-set counts q (get_or counts q 0 + x)) in
      let before = counted k inside in
      let grown = own_more k in
      elim (cases_eq q k) [
        | inl same ↦
            let here = ap (λ b. cond b (cond {A = ℕ} (nat_eq (g n) i) 1 0) 0)
            (eq-eqb (queue_of queues d n) k (sym is ∙ same)) in
            let written = get_or-set_same counts k (get_or counts k 0 + x) 0 inside in
            rw same (omega (arith, before, grown, here, written, one))
        | inr other ↦
            let there = ap (λ b. cond b (cond {A = ℕ} (nat_eq (g n) i) 1 0) 0)
            (ne_eqb (queue_of queues d n) k (λ e. other (is ∙ e))) in
            let kept = get_or-set_other counts q k (get_or counts q 0 + x) 0 (λ e. other (sym e)) in
            omega (arith, before, grown, there, kept)
      ]

-- a test as a number
pub byte_is : (b : Bool) → bool_byte b ≡ cond b 1 0
byte_is true = refl
byte_is false = refl

-- which is at most 1
pub byte_small : (b : Bool) → bool_byte b ≤ 1
byte_small true = omega arith
byte_small false = omega arith
