-- Finding a number in a list of numbers that ascend.
use Rattle.std.proofs.Common.{◌≡◌, ℕ, zero, suc, ◌+◌, ◌<◌, ◌≤◌, Bool, true, List, [], ◌∷◌, map, filter, length, get_or, ap, arith, inl, inr}
use Rattle.std.specs.List.{range_with_len}
use Rattle.std.proofs.lemmas.Bool.{cases_lt}
use Rattle.msc_chart.specs.Lists.{occurs}
use Rattle.msc_chart.proofs.ListLemmas.{by_test, occurs-head, occurs-tail}
use Rattle.msc_chart.specs.Orders.{queue_bound}
use Rattle.msc_execution.specs.Roles.{Role, queues_below, sent_queues}
use Rattle.msc_execution.proofs.Lists.Words.{head_or_tail, in_none, passes}
use Rattle.msc_execution.proofs.Lists.Ranges.{in_range}
use Rattle.msc_instance.specs.Active.{IsAscending}

-- what passes of numbers that ascend ascends
filter_ascends : (p : ℕ → Bool) (xs : List ℕ) → IsAscending xs → IsAscending (filter p xs)
filter_ascends p [] h = tt
filter_ascends p (x ∷ xs) h =
    let rest = filter_ascends p xs h.1 in
    by_test (p x) (λ in'. rw in' ((λ y there. h.0 y (passes p xs y there).0), rest)) (λ out. rw out rest)

-- a range ascends
range_ascends : (a n : ℕ) → IsAscending (range_with_len a n)
range_ascends a zero = tt
range_ascends a (suc n) =
    ((λ y there. let r = in_range (a + 1) n y there in omega (arith, r.0)), range_ascends (a + 1) n)

-- the queues to which an instance sends ascend
pub sent_ascends : (r : Role) → IsAscending (sent_queues r)
unfolding sent_queues queues_below
sent_ascends r =
    filter_ascends _ _ (filter_ascends _ (range_with_len 0 (queue_bound r.queues r.chart))
    (range_ascends 0 (queue_bound r.queues r.chart)))

module _ {X : Type 0} (num : X → ℕ) where
  -- a number that occurs has a place
  pub place_with : (xs : List X) (q : ℕ) → occurs (map num xs) q ≡ true
      → (j : ℕ) × (j < length xs) × ((d : X) → num (get_or xs j d) ≡ q)
  place_with [] q h = in_none q h
  place_with (x ∷ xs) q h = elim (head_or_tail (num x) (map num xs) q h) [
    | inl here ↦ (0, omega arith, λ d. here)
    | inr later ↦ let r = place_with xs q later in (suc r.0, omega (arith, r.1), r.2)
  ]

  -- the number at a place occurs
  number_in : (xs : List X) (j : ℕ) (d : X) → j < length xs → occurs (map num xs) (num (get_or xs j d)) ≡ true
  number_in [] j d lt = absurd (omega arith)
  number_in (x ∷ xs) zero d lt = occurs-head (num x) (map num xs)
  number_in (x ∷ xs) (suc j) d lt =
      occurs-tail (num x) (map num xs) (num (get_or xs j d)) (number_in xs j d (omega arith))

  -- numbers rise from place to place
  pub rises : (xs : List X) (i j : ℕ) (d : X) → IsAscending (map num xs) → i < j → j < length xs
      → num (get_or xs i d) < num (get_or xs j d)
  rises [] i j d h less lt = absurd (omega arith)
  rises (x ∷ xs) i zero d h less lt = absurd (omega arith)
  rises (x ∷ xs) zero (suc j) d h less lt = h.0 (num (get_or xs j d)) (number_in xs j d (omega arith))
  rises (x ∷ xs) (suc i) (suc j) d h less lt = rises xs i j d h.1 (omega arith) (omega arith)

  -- the number is at a place from low on, below high
  pub record IsInRange (xs : List X) (q low high : ℕ) : Type 0 where
    pub place : ℕ
    pub from : low ≤ place
    pub to : place < high
    pub within : high ≤ length xs
    pub is : (d : X) → num (get_or xs place d) ≡ q

  -- a number that occurs is at a place from 0 on, below the length
  pub in_range_all : (xs : List X) (q : ℕ) → occurs (map num xs) q ≡ true → IsInRange xs q 0 (length xs)
  in_range_all xs q h =
      let r = place_with xs q h in
      record { place = r.0; from = omega arith; to = r.1; within = omega arith; is = r.2 }

  module _ (xs : List X) (q low middle high : ℕ) (d : X) (h : IsInRange xs q low high)
      (up : IsAscending (map num xs)) where
    -- it is in the upper half where the middle is not above it
    pub in_range_up : middle < high → num (get_or xs middle d) ≤ q → IsInRange xs q middle high
    in_range_up lt le = record {
      place = h.place;
      from = (elim (cases_lt h.place middle) [
        | inl low' ↦ let r = rises xs h.place middle d up low' (omega (arith, h.within)) in
            absurd (omega (arith, h.is d, r))
        | inr ge ↦ ge
      ]);
      to = h.to;
      within = h.within;
      is = h.is;
    }

    -- and in the lower half where the middle is above it
    pub in_range_down : middle < high → q < num (get_or xs middle d) → IsInRange xs q low middle
    in_range_down lt gt = record {
      place = h.place;
      from = h.from;
      to = (elim (cases_lt h.place middle) [
        | inl less ↦ less
        | inr ge ↦ (elim (cases_lt middle h.place) [
          | inl more ↦ let r = rises xs middle h.place d up more (omega (arith, h.to, h.within)) in
              absurd (omega (arith, h.is d, r))
          | inr le ↦
              let same : h.place ≡ middle = omega arith in
              let e = ap (λ k. num (get_or xs k d)) same in absurd (omega (arith, h.is d, e))
        ])
      ]);
      within = omega (arith, h.within);
      is = h.is;
    }
