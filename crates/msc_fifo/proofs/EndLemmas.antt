-- The ends of a new queue.
use Rattle.std.proofs.Common.{◌≡◌, ℕ, ◌+◌, ◌-◌, ◌<◌, sum, drop, take-append-drop, List, [], ◌∷◌, ◌++◌, length, take, get_or, sym, refl, ap, ◌∙◌, arith, length-take}
use Rattle.std.proofs.lemmas.List.{take_more}
use Rattle.std.proofs.lemmas.List.Sums.{sum_by-append, sum_by-cons}
use Rattle.std.proofs.lemmas.List.Elements.{All-cons, All-nil}
use Rattle.std.specs.Prelude.{All}
use Rattle.msc_fifo.specs.Identity.{QueueId}
use Rattle.msc_fifo.specs.Ends.{OutletState, InletState, new_outlet, new_outlets, new_inlet, AreOutletsOf}
use Rattle.msc_fifo.specs.Laws.{AreNumberedFrom}
use Rattle.msc_fifo.specs.Laws.AreNumberedFrom.{none_left, one_more}
use Rattle.msc_fifo.proofs.NumberedOutlets.{numbered_whole}

-- one quota more is one outlet more, behind the others
new_outlets-push : (q : QueueId) (k : ℕ) (xs : List ℕ) (x : ℕ) → new_outlets q k (xs ++ x ∷ []) ≡ new_outlets q k xs ++ new_outlet q (k + length xs) x ∷ []
new_outlets-push q k [] x = let e : k ≡ k + 0 = omega arith in λ i. new_outlet q (e i) x ∷ []
new_outlets-push q k (y ∷ xs) x = let e : (k + 1) + length xs ≡ k + length (y ∷ xs) = omega arith in
    ap (λ l. new_outlet q k y ∷ l) (new_outlets-push q (k + 1) xs x ∙ λ i. new_outlets q (k + 1) xs ++ new_outlet q (e i) x ∷ [])

-- there is an outlet for each quota
length-new_outlets : (q : QueueId) (k : ℕ) (xs : List ℕ) → length (new_outlets q k xs) ≡ length xs
length-new_outlets q k [] = refl
length-new_outlets q k (x ∷ xs) = let h = length-new_outlets q (k + 1) xs in omega arith

-- the first i numbers are i numbers
length_take : (i : ℕ) (xs : List ℕ) → i < length xs → length (take i xs) ≡ i
length_take i xs lt = let h = length-take i xs in grind (arith, length-take)

-- the outlets of the first i + 1 quotas are those of the first i and that of quota i
new_outlets-more : (q : QueueId) (xs : List ℕ) (i d : ℕ) → i < length xs → new_outlets q 0 (take (i + 1) xs) ≡ new_outlets q 0 (take i xs) ++ new_outlet q i (get_or xs i d) ∷ []
new_outlets-more q xs i d lt = ap (new_outlets q 0) (take_more xs i d lt) ∙ new_outlets-push q 0 (take i xs) (get_or xs i d)
    ∙ (let e : 0 + length (take i xs) ≡ i = omega (arith, length_take i xs lt) in λ j. new_outlets q 0 (take i xs) ++ new_outlet q (e j) (get_or xs i d) ∷ [])

-- there are i outlets of the first i quotas
pub new_outlets-front : (q : QueueId) (xs : List ℕ) (i : ℕ) → i < length xs → length (new_outlets q 0 (take i xs)) ≡ i
new_outlets-front q xs i lt = length-new_outlets q 0 (take i xs) ∙ length_take i xs lt

-- the loop that makes the outlets, one turn on
pub next_outlet : (q : QueueId) (xs : List ℕ) (k n d : ℕ) (before after : List OutletState) (o : OutletState)
    → k < length xs → n ≡ k → before ≡ new_outlets q 0 (take k xs) → o ≡ new_outlet q n (get_or xs k d) → after ≡ before ++ o ∷ []
    → after ≡ new_outlets q 0 (take (k + 1) xs)
next_outlet q xs k n d before after o lt same was is push =
    push ∙ (λ i. was i ++ (is ∙ λ j. new_outlet q (same j) (get_or xs k d)) i ∷ []) ∙ sym (new_outlets-more q xs k d lt)

-- new outlets are of the queue
new_outlets-queue : (q : QueueId) (k : ℕ) (xs : List ℕ) → All (λ o. o.queue ≡ q) (new_outlets q k xs)
new_outlets-queue q k [] = All-nil (λ o. o.queue ≡ q)
new_outlets-queue q k (x ∷ xs) = All-cons (λ o. o.queue ≡ q) (new_outlet q k x) (new_outlets q (k + 1) xs) refl (new_outlets-queue q (k + 1) xs)

-- new outlets are numbered in their order
new_outlets-numbered : (q : QueueId) (k : ℕ) (xs : List ℕ) → AreNumberedFrom k (new_outlets q k xs)
new_outlets-numbered q k [] = none_left k
new_outlets-numbered q k (x ∷ xs) = one_more k (new_outlet q k x) (new_outlets q (k + 1) xs) refl (new_outlets-numbered q (k + 1) xs)

-- the outlets of a new queue are all its outlets
pub new_ends_whole : (inlet : InletState) (outlets : List OutletState) (q : QueueId) (xs : List ℕ)
    → inlet ≡ new_inlet q (length xs) → outlets ≡ new_outlets q 0 xs → AreOutletsOf inlet outlets
new_ends_whole inlet outlets q xs made all = rw (made, all)
    (numbered_whole (new_inlet q (length xs)) (new_outlets q 0 xs) (new_outlets-queue q 0 xs) (new_outlets-numbered q 0 xs) (length-new_outlets q 0 xs))

-- one quota more is summed
sum_more : (xs : List ℕ) (k d : ℕ) → k < length xs → sum (take (k + 1) xs) ≡ sum (take k xs) + get_or xs k d
sum_more xs k d lt = ap sum (take_more xs k d lt) ∙ sum_by-append (λ (x : ℕ). x) (take k xs) (get_or xs k d ∷ []) ∙ (let one : sum (get_or xs k d ∷ []) ≡ get_or xs k d = sum_by-cons (λ (x : ℕ). x) (get_or xs k d) [] ∙ omega arith in ap (λ n. sum (take k xs) + n) one)

-- what the first outlets may claim is as much as the ticket has given away
pub room_left : (xs : List ℕ) (k n d room after : ℕ) → k < length xs → after ≡ room - (get_or xs k d + 1) → n ≡ k → (room + n) + sum (take k xs) ≡ sum xs + length xs → (after + (n + 1)) + sum (take (k + 1) xs) ≡ sum xs + length xs
room_left xs k n d room after lt is same whole = let more = sum_more xs k d lt in
    let split : sum xs ≡ sum (take (k + 1) xs) + sum (drop (k + 1) xs) = ap sum (sym (take-append-drop (k + 1) xs)) ∙ sum_by-append (λ (x : ℕ). x) (take (k + 1) xs) (drop (k + 1) xs) in omega arith
