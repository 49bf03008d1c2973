-- The places of a queue: their clocks and offers, and what an inlet took of them.
use Rattle.std.proofs.Common.{◌≡◌, ℕ, zero, suc, ◌<◌, ◌≤◌, max, true, false, cond, ◌||◌, eqb, List, [], ◌∷◌, ◌++◌, map, length, get_or, Some, slice_get, inl, inr, refl, ap, ◌∙◌, arith}
use Rattle.std.proofs.lemmas.Bool.{eqb-true, eq-eqb, or_cases, or_left, or_right}
use Rattle.msc_chart.specs.Lists.{occurs, Occurs}
use Rattle.msc_chart.proofs.ListLemmas.{clash}
use Rattle.msc_fifo.specs.declared.entry.Entry.{Entry}
use Rattle.msc_fifo.specs.declared.entry.Entry.TheVariants.{Message as Sent, Ended}
use Rattle.msc_fifo.specs.declared.claim.Claim.{Claim}
use Rattle.msc_fifo.specs.Settlement.{entries_at}
use Rattle.msc_execution.specs.Growth.{all_messages, clocks_at}
use Rattle.msc_execution.specs.Clocks.{QueuePlace, messages, place_clock, greatest_offer}
use Rattle.msc_execution.specs.Clocks.QueuePlace.{Message, EndMark}
use Rattle.msc_fifo.proofs.PlaceLemmas.{among_more}

-- a message stands at a place
pub message_at : (ps : List QueuePlace) (s : ℕ) → occurs (messages ps) s ≡ true
    → (k : ℕ) × (i : ℕ) × (n : ℕ) × (slice_get ps k ≡ Some (Message i s n))
unfolding occurs messages
message_at [] s h = clash h refl
message_at (Message i x n ∷ ps) s h =
    elim (or_cases (eqb x s) (occurs (messages ps) s) h) [
      | inl same ↦ (0, i, n, ap (λ z. Some (Message i z n)) (eqb-true x s same))
      | inr later ↦ let r = message_at ps s later in (suc r.0, r.1, r.2, r.3)
    ]
message_at (EndMark i ∷ ps) s h = let r = message_at ps s h in (suc r.0, r.1, r.2, r.3)

-- and what stands at a place is a message of the queue
pub at_message : (ps : List QueuePlace) (s i n k : ℕ) → slice_get ps k ≡ Some (Message i s n)
    → occurs (messages ps) s ≡ true
unfolding occurs messages
at_message [] s i n k h = cc
at_message (Message j x m ∷ ps) s i n zero h = let same : x ≡ s = cc in
    or_left (eqb x s) (occurs (messages ps) s) (eq-eqb x s same)
at_message (EndMark j ∷ ps) s i n zero h = cc
at_message (Message j x m ∷ ps) s i n (suc k) h =
    or_right (eqb x s) (occurs (messages ps) s) (at_message ps s i n k h)
at_message (EndMark j ∷ ps) s i n (suc k) h = at_message ps s i n k h

-- where all places of a message have one clock, that is the clock of its place
pub place_clock_is : (ps : List QueuePlace) (s v : ℕ)
    → ((k i n : ℕ) → slice_get ps k ≡ Some (Message i s n) → n ≡ v) → occurs (messages ps) s ≡ true
    → place_clock ps s ≡ v
unfolding occurs messages place_clock
place_clock_is [] s v all h = clash h refl
place_clock_is (Message i x n ∷ ps) s v all h =
    (elim (eqb x s) as (λ b. eqb x s ≡ b → (b || occurs (messages ps) s) ≡ true
    → cond b n (place_clock ps s) ≡ v) [
      | true ↦ λ same j. all 0 i n (ap (λ z. Some (Message i z n)) (eqb-true x s same))
      | false ↦ λ other j. place_clock_is ps s v (λ k a m at. all (suc k) a m at) j
    ]) refl h
place_clock_is (EndMark i ∷ ps) s v all h = place_clock_is ps s v (λ k a m at. all (suc k) a m at) h

-- where no offer at a place up to that of a message is above a number, the greatest isn't
pub offers_below : (offer : ℕ → ℕ) (v : ℕ) (ps : List QueuePlace) (s : ℕ)
    → ((j k i x n a m : ℕ) → j ≤ k → slice_get ps j ≡ Some (Message i x n)
    → slice_get ps k ≡ Some (Message a s m) → offer x ≤ v)
    → occurs (messages ps) s ≡ true → greatest_offer offer ps s ≤ v
unfolding occurs messages greatest_offer
offers_below offer v [] s all h = clash h refl
offers_below offer v (Message i x n ∷ ps) s all h =
    (elim (eqb x s) as (λ b. eqb x s ≡ b → (b || occurs (messages ps) s) ≡ true
    → cond b (offer x) (max (offer x) (greatest_offer offer ps s)) ≤ v) [
      | true ↦ λ same j. all 0 0 i x n i n (omega arith) refl
          (ap (λ z. Some (Message i z n)) (eqb-true x s same))
      | false ↦ λ other j.
          let there = message_at ps s j in
          let here = all 0 (suc there.0) i x n there.1 there.2 (omega arith) refl there.3 in
          let rest =
          offers_below offer v ps s
          (λ e k b y m a l le p q. all (suc e) (suc k) b y m a l (omega arith) p q) j in
          omega arith
    ]) refl h
offers_below offer v (EndMark i ∷ ps) s all h =
    let rest =
    offers_below offer v ps s
    (λ e k b y m a l le p q. all (suc e) (suc k) b y m a l (omega arith) p q) h in
    omega arith

-- What an inlet took: each of its messages is claimed at a place, with the clock that the inlet
-- read.
pub taken_claims : (log : List Claim) (got : List Entry) (clocks : List ℕ) (rest : List Entry)
    (rs : List ℕ) (f g : ℕ → ℕ) (ms ns : List ℕ)
    → entries_at log ≡ got ++ rest
    → ((k : ℕ) (c : Claim) → k < length clocks → slice_get log k ≡ Some c
    → c.clock ≡ get_or clocks k 0)
    → all_messages got ≡ map f rs ++ ms → clocks_at got clocks ≡ map g rs ++ ns
    → (r : ℕ) → occurs rs r ≡ true
    → (c : Claim) × Occurs log c × ((i : ℕ) × (c.entry ≡ Sent i (f r))) × (c.clock ≡ g r)
unfolding occurs
taken_claims log got clocks rest [] f g ms ns es cs p q r h = clash h refl
taken_claims log [] clocks rest (x ∷ rs) f g ms ns es cs p q r h = cc
taken_claims [] (e ∷ got) clocks rest (x ∷ rs) f g ms ns es cs p q r h = cc
taken_claims (c ∷ log) (Sent i m ∷ got) [] rest (x ∷ rs) f g ms ns es cs p q r h = cc
taken_claims (c ∷ log) (Ended i ∷ got) [] rest (x ∷ rs) f g ms ns es cs p q r h = cc
taken_claims (c ∷ log) (Ended i ∷ got) (n ∷ clocks) rest (x ∷ rs) f g ms ns es cs p q r h =
    let tail : entries_at log ≡ got ++ rest = cc in
    let found =
    taken_claims log got clocks rest (x ∷ rs) f g ms ns tail
    (λ k a lt at. cs (suc k) a (omega arith) at) p q r h in
    (found.0, among_more c found.0 log found.1, found.2, found.3)
taken_claims (c ∷ log) (Sent i m ∷ got) (n ∷ clocks) rest (x ∷ rs) f g ms ns es cs p q r h =
    let head : c.entry ≡ Sent i m = cc in
    let tail : entries_at log ≡ got ++ rest = cc in
    let m_is : m ≡ f x = cc in
    let n_is : n ≡ g x = cc in
    let p_tail : all_messages got ≡ map f rs ++ ms = cc in
    let q_tail : clocks_at got clocks ≡ map g rs ++ ns = cc in
    elim (or_cases (eqb x r) (occurs rs r) h) [
      | inl same ↦
          let x_is : x ≡ r = eqb-true x r same in (
            c,
            (0, refl),
            (i, head ∙ ap (λ z. Sent i z) (m_is ∙ ap f x_is)),
            cs 0 c
                (omega arith) refl ∙ n_is ∙ ap g x_is,
          )
      | inr later ↦
          let found =
          taken_claims log got clocks rest rs f g ms ns tail
          (λ k a lt at. cs (suc k) a (omega arith) at) p_tail q_tail r later in
          (found.0, among_more c found.0 log found.1, found.2, found.3)
    ]
