-- The order of the faults.
use Rattle.std.proofs.Common.{◌≡◌, ℕ, ◌+◌, ◌≤◌, inl, inr, refl, sym, ◌∙◌, subst, arith, [], ◌∷◌, get_or}
use Rattle.std.proofs.lemmas.Bool.{cases_eq}
use Rattle.msc_parser.specs.Grammar.{Tree}
use Rattle.msc_chart.specs.Building.{IsClearBelow}
use Rattle.msc_chart.specs.declared.fault.ChartFault.{ChartFault}
use Rattle.msc_chart.specs.declared.fault.ChartFault.TheVariants.{TooManyInstances, TwiceInstance, HeaderWithoutBody, UnknownAddress, TooManyMessages, TooManyActions, TwiceEvent, UnmatchedOut, UnmatchedIn, Cyclic, Memory}
use Rattle.msc_chart.specs.Faults.{Stands, rank, place, IsFirstFault, IsFaultless}

-- the fault of a rank at a place
abbrev pub ranked_fault : ℕ → ℕ → ChartFault
ranked_fault k p =
    get_or (Memory ∷ TooManyInstances ∷ TwiceInstance p ∷ HeaderWithoutBody p ∷ UnknownAddress p ∷ TooManyMessages ∷ TooManyActions
    ∷ TwiceEvent p ∷ UnmatchedOut p ∷ UnmatchedIn p ∷ Cyclic p ∷ []) k Memory

-- a fault is the one of its rank at its place
ranked_fault-rank : (f : ChartFault) → ranked_fault (rank f) (place f) ≡ f
ranked_fault-rank TooManyInstances = refl
ranked_fault-rank (TwiceInstance i) = refl
ranked_fault-rank (HeaderWithoutBody k) = refl
ranked_fault-rank (UnknownAddress e) = refl
ranked_fault-rank TooManyMessages = refl
ranked_fault-rank TooManyActions = refl
ranked_fault-rank (TwiceEvent e) = refl
ranked_fault-rank (UnmatchedOut e) = refl
ranked_fault-rank (UnmatchedIn e) = refl
ranked_fault-rank (Cyclic e) = refl
ranked_fault-rank Memory = refl

module _ (d : Tree) where
  -- a fault that stands is one of its rank that stands
  of_rank : (k : ℕ) (f : ChartFault) → rank f ≡ k → Stands d f → Stands d (ranked_fault k (place f))
  of_rank k f same h = subst (λ (n : ℕ). Stands d (ranked_fault n (place f))) same (subst (Stands d) (sym (ranked_fault-rank f)) h)

  -- where no fault of the next rank stands either
  pub clear_next : (k : ℕ) → IsClearBelow d k → ((p : ℕ) → Stands d (ranked_fault k p) → ⊥) → IsClearBelow d (k + 1)
  clear_next k clear none f h =
      elim (cases_eq (rank f) k) [
        | inl same ↦ absurd (none (place f) (of_rank k f same h))
        | inr other ↦ let low : k ≤ rank f = clear f h in omega arith
      ]

  -- the least fault of the next rank
  pub first_of : (k i : ℕ) → IsClearBelow d k → (f : ChartFault) → rank f ≡ k → place f ≡ i → Stands d f
      → ((p : ℕ) → Stands d (ranked_fault k p) → i ≤ p) → IsFirstFault d f
  first_of k i clear f ranked placed stands least = record {
    stands = stands;
    first = λ g h.
        elim (cases_eq (rank g) k) [
          | inl same ↦ let l = least (place g) (of_rank k g same h) in inr (ranked ∙ sym same, omega arith)
          | inr other ↦ let low : k ≤ rank g = clear g h in inl (omega arith)
        ];
  }

-- the lowest rank is 1
rank-positive : (f : ChartFault) → 1 ≤ rank f
rank-positive TooManyInstances = omega arith
rank-positive (TwiceInstance i) = omega arith
rank-positive (HeaderWithoutBody k) = omega arith
rank-positive (UnknownAddress e) = omega arith
rank-positive TooManyMessages = omega arith
rank-positive TooManyActions = omega arith
rank-positive (TwiceEvent e) = omega arith
rank-positive (UnmatchedOut e) = omega arith
rank-positive (UnmatchedIn e) = omega arith
rank-positive (Cyclic e) = omega arith
rank-positive Memory = omega arith

-- so no fault stands below it
pub clear_first : (d : Tree) → IsClearBelow d 1
clear_first d f h = rank-positive f

-- and where none of the ranks up to cycles stands, none does: want of memory stands in no draft
pub faultless : (d : Tree) → IsClearBelow d 11 → IsFaultless d
unfolding Stands
faultless d clear TooManyInstances h = absurd (let l = clear TooManyInstances h in omega arith)
faultless d clear (TwiceInstance i) h = absurd (let l = clear (TwiceInstance i) h in omega arith)
faultless d clear (HeaderWithoutBody k) h = absurd (let l = clear (HeaderWithoutBody k) h in omega arith)
faultless d clear (UnknownAddress e) h = absurd (let l = clear (UnknownAddress e) h in omega arith)
faultless d clear TooManyMessages h = absurd (let l = clear TooManyMessages h in omega arith)
faultless d clear TooManyActions h = absurd (let l = clear TooManyActions h in omega arith)
faultless d clear (TwiceEvent e) h = absurd (let l = clear (TwiceEvent e) h in omega arith)
faultless d clear (UnmatchedOut e) h = absurd (let l = clear (UnmatchedOut e) h in omega arith)
faultless d clear (UnmatchedIn e) h = absurd (let l = clear (UnmatchedIn e) h in omega arith)
faultless d clear (Cyclic e) h = absurd (let l = clear (Cyclic e) h in omega arith)
faultless d clear Memory h = h
