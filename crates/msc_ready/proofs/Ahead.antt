-- The least blocked pair whose second output stands before that of an event.
use Rattle.std.specs.Prelude.{Option, None, Some, MatchOption}
use Rattle.std.proofs.Common.{◌≡◌, ℕ, ◌+◌, ◌<◌, ◌≤◌, inl, inr, List, [], ◌∷◌, ◌++◌, length, get_or, sym, subst, arith}
use Rattle.std.proofs.lemmas.Bool.{cases_lt, le-leb, lt-leb}
use Rattle.std.proofs.lemmas.List.{get_or_append_left}
use Rattle.std.proofs.Math.Seq.{get_or-append_seam}
use Rattle.msc_chart.specs.Lists.{IsLeast}
use Rattle.msc_race.specs.Races.{IsPairBefore}
use Rattle.msc_ready.specs.Held.{ReadyChart, wiring_of, ready_in}
use Rattle.msc_chart.specs.Charts.{partner}
use Rattle.msc_ready.specs.Readiness.{ReadyOrder}
use Rattle.msc_ready.specs.BlockedPairs.{IsAhead, IsLeastAhead}
use Rattle.msc_ready.specs.Views.{AreAhead, AreLeastFirsts, IsAheadOf, IsLeastFirst}
use Rattle.msc_ready.specs.Lesser.{lesser_of, IsLeastOf, IsLeastBelow}
use Rattle.msc_ready.proofs.Shared.{before_parts}

module _ (r : ReadyChart) where
  -- one more event with its first
  pub firsts_more : (firsts : List ℕ) (k g : ℕ) → length firsts ≡ k → AreLeastFirsts r firsts k → IsLeastFirst r k g
      → AreLeastFirsts r (firsts ++ g ∷ []) (k + 1)
  firsts_more firsts k g size least own h below =
      elim (cases_lt h k) [
        | inl less ↦
            let same = get_or_append_left firsts (g ∷ []) 0 h (omega (arith, less, size)) in
            subst (λ (x : ℕ). IsLeastFirst r h x) (sym same) (least h less)
        | inr more ↦
            let same : h ≡ k = omega (arith, more, below) in
            let seam : IsLeastFirst r k (get_or (firsts ++ g ∷ []) (length firsts) 0) =
            subst (λ (x : ℕ). IsLeastFirst r k x) (sym (get_or-append_seam firsts g [] 0)) own in
            subst (λ (n : ℕ). IsLeastFirst r n (get_or (firsts ++ g ∷ []) n 0)) (sym same)
            (subst (λ (n : ℕ). IsLeastFirst r k (get_or (firsts ++ g ∷ []) n 0)) size seam)
      ]

  -- one more event with what is ahead of it
  pub aheads_more : (all : List (Option (ℕ × ℕ))) (k : ℕ) (own : Option (ℕ × ℕ)) → length all ≡ k → AreAhead r all k → IsAheadOf r k own
      → AreAhead r (all ++ own ∷ []) (k + 1)
  aheads_more all k own size before told f below =
      elim (cases_lt f k) [
        | inl less ↦
            let same = get_or_append_left all (own ∷ []) None f (omega (arith, less, size)) in
            subst (λ (x : Option (ℕ × ℕ)). IsAheadOf r f x) (sym same) (before f less)
        | inr more ↦
            let same : f ≡ k = omega (arith, more, below) in
            let seam : IsAheadOf r k (get_or (all ++ own ∷ []) (length all) None) =
            subst (λ (x : Option (ℕ × ℕ)). IsAheadOf r k x) (sym (get_or-append_seam all own [] None)) told in
            subst (λ (n : ℕ). IsAheadOf r n (get_or (all ++ own ∷ []) n None)) (sym same)
            (subst (λ (n : ℕ). IsAheadOf r k (get_or (all ++ own ∷ []) n None)) size seam)
      ]

  module _ (f h : ℕ) where
    -- an event that is the second of no blocked pair has none ahead
    pub none_first : (g : ℕ) → IsLeastFirst r h g → length r.chart.events ≤ g → (x : ℕ) → IsAhead (wiring_of r) (ready_in r) f (x, h) → ⊥
    none_first g least past x ahead =
        elim least [
          | inl own ↦
              let below = (before_parts r.chart.events g h own.itself.drawn).0 in
              omega (arith, below, past)
          | inr none ↦ none.1 x ahead.0
        ]

    -- where there is a blocked pair, the least one is ahead if any is: they have one second output
    pub least_held : (g : ℕ) → IsLeastFirst r h g → g < length r.chart.events
        → ReadyOrder (wiring_of r) (ready_in r) (partner r.chart.events h) (partner r.chart.events f)
        → IsLeast (λ x. IsAhead (wiring_of r) (ready_in r) f (x, h)) g
    least_held g least below stands =
        elim least [
          | inl own ↦ record { itself = (own.itself, stands); none_below = λ y less ahead. own.none_below y less ahead.0 }
          | inr none ↦ let same = none.0 in absurd (omega (arith, same, below))
        ]

  module _ (f h : ℕ) where
    -- a pair of a blocked pair that is ahead, below h + 1 and not below h, is with h
    with_h : (p : ℕ × ℕ) → p.1 < h + 1 → h ≤ p.1 → IsAhead (wiring_of r) (ready_in r) f p → IsAhead (wiring_of r) (ready_in r) f (p.0, h)
    with_h p below past ahead =
        let same : p.1 ≡ h = omega (arith, below, past) in
        subst (λ (y : ℕ). IsAhead (wiring_of r) (ready_in r) f (p.0, y)) same ahead

    -- no blocked pair with h is ahead
    abbrev NoneHere : Type 0
    NoneHere = (g : ℕ) → IsAhead (wiring_of r) (ready_in r) f (g, h) → ⊥

    -- g is the least that makes with h a blocked pair that is ahead
    abbrev IsLeastHere : ℕ → Type 0
    IsLeastHere = IsLeast (λ x. IsAhead (wiring_of r) (ready_in r) f (x, h))

    -- where no blocked pair with h is ahead, the least so far stays
    keeps_none : ((p : ℕ × ℕ) → p.1 < h → IsAhead (wiring_of r) (ready_in r) f p → ⊥) → NoneHere
        → (p : ℕ × ℕ) → p.1 < h + 1 → IsAhead (wiring_of r) (ready_in r) f p → ⊥
    keeps_none before none p below ahead =
        elim (cases_lt p.1 h) [ inl less ↦ before p less ahead | inr past ↦ none p.0 (with_h p below past ahead) ]

    -- and it stays the least where the blocked pair with h comes after it
    keeps : (q : ℕ × ℕ) → IsLeastOf r f h q → ((x : ℕ) → x ≤ q.0 → IsPairBefore (x, h) q → IsAhead (wiring_of r) (ready_in r) f (x, h) → ⊥)
        → IsLeastOf r f (h + 1) q
    keeps q before later = record {
      itself = before.itself;
      below = let b = before.below in omega (arith, b);
      none_below = λ p below less ahead. elim (cases_lt p.1 h) [
        | inl low ↦ before.none_below p low less ahead
        | inr past ↦
            let same : p.1 ≡ h = omega (arith, below, past) in
            let here : IsPairBefore (p.0, h) q = subst (λ (y : ℕ). IsPairBefore (p.0, y) q) same less in
            later p.0 (up_to p q less) here (with_h p below past ahead)
      ];
    }
      where
        -- the first of a lesser pair is no greater
        up_to : (p q : ℕ × ℕ) → IsPairBefore p q → p.0 ≤ q.0
        up_to p q less = elim less [ inl l ↦ omega (arith, l) | inr s ↦ let same = s.0 in omega (arith, same) ]

    -- the least blocked pair with h is the least, where none so far is before it
    takes : (g : ℕ) → IsLeastHere g → ((p : ℕ × ℕ) → p.1 < h → p.0 ≤ g → IsAhead (wiring_of r) (ready_in r) f p → ⊥) → IsLeastOf r f (h + 1) (g, h)
    takes g own none = record {
      itself = own.itself;
      below = omega arith;
      none_below = λ p below less ahead. elim (cases_lt p.1 h) [
        | inl low ↦ none p low (elim less [ inl l ↦ omega (arith, l) | inr s ↦ let same = s.0 in omega (arith, same) ]) ahead
        | inr past ↦ elim less [
          | inl l ↦ own.none_below p.0 l (with_h p below past ahead)
          | inr s ↦ let low = s.1 in absurd (omega (arith, low, past))
        ]
      ];
    }

    -- what the blocked pairs with h bring
    pub more : (least : Option (ℕ × ℕ)) (g : Option ℕ) → IsLeastBelow r f h least → MatchOption g NoneHere IsLeastHere
        → IsLeastBelow r f (h + 1) (lesser_of least g h)
    more None None before here = keeps_none before here
    more (Some q) None before here = keeps q before (λ x le less ahead. here x ahead)
    more None (Some g) before here = takes g here (λ p low le ahead. before p low ahead)
    more (Some q) (Some g) before here =
        elim (cases_lt g q.0) [
          | inl less ↦ rw (lt-leb q.0 g less) (takes g here (λ p low le ahead. let lower : p.0 < q.0 = omega (arith, le, less) in before.none_below p low (inl lower) ahead))
          | inr past ↦ rw (le-leb q.0 g past) (keeps q before (λ x le less ahead. elim less [
            | inl l ↦ here.none_below x (omega (arith, l, past)) ahead
            | inr s ↦ let low = s.1 in let b = before.below in absurd (omega (arith, low, b))
          ]))
        ]

    -- and when all events were looked at, it is the least of all
    pub all_below : (least : Option (ℕ × ℕ)) → length r.chart.events ≤ h → IsLeastBelow r f h least
        → MatchOption least ((p : ℕ × ℕ) → IsAhead (wiring_of r) (ready_in r) f p → ⊥) (IsLeastAhead (wiring_of r) (ready_in r) f)
    all_below None all before = λ p ahead.
        let below = (before_parts r.chart.events p.0 p.1 ahead.0.drawn).1 in
        before p (omega (arith, below, all)) ahead
    all_below (Some q) all before = record {
      itself = before.itself;
      none_below = λ p less ahead.
          let below = (before_parts r.chart.events p.0 p.1 ahead.0.drawn).1 in
          before.none_below p (omega (arith, below, all)) less ahead;
    }
