-- Some of a list of faults, in their order.
use Rattle.std.proofs.Common.{◌≡◌, ◌+◌, ◌<◌, ℕ, Bool, true, false, get_or, length, take, List, [], ◌∷◌, ◌++◌, inl, inr, refl, sym, ap, ◌∙◌, true≢false}
use Rattle.std.proofs.lemmas.Bool.{eq-eqb}
use Rattle.std.proofs.lemmas.List.{take_more}
use Rattle.msc_parser.specs.Grammar.{Tree}
use Rattle.msc_chart.specs.declared.fault.ChartFault.{ChartFault}
use Rattle.msc_chart.specs.declared.fault.ChartFault.TheVariants.{TooManyInstances, TwiceInstance, HeaderWithoutBody, UnknownAddress, TooManyMessages, TooManyActions, TwiceEvent, UnmatchedOut, UnmatchedIn, Cyclic, Memory}
use Rattle.msc_chart.specs.contracts.fault.ChartFaultPartialEq.TheImpl as derived
use Rattle.msc_notes.specs.AllFaults.{AreAllFaults, AreFurther, IsBefore}
use Rattle.msc_notes.specs.Putting.{IsPartWithout}
use Rattle.msc_notes.proofs.Ordered.{in_back, in_either, in_front, last_after, one_alone, ordered_front, ordered_more, ordered_none}

-- what the code computes for `==` of two faults
abbrev pub fault_same : ChartFault → ChartFault → Bool
fault_same = derived.eq-value.it

-- a fault is equal to itself
same_itself : (f : ChartFault) → fault_same f f ≡ true
same_itself TooManyInstances = refl
same_itself (TwiceInstance i) = eq-eqb i i refl
same_itself (HeaderWithoutBody k) = eq-eqb k k refl
same_itself (UnknownAddress e) = eq-eqb e e refl
same_itself TooManyMessages = refl
same_itself TooManyActions = refl
same_itself (TwiceEvent e) = eq-eqb e e refl
same_itself (UnmatchedOut e) = eq-eqb e e refl
same_itself (UnmatchedIn e) = eq-eqb e e refl
same_itself (Cyclic e) = eq-eqb e e refl
same_itself Memory = refl

-- so one that is found unequal is another
pub another : (f g : ChartFault) → fault_same f g ≡ false → f ≡ g → ⊥
another f g differ same =
    true≢false (sym (same_itself f) ∙ ap (fault_same f) same ∙ differ)

-- none of none
pub part_none : (first : ChartFault) → IsPartWithout first [] []
part_none first =
    record { within = λ f o. o; others = λ f o. cc; ordered = λ h. h }

module _ (first : ChartFault) (part whole : List ChartFault) (h : IsPartWithout first part whole) (f : ChartFault) where
  -- one more is left out
  pub part_left : IsPartWithout first part (whole ++ f ∷ [])
  part_left = record {
    within = λ g o. let r = h.within g o in (r.0, in_front whole (f ∷ []) r.0 g r.1);
    others = h.others;
    ordered = λ asc. h.ordered (ordered_front IsBefore whole (f ∷ []) asc);
  }

  -- one more is taken
  pub part_taken : (f ≡ first → ⊥) → IsPartWithout first (part ++ f ∷ []) (whole ++ f ∷ [])
  part_taken other = record {
    within = λ g o. elim (in_either part (f ∷ []) g o) [
      | inl a ↦ part_left.within g a
      | inr b ↦ in_back whole (f ∷ []) g b
    ];
    others = λ g o. elim (in_either part (f ∷ []) g o) [
      | inl a ↦ h.others g a
      | inr b ↦ λ same. other (one_alone f g b ∙ same)
    ];
    ordered = λ asc.
        ordered_more IsBefore part f (h.ordered (ordered_front IsBefore whole (f ∷ []) asc))
        (λ g o. last_after IsBefore whole f asc g (h.within g o));
  }

module _ (first : ChartFault) (all : List ChartFault) where
  -- of none that are looked at, none is taken
  pub part_begun : (new : List ChartFault) → new ≡ [] → IsPartWithout first new (take 0 all)
  part_begun new empty = rw empty (begun all)
    where
      begun : (all : List ChartFault) → IsPartWithout first [] (take 0 all)
      begun [] = part_none first
      begun (f ∷ fs) = part_none first

  module _ (part new : List ChartFault) (i : ℕ) (within : i < length all) (h : IsPartWithout first part (take i all)) where
    -- the next is left out
    pub left_at : new ≡ part → IsPartWithout first new (take (i + 1) all)
    left_at same =
        rw (same, take_more all i Memory within)
        (part_left first part (take i all) h (get_or all i Memory))

    -- the next is taken
    pub taken_at : (f d : ChartFault) → new ≡ part ++ f ∷ [] → f ≡ get_or all i d
        → fault_same f first ≡ false → IsPartWithout first new (take (i + 1) all)
    taken_at f d put is differ =
        let next : take (i + 1) all ≡ take i all ++ f ∷ [] = take_more all i d within ∙ ap (λ g. take i all ++ g ∷ []) (sym is) in
        rw (put, next) (part_taken first part (take i all) h f (another f first differ))

-- so what is taken of all faults of a draft are further faults
pub further_of : (d : Tree) (first : ChartFault) (all part : List ChartFault) → AreAllFaults d all
    → IsPartWithout first part all → AreFurther d first part
further_of d first all part h p = record {
  others = λ f o. ((h.all f).0 (p.within f o), p.others f o);
  ascending = p.ordered h.ascending;
}

pub further_none : (d : Tree) (first : ChartFault) (part : List ChartFault) → part ≡ []
    → AreFurther d first part
further_none d first part empty = rw empty (record {
  others = λ f o. cc;
  ascending = ordered_none IsBefore;
})
