-- One thing after another: what was printed of some first ones, and what of the next.
use Rattle.std.proofs.Common.{◌<◌, ◌≤◌, ◌+◌, ℕ, List, [], ◌∷◌, ◌++◌, length, drop, get_or, Option, Result, Ok, Err, refl, sym, ap, subst, ◌∙◌}
use Rattle.std.specs.Io.KnownBytes.{Appends}
use Rattle.std.proofs.lemmas.List.{append-nil, append_assoc, drop_all, drop_more}
use Rattle.msc_print.proofs.KnownBytes.{Appends-append}
use Rattle.msc_print.proofs.PrintLemmas.{Appends-none as nothing_more}
use Rattle.msc_scanning.specs.Folding.{Folds}
use Rattle.msc_scanning.specs.Putting.{Gives}

module _ {A S : Type 0} (step : A → S → S → List ℕ → Type 0) where
  -- what is printed of some and then of others is printed of both
  pub both : (some others : List A) (start middle end : S) (first rest : List ℕ) → Folds step some start middle first → Folds step others middle end rest
      → Folds step (some ++ others) start end (first ++ rest)
  both [] others start middle end first rest (same, none) then =
      rw none (subst (λ (s : S). Folds step others s end rest) same then)
  both (a ∷ some) others start middle end first rest (next, one, more, made, made_more, is) then = (
    next,
    one,
    more ++ rest,
    made,
    both some others next middle end more rest made_more then,
    ap (λ (l : List ℕ). l ++ rest) is ∙ append_assoc one more rest,
  )

module _ {W A S : Type 0} (contents : W → Option (List ℕ)) (step : A → S → S → List ℕ → Type 0) where
  -- what was printed of the first ones of all, and that what is printed of those left follows it
  pub record SoFar (all left : List A) (start state : S) (old new : W) : Type 0 where
    pub printed : List ℕ
    pub wrote : Appends (contents old) (contents new) printed
    pub goes_on : (end : S) (rest : List ℕ) → Folds step left state end rest → Folds step all start end (printed ++ rest)

  -- of none
  pub none_yet : (all : List A) (start : S) (now : W) → SoFar all all start start now now
  none_yet all start now = record { printed = []; wrote = nothing_more _; goes_on = λ end rest h. h }

  module _ (all left : List A) (start state : S) (old mid : W) where
    -- of one more
    pub one_more : (a : A) (next : S) (bytes : List ℕ) (new : W) → SoFar all (a ∷ left) start state old mid
        → step a state next bytes → Appends (contents mid) (contents new) bytes → SoFar all left start next old new
    one_more a next bytes new so_far made wrote = record {
      printed = so_far.printed ++ bytes;
      wrote = Appends-append (contents old) (contents mid) (contents new) so_far.printed bytes so_far.wrote wrote;
      goes_on = λ end rest h. subst (λ (l : List ℕ). Folds step all start end l) (sym (append_assoc so_far.printed bytes rest))
          (so_far.goes_on end (bytes ++ rest) (next, bytes, rest, made, h, refl));
    }

    -- of some more
    pub some_more : (some : List A) (next : S) (bytes : List ℕ) (new : W) → SoFar all (some ++ left) start state old mid
        → Folds step some state next bytes → Appends (contents mid) (contents new) bytes → SoFar all left start next old new
    some_more some next bytes new so_far made wrote = record {
      printed = so_far.printed ++ bytes;
      wrote = Appends-append (contents old) (contents mid) (contents new) so_far.printed bytes so_far.wrote wrote;
      goes_on = λ end rest h. subst (λ (l : List ℕ). Folds step all start end l) (sym (append_assoc so_far.printed bytes rest))
          (so_far.goes_on end (bytes ++ rest) (both step some left state next end bytes rest made h));
    }

  -- of all
  pub all_done : (all : List A) (start state : S) (old new : W) → SoFar all [] start state old new
      → (printed : List ℕ) × Folds step all start state printed × Appends (contents old) (contents new) printed
  all_done all start state old new so_far = (
    so_far.printed,
    subst (λ (l : List ℕ). Folds step all start state l) (append-nil so_far.printed) (so_far.goes_on state [] (refl, refl)),
    so_far.wrote,
  )

  -- at a place of all, and behind the last
  module _ (all : List A) (start state : S) (i : ℕ) (old mid : W) where
    pub at_place : (e : A) → i < length all → SoFar all (drop i all) start state old mid → SoFar all (get_or all i e ∷ drop (i + 1) all) start state old mid
    at_place e inside so_far = subst (λ (left : List A). SoFar all left start state old mid) (drop_more all i e inside) so_far

    pub at_end : length all ≤ i → SoFar all (drop i all) start state old mid → SoFar all [] start state old mid
    at_end past so_far = subst (λ (left : List A). SoFar all left start state old mid) (drop_all i all past) so_far

  -- what is left follows what was printed
  pub the_rest : {E : Type 0} → (all left : List A) (start state : S) (result : Result S E) (old mid new : W) → SoFar all left start state old mid
      → Gives contents (Folds step left state) result mid new → Gives contents (Folds step all start) result old new
  the_rest all left start state (Ok end) old mid new so_far (rest, folds, wrote) = (
    so_far.printed ++ rest,
    so_far.goes_on end rest folds,
    Appends-append (contents old) (contents mid) (contents new) so_far.printed rest so_far.wrote wrote,
  )
  the_rest all left start state (Err e) old mid new so_far gives = tt
