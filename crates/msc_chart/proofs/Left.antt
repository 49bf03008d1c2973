-- What is left of a set of events: those that have not occurred. The set is given by a test.
use Rattle.std.proofs.Common.{◌≡◌, ℕ, ◌<◌, Bool, true, false, ◌&&◌, not, List, [], ◌∷◌, ◌++◌}
use Rattle.std.proofs.lemmas.Bool.{and_parts, and_from, not-true, not_from_false, false_from_ne_true}
use Rattle.msc_chart.specs.Lists.{occurs}
use Rattle.msc_chart.proofs.ListLemmas.{clash, occurs-left, occurs-push}
use Rattle.msc_chart.proofs.Numbers.{count_below, count-less}

module _ (inside : ℕ → Bool) (past : List ℕ) where
  -- an event of the set that has not occurred
  pub is_left : ℕ → Bool
  is_left x = inside x && not (occurs past x)

  -- what makes an event one that is left
  pub left_from : (x : ℕ) → inside x ≡ true → occurs past x ≡ false → is_left x ≡ true
  unfolding is_left
  left_from x member out = and_from _ _ member (not_from_false _ out)

  -- and what is known of it
  pub left_parts : (x : ℕ) → is_left x ≡ true → (inside x ≡ true) × (occurs past x ≡ false)
  unfolding is_left
  left_parts x h = let both = and_parts _ _ h in (both.0, not-true _ both.1)

-- one more event leaves less of the set
pub left_less : (inside : ℕ → Bool) (past : List ℕ) (n x : ℕ) → x < n → inside x ≡ true
    → occurs past x ≡ false
    → count_below (is_left inside (past ++ x ∷ [])) n < count_below (is_left inside past) n
left_less inside past n x below member out =
    count-less (is_left inside past) (is_left inside (past ++ x ∷ [])) n x
    (λ k lt h.
    let k_left = left_parts inside (past ++ x ∷ []) k h in
    let new = false_from_ne_true _ (λ there. clash (occurs-left past (x ∷ []) k there) k_left.1) in
    left_from inside past k k_left.0 new)
    below (left_from inside past x member out)
    (false_from_ne_true _
    (λ h. clash (occurs-push past x) (left_parts inside (past ++ x ∷ []) x h).1))
