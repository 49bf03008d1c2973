-- The least of the blocked pairs that are ahead, as they are looked at one after another.
use Rattle.std.specs.Prelude.{ℕ, ◌<◌, cond, nat_le, Option, None, Some, MatchOption}
use Rattle.msc_race.specs.Races.{IsPairBefore}
use Rattle.msc_ready.specs.Held.{ReadyChart, wiring_of, ready_in}
use Rattle.msc_ready.specs.BlockedPairs.{IsAhead}

-- the lesser of a pair and (g, h), or the one that there is
abbrev pub lesser_of : Option (ℕ × ℕ) → Option ℕ → ℕ → Option (ℕ × ℕ)
lesser_of least None h = least
lesser_of None (Some g) h = Some (g, h)
lesser_of (Some p) (Some g) h = cond (nat_le p.0 g) (Some p) (Some (g, h))

-- the least of the blocked pairs ahead of f whose second event is below k
pub record IsLeastOf (r : ReadyChart) (f k : ℕ) (q : ℕ × ℕ) : Type 0 where
  pub itself : IsAhead (wiring_of r) (ready_in r) f q
  pub below : q.1 < k
  pub none_below : (p : ℕ × ℕ) → p.1 < k → IsPairBefore p q → IsAhead (wiring_of r) (ready_in r) f p → ⊥

-- where there is one
abbrev pub IsLeastBelow : ReadyChart → ℕ → ℕ → Option (ℕ × ℕ) → Type 0
IsLeastBelow r f k least =
    MatchOption least ((p : ℕ × ℕ) → p.1 < k → IsAhead (wiring_of r) (ready_in r) f p → ⊥) (IsLeastOf r f k)
