-- The races of a scenario that the marks of its diagram accept.
use Rattle.std.specs.Prelude.{ℕ, Bool, ◌&&◌, List, get_or, length, nat_eq}
use Rattle.msc_arrow_marks.specs.Accepting.{accepts, Acceptance}

-- the statement that draws event e, by those of all events; how many statements there are, if none does
abbrev pub arrow_at : Acceptance → List ℕ → ℕ → ℕ
arrow_at a arrows e = get_or arrows e (length a.statements)

-- a race is accepted: by the mark of the arrow of either event
abbrev pub accepts_race : Acceptance → List ℕ → ℕ × ℕ → Bool
accepts_race a arrows p = accepts a (arrow_at a arrows p.0) (arrow_at a arrows p.1)

-- the race is this pair, and accepted
abbrev pub is_put : Acceptance → List ℕ → ℕ → ℕ → ℕ × ℕ → Bool
is_put a arrows x y p = (nat_eq x p.0 && nat_eq y p.1) && accepts_race a arrows p
