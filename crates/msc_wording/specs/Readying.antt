-- What a check of instances that are ready found, in words.
use Rattle.std.specs.Prelude.{ℕ, cond, not, ◌&&◌, ◌==◌, List, [], ◌++◌, Option, None, Some, codes}
use Rattle.msc_wording.specs.declared.readying.SpokenReadiness.{SpokenReadiness}
use Rattle.msc_wording.specs.Checking.{in_rounds}
use Rattle.msc_wording.specs.Numbers.{counted}

-- in how many ways instances can block, and in how many between two rounds
unfoldable pub ways_text : ℕ → List ℕ
ways_text n = cond (n == 0) (codes "no instance can block") (counted n (codes "way to block") (codes "ways to block"))

unfoldable pub between_text : ℕ → List ℕ
between_text n = cond (n == 0) (codes "none") (counted n (codes "way") (codes "ways"))

-- both, if two rounds were checked
abbrev pub ways_found : ℕ → Option ℕ → List ℕ
ways_found blocked None = ways_text blocked
ways_found blocked (Some between) = in_rounds (ways_text blocked) (between_text between)

-- instances block in each run
unfoldable pub finishing_part : SpokenReadiness → List ℕ
finishing_part r = cond (not (r.blocked == 0) && not r.finishes) (codes ", no run finishes") []

-- the races that are left, if that was checked
unfoldable pub left_part : Option ℕ → List ℕ
left_part None = []
left_part (Some n) = codes ", " ++ counted n (codes "race left") (codes "races left")

-- what was found
abbrev pub ready_verdict : SpokenReadiness → List ℕ
ready_verdict r = ways_found r.blocked r.between ++ (finishing_part r ++ left_part r.left)
