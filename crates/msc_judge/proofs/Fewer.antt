-- Fewer races count where some are accepted.
use Rattle.std.proofs.Common.{◌≤◌, ℕ, Bool, true, false, ◌&&◌, not, List, [], ◌∷◌, cond, length, arith}
use Rattle.std.specs.List.{filter}
use Rattle.msc_race.specs.Views.{races_of}
use Rattle.msc_race.specs.Wired.{EnforcedChart}
use Rattle.msc_reason.specs.Counting.{counting, counts}
use Rattle.msc_reason.specs.Kinds.{has_kind}
use Rattle.msc_reason.specs.LeftOut.{is_accepted, of_kinds}
use Rattle.msc_reason.specs.declared.cause.Cause.{Cause}
use Rattle.msc_reason.specs.declared.left_out.LeftOut.{LeftOut}

-- what is kept of more is no more
one_fewer : (a b : Bool) (x : ℕ × ℕ) (xs ys : List (ℕ × ℕ)) → length xs ≤ length ys
    → length (cond (a && b) (x ∷ xs) xs) ≤ length (cond b (x ∷ ys) ys)
one_fewer true true x xs ys less = omega (arith, less)
one_fewer true false x xs ys less = less
one_fewer false true x xs ys less = omega (arith, less)
one_fewer false false x xs ys less = less

pub fewer_count : (e : EnforcedChart) (left : LeftOut) (causes : ℕ → ℕ → Cause)
    → length (counting e left causes) ≤ length (counting e (of_kinds left.kinds) causes)
fewer_count e left causes = by (races_of e)
  where
    -- of these races
    by : (pairs : List (ℕ × ℕ)) → length (filter (counts left causes) pairs) ≤ length (filter (counts (of_kinds left.kinds) causes) pairs)
    by [] = omega arith
    by (p ∷ pairs) =
        one_fewer (not (is_accepted left p)) (not (has_kind left.kinds (causes p.0 p.1).kind)) p (filter (counts left causes) pairs) (filter (counts (of_kinds left.kinds) causes) pairs) (by pairs)
