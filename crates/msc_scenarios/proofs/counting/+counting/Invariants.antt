use Rattle.std.proofs.Common.{◌≡◌, ◌+◌, ◌-◌, ◌*◌, drop, map}
use Rattle.msc_scenarios.specs.Counting.{by_branches, by_sides, count, count_on, unbroken}
use Rattle.msc_scenarios.proofs.counting.+counting.Given as goal

abbrev pub decreases-count : goal.decreases-count
decreases-count l = 7 * l.depth

abbrev pub decreases-by_branches : goal.decreases-by_branches
decreases-by_branches l = 7 * l.depth + 1

abbrev pub decreases-by_sides : goal.decreases-by_sides
decreases-by_sides l = 7 * l.depth + 2

abbrev pub decreases-by_options : goal.decreases-by_options
decreases-by_options l = 7 * l.depth + 3

abbrev pub decreases-formed : goal.decreases-formed
decreases-formed l = 7 * l.depth + 4

abbrev pub decreases-block : goal.decreases-block
decreases-block l = 7 * l.depth + 5

abbrev pub decreases-one : goal.decreases-one
decreases-one l = 7 * l.depth + 6

abbrev pub invariant-by_branches-loop-branch : goal.invariant-by_branches-loop-branch
invariant-by_branches-loop-branch l =
    by_branches (count l.depth l.rounds) l.first (map (λ x. x.now) (drop l.branch-index l.branches)) l.number ≡ by_branches (count l.depth l.rounds) l.first (map (λ x. x.now) l.branches) l.fn.number

abbrev pub invariant-by_sides-loop-branch : goal.invariant-by_sides-loop-branch
invariant-by_sides-loop-branch l =
    by_sides (count l.depth l.rounds) (map (λ x. x.now) (drop l.branch-index l.branches)) l.number ≡ by_sides (count l.depth l.rounds) (map (λ x. x.now) l.branches) 1

abbrev pub invariant-count-loop-i : goal.invariant-count-loop-i
invariant-count-loop-i l =
    count_on (count (l.depth - 1) l.rounds) l.rounds l.owned (drop l.i l.statements) l.paths ≡ count_on (count (l.depth - 1) l.rounds) l.rounds 0 l.statements (unbroken 1)
