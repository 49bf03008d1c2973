use Rattle.std.proofs.Common.{◌≡◌, ◌++◌, ◌+◌, ◌-◌, ◌*◌, drop, map}
use Rattle.msc_scenarios.specs.Choosing.{by_branches, by_sides, choose, choose_on, straight}
use Rattle.msc_scenarios.proofs.choosing.+choosing.Given as goal

abbrev pub decreases-choose : goal.decreases-choose
decreases-choose l = 6 * l.depth

abbrev pub decreases-body_of : goal.decreases-body_of
decreases-body_of l = 6 * l.depth + 1

abbrev pub decreases-put_branches : goal.decreases-put_branches
decreases-put_branches l = 6 * l.depth + 1

abbrev pub decreases-by_sides : goal.decreases-by_sides
decreases-by_sides l = 6 * l.depth + 1

abbrev pub decreases-by_break : goal.decreases-by_break
decreases-by_break l = 6 * l.depth + 1

abbrev pub decreases-by_options : goal.decreases-by_options
decreases-by_options l = 6 * l.depth + 2

abbrev pub decreases-formed : goal.decreases-formed
decreases-formed l = 6 * l.depth + 3

abbrev pub decreases-block : goal.decreases-block
decreases-block l = 6 * l.depth + 4

abbrev pub decreases-one : goal.decreases-one
decreases-one l = 6 * l.depth + 5

abbrev pub invariant-put_branches-loop-i : goal.invariant-put_branches-loop-i
invariant-put_branches-loop-i l =
    l.paths.items ++ by_branches (choose l.depth l.rounds) l.first (l.start + l.i) (map (λ x. x.now) (drop l.i l.branches)) ≡ l.fn.paths.items ++ by_branches (choose l.depth l.rounds) l.first l.start (map (λ x. x.now) l.branches)

abbrev pub invariant-by_sides-loop-branch : goal.invariant-by_sides-loop-branch
invariant-by_sides-loop-branch l =
    by_sides (choose l.depth l.rounds) (map (λ x. x.now) (drop l.branch-index l.branches)) l.paths.items ≡ by_sides (choose l.depth l.rounds) (map (λ x. x.now) l.branches) straight

abbrev pub invariant-choose-loop-i : goal.invariant-choose-loop-i
invariant-choose-loop-i l =
    choose_on (choose (l.depth - 1) l.rounds) l.rounds l.owned (drop l.i l.statements) l.paths.items ≡ choose_on (choose (l.depth - 1) l.rounds) l.rounds 0 l.statements straight
