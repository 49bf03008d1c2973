use Rattle.std.proofs.Common.{◌≡◌, ◌+◌, ◌-◌, ◌*◌, drop, map}
use Rattle.msc_scenarios.specs.Steps.{walk, walk_on, rounds_from, side_by_side}
use Rattle.msc_scenarios.proofs.walking.Walker.+walking.Given as goal

abbrev pub decreases-walk : goal.decreases-walk
decreases-walk l = 7 * l.depth

abbrev pub decreases-rounds : goal.decreases-rounds
decreases-rounds l = 7 * l.depth + 1

abbrev pub decreases-side_by_side : goal.decreases-side_by_side
decreases-side_by_side l = 7 * l.depth + 2

abbrev pub decreases-follow : goal.decreases-follow
decreases-follow l = 7 * l.depth + 3

abbrev pub decreases-formed : goal.decreases-formed
decreases-formed l = 7 * l.depth + 4

abbrev pub decreases-block : goal.decreases-block
decreases-block l = 7 * l.depth + 5

abbrev pub decreases-one : goal.decreases-one
decreases-one l = 7 * l.depth + 6

abbrev pub invariant-rounds-loop-i : goal.invariant-rounds-loop-i
invariant-rounds-loop-i l =
    rounds_from (walk l.depth) l.body l.rounds l.i (l.count - l.i) l.self ≡ rounds_from (walk l.depth) l.body l.rounds 0 l.count l.fn.self

abbrev pub invariant-side_by_side-loop-branch : goal.invariant-side_by_side-loop-branch
invariant-side_by_side-loop-branch l =
    side_by_side (walk l.depth) (map (λ x. x.now) (drop l.branch-index l.branches)) l.rounds l.self ≡ side_by_side (walk l.depth) (map (λ x. x.now) l.branches) l.rounds l.fn.self

abbrev pub invariant-walk-loop-i : goal.invariant-walk-loop-i
invariant-walk-loop-i l =
    walk_on (walk (l.depth - 1)) l.owned (drop l.i l.statements) l.rounds l.self ≡ walk_on (walk (l.depth - 1)) 0 l.statements l.rounds l.fn.self
