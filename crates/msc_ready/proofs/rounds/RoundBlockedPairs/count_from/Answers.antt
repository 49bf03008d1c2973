use Rattle.std.proofs.Common.{length, ap, sym, ◌∙◌, arith}
use Rattle.msc_race.proofs.Listing.Counts.{to_few}
use Rattle.msc_ready.specs.Rounds.{is_between}
use Rattle.msc_ready.proofs.Between.{none_before, none_behind, passes_here}
use Rattle.msc_ready.proofs.Left.{left_more, left_same}
use Rattle.msc_ready.proofs.rounds.RoundBlockedPairs.count_from.Goals as goal
use Rattle.msc_ready.proofs.rounds.RoundBlockedPairs.count_from.Goals.{then-is_blocked_pair, else-is_blocked_pair}

pub loop-y-init : goal.loop-y-init
loop-y-init c =
    sym (ap length (none_before c.args.self.now.blocked_pairs.now c.args.self.now.numbers.now c.args.x c.seconds-start.result.0 c.seconds-start.result.1 c.seconds-start.ensures))

pub loop-y-preserved : goal.loop-y-preserved
loop-y-preserved c =
    let r = c.args.self.now.blocked_pairs.now in
    let d = c.args.self.now.numbers.now in
    let value = rw c.ready-ready.ensures at c.is_blocked_pair.ensures.value in
    let here = passes_here r d c.args.x c.seconds-start.result.0 c.seconds-start.result.1 c.seconds-start.ensures c.loop-y.y c.is_blocked_pair.result c.loop-y.auto.y c.loop-y-test.true value in
    elim c.if-is_blocked_pair.branch [
      | then-is_blocked_pair w ↦ w.count-is ∙ left_more (is_between r d) c.args.x c.loop-y.y c.loop-y.count (here ∙ w.if-is_blocked_pair.true) c.loop-y.invariant
      | else-is_blocked_pair w ↦ w.count-is ∙ left_same (is_between r d) c.args.x c.loop-y.y c.loop-y.count (here ∙ w.if-is_blocked_pair.false) c.loop-y.invariant
    ]

pub overflow_add-count : goal.overflow_add-count
overflow_add-count c =
    let few = to_few (is_between c.args.self.now.blocked_pairs.now c.args.self.now.numbers.now) c.args.x c.loop-y.y in
    let same = c.loop-y.invariant in
    let less = c.loop-y-test.true in
    let fits = c.seconds-start.type_inv in
    omega (arith, few, same, less, fits)

pub returns : goal.returns
returns c =
    let are = c.seconds-start.ensures in
    let last = c.loop-y-test.false in
    let auto = c.loop-y.auto in
    let ordered = are.ordered in
    c.loop-y.invariant ∙ ap length
    (none_behind c.args.self.now.blocked_pairs.now c.args.self.now.numbers.now c.args.x c.seconds-start.result.0 c.seconds-start.result.1 are c.loop-y.y (omega arith))
