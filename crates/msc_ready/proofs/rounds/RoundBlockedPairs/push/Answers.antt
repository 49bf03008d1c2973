use Rattle.std.proofs.Common.{◌++◌, ◌∷◌, [], ℕ, List, ap, sym, ◌∙◌, arith}
use Rattle.std.proofs.lemmas.List.{append-nil, append_assoc}
use Rattle.msc_chart.specs.Lists.{pairs_to}
use Rattle.msc_race.proofs.Listing.Pairs.{pairs_more, pairs_skip}
use Rattle.msc_ready.specs.Rounds.{is_between}
use Rattle.msc_ready.proofs.Between.{none_before, none_behind, passes_here}
use Rattle.msc_ready.proofs.rounds.RoundBlockedPairs.push.Goals as goal
use Rattle.msc_ready.proofs.rounds.RoundBlockedPairs.push.Goals.{then-is_blocked_pair+in_ok-push, else-is_blocked_pair}

pub loop-y-init : goal.loop-y-init
loop-y-init c =
    let none = none_before c.args.self.now.blocked_pairs.now c.args.self.now.numbers.now c.args.x c.seconds-start.result.0 c.seconds-start.result.1 c.seconds-start.ensures in
    sym (ap (λ (l : List (ℕ × ℕ)). c.args.list.now.items ++ l) none ∙ append-nil c.args.list.now.items)

pub loop-y-preserved : goal.loop-y-preserved
loop-y-preserved c =
    let r = c.args.self.now.blocked_pairs.now in
    let d = c.args.self.now.numbers.now in
    let x : ℕ = c.args.x in
    let y : ℕ = c.loop-y.y in
    let value = rw c.ready-ready.ensures at c.is_blocked_pair.ensures.value in
    let here = passes_here r d x c.seconds-start.result.0 c.seconds-start.result.1 c.seconds-start.ensures y c.is_blocked_pair.result c.loop-y.auto.y c.loop-y-test.true value in
    elim c.if-is_blocked_pair.branch [
      | then-is_blocked_pair+in_ok-push w ↦
          let more = pairs_more (is_between r d) x y (here ∙ w.if-is_blocked_pair.true) in
          rw w.list-is (w.in_ok-push.ensures.items ∙ ap (λ (l : List (ℕ × ℕ)). l ++ (x, y) ∷ []) c.loop-y.invariant
          ∙ append_assoc c.args.list.now.items (pairs_to (is_between r d) x y) ((x, y) ∷ [])
          ∙ ap (λ (l : List (ℕ × ℕ)). c.args.list.now.items ++ l) (sym more))
      | else-is_blocked_pair w ↦
          let same = pairs_skip (is_between r d) x y (here ∙ w.if-is_blocked_pair.false) in
          rw w.list-is (c.loop-y.invariant ∙ ap (λ (l : List (ℕ × ℕ)). c.args.list.now.items ++ l) (sym same))
    ]

pub returns : goal.returns
returns c =
    let are = c.seconds-start.ensures in
    let last = c.loop-y-test.false in
    let auto = c.loop-y.auto in
    let ordered = are.ordered in
    c.loop-y.invariant ∙ ap (λ (l : List (ℕ × ℕ)). c.args.list.now.items ++ l)
    (none_behind c.args.self.now.blocked_pairs.now c.args.self.now.numbers.now c.args.x c.seconds-start.result.0 c.seconds-start.result.1 are c.loop-y.y (omega arith))
