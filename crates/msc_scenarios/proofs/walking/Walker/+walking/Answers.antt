use Rattle.std.proofs.Common.{◌≡◌, ◌+◌, ◌-◌, ◌++◌, ◌∷◌, [], suc, length, get_or, take, drop, map, sym, ap, ◌∙◌, arith}
use Rattle.std.proofs.lemmas.List.{take_rest}
use Rattle.msc_mermaid.specs.declared.row.Closer.TheVariants as closers
use Rattle.msc_mermaid.specs.declared.statement.Statement.TheVariants.{Closes}
use Rattle.msc_scenarios.specs.Steps.{walk, unbroken, side_by_side, one, owned_by}
use Rattle.msc_scenarios.proofs.WalkLemmas.{round_on, round_not, round_none, side_on, side_not, side_end, walk_skip, walk_next, walk_not, walk_end, walk_zero, walk_some}
use Rattle.msc_scenarios.proofs.walking.Walker.+walking.Goals as goal

pub rounds-returns-then-not-goes : goal.rounds-returns-then-not-goes
rounds-returns-then-not-goes t c =
    let l = c.loop-i in let body = c.args.body.now in let rounds = c.args.rounds.now in let d = c.args.depth in
    let left : c.args.count - l.i ≡ suc (c.args.count - (l.i + 1)) = omega (arith, c.loop-i-test.true) in
    let is = c.in_ok-walk.ensures ∙ ap (λ r. walk d body r l.self) (c.as_slice.ensures.value ∙ c.in_ok-push.ensures.items ∙ ap (λ x. x ++ (l.i + 1) ∷ []) c.in_ok-inner.ensures.items) in
    sym (round_not (walk d) body rounds l.i (c.args.count - l.i) (c.args.count - (l.i + 1)) l.self left c.walk.new.self is (sym c.if-not-goes.ensures)) ∙ l.invariant

pub rounds-loop-i-preserved : goal.rounds-loop-i-preserved
rounds-loop-i-preserved t c =
    let l = c.loop-i in let body = c.args.body.now in let rounds = c.args.rounds.now in let d = c.args.depth in
    let left : c.args.count - l.i ≡ suc (c.args.count - (l.i + 1)) = omega (arith, c.loop-i-test.true) in
    let is = c.in_ok-walk.ensures ∙ ap (λ r. walk d body r l.self) (c.as_slice.ensures.value ∙ c.in_ok-push.ensures.items ∙ ap (λ x. x ++ (l.i + 1) ∷ []) c.in_ok-inner.ensures.items) in
    sym (round_on (walk d) body rounds l.i (c.args.count - l.i) (c.args.count - (l.i + 1)) l.self left c.walk.new.self is (sym c.if-not-goes.ensures)) ∙ l.invariant

pub rounds-returns : goal.rounds-returns
rounds-returns t c =
    let l = c.loop-i in
    let none : c.args.count - l.i ≡ 0 = omega (arith, c.loop-i-test.false) in
    sym (round_none (walk c.args.depth) c.args.body.now c.args.rounds.now l.i (c.args.count - l.i) l.self none) ∙ l.invariant

pub side_by_side-returns-then-not-goes : goal.side_by_side-returns-then-not-goes
side_by_side-returns-then-not-goes t c =
    let l = c.loop-branch in let rounds = c.args.rounds.now in let d = c.args.depth in
    let is = c.heal.ensures ∙ ap unbroken (c.in_ok-walk.ensures ∙ ap (λ b. walk d b.now rounds l.self) c.branch-item.is) in
    sym (side_not (λ x. x.now) c.args.branches.now l.branch-index (walk d) rounds l.self c.branch-item.result c.loop-branch-test.true c.heal.new.self is (sym c.if-not-goes.ensures)) ∙ l.invariant

pub side_by_side-loop-branch-preserved : goal.side_by_side-loop-branch-preserved
side_by_side-loop-branch-preserved t c =
    let l = c.loop-branch in let rounds = c.args.rounds.now in let d = c.args.depth in
    let is = c.heal.ensures ∙ ap unbroken (c.in_ok-walk.ensures ∙ ap (λ b. walk d b.now rounds l.self) c.branch-item.is) in
    let on = side_on (λ x. x.now) c.args.branches.now l.branch-index (walk d) rounds l.self c.branch-item.result c.loop-branch-test.true c.heal.new.self is (sym c.if-not-goes.ensures) in
    ap (side_by_side (walk d) (map (λ x. x.now) (drop (l.branch-index + 1) c.args.branches.now)) rounds) c.in_ok-put.ensures ∙ sym on ∙ l.invariant

pub side_by_side-returns : goal.side_by_side-returns
side_by_side-returns t c =
    let l = c.loop-branch in
    sym (side_end (λ x. x.now) c.args.branches.now l.branch-index (walk c.args.depth) c.args.rounds.now l.self c.loop-branch-test.false) ∙ l.invariant

pub walk-returns-then-depth-eq0 : goal.walk-returns-then-depth-eq0
walk-returns-then-depth-eq0 t c =
    sym (walk_zero c.args.depth c.args.statements.now c.args.rounds.now c.args.self.now c.if-depth-eq0.true)

pub walk-loop-i-preserved-then-owned-gt0 : goal.walk-loop-i-preserved-then-owned-gt0
walk-loop-i-preserved-then-owned-gt0 t c =
    let l = c.loop-i in
    let some : l.owned ≡ suc (l.owned - 1) = omega (arith, c.if-owned-gt0.true) in
    sym (walk_skip (walk (c.args.depth - 1)) c.args.statements.now l.i c.args.rounds.now l.self l.owned (l.owned - 1) (record { line = 0; column = 0; number = 0; statement = Closes closers.End; whole = record { first = 0; past = 0 }; shown = record { first = 0; past = 0 } }) c.loop-i-test.true some) ∙ l.invariant

pub walk-returns-then-not-goes : goal.walk-returns-then-not-goes
walk-returns-then-not-goes t c =
    let l = c.loop-i in let ps = c.args.statements.now in let rounds = c.args.rounds.now in let inner = walk (c.args.depth - 1) in
    let item = c.index-statements-i.result in
    let none : l.owned ≡ 0 = omega (arith, c.if-owned-gt0.false) in
    let deep : c.args.depth ≡ suc (c.args.depth - 1) = omega (arith, c.if-depth-eq0.false) in
    let is = c.in_ok-one.ensures ∙ ap (λ p. one inner p p.statement (take (length ps - (l.i + 1)) (drop (l.i + 1) ps)) rounds l.self) c.index-statements-i.is ∙ ap (λ r. one inner (get_or ps l.i item) (get_or ps l.i item).statement r rounds l.self) (take_rest ps (l.i + 1)) in
    sym (walk_not inner ps l.i rounds l.self l.owned item c.loop-i-test.true none c.one.new.self is (sym c.if-not-goes.ensures)) ∙ l.invariant ∙ sym (walk_some c.args.depth (c.args.depth - 1) ps rounds c.args.self.now deep)

pub walk-loop-i-preserved : goal.walk-loop-i-preserved
walk-loop-i-preserved t c =
    let l = c.loop-i in let ps = c.args.statements.now in let rounds = c.args.rounds.now in let inner = walk (c.args.depth - 1) in
    let item = c.index-statements-i.result in
    let none : l.owned ≡ 0 = omega (arith, c.if-owned-gt0.false) in
    let is = c.in_ok-one.ensures ∙ ap (λ p. one inner p p.statement (take (length ps - (l.i + 1)) (drop (l.i + 1) ps)) rounds l.self) c.index-statements-i.is ∙ ap (λ r. one inner (get_or ps l.i item) (get_or ps l.i item).statement r rounds l.self) (take_rest ps (l.i + 1)) in
    let same = c.owned_by-owned.ensures.value ∙ ap (λ p. owned_by p.statement (take (length ps - (l.i + 1)) (drop (l.i + 1) ps))) c.index-statements-i.is ∙ ap (owned_by (get_or ps l.i item).statement) (take_rest ps (l.i + 1)) in
    sym (walk_next inner ps l.i rounds l.self l.owned item c.loop-i-test.true none c.one.new.self is c.owned_by-owned.result same (sym c.if-not-goes.ensures)) ∙ l.invariant

pub walk-returns : goal.walk-returns
walk-returns t c =
    let l = c.loop-i in
    let deep : c.args.depth ≡ suc (c.args.depth - 1) = omega (arith, c.if-depth-eq0.false) in
    sym (walk_end (walk (c.args.depth - 1)) c.args.statements.now l.i c.args.rounds.now l.self l.owned c.loop-i-test.false) ∙ l.invariant ∙ sym (walk_some c.args.depth (c.args.depth - 1) c.args.statements.now c.args.rounds.now c.args.self.now deep)
