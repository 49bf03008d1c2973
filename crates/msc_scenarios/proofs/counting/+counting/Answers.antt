use Rattle.std.proofs.Common.{◌≡◌, ◌+◌, ◌-◌, suc, length, get_or, take, drop, map, sym, ap, ◌∙◌, arith}
use Rattle.std.proofs.lemmas.List.{take_rest}
use Rattle.msc_mermaid.specs.declared.row.Closer.TheVariants as closers
use Rattle.msc_mermaid.specs.declared.statement.Statement.TheVariants.{Closes}
use Rattle.msc_scenarios.specs.Counting.{all, behind, by_branches, by_sides, count, count_on, one, plus, times}
use Rattle.msc_scenarios.specs.Steps.{owned_by}
use Rattle.msc_scenarios.proofs.CountLemmas.{branches_more, branches_end, sides_more, sides_end, count_skip, count_next, count_end, count_zero, count_some}
use Rattle.msc_scenarios.proofs.counting.+counting.Goals as goal

pub by_branches-loop-branch-preserved : goal.by_branches-loop-branch-preserved
by_branches-loop-branch-preserved t c =
    let l = c.loop-branch in let bs = c.args.branches.now in let inner = count c.args.depth c.args.rounds.now in
    let paths_are = c.in_ok-paths.ensures ∙ ap (λ b. inner b.now) c.branch-item.is in
    let is = c.plus-number.ensures ∙ ap (plus l.number) (c.all.ensures ∙ ap all (c.behind.ensures ∙ ap (behind c.args.first) paths_are)) in
    ap (by_branches inner c.args.first (map (λ x. x.now) (drop (l.branch-index + 1) bs))) is
    ∙ sym (branches_more (λ x. x.now) bs l.branch-index inner l.number c.branch-item.result c.loop-branch-test.true c.args.first)
    ∙ l.invariant

pub by_branches-returns : goal.by_branches-returns
by_branches-returns t c =
    let l = c.loop-branch in
    sym (branches_end (λ x. x.now) c.args.branches.now l.branch-index (count c.args.depth c.args.rounds.now) l.number c.args.first c.loop-branch-test.false) ∙ l.invariant

pub by_sides-loop-branch-preserved : goal.by_sides-loop-branch-preserved
by_sides-loop-branch-preserved t c =
    let l = c.loop-branch in let bs = c.args.branches.now in let inner = count c.args.depth c.args.rounds.now in
    let paths_are = c.in_ok-count.ensures ∙ ap (λ b. inner b.now) c.branch-item.is in
    let is = c.times-number.ensures ∙ ap (times l.number) (c.all.ensures ∙ ap all paths_are) in
    ap (by_sides inner (map (λ x. x.now) (drop (l.branch-index + 1) bs))) is
    ∙ sym (sides_more (λ x. x.now) bs l.branch-index inner l.number c.branch-item.result c.loop-branch-test.true)
    ∙ l.invariant

pub by_sides-returns : goal.by_sides-returns
by_sides-returns t c =
    let l = c.loop-branch in
    sym (sides_end (λ x. x.now) c.args.branches.now l.branch-index (count c.args.depth c.args.rounds.now) l.number c.loop-branch-test.false) ∙ l.invariant

pub count-returns-then-depth-eq0 : goal.count-returns-then-depth-eq0
count-returns-then-depth-eq0 t c =
    c.unbroken-paths.ensures ∙ sym (count_zero c.args.depth c.args.rounds.now c.args.statements.now c.if-depth-eq0.true)

pub count-loop-i-preserved-then-owned-gt0 : goal.count-loop-i-preserved-then-owned-gt0
count-loop-i-preserved-then-owned-gt0 t c =
    let l = c.loop-i in let rounds = c.args.rounds.now in
    let some : l.owned ≡ suc (l.owned - 1) = omega (arith, c.if-owned-gt0.true) in
    sym (count_skip (count (c.args.depth - 1) rounds) rounds c.args.statements.now l.i l.owned l.paths (record { line = 0; column = 0; number = 0; statement = Closes closers.End; whole = record { first = 0; past = 0 }; shown = record { first = 0; past = 0 } }) c.loop-i-test.true (l.owned - 1) some) ∙ l.invariant

pub count-loop-i-preserved : goal.count-loop-i-preserved
count-loop-i-preserved t c =
    let l = c.loop-i in let ps = c.args.statements.now in let rounds = c.args.rounds.now in let inner = count (c.args.depth - 1) rounds in
    let item = c.index-statements-i.result in
    let none : l.owned ≡ 0 = omega (arith, c.if-owned-gt0.false) in
    let rest = take (length ps - (l.i + 1)) (drop (l.i + 1) ps) in
    let one_is = c.in_ok-one.ensures ∙ ap (one inner rounds (get_or ps l.i item).statement) (take_rest ps (l.i + 1)) in
    let paths_are = c.behind-paths.ensures ∙ ap (behind l.paths) one_is in
    let owned_is = c.owned_by-owned.ensures.value ∙ ap (owned_by (get_or ps l.i item).statement) (take_rest ps (l.i + 1)) in
    ap (λ x. count_on inner rounds x (drop (l.i + 1) ps) c.behind-paths.result) owned_is
    ∙ ap (count_on inner rounds (owned_by (get_or ps l.i item).statement (drop (l.i + 1) ps)) (drop (l.i + 1) ps)) paths_are
    ∙ sym (count_next inner rounds ps l.i l.owned l.paths item c.loop-i-test.true none)
    ∙ l.invariant

pub count-returns : goal.count-returns
count-returns t c =
    let l = c.loop-i in let rounds = c.args.rounds.now in let ps = c.args.statements.now in
    let deep : c.args.depth ≡ suc (c.args.depth - 1) = omega (arith, c.if-depth-eq0.false) in
    sym (count_end (count (c.args.depth - 1) rounds) rounds ps l.i l.owned l.paths c.loop-i-test.false) ∙ l.invariant
    ∙ sym (count_some c.args.depth (c.args.depth - 1) rounds ps deep)
