use Rattle.std.proofs.Common.{◌≡◌, ◌+◌, ◌-◌, ◌++◌, suc, false, get_or, drop, map, sym, ap, ◌∙◌, arith}
use Rattle.std.proofs.lemmas.List.{take_rest}
use Rattle.msc_mermaid.specs.declared.row.Closer.TheVariants as closers
use Rattle.msc_mermaid.specs.declared.statement.Statement.TheVariants.{Closes}
use Rattle.msc_scenarios.specs.Choosing.{behind, by_branches, by_sides, choose, choose_on, chosen, healed, one}
use Rattle.msc_scenarios.specs.Steps.{owned_by}
use Rattle.msc_scenarios.proofs.ChoiceLemmas.{branches_more, branches_end, sides_more, sides_end, no_rounds, choose_skip, choose_next, choose_end, choose_zero, choose_some}
use Rattle.msc_scenarios.proofs.choosing.+choosing.Goals as goal

pub body_of-returns-then-never_go : goal.body_of-returns-then-never_go
body_of-returns-then-never_go t c = no_rounds c.args.rounds.now _ _ (sym c.if-never_go.ensures)

pub by_sides-loop-branch-preserved : goal.by_sides-loop-branch-preserved
by_sides-loop-branch-preserved t c =
    let l = c.loop-branch in let bs = c.args.branches.now in let inner = choose c.args.depth c.args.rounds.now in
    let found = c.as_slice.ensures.value ∙ c.in_ok-found.ensures ∙ ap (λ b. inner b.now) c.branch-item.is in
    let next = c.as_slice-in-loop-branch-2.ensures.value ∙ c.in_ok-next.ensures ∙ ap healed found in
    let paths = c.in_ok-paths-2.ensures ∙ ap (λ x. behind x c.as_slice-in-loop-branch-2.result.now) c.as_slice-in-loop-branch.ensures.value ∙ ap (behind l.paths.items) next in
    ap (by_sides inner (map (λ x. x.now) (drop (l.branch-index + 1) bs))) paths
    ∙ sym (sides_more (λ x. x.now) bs l.branch-index inner l.paths.items c.branch-item.result c.loop-branch-test.true)
    ∙ l.invariant

pub by_sides-returns : goal.by_sides-returns
by_sides-returns t c =
    let l = c.loop-branch in
    sym (sides_end (λ x. x.now) c.args.branches.now l.branch-index (choose c.args.depth c.args.rounds.now) l.paths.items c.loop-branch-test.false) ∙ l.invariant

pub choose-returns-then-depth-eq0 : goal.choose-returns-then-depth-eq0
choose-returns-then-depth-eq0 t c =
    c.in_ok-paths.ensures ∙ sym (choose_zero c.args.depth c.args.rounds.now c.args.statements.now c.if-depth-eq0.true)

pub choose-loop-i-preserved-then-owned-gt0 : goal.choose-loop-i-preserved-then-owned-gt0
choose-loop-i-preserved-then-owned-gt0 t c =
    let l = c.loop-i in let rounds = c.args.rounds.now in
    let some : l.owned ≡ suc (l.owned - 1) = omega (arith, c.if-owned-gt0.true) in
    sym (choose_skip (choose (c.args.depth - 1) rounds) rounds c.args.statements.now l.i l.owned l.paths.items (record { line = 0; column = 0; number = 0; statement = Closes closers.End; whole = record { first = 0; past = 0 }; shown = record { first = 0; past = 0 } }) c.loop-i-test.true (l.owned - 1) some) ∙ l.invariant

pub choose-loop-i-preserved : goal.choose-loop-i-preserved
choose-loop-i-preserved t c =
    let l = c.loop-i in let ps = c.args.statements.now in let rounds = c.args.rounds.now in let inner = choose (c.args.depth - 1) rounds in
    let item = c.index-statements-i.result in
    let none : l.owned ≡ 0 = omega (arith, c.if-owned-gt0.false) in
    let paths_are = c.in_ok-paths-2.ensures ∙ ap (λ x. one inner rounds (get_or ps l.i item).statement x l.paths.items) (take_rest ps (l.i + 1)) in
    let owned_is = c.owned_by-owned.ensures.value ∙ ap (owned_by (get_or ps l.i item).statement) (take_rest ps (l.i + 1)) in
    ap (λ x. choose_on inner rounds x (drop (l.i + 1) ps) c.in_ok-paths-2.paths.items) owned_is
    ∙ ap (choose_on inner rounds (owned_by (get_or ps l.i item).statement (drop (l.i + 1) ps)) (drop (l.i + 1) ps)) paths_are
    ∙ sym (choose_next inner rounds ps l.i l.owned l.paths.items item c.loop-i-test.true none)
    ∙ l.invariant

pub choose-returns : goal.choose-returns
choose-returns t c =
    let l = c.loop-i in let rounds = c.args.rounds.now in let ps = c.args.statements.now in
    let deep : c.args.depth ≡ suc (c.args.depth - 1) = omega (arith, c.if-depth-eq0.false) in
    sym (choose_end (choose (c.args.depth - 1) rounds) rounds ps l.i l.owned l.paths.items c.loop-i-test.false) ∙ l.invariant
    ∙ sym (choose_some c.args.depth (c.args.depth - 1) rounds ps deep)

pub put_branches-loop-i-preserved : goal.put_branches-loop-i-preserved
put_branches-loop-i-preserved t c =
    let l = c.loop-i in let bs = c.args.branches.now in let inner = choose c.args.depth c.args.rounds.now in
    let choice = c.args.start + l.i in let first = c.args.first.now in
    let next = c.as_slice.ensures.value ∙ c.in_ok-next.ensures ∙ ap (λ b. inner b.now) c.index-branches-i.is in
    let found = c.as_slice-in-loop-i.ensures.value ∙ c.in_ok-found.ensures ∙ ap (behind first) next in
    let put = c.in_ok-put_chosen.ensures ∙ ap (λ x. l.paths.items ++ chosen choice false x) found in
    let place : c.args.start + (l.i + 1) ≡ choice + 1 = omega arith in
    ap (λ x. x ++ by_branches inner first (c.args.start + (l.i + 1)) (map (λ y. y.now) (drop (l.i + 1) bs))) put
    ∙ ap (λ n. (l.paths.items ++ chosen choice false (behind first (inner (get_or bs l.i c.index-branches-i.result).now))) ++ by_branches inner first n (map (λ y. y.now) (drop (l.i + 1) bs))) place
    ∙ sym (branches_more (λ x. x.now) bs l.i inner l.paths.items c.index-branches-i.result c.loop-i-test.true first choice)
    ∙ l.invariant

pub put_branches-returns : goal.put_branches-returns
put_branches-returns t c =
    let l = c.loop-i in
    sym (branches_end (λ x. x.now) c.args.branches.now l.i (choose c.args.depth c.args.rounds.now) l.paths.items c.args.first.now (c.args.start + l.i) c.loop-i-test.false) ∙ l.invariant
