use Rattle.std.proofs.Common.{ℕ, ◌-◌, List, true, set, subst, sym, arith}
use Rattle.msc_chart.specs.Sortings.{IsSortingOf}
use Rattle.msc_chart.proofs.SortingLemmas.{pushed, some_left}
use Rattle.msc_chart.proofs.linear.push.Goals as goal

pub returns-clause-left : goal.returns-clause-left
returns-clause-left c = omega (arith, some_left _ _ _ _ _ c.requires.sorting.0 c.args.e c.requires.event c.requires.left)

pub returns-clause-sorting : goal.returns-clause-sorting
returns-clause-sorting c =
    let k = pushed _ _ _ _ _ c.requires.sorting.0 c.args.e c.requires.event c.requires.left c.requires.open in
    let p = c.args.sorting.now in
    (subst (λ (l : List ℕ). IsSortingOf c.args.events.now l (set p.is_put.items c.args.e true) p.first.items (p.left - 1)) (sym c.in_ok-push.ensures.items) k, c.requires.sorting.1)
