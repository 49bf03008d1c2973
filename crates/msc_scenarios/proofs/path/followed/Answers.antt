use Rattle.std.proofs.Common.{◌≡◌, IfOk, subst}
use Rattle.msc_scenarios.proofs.PathLemmas.{behind_one}
use Rattle.msc_scenarios.proofs.path.followed.Goals as goal

pub returns-then-second-eq1 : goal.returns-then-second-eq1
returns-then-second-eq1 c =
    subst (λ xs. IfOk c.extended.result (λ v. v.items ≡ xs)) (behind_one c.args.first.items c.args.second.now c.index-second-0.result c.if-second-eq1.true c.index-second-0.is) c.extended.ensures
