use Rattle.std.proofs.Common.{◌≡◌, map, take}
use Rattle.std.specs.List.{concat}
use Rattle.msc_gather.proofs.linking.joined.Given as goal

abbrev pub invariant-loop-log : goal.invariant-loop-log
invariant-loop-log l = l.all.items ≡ concat (map (λ v. v.items) (take l.log-index l.logs))
