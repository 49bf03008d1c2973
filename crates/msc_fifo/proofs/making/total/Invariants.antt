use Rattle.std.proofs.Common.{◌≡◌, ◌≤◌, sum, take}
use Rattle.msc_fifo.specs.declared.TheConstants.{QUOTA_LIMIT}
use Rattle.msc_fifo.proofs.making.total.Given as goal

abbrev pub invariant-loop-quota : goal.invariant-loop-quota
invariant-loop-quota l = (l.sum ≡ sum (take l.quota-index l.quotas)) × (l.sum ≤ QUOTA_LIMIT)
