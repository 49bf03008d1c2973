use Rattle.std.proofs.Common.{◌≡◌, filter, nat_lt, take}
use Rattle.msc_instance.proofs.wiring.senders_quotas.Given as goal

abbrev pub invariant-loop-quota : goal.invariant-loop-quota
invariant-loop-quota l = l.own.items ≡ filter (nat_lt 0) (take l.quota-index l.quotas)
