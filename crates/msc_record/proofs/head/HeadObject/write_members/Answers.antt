use Rattle.std.proofs.Common.{◌++◌}
use Rattle.msc_record.specs.Heads.{counts_members, head_members, name_members, opening_members, own_members, queues_members, scenarios_members}
use Rattle.msc_record.specs.Lent.{plain_head}
use Rattle.msc_record.proofs.WritingLemmas.{adds_more}
use Rattle.msc_record.proofs.head.HeadObject.write_members.Goals as goal

pub returns : goal.returns
unfolding head_members
returns c =
    let h = plain_head c.args.self.now in
    let own = own_members h.checked in
    let from_counts = counts_members h.counts ++ own in
    let from_scenarios = scenarios_members h.checked ++ from_counts in
    let from_queues = queues_members h ++ from_scenarios in
    adds_more (opening_members h.opening) (name_members h.checked ++ from_queues) c.in_ok-write_members.ensures
    (adds_more (name_members h.checked) from_queues c.in_ok-write_name.ensures
    (adds_more (queues_members h) from_scenarios c.in_ok-write_queues.ensures
    (adds_more (scenarios_members h.checked) from_counts c.in_ok-write_scenarios.ensures
    (adds_more (counts_members h.counts) own c.in_ok-write_members-2.ensures c.write_own.ensures))))
