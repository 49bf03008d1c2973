use Rattle.msc_record.proofs.WritingLemmas.{adds_end, adds_on}
use Rattle.msc_record.proofs.rule.DriverObject.write_members.Goals as goal

pub returns : goal.returns
returns c =
    adds_on c.in_ok-write_member.ensures (adds_on c.in_ok-write_member-2.ensures (adds_end c.write_rules.ensures))
