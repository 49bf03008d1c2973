use Rattle.msc_record.proofs.WritingLemmas.{adds_on}
use Rattle.msc_record.proofs.location.PhysicalObject.write_members.Goals as goal

pub returns : goal.returns
returns c =
    adds_on c.in_ok-write_member.ensures c.write_member_if.ensures
