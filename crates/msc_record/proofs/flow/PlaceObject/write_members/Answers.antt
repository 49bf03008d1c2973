use Rattle.msc_record.proofs.WritingLemmas.{adds_end, adds_on}
use Rattle.msc_record.proofs.flow.PlaceObject.write_members.Goals as goal

pub returns : goal.returns
returns c =
    adds_on c.in_ok-write_members.ensures (adds_end c.write_member.ensures)
