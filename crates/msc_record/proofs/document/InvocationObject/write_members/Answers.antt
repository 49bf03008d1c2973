use Rattle.msc_record.proofs.WritingLemmas.{adds_on}
use Rattle.msc_record.proofs.document.InvocationObject.write_members.Goals as goal

pub returns : goal.returns
returns c =
    adds_on c.in_ok-write_member.ensures (adds_on c.in_ok-write_member-2.ensures c.write_failures.ensures)
