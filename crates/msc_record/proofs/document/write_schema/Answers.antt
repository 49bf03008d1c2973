use Rattle.msc_record.proofs.WritingLemmas.{adds_on, adds_token}
use Rattle.msc_record.proofs.document.write_schema.Goals as goal

pub returns : goal.returns
returns c =
    adds_on (adds_token c.in_ok-begin_object.ensures) (adds_on c.in_ok-write_member.ensures c.write_member-2.ensures)
