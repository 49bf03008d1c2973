use Rattle.msc_record.proofs.WritingLemmas.{adds_on, adds_token}
use Rattle.msc_record.proofs.document.write_ending.Goals as goal

pub returns : goal.returns
returns c =
    adds_on (adds_token c.in_ok-end_array.ensures) (adds_on c.in_ok-write_members.ensures (adds_on (adds_token c.in_ok-end_object.ensures)
    (adds_on (adds_token c.in_ok-end_array-2.ensures) (adds_token c.end_object-2.ensures))))
