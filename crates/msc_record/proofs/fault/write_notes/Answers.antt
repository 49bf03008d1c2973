use Rattle.std.proofs.Common.{ap, sym, codes}
use Rattle.json.specs.Json.{array}
use Rattle.msc_record.specs.Faults.{note_json}
use Rattle.msc_record.specs.Lent.{plain_note}
use Rattle.msc_record.specs.Members.{member_tokens}
use Rattle.msc_record.proofs.MemberLemmas.{items_of_plain}
use Rattle.msc_record.proofs.WritingLemmas.{adds_same}
use Rattle.msc_record.proofs.fault.write_notes.Goals as goal

pub returns : goal.returns
returns c =
    adds_same (ap (λ js. member_tokens (codes "notes", array js)) (sym (items_of_plain note_json plain_note c.args.notes.now))) c.write_list.ensures
