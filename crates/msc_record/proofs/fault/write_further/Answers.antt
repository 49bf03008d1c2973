use Rattle.std.proofs.Common.{ap, sym, codes}
use Rattle.msc_record.specs.Faults.{fault_json}
use Rattle.msc_record.specs.Lent.{plain_fault}
use Rattle.msc_record.specs.Members.{tokens_of}
use Rattle.msc_record.proofs.MemberLemmas.{member_if_any_plain}
use Rattle.msc_record.proofs.WritingLemmas.{adds_same}
use Rattle.msc_record.proofs.fault.write_further.Goals as goal

pub returns : goal.returns
returns c =
    adds_same (ap tokens_of (sym (member_if_any_plain fault_json plain_fault (codes "further") c.args.further.now))) c.write_list_if_any.ensures
