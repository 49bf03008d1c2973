use Rattle.std.proofs.Common.{ap, sym, codes}
use Rattle.msc_record.specs.Events.{event_json}
use Rattle.msc_record.specs.Lent.{plain_event}
use Rattle.msc_record.specs.Members.{tokens_of}
use Rattle.msc_record.proofs.MemberLemmas.{member_if_plain}
use Rattle.msc_record.proofs.WritingLemmas.{adds_same}
use Rattle.msc_record.proofs.head.write_stale.Goals as goal

pub returns : goal.returns
returns c =
    adds_same (ap tokens_of (sym (member_if_plain event_json plain_event (codes "stale") c.args.stale))) c.write_list_if.ensures
