use Rattle.std.proofs.Common.{ap, sym, codes}
use Rattle.msc_record.specs.Heads.{link_json}
use Rattle.msc_record.specs.Lent.{plain_link}
use Rattle.msc_record.specs.Members.{tokens_of}
use Rattle.msc_record.proofs.MemberLemmas.{member_if_any_plain}
use Rattle.msc_record.proofs.WritingLemmas.{adds_same}
use Rattle.msc_record.proofs.head.write_links.Goals as goal

pub returns : goal.returns
returns c =
    adds_same (ap tokens_of (sym (member_if_any_plain link_json plain_link (codes "links") c.args.links.now))) c.write_list_if_any.ensures
