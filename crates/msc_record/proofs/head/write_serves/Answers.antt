use Rattle.std.proofs.Common.{Bor, List, ℕ, ap, sym, codes}
use Rattle.msc_record.specs.Members.{text, tokens_of}
use Rattle.msc_record.proofs.MemberLemmas.{member_if_any_plain}
use Rattle.msc_record.proofs.WritingLemmas.{adds_same}
use Rattle.msc_record.proofs.head.write_serves.Goals as goal

pub returns : goal.returns
returns c =
    adds_same (ap tokens_of (sym (member_if_any_plain text (λ (name : Bor (List ℕ)). name.now) (codes "serves") c.args.serves.now))) c.write_list_if_any.ensures
