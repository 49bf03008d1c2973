use Rattle.std.proofs.Common.{Bor, List, ℕ, ap, sym, codes}
use Rattle.json.specs.Json.{array, string}
use Rattle.msc_record.specs.Members.{member_tokens}
use Rattle.msc_record.proofs.MemberLemmas.{items_of_plain}
use Rattle.msc_record.proofs.WritingLemmas.{adds_same}
use Rattle.msc_record.proofs.entry.write_notes.Goals as goal

pub returns : goal.returns
returns c =
    adds_same (ap (λ js. member_tokens (codes "notes", array js)) (sym (items_of_plain string (λ (n : Bor (List ℕ)). n.now) c.args.notes.now))) c.write_list.ensures
