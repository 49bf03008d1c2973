use Rattle.std.proofs.Common.{ap, sym, codes}
use Rattle.json.specs.Json.{array}
use Rattle.msc_record.specs.declared.document.ScannedFile.{ScannedFile}
use Rattle.msc_record.specs.Documents.{file_json}
use Rattle.msc_record.specs.Members.{member_tokens}
use Rattle.msc_record.proofs.MemberLemmas.{items_of_plain}
use Rattle.msc_record.proofs.WritingLemmas.{adds_same}
use Rattle.msc_record.proofs.document.write_files.Goals as goal

pub returns : goal.returns
returns c =
    adds_same (ap (λ js. member_tokens (codes "artifacts", array js)) (sym (items_of_plain file_json (λ (file : ScannedFile). file.name.now) c.args.files.now))) c.write_list.ensures
