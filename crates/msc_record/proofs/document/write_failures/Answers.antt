use Rattle.std.proofs.Common.{ap, sym, codes}
use Rattle.msc_record.specs.Documents.{failure_json}
use Rattle.msc_record.specs.Members.{tokens_of}
use Rattle.msc_record.specs.SarifLent.{plain_failure}
use Rattle.msc_record.proofs.MemberLemmas.{member_if_any_plain}
use Rattle.msc_record.proofs.WritingLemmas.{adds_same}
use Rattle.msc_record.proofs.document.write_failures.Goals as goal

pub returns : goal.returns
returns c =
    adds_same (ap tokens_of (sym (member_if_any_plain failure_json plain_failure (codes "toolExecutionNotifications") c.args.failures.now))) c.write_list_if_any.ensures
