use Rattle.std.proofs.Common.{[], ◌∷◌}
use Rattle.std.proofs.lemmas.Result.{on_ok_weaker}
use Rattle.json.specs.Token.{end_array, end_object}
use Rattle.msc_record.specs.Documents.{ending_members, ending_tokens}
use Rattle.msc_record.specs.SarifLent.{plain_ending}
use Rattle.msc_record.proofs.NumberLemmas.{added_is_printable, numbers_before}
use Rattle.msc_record.proofs.document.print_ending.Goals as goal

pub returns-clause-numbers : goal.returns-clause-numbers
returns-clause-numbers c =
    let e = plain_ending c.args.ending.now in
    on_ok_weaker c.write_ending-written.result (λ p. numbers_before (ending_members e) (end_object ∷ end_array ∷ end_object ∷ []) p.1)
    (added_is_printable (ending_tokens e) c.writer_after-writer.ensures.tokens c.write_ending-written.ensures c.into_inner.ensures.reads_back)
