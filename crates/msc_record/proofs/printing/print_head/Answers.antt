use Rattle.std.proofs.Common.{[], ◌∷◌, codes}
use Rattle.std.proofs.lemmas.Result.{on_ok_weaker}
use Rattle.json.specs.Token.{begin_array, key}
use Rattle.msc_record.specs.Heads.{head_members}
use Rattle.msc_record.specs.Lent.{plain_head}
use Rattle.msc_record.specs.Records.{head_tokens}
use Rattle.msc_record.proofs.NumberLemmas.{added_is_printable, numbers_before}
use Rattle.msc_record.proofs.printing.print_head.Goals as goal

pub returns-clause-numbers : goal.returns-clause-numbers
returns-clause-numbers c =
    let h = plain_head c.args.head.now in
    on_ok_weaker c.write_head-written.result (λ p. numbers_before (head_members h) (key (codes "list") ∷ begin_array ∷ []) p.1)
    (added_is_printable (head_tokens h) c.writer_after-writer.ensures.tokens c.write_head-written.ensures c.into_inner.ensures.reads_back)
