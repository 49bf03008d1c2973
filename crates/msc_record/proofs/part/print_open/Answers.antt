use Rattle.std.proofs.Common.{◌∷◌}
use Rattle.std.proofs.lemmas.Result.{on_ok_weaker}
use Rattle.json.specs.Token.{begin_object}
use Rattle.msc_record.specs.Members.{tokens_of}
use Rattle.msc_record.proofs.NumberLemmas.{added_is_printable, numbers_of_members}
use Rattle.msc_record.proofs.part.print_open.Goals as goal

pub returns-clause-numbers : goal.returns-clause-numbers
returns-clause-numbers g c =
    let ms = g.T.Object.members c.args.object.now in
    on_ok_weaker c.write_open-written.result (λ p. numbers_of_members ms p.1)
    (added_is_printable (begin_object ∷ tokens_of ms) c.writer_after-writer.ensures.tokens c.write_open-written.ensures c.into_inner.ensures.reads_back)
