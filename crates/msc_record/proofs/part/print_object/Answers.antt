use Rattle.std.proofs.lemmas.Result.{on_ok_weaker}
use Rattle.json.specs.Tree.{json_tokens}
use Rattle.msc_record.specs.Members.{object_of}
use Rattle.msc_record.proofs.NumberLemmas.{added_is_printable, numbers_of_json}
use Rattle.msc_record.proofs.part.print_object.Goals as goal

pub returns-clause-numbers : goal.returns-clause-numbers
returns-clause-numbers g c =
    let j = object_of (g.T.Object.members c.args.object.now) in
    on_ok_weaker c.write_object-written.result (λ p. numbers_of_json j p)
    (added_is_printable (json_tokens j) c.writer_after-writer.ensures.tokens c.write_object-written.ensures c.into_inner.ensures.reads_back)
