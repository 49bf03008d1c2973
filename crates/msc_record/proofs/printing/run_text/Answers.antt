use Rattle.json.specs.Tree.{json_tokens}
use Rattle.msc_record.specs.Entries.{run_json}
use Rattle.msc_record.proofs.NumberLemmas.{added_is_printable, numbers_of_json}
use Rattle.msc_record.proofs.printing.run_text.Goals as goal

pub returns-clause-numbers : goal.returns-clause-numbers
returns-clause-numbers c =
    let j = run_json c.args.events.now in
    numbers_of_json j (added_is_printable (json_tokens j) c.new-writer.ensures.tokens c.in_ok-write_array.ensures c.into_inner.ensures.reads_back)
