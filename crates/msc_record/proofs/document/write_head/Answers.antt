use Rattle.msc_record.proofs.WritingLemmas.{adds_on}
use Rattle.msc_record.proofs.document.write_head.Goals as goal

pub returns : goal.returns
returns c =
    adds_on c.in_ok-write_schema.ensures (adds_on c.in_ok-write_runs.ensures (adds_on c.in_ok-write_tool.ensures c.write_results.ensures))
