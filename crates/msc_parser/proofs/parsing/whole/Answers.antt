use Rattle.msc_parser.proofs.Answering.{reads_answer}
use Rattle.msc_parser.proofs.parsing.whole.Goals as goal

pub returns-in-Ok-clause-fault : goal.returns-in-Ok-clause-fault
returns-in-Ok-clause-fault c =
    (reads_answer c.args.text.now c.as_slice.result.now c.chart.result (rw c.as_slice.ensures.value c.in-Ok.ensures.tokens) c.chart.ensures).1
