use Rattle.msc_parser.proofs.Answering.{one_parsing, answers_draft, answers_fault}
use Rattle.msc_parser.proofs.parsing.parse.Goals as goal

pub returns-clause-only_accepted : goal.returns-clause-only_accepted
returns-clause-only_accepted c =
    answers_draft (one_parsing c.one_reading.ensures) c.args.text.now c.whole.result c.whole.ensures.accepted c.whole.ensures.fault

pub returns-clause-only_fault : goal.returns-clause-only_fault
returns-clause-only_fault c =
    answers_fault (one_parsing c.one_reading.ensures) c.args.text.now c.whole.result c.whole.ensures.accepted c.whole.ensures.fault
