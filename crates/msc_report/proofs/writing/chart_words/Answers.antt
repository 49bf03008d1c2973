use Rattle.msc_report.proofs.writing.chart_words.Goals as goal

pub returns-in-UnmatchedOut-clause-words : goal.returns-in-UnmatchedOut-clause-words
returns-in-UnmatchedOut-clause-words c = rw c.in-UnmatchedOut.is
