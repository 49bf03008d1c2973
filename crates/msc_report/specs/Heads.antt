-- The heads of verdicts.
use Rattle.std.specs.Prelude.{ℕ, List, ◌++◌}
use Rattle.msc_chart.specs.declared.queue.Queues.{Queues}
use Rattle.msc_chart.specs.Drawings.{Drawing}
use Rattle.msc_race.specs.declared.verdict.Verdict.{Verdict}
use Rattle.msc_report.specs.Links.{queues_text}
use Rattle.msc_report.specs.Verdicts.{count_line, name_line, outcome_line}

-- the head of a verdict with this number of races
abbrev pub head_text : Drawing → Queues → ℕ → List ℕ
head_text d queues count = name_line d ++ (queues_text d queues ++ count_line count)

-- the head of a verdict
abbrev pub verdict_text : Drawing → Queues → Verdict → List ℕ
verdict_text d queues v = name_line d ++ (queues_text d queues ++ outcome_line v)
