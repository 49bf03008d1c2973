-- What stands above a picture of a chart under an architecture, and above one of a run.
use Rattle.std.specs.Prelude.{ℕ, cond, List, ◌++◌, codes, nat_eq}
use Rattle.std.specs.Fmt.{decimal}
use Rattle.msc_chart.specs.Drawings.{Drawing}
use Rattle.msc_chart.specs.declared.queue.Queues.{Queues}
use Rattle.msc_links.specs.Said.{queues_said}

-- the word behind a number of races
abbrev pub races_word : ℕ → List ℕ
races_word races = cond (nat_eq races 1) (codes " race, ") (codes " races, ")

-- how many races there are, and how many of them are closest
abbrev pub counts_text : ℕ → ℕ → List ℕ
counts_text races closest =
    ((decimal races ++ races_word races) ++ decimal closest) ++ codes " closest"

-- the verdict over a chart with so many races
abbrev pub verdict_text : Drawing → Queues → ℕ → ℕ → List ℕ
verdict_text d queues races closest =
    (queues_said d queues ++ codes ": ")
    ++ cond (nat_eq races 0) (codes "pass") (counts_text races closest)

-- that a run has event f before event e
abbrev pub reversal_text : Drawing → Queues → ℕ → ℕ → List ℕ
reversal_text d queues e f =
    (((queues_said d queues ++ codes ": a run with ") ++ decimal f) ++ codes " before ") ++ decimal e
