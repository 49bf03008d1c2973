-- What the formats of an answer on ready instances print of sticks and of races that are left. This
-- project's own formats.
use Rattle.std.specs.Prelude.{ℕ, Bool, true, false, List, [], codes}
use Rattle.msc_chart.specs.Drawings.{Drawing}
use Rattle.msc_report.specs.BlockedPairs.{bare_stick, behind_line, left_line, left_race}
use Rattle.msc_report.specs.Editors.{again_lines, pair_lines}
use Rattle.msc_report.specs.Rounds.{again_behind, again_count, again_stick, once, round_run_text}
use Rattle.msc_report.specs.Styles.{run_text}
use Rattle.msc_report.specs.declared.editor.PairKind.TheVariants.{Stick, Left}
use Rattle.msc_report.specs.declared.ready_format.ReadyFormat.{ReadyFormat}
use Rattle.msc_report.specs.declared.ready_format.ReadyFormat.TheVariants.{Lines, Count, Editor}

-- for how many first sticks a run is shown, where so many are asked for
abbrev pub runs_shown : ReadyFormat → ℕ → ℕ
runs_shown (Lines style) show = show
runs_shown (Count file) show = 0
runs_shown (Editor event_positions) show = 0

-- whether the races that are left come behind the sticks between two rounds, and not above them
abbrev pub left_comes_last : ReadyFormat → Bool
left_comes_last (Lines style) = false
left_comes_last (Count file) = false
left_comes_last (Editor event_positions) = true

-- a stick, without what shows it
abbrev pub ready_stick : ReadyFormat → Drawing → ℕ × ℕ → List ℕ
ready_stick (Lines style) d p = bare_stick style d p.0 p.1
ready_stick (Count file) d p = []
ready_stick (Editor event_positions) d p = pair_lines event_positions.now (codes "stick") d p.0 p.1 Stick

-- that a stick is not first: which one is ahead of it
abbrev pub ready_behind : ReadyFormat → ℕ × ℕ → List ℕ
ready_behind (Lines style) p = behind_line p
ready_behind (Count file) p = []
ready_behind (Editor event_positions) p = []

-- the run of a stick that is first
abbrev pub ready_run : ReadyFormat → Drawing → List ℕ → List ℕ
ready_run (Lines style) d run = run_text style.words d run
ready_run (Count file) d run = []
ready_run (Editor event_positions) d run = []

-- the number of races that are left
abbrev pub ready_left_count : ReadyFormat → ℕ → List ℕ
ready_left_count (Lines style) count = left_line count
ready_left_count (Count file) count = []
ready_left_count (Editor event_positions) count = []

-- a race that is left
abbrev pub ready_left : ReadyFormat → Drawing → ℕ × ℕ → List ℕ
ready_left (Lines style) d p = left_race style d p
ready_left (Count file) d p = []
ready_left (Editor event_positions) d p = pair_lines event_positions.now (codes "race") d p.0 p.1 Left

-- the number of sticks between two rounds of a chart
abbrev pub ready_again_count : ReadyFormat → ℕ → List ℕ
ready_again_count (Lines style) count = again_count count
ready_again_count (Count file) count = []
ready_again_count (Editor event_positions) count = []

-- such a stick, without what shows it; numbers are those of events of two rounds
abbrev pub ready_again_stick : ReadyFormat → Drawing → ℕ × ℕ → List ℕ
ready_again_stick (Lines style) d p = again_stick style d p.0 p.1
ready_again_stick (Count file) d p = []
ready_again_stick (Editor event_positions) d p = again_lines event_positions.now d (once d p.0) (once d p.1) Stick

-- that it is not first: which one is ahead of it
abbrev pub ready_again_behind : ReadyFormat → Drawing → ℕ × ℕ → List ℕ
ready_again_behind (Lines style) d p = again_behind d p
ready_again_behind (Count file) d p = []
ready_again_behind (Editor event_positions) d p = []

-- the run of one that is first
abbrev pub ready_again_run : ReadyFormat → Drawing → List ℕ → List ℕ
ready_again_run (Lines style) d run = round_run_text style.words d run
ready_again_run (Count file) d run = []
ready_again_run (Editor event_positions) d run = []
