-- The marks of a diagram that accept no race, and what is printed of them. This project's own format.
use Rattle.std.specs.Prelude.{ℕ, Bool, false, not, List, [], ◌++◌, Option, None, Some, codes, is_some, length, slice_get}
use Rattle.std.specs.List.{filter, flat_map, list_any, range_with_len}
use Rattle.std.specs.Option.{option_map_or}
use Rattle.msc_arrow_marks.specs.declared.marks.ArrowMark.{ArrowMark}
use Rattle.msc_diagnostic.specs.Blocks.{diagnostic_text}
use Rattle.msc_full.specs.Stale.{stale_at}
use Rattle.msc_place.specs.Texts.{place_text}
use Rattle.msc_place.specs.declared.position.Position.{Position}
use Rattle.msc_report.specs.Texts.{text_line}
use Rattle.msc_scenario_marks.specs.Idle.{is_used, may_be_idle}
use Rattle.msc_scenario_marks.specs.Places.{mark_position}
use Rattle.msc_shown_chart.specs.Words.{file_said, position_said}
use Rattle.msc_diagram.specs.Checks.{arrows_in}
use Rattle.msc_diagram.specs.Scenarios.{all_of, Case}
use Rattle.msc_diagram.specs.declared.cases.RaceFormat.{RaceFormat}
use Rattle.msc_diagram.specs.declared.cases.RaceFormat.TheVariants.{Lines, Editor, Full}
use Rattle.msc_diagram.specs.declared.check.ScenarioCheck.{ScenarioCheck}
use Rattle.msc_diagram.specs.declared.check.UsedMarks.{UsedMarks}
use Rattle.msc_diagram.specs.declared.full.FullDiagram.{FullDiagram}
use Rattle.msc_diagram.specs.declared.scenario.Scenario.{Scenario}

-- the mark of a number accepts one of these races of a scenario, if marks are used
abbrev pub used_among : Option UsedMarks → Scenario → List (ℕ × ℕ) → ℕ → Bool
used_among None s races n = false
used_among (Some m) s races n = is_used m.accepted.now (arrows_in m s) m.chosen races n

-- it accepts a race of a scenario, of whatever kind
abbrev pub uses : ScenarioCheck → Case → ℕ → Bool
uses k c n = used_among k.marks c.scenario (all_of k c) n

-- the marks that are told of if they accept no race, by their numbers
abbrev pub told_marks : Option UsedMarks → List ℕ
told_marks None = []
told_marks (Some m) = filter (may_be_idle m.accepted.now) (range_with_len 0 (length m.accepted.now.marks))

-- those of these marks that accept no race of some scenario
abbrev pub idle_in : ScenarioCheck → List Case → List ℕ → List ℕ
idle_in k cases marks = filter (λ n. not (list_any (λ c. uses k c n) cases)) marks

-- the stale marks: those that accept no race of any scenario
abbrev pub stale_marks : ScenarioCheck → List Case → List ℕ
stale_marks k cases = idle_in k cases (told_marks k.marks)

-- the lines of a stale mark at a place, as it is printed
abbrev pub line_at : List ℕ → List ℕ
line_at place = codes "stale\nat " ++ text_line place

-- its line for editors
abbrev pub editor_at : List ℕ → List ℕ
editor_at place = place ++ text_line (codes ": warning: stale [stale]")

-- the diagnostic of a mark of a diagram at this place, as it is printed
abbrev pub stale_diagnostic : FullDiagram → List ℕ → ArrowMark → List ℕ
stale_diagnostic shown place mark =
    diagnostic_text shown.names.colours shown.lent.now.source.ends shown.lent.now.source.text.now (stale_at mark.comment.first mark.comment.past place (is_some mark.arrow))

-- a stale mark at this position of a file in a format
abbrev pub stale_at_position : RaceFormat → List ℕ → Position → Option ArrowMark → List ℕ
stale_at_position (Lines words) file at mark = line_at (place_text file at.line at.column)
stale_at_position Editor file at mark = editor_at (place_text file at.line at.column)
stale_at_position (Full f) file at mark =
    option_map_or (stale_diagnostic f.shown (position_said (file_said file) at.line at.column)) mark []

-- the mark of a number
abbrev pub stale_by : RaceFormat → UsedMarks → ℕ → List ℕ
stale_by format m n =
    stale_at_position format m.file.now (mark_position m.accepted.now n) (slice_get m.accepted.now.marks n)

-- by lines, for editors and for people
abbrev pub stale_line : UsedMarks → ℕ → List ℕ
stale_line m n =
    line_at (place_text m.file.now (mark_position m.accepted.now n).line (mark_position m.accepted.now n).column)

abbrev pub stale_editor : UsedMarks → ℕ → List ℕ
stale_editor m n =
    editor_at (place_text m.file.now (mark_position m.accepted.now n).line (mark_position m.accepted.now n).column)

abbrev pub stale_shown : FullDiagram → UsedMarks → ℕ → List ℕ
stale_shown shown m n =
    let place = position_said (file_said m.file.now) (mark_position m.accepted.now n).line (mark_position m.accepted.now n).column in
    option_map_or (stale_diagnostic shown place) (slice_get m.accepted.now.marks n) []

-- what is printed of these stale marks, of each the same, if marks are used
abbrev pub each_stale : Option UsedMarks → (UsedMarks → ℕ → List ℕ) → List ℕ → List ℕ
each_stale None text stale = []
each_stale (Some m) text stale = flat_map (text m) stale
