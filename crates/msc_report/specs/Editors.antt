-- The lines that editors read: PLACE: LEVEL: MESSAGE. This project's own format, as compilers have
-- it.
use Rattle.std.specs.Prelude.{ℕ, cond, List, [], ◌++◌, Option, None, Some, codes}
use Rattle.msc_chart.specs.Drawings.{Drawing}
use Rattle.msc_place.specs.EventPositions.{event_position_text, EventPositionsIn}
use Rattle.msc_reason.specs.Causes.{kind_word}
use Rattle.msc_reason.specs.declared.cause.Cause.{Cause}
use Rattle.msc_judge.specs.declared.renderer.Finding.{Finding}
use Rattle.msc_report.specs.Texts.{text_line}
use Rattle.msc_report.specs.Verdicts.{event_text, pair_place}
use Rattle.msc_report.specs.declared.editor.PairKind.{PairKind}
use Rattle.msc_report.specs.declared.editor.PairKind.TheVariants.{Race, Stick, Left}

-- how grave a race is: one that every run reverses is an error
abbrev pub race_level : Option Cause → List ℕ
race_level None = codes "warning"
race_level (Some cause) = cond cause.always (codes "error") (codes "warning")

-- how grave a pair is: a stick is an error, and a race that ready instances leave is none
abbrev pub level_word : PairKind → List ℕ
level_word (Race cause) = race_level cause
level_word Stick = codes "error"
level_word Left = codes "warning"

-- the word for what a pair is, where it is told: of a race its kind
abbrev pub pair_word : PairKind → Option (List ℕ)
pair_word (Race None) = None
pair_word (Race (Some cause)) = Some (kind_word cause.kind)
pair_word Stick = Some (codes "stick")
pair_word Left = Some (codes "race")

-- a word between brackets, where there is one
abbrev pub bracketed : Option (List ℕ) → List ℕ
bracketed None = []
bracketed (Some word) = codes " [" ++ (word ++ codes "]")

-- a word, two events of one line, which line that is, and what both of them do
abbrev pub told_text : List ℕ → Drawing → ℕ → ℕ → List ℕ
told_text word d e f = pair_place word d e f ++ (codes ": " ++ (event_text d e ++ (codes "; " ++ event_text d f)))

-- the line of a pair of events, at the first of them
abbrev pub grave_line : EventPositionsIn → List ℕ → Drawing → ℕ → ℕ → PairKind → List ℕ
grave_line event_positions word d e f kind =
    event_position_text event_positions e ++ (codes ": " ++ (level_word kind ++ (codes ": "
    ++ (told_text word d e f ++ (bracketed (pair_word kind) ++ codes "\n")))))

-- a note at the second
abbrev pub note_line : EventPositionsIn → ℕ → List ℕ → List ℕ
note_line event_positions f note = event_position_text event_positions f ++ (codes ": note: " ++ text_line note)

-- both lines of a pair of events of one round
abbrev pub pair_lines : EventPositionsIn → List ℕ → Drawing → ℕ → ℕ → PairKind → List ℕ
pair_lines event_positions word d e f kind =
    grave_line event_positions word d e f kind ++ note_line event_positions f (codes "the event drawn below it")

-- both lines of a pair of an event of a round and one of the next
abbrev pub again_lines : EventPositionsIn → Drawing → ℕ → ℕ → PairKind → List ℕ
again_lines event_positions d e f kind =
    grave_line event_positions (codes "again") d e f kind ++ note_line event_positions f (codes "the event of the next round")

-- both lines of a race
abbrev pub editor_text : EventPositionsIn → Drawing → Finding → List ℕ
editor_text event_positions d f = pair_lines event_positions (codes "race") d f.first f.second (Race f.cause)
