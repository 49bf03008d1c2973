-- The blocks of a refusal, and the line that closes it.
use Rattle.std.specs.Prelude.{◌≡◌, ℕ, List, ◌++◌, Option, None, Some, codes}
use Rattle.msc_diagnostic.specs.declared.source.LineEnds.TheVariants.{LineFeed}
use Rattle.msc_fault_words.specs.Printing.{words_text}
use Rattle.msc_fault_words.specs.Words.{Words, first_place}
use Rattle.msc_place.specs.Positions.{IsPosition}
use Rattle.msc_shown_chart.specs.Words.{position_said}
use Rattle.msc_wording.specs.Closing.{closing_line, refused_verdict}
use Rattle.msc_refusals.specs.declared.answer.RefusedText.{RefusedText}

-- a place of a text is printed so, and where there is none, the file
abbrev pub IsPlaceSaid : List ℕ → List ℕ → Option ℕ → List ℕ → Type 0
IsPlaceSaid file text None said = said ≡ file
IsPlaceSaid file text (Some at) said =
    (line : ℕ) × (column : ℕ) × IsPosition text at line column × (said ≡ position_said file line column)

-- a fault in words is printed so, at its first mark
abbrev pub IsBlock : RefusedText → Words → List ℕ → Type 0
IsBlock r w printed = (place : List ℕ) × IsPlaceSaid r.file.now r.text.now (first_place w.marks) place
    × (printed ≡ words_text r.colours LineFeed r.text.now (Some place) w)

-- `FILE: refused`, with the number of further faults that are not shown
abbrev pub closing_text : RefusedText → ℕ → List ℕ
closing_text r further = closing_line r.file.now (refused_verdict further) r.colours ++ codes "\n"

-- a text is refused so for one fault
abbrev pub IsRefusal : RefusedText → Words → List ℕ → Type 0
IsRefusal r w printed = (block : List ℕ) × IsBlock r w block × (printed ≡ block ++ closing_text r 0)
