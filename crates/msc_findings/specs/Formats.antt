-- The marks of a text that accept no race, as its findings show them.
use Rattle.std.specs.Prelude.{ℕ, cond, ◌==◌, List, [], ◌∷◌, Option, None, Some}
use Rattle.std.specs.List.{flat_map}
use Rattle.msc_full.specs.Stale.{stale_text}
use Rattle.msc_full.specs.declared.event.ShownText.{ShownText}
use Rattle.msc_full.specs.declared.stale.StaleMark.{StaleMark}
use Rattle.msc_findings.specs.declared.format.FullFormat.{FullFormat}
use Rattle.msc_findings.specs.declared.format.ShownMark.{ShownMark}

-- the mark of an event
abbrev pub mark_of : List ShownMark → ℕ → Option StaleMark
mark_of [] event = None
mark_of (m ∷ ms) event = cond (m.event == event) (Some m.stale) (mark_of ms event)

-- its diagnostic, if there is one
abbrev pub stale_if : ShownText → Option StaleMark → List ℕ
stale_if text None = []
stale_if text (Some stale) = stale_text text stale

abbrev pub mark_text : FullFormat → ℕ → List ℕ
mark_text x event = stale_if x.text (mark_of x.marks.now event)

-- the diagnostics of the marks of these events
abbrev pub marks_text : FullFormat → List ℕ → List ℕ
marks_text x events = flat_map (mark_text x) events
