-- Refusals in words, as plain data.
use Rattle.std.specs.Prelude.{ℕ, ◌==◌, List, [], ◌∷◌, ◌++◌, Option, None, Some, codes, find}
use Rattle.msc_diagnostic.specs.Plain.{Mark}
use Rattle.msc_diagnostic.specs.declared.mark.Sign.{Sign}
use Rattle.msc_fault_words.specs.declared.words.Span.{Span}

-- the stage and the number of a fault, a sentence, the parts of the text that are marked, and what helps
pub record Words : Type 0 where
  pub id : List ℕ
  pub sentence : List ℕ
  pub marks : List Mark
  pub helps : List (List ℕ)

-- only a sentence
abbrev pub bare : List ℕ → List ℕ → Words
bare id sentence = record { id = id; sentence = sentence; marks = []; helps = [] }

abbrev pub mark_of : Span → Sign → List ℕ → Mark
mark_of span sign label = record { first = span.first; past = span.past; sign = sign; label = label }

-- with these marks more, and with these helps more
abbrev pub with_marks : Words → List Mark → Words
with_marks w marks = record { id = w.id; sentence = w.sentence; marks = w.marks ++ marks; helps = w.helps }

abbrev pub with_helps : Words → List (List ℕ) → Words
with_helps w helps = record { id = w.id; sentence = w.sentence; marks = w.marks; helps = w.helps ++ helps }

-- the span that begins at a place; one of no bytes, if none does
abbrev pub past_of : ℕ → Option Span → ℕ
past_of at None = at
past_of at (Some span) = span.past

abbrev pub span_from : List Span → ℕ → Option Span
span_from spans at = find (λ span. span.first == at) spans

abbrev pub past_at : List Span → ℕ → ℕ
past_at spans at = past_of at (span_from spans at)

abbrev pub span_at : List Span → ℕ → Span
span_at spans at = record { first = at; past = past_at spans at }

-- a mark of the span that begins at a place, if there is a place
abbrev pub marks_at : List Span → Option ℕ → Sign → List ℕ → List Mark
marks_at spans None sign label = []
marks_at spans (Some at) sign label = mark_of (span_at spans at) sign label ∷ []

-- the place of the first mark
abbrev pub first_place : List Mark → Option ℕ
first_place [] = None
first_place (mark ∷ marks) = Some mark.first

-- memory ran out
abbrev pub memory : Words
memory = bare (codes "memory") (codes "out of memory")
