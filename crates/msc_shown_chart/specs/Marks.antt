-- The marks of a text, as findings show them.
use Rattle.std.specs.Prelude.{◌≡◌, ℕ, ◌+◌, ◌≤◌, Bool, true, false, not, ◌&&◌, cond, ◌==◌, List, [], ◌∷◌, Option, None, Some, drop, length, nat_lt}
use Rattle.std.specs.String.{string_bytes}
use Rattle.msc_findings.specs.declared.format.ShownMark.{ShownMark}
use Rattle.msc_mark.specs.declared.mark.Mark.{Mark}
use Rattle.msc_place.specs.Positions.{IsPosition}
use Rattle.msc_shown_chart.specs.Words.{position_said}
use Rattle.msc_shown_chart.specs.declared.marks.MarkWords.{MarkWords}

-- what is shown of a mark: the number of its event, where its text stands, its place as it is
-- printed, and that it belongs to an event
pub record PlainMark : Type 0 where
  pub event : ℕ
  pub first : ℕ
  pub past : ℕ
  pub place : List ℕ
  pub has_event : Bool

-- that of the code
abbrev pub plain_mark : MarkWords → PlainMark
plain_mark w = record {
  event = w.event;
  first = w.first;
  past = w.past;
  place = string_bytes w.place;
  has_event = true;
}

-- that of a mark that is lent
abbrev pub plain_shown : ShownMark → PlainMark
plain_shown m = record {
  event = m.event;
  first = m.stale.first;
  past = m.stale.past;
  place = m.stale.place.now;
  has_event = m.stale.has_arrow;
}

-- a text has ended before this byte: the byte before it is an apostrophe that is not the second of two,
-- and this is none
abbrev pub ends_text : Bool → ℕ → Bool
ends_text closes b = closes && not (b == 39)

-- this byte may be the last apostrophe of a text: it is one, and not the second of two
abbrev pub may_end : Bool → ℕ → Bool
may_end closes b = b == 39 && not closes

-- How many of these bytes belong to a text that began with an apostrophe before them, up to its last
-- apostrophe, where two next to each other are one of the text.
abbrev pub quoted_from : Bool → List ℕ → ℕ
quoted_from closes [] = 0
quoted_from closes (b ∷ bytes) = cond (ends_text closes b) 0 (quoted_from (may_end closes b) bytes + 1)

-- the place after the text that begins with the apostrophe at this place
abbrev pub text_end : List ℕ → ℕ → ℕ
text_end text at = cond (nat_lt at (length text)) (at + 1 + quoted_from false (drop (at + 1) text)) at

-- this is shown of a mark of a text, whose file has this name
pub record IsMarkWords (file text : List ℕ) (m : Mark) (w : PlainMark) : Type 0 where
  pub event : w.event ≡ m.event
  pub first : w.first ≡ m.place
  pub past : w.past ≡ text_end text m.place
  pub line : ℕ
  pub column : ℕ
  pub position : m.place ≤ length text → IsPosition text m.place line column
  pub place : w.place ≡ position_said file line column
  pub has_event : w.has_event ≡ true

-- this is shown of these marks, one after the other
abbrev pub AreMarkWords : List ℕ → List ℕ → List Mark → List PlainMark → Type 0
AreMarkWords file text [] [] = Unit {0}
AreMarkWords file text (m ∷ ms) (w ∷ ws) = IsMarkWords file text m w × AreMarkWords file text ms ws
AreMarkWords file text ms ws = ⊥

-- the marks, if marks are used
abbrev pub marks_in : Option (List Mark) → List Mark
marks_in None = []
marks_in (Some marks) = marks
