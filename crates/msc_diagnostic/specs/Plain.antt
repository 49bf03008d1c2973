-- Diagnostics, their marks and their notes, as plain data: texts are lists of bytes.
use Rattle.std.specs.Prelude.{ℕ, List, Option, map}
use Rattle.std.specs.Option.{option_map}
use Rattle.msc_diagnostic.specs.declared.diagnostic.Diagnostic.{Diagnostic as Lent}
use Rattle.msc_diagnostic.specs.declared.diagnostic.Level.{Level}
use Rattle.msc_diagnostic.specs.declared.diagnostic.Note.{Note as LentNote}
use Rattle.msc_diagnostic.specs.declared.diagnostic.NoteKind.{NoteKind}
use Rattle.msc_diagnostic.specs.declared.mark.Mark.{Mark as LentMark}
use Rattle.msc_diagnostic.specs.declared.mark.Sign.{Sign}

-- a part of a text that is underlined: its first byte, the place after its last, and a label
pub record Mark : Type 0 where
  pub first : ℕ
  pub past : ℕ
  pub sign : Sign
  pub label : List ℕ

-- a mark by the line that it is on: its first byte there, how many bytes it has, and the columns
-- before it and before its end
pub record Placed : Type 0 where
  pub line : ℕ
  pub first : ℕ
  pub count : ℕ
  pub column : ℕ
  pub past : ℕ
  pub sign : Sign
  pub label : List ℕ

-- a note, and its further rows
pub record Note : Type 0 where
  pub kind : NoteKind
  pub text : List ℕ
  pub rows : List (List ℕ)

pub record Diagnostic : Type 0 where
  pub level : Level
  pub id : List ℕ
  pub sentence : List ℕ
  pub place : Option (List ℕ)
  pub marks : List Mark
  pub notes : List Note

-- those of the code, without who lends their texts
abbrev pub plain_mark : LentMark → Mark
plain_mark mark = record { first = mark.first; past = mark.past; sign = mark.sign; label = mark.label.now }

abbrev pub plain_note : LentNote → Note
plain_note note = record { kind = note.kind; text = note.text.now; rows = map (λ row. row.now) note.rows.now }

abbrev pub plain_diagnostic : Lent → Diagnostic
plain_diagnostic d = record {
  level = d.level;
  id = d.id.now;
  sentence = d.sentence.now;
  place = option_map (λ place. place.now) d.place;
  marks = map plain_mark d.marks.now;
  notes = map plain_note d.notes.now;
}
