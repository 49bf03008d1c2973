-- The first fault of a text, in words.
use Rattle.std.specs.Prelude.{ℕ, ◌-◌, ◌==◌, ◌&&◌, cond, nat_le, nat_lt, List, [], ◌∷◌, ◌++◌, Option, None, Some, codes, decimal, drop, length, slice_index, take}
use Rattle.msc_diagnostic.specs.declared.mark.Sign.TheVariants.{Caret, Dash}
use Rattle.msc_diagnostic.specs.Plain.{Mark}
use Rattle.msc_lexer.specs.declared.fault.LexFault.{LexFault}
use Rattle.msc_lexer.specs.declared.fault.LexFault.TheVariants as lexicals
use Rattle.msc_notes.specs.declared.note.Note.{Note}
use Rattle.msc_notes.specs.declared.note.Tag.TheVariants.{Behind}
use Rattle.msc_parser.specs.declared.fault.ParseFault.{ParseFault}
use Rattle.msc_parser.specs.declared.fault.ParseFault.TheVariants as grammars
use Rattle.msc_parser.specs.declared.fault.What.{What}
use Rattle.msc_parser.specs.declared.fault.What.TheVariants as whats
use Rattle.msc_speech.specs.Quoting.{quoted}
use Rattle.msc_fault_words.specs.declared.words.Span.{Span}
use Rattle.msc_fault_words.specs.Told.{helps_or, hints_in, note_place, shown_bytes}
use Rattle.msc_fault_words.specs.Words.{Words, bare, mark_of, memory}

-- the bytes of a span of a text
abbrev pub between : List ℕ → Span → List ℕ
between text span = take (span.past - span.first) (drop span.first text)

-- a byte: as a character if it is a visible one of ASCII, else by its number
abbrev pub byte_text : ℕ → List ℕ
byte_text byte =
    cond (nat_lt 32 byte && nat_lt byte 127)
    (codes "character " ++ quoted (shown_bytes (byte ∷ [])))
    (codes "byte " ++ decimal byte)

unfoldable pub unexpected_text : ℕ → List ℕ
unexpected_text byte = codes "unexpected " ++ byte_text byte

-- a byte that begins no token
abbrev pub bad_byte : List ℕ → Span → List Note → Words
bad_byte text span notes = record {
  id = codes "lexical 2";
  sentence = unexpected_text (slice_index text span.first);
  marks = mark_of span Caret [] ∷ [];
  helps = hints_in notes;
}

-- a note or a text that has no end; its own help is given if the notes have no hint
abbrev pub open_part : List ℕ → List ℕ → List ℕ → Span → List Note → Words
open_part id sentence own span notes = record {
  id = id;
  sentence = sentence;
  marks = mark_of span Caret [] ∷ [];
  helps = helps_or own (hints_in notes);
}

-- a name that is too long
unfoldable pub long_name_text : ℕ → List ℕ
long_name_text count = codes "a name of " ++ (decimal count ++ codes " bytes; at most 64 are allowed")

abbrev pub long_name : Span → List Note → Words
long_name span notes = record {
  id = codes "lexical 5";
  sentence = long_name_text (span.past - span.first);
  marks = mark_of span Caret [] ∷ [];
  helps = hints_in notes;
}

-- a lexical fault; what is at its place ends before `past`
abbrev pub lexical : List ℕ → ℕ → List Note → LexFault → Words
lexical text past notes lexicals.TooLong = bare (codes "lexical 1") (codes "the text is longer than 1048576 bytes")
lexical text past notes (lexicals.BadByte at) = bad_byte text (record { first = at; past = past }) notes
lexical text past notes (lexicals.OpenNote at) =
    open_part (codes "lexical 3") (codes "this note has no end") (codes "notes are /* .. */")
    (record { first = at; past = past }) notes
lexical text past notes (lexicals.OpenText at) =
    open_part (codes "lexical 4") (codes "this text has no end") (codes "texts are '..'; an apostrophe inside is doubled")
    (record { first = at; past = past }) notes
lexical text past notes (lexicals.LongName at) = long_name (record { first = at; past = past }) notes
lexical text past notes lexicals.Memory = memory

-- a token between quotes, `a text`, or the end of the text
abbrev pub found_text : List ℕ → Span → List ℕ
found_text text token =
    cond (nat_le (length text) token.first) (codes "the end of the text") (
    cond (slice_index text token.first == 39) (codes "a text")
    (codes "\"" ++ (shown_bytes (between text token) ++ codes "\""))
    )

-- a word that is not supported
unfoldable pub unsupported_text : List ℕ → List ℕ
unsupported_text found = found ++ codes " is not supported"

abbrev pub unsupported : List ℕ → Span → List Note → Words
unsupported text token notes = record {
  id = codes "grammar 2";
  sentence = unsupported_text (found_text text token);
  marks = mark_of token Caret [] ∷ [];
  helps = hints_in notes;
}

-- what was expected; marks and words of the text are between quotes
abbrev pub wanted : What → List ℕ
wanted whats.Msc = codes "\"msc\""
wanted whats.Name = codes "a name"
wanted whats.Text = codes "a text"
wanted whats.End = codes "\";\""
wanted whats.Section = codes "a section"
wanted whats.Item = codes "an item"
wanted whats.Event = codes "an event"
wanted whats.To = codes "\"to\""
wanted whats.From = codes "\"from\""
wanted whats.Parameter = codes "a parameter list"
wanted whats.Nothing = codes "the end of the text"

unfoldable pub expected_text : List ℕ → List ℕ → List ℕ
expected_text what found = codes "expected " ++ (what ++ (codes ", found " ++ found))

-- what was found and, if that is on another line, the end of what precedes it
abbrev pub expected_marks : Span → Option ℕ → List Mark
expected_marks token None = mark_of token Caret [] ∷ []
expected_marks token (Some behind) =
    mark_of token Caret (codes "found here")
    ∷ mark_of (record { first = behind - 1; past = behind }) Dash (codes "expected behind this") ∷ []

abbrev pub marked : List ℕ → Span → Option ℕ → Words
marked sentence token behind =
    record { id = codes "grammar 3"; sentence = sentence; marks = expected_marks token behind; helps = [] }

-- a token in place of which something else was expected
abbrev pub expected : List ℕ → What → Span → List Note → Words
expected text what token notes = record {
  id = codes "grammar 3";
  sentence = expected_text (wanted what) (found_text text token);
  marks = expected_marks token (note_place Behind notes);
  helps = hints_in notes;
}

-- the first fault of a text; the token at its place, or the name that is too long, ends before `past`
abbrev pub parse : List ℕ → ℕ → List Note → ParseFault → Words
parse text past notes (grammars.Lex fault) = lexical text past notes fault
parse text past notes (grammars.Unsupported at word) = unsupported text (record { first = at; past = past }) notes
parse text past notes (grammars.Expected at what) = expected text what (record { first = at; past = past }) notes
parse text past notes grammars.Memory = memory
