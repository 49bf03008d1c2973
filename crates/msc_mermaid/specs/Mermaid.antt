-- The diagram of a Mermaid text, line by line.
use Rattle.std.specs.Prelude.{ℕ, ◌+◌, ◌-◌, Bool, true, false, cond, not, ◌&&◌, nat_eq, nat_lt, List, [], ◌∷◌, length, take, drop, get_or, codes, Option, None, Some, Result, Ok, Err}
use Rattle.std.specs.List.{starts_with}
use Rattle.std.specs.Str.{bytes_eq}
use Rattle.msc_lexer.specs.declared.TheConstants.{TEXT_LIMIT}
use Rattle.msc_lexer.specs.Bytes.{begins, is_run_byte}
use Rattle.msc_mermaid.specs.declared.fault.Expectation.TheVariants as wanted
use Rattle.msc_mermaid.specs.declared.fault.ImportFault.{ImportFault}
use Rattle.msc_mermaid.specs.declared.fault.ImportFault.TheVariants.{TooLong, Expected}
use Rattle.msc_mermaid.specs.declared.key.Key.{Key}
use Rattle.msc_mermaid.specs.declared.key.Key.TheVariants as keys
use Rattle.msc_mermaid.specs.declared.key.Mark.{Mark}
use Rattle.msc_mermaid.specs.declared.key.Mark.TheVariants as marks
use Rattle.msc_mermaid.specs.declared.pattern.Pattern.TheVariants as patterns
use Rattle.msc_mermaid.specs.declared.progress.Inside.{Inside}
use Rattle.msc_mermaid.specs.declared.progress.Inside.TheVariants as inside
use Rattle.msc_mermaid.specs.declared.line_kind.LineKind.{LineKind}
use Rattle.msc_mermaid.specs.declared.line_kind.LineKind.TheVariants as line_kinds
use Rattle.msc_mermaid.specs.declared.progress.Progress.{Progress}
use Rattle.msc_mermaid.specs.declared.reading.StatementStart.{StatementStart}
use Rattle.msc_mermaid.specs.declared.seeking.Sought.TheVariants as sought
use Rattle.msc_mermaid.specs.declared.statement.Cross.{Cross}
use Rattle.msc_mermaid.specs.declared.statement.Diagram.{Diagram}
use Rattle.msc_mermaid.specs.declared.statement.Span.{Span}
use Rattle.msc_mermaid.specs.Cutting.{cut, leaves_open}
use Rattle.msc_place.specs.declared.position.Position.{Position}
use Rattle.msc_mermaid.specs.Gives.{◌>>=◌, unless}
use Rattle.msc_mermaid.specs.Keys.{begin_so, key_of, mark_text}
use Rattle.msc_mermaid.specs.Lines.{column_behind, further, lines_of, position_of, start_on, starts_of}
use Rattle.msc_mermaid.specs.Outlines.{span_of}
use Rattle.msc_mermaid.specs.Patterns.{first_fit, is_empty}
use Rattle.msc_mermaid.specs.Reading.{lengthened, none_waiting, read_one, told, untold, with_comment}
use Rattle.msc_mermaid.specs.Rows.{first_word}
use Rattle.msc_mermaid.specs.Saying.{is_unended}
use Rattle.msc_mermaid.specs.Seeking.{before, holds}
use Rattle.msc_mermaid.specs.White.{front, behind_white, trimmed}

-- the line that stands before and behind what stands in front of a diagram, without white space at
-- its ends
abbrev pub is_front : List ℕ → Bool
is_front bytes = bytes_eq bytes (codes "---")

-- the word that a diagram begins with, in this case, and no byte of a word behind it
abbrev pub is_head : List ℕ → Bool
is_head bytes =
    starts_with nat_eq bytes (codes "sequenceDiagram") && not (begins is_run_byte (drop 15 bytes))

-- what a line without white space at its ends is
unfoldable pub line_kind_of : List ℕ → LineKind
line_kind_of bytes =
    cond (is_empty bytes) line_kinds.Nothing (cond (begin_so bytes (mark_text marks.Directive)) line_kinds.Directive (cond (begin_so bytes (mark_text marks.Comment)) line_kinds.Comment (cond (is_head bytes) line_kinds.Head line_kinds.Other)))

-- what was read so far, with this for what the next line stands in
abbrev pub now_in : Inside → Progress → Progress
now_in part p = record { start = p.start; inside = part; begun = p.begun; reader = p.reader; waiting = p.waiting }

-- what stands behind the first such mark
abbrev pub behind_end : Mark → List ℕ → List ℕ
behind_end m bytes = drop (length (mark_text m)) (drop (before (sought.Text m) bytes) bytes)

-- whether what is left out ends here, at the end of this line, behind the mark; nothing else may
-- follow on the line
unfoldable pub closed : ℕ → List ℕ → Mark → List ℕ → Result Bool ImportFault
closed line whole m bytes =
    cond (holds bytes (sought.Text m)) (unless (is_empty (trimmed (behind_end m bytes))) (Expected (position_of line whole (behind_white (behind_end m bytes))) wanted.LineEnd) true) (Ok false)

-- what is passed on from a part that is left out, up to this mark: the rest of a line, if it ends
-- here
unfoldable pub left_out : ℕ → List ℕ → Inside → Mark → List ℕ → Progress → Result Progress ImportFault
left_out line whole part m bytes p = do
  ends ← closed line whole m bytes
  Ok (now_in (cond ends inside.Rest part) p)

-- where a comment stands in the text, if these are the last bytes of a line that begins at this
-- place: from the first of them to the last that is no white space
abbrev pub comment_span : ℕ → List ℕ → List ℕ → Span
comment_span start whole bytes = span_of (further start (length whole - length (behind_white bytes))) (length (trimmed bytes))

-- what was read so far, and this comment
abbrev pub comment_read : Span → Progress → Progress
comment_read span p = record {
  start = p.start;
  inside = p.inside;
  begun = p.begun;
  reader = with_comment span p.reader;
  waiting = p.waiting;
}

-- a comment: a directive in it has to end in it
abbrev pub commented : ℕ → List ℕ → List ℕ → Progress → Result Progress ImportFault
commented line whole bytes p = unless (not (leaves_open false bytes)) (Expected (position_of line whole []) wanted.Directive) (comment_read (comment_span p.start whole bytes) p)

-- the end of a line, in which no directive may stand
abbrev pub undirected : ℕ → List ℕ → List ℕ → Result (List ℕ) ImportFault
undirected line whole bytes =
    unless (not (holds bytes (sought.Text marks.Directive))) (Expected (position_of line whole (drop (before (sought.Text marks.Directive) bytes) bytes)) wanted.Statement) bytes

-- a title or a description in one line, which begins here: it may not be empty, and takes the rest
-- of the line
unfoldable pub titled : Position → List ℕ → Progress → Result Progress ImportFault
titled here text p =
    unless (not (is_empty (trimmed text))) (Expected here wanted.Statement) (now_in inside.Rest p)

-- a comment may follow these words in their statement
abbrev pub allows_comment : Option Key → Bool
allows_comment (Some keys.End) = true
allows_comment (Some keys.Autonumber) = true
allows_comment k = false

-- the statement ends in a comment
abbrev pub is_commented : List ℕ → Bool
is_commented bytes =
    allows_comment (key_of (first_word bytes)) && holds bytes (sought.Text marks.Comment)

-- a statement, which begins here, and behind which the next one stands in this part
unfoldable pub stated : Option Cross → StatementStart → List ℕ → Inside → Progress → Result Progress ImportFault
stated cross spot bytes part p = do
  r ← read_one cross spot bytes p.reader
  Ok (record { start = p.start; inside = part; begun = p.begun; reader = r; waiting = p.waiting })

-- a statement, with a comment or without
unfoldable pub statement : Option Cross → StatementStart → List ℕ → Progress → Result Progress ImportFault
statement cross spot bytes p =
    cond (is_commented bytes) (stated cross spot (trimmed (take (before (sought.Text marks.Comment) bytes) bytes)) inside.Rest p) (stated cross spot bytes p.inside p)

-- nothing stands behind a piece on its line, where the line from it on is rest, without white space
-- in front
abbrev pub is_last : List ℕ → List ℕ → Bool
is_last rest piece = nat_eq (length rest) (length (behind_white piece))

-- a statement begins here that goes on behind its line
abbrev pub put_off : StatementStart → List ℕ → Progress → Progress
put_off spot bytes p = record {
  start = p.start;
  inside = inside.Configuration;
  begun = p.begun;
  reader = p.reader;
  waiting = record { spot = spot; bytes = bytes };
}

-- a piece of a line that is a statement, or the first line of one whose configuration goes on
unfoldable pub piece_said : Option Cross → StatementStart → List ℕ → List ℕ → Progress → Result Progress ImportFault
piece_said cross spot rest piece p =
    cond (is_last rest piece && is_unended (trimmed piece)) (Ok (put_off spot (trimmed piece) p)) (statement cross spot (trimmed piece) p)

-- a piece of a line of these bytes that is no title: a description, a comment, or a statement
abbrev pub piece_as : Option Cross → List ℕ → StatementStart → List ℕ → List ℕ → Progress → Option (List ℕ) → Result Progress ImportFault
piece_as cross whole spot rest piece p None =
    cond (begin_so rest (mark_text marks.Comment)) (Ok (now_in inside.Rest p)) (piece_said cross spot rest piece p)
piece_as cross whole spot rest piece p (Some text) =
    left_out spot.here.line whole inside.Description marks.DescriptionEnd text p

-- a piece of a line, where the line from it on is rest, without white space in front
abbrev pub piece_by : Option Cross → List ℕ → StatementStart → List ℕ → List ℕ → Progress → Option (List ℕ) → Result Progress ImportFault
piece_by cross whole spot rest piece p None =
    piece_as cross whole spot rest piece p (first_fit (patterns.AccBlock ∷ []) rest)
piece_by cross whole spot rest piece p (Some text) = titled spot.here text p

-- whether the line goes on
abbrev pub goes_on : Inside → Bool
goes_on inside.Nothing = true
goes_on part = false

-- the next piece of a line of these bytes, which begins here
unfoldable pub read_piece : Option Cross → List ℕ → StatementStart → List ℕ → List ℕ → Progress → Result Progress ImportFault
read_piece cross whole spot rest piece p =
    cond (goes_on p.inside) (piece_by cross whole spot (behind_white rest) piece p (first_fit (patterns.AccTitle ∷ patterns.AccDescr ∷ []) (behind_white rest))) (Ok p)

-- behind so many bytes of a line, which begins at such a place of the text
abbrev pub spot_behind : ℕ → ℕ → List ℕ → ℕ → StatementStart
spot_behind start line bytes at = record {
  here = record { line = line; column = column_behind (take at bytes) };
  first = further start at;
}

-- the pieces of a line of these bytes, of which the first one begins behind so many of them
unfoldable pub read_pieces : Option Cross → ℕ → List ℕ → ℕ → List (List ℕ) → Progress → Result Progress ImportFault
read_pieces cross line bytes at [] p = Ok p
read_pieces cross line bytes at (x ∷ xs) p =
    read_piece cross bytes (spot_behind p.start line bytes (at + front 0 x)) (drop at bytes) x p >>= (λ q. read_pieces cross line bytes (at + (length x + 1)) xs q)

-- the statements of a line, behind so many of its bytes
unfoldable pub said_on : Option Cross → ℕ → List ℕ → ℕ → Progress → Result Progress ImportFault
said_on cross line bytes at p = do
  rest ← undirected line bytes (drop at bytes)
  read_pieces cross line bytes at (cut (drop at bytes)) p

-- a line of this shape of a diagram that has begun, behind so many of its bytes
unfoldable pub body_as : Option Cross → ℕ → List ℕ → ℕ → Progress → LineKind → Result Progress ImportFault
body_as cross line bytes at p line_kinds.Nothing = Ok p
body_as cross line bytes at p line_kinds.Directive =
    left_out line bytes inside.Directive marks.DirectiveEnd (drop at bytes) p
body_as cross line bytes at p line_kinds.Comment = commented line bytes (drop at bytes) p
body_as cross line bytes at p line_kinds.Head = said_on cross line bytes at p
body_as cross line bytes at p line_kinds.Other = said_on cross line bytes at p

-- such a line
unfoldable pub body : Option Cross → ℕ → List ℕ → ℕ → Progress → Result Progress ImportFault
body cross line bytes at p = body_as cross line bytes at p (line_kind_of (trimmed (drop at bytes)))

-- how many bytes the word takes that the diagram begins with, with the white space before it
abbrev pub behind_head : List ℕ → ℕ
behind_head bytes = front 0 bytes + 15

-- a line of this shape before the diagram has begun
unfoldable pub head_as : Option Cross → ℕ → List ℕ → Progress → LineKind → Result Progress ImportFault
head_as cross line bytes p line_kinds.Nothing = Ok p
head_as cross line bytes p line_kinds.Directive =
    left_out line bytes inside.Directive marks.DirectiveEnd bytes p
head_as cross line bytes p line_kinds.Comment = commented line bytes bytes p
head_as cross line bytes p line_kinds.Head =
    body cross line bytes (behind_head bytes) (record { start = p.start; inside = p.inside; begun = true; reader = p.reader; waiting = p.waiting })
head_as cross line bytes p line_kinds.Other = Err (Expected (position_of line bytes (behind_white bytes)) wanted.Diagram)

-- a line that is not left out
unfoldable pub outside : Option Cross → ℕ → List ℕ → Progress → Result Progress ImportFault
outside cross line bytes p =
    cond p.begun (body cross line bytes 0 p) (head_as cross line bytes p (line_kind_of (trimmed bytes)))

-- a line before which all lines are empty
unfoldable pub first_line : Option Cross → ℕ → List ℕ → Progress → Result Progress ImportFault
first_line cross line bytes p =
    cond (is_empty (trimmed bytes)) (Ok p) (cond (is_front (trimmed bytes)) (Ok (now_in inside.Front p)) (outside cross line bytes (now_in inside.Nothing p)))

-- a line of this shape within a description: a comment ends nothing
unfoldable pub described_as : ℕ → List ℕ → Progress → LineKind → Result Progress ImportFault
described_as line bytes p line_kinds.Nothing = Ok p
described_as line bytes p line_kinds.Directive = do
  ends ← closed line bytes marks.DirectiveEnd bytes
  unless ends (Expected (position_of line bytes []) wanted.Directive) p
described_as line bytes p line_kinds.Comment = commented line bytes bytes p
described_as line bytes p line_kinds.Head = do
  text ← undirected line bytes bytes
  left_out line bytes inside.Description marks.DescriptionEnd text p
described_as line bytes p line_kinds.Other = do
  text ← undirected line bytes bytes
  left_out line bytes inside.Description marks.DescriptionEnd text p

-- the statement that is open, with these bytes of a further line
abbrev pub gone_on : List ℕ → Progress → Progress
gone_on more p = record {
  start = p.start;
  inside = p.inside;
  begun = p.begun;
  reader = p.reader;
  waiting = lengthened p.start more p.waiting;
}

-- the statement whose configuration was open
abbrev pub put_off_said : Option Cross → Progress → Result Progress ImportFault
put_off_said cross p =
    stated cross p.waiting.spot (trimmed p.waiting.bytes) inside.Nothing p

-- a line in which a configuration ends, behind so many of its bytes, where its pieces from there on
-- are these: the first is the end of the statement
unfoldable pub ended_on : Option Cross → ℕ → List ℕ → ℕ → List (List ℕ) → Progress → Result Progress ImportFault
ended_on cross line bytes at [] p = Ok p
ended_on cross line bytes at (x ∷ xs) p = do
  q ← put_off_said cross (gone_on (take (at + length x) bytes) p)
  read_pieces cross line bytes (at + (length x + 1)) xs q

-- where a configuration ends in a line, and else how long the line is
abbrev pub config_end : List ℕ → ℕ
config_end bytes = before (sought.Text marks.DescriptionEnd) bytes

-- a line of text within a configuration: it ends there, or goes on
unfoldable pub text_within : Option Cross → ℕ → List ℕ → Progress → Result Progress ImportFault
text_within cross line bytes p = do
  text ← undirected line bytes bytes
  cond (holds bytes (sought.Text marks.DescriptionEnd)) (ended_on cross line bytes (config_end bytes) (cut (drop (config_end bytes) bytes)) p) (Ok (gone_on bytes p))

-- a line of this shape within a configuration: empty lines, directives and comments are what they
-- are in a description
unfoldable pub configured_as : Option Cross → ℕ → List ℕ → Progress → LineKind → Result Progress ImportFault
configured_as cross line bytes p line_kinds.Nothing = described_as line bytes p line_kinds.Nothing
configured_as cross line bytes p line_kinds.Directive = described_as line bytes p line_kinds.Directive
configured_as cross line bytes p line_kinds.Comment = described_as line bytes p line_kinds.Comment
configured_as cross line bytes p line_kinds.Head = text_within cross line bytes p
configured_as cross line bytes p line_kinds.Other = text_within cross line bytes p

-- a line within this part
unfoldable pub step_in : Option Cross → ℕ → List ℕ → Progress → Inside → Result Progress ImportFault
step_in cross line bytes p inside.Start = first_line cross line bytes p
step_in cross line bytes p inside.Nothing = outside cross line bytes p
step_in cross line bytes p inside.Rest = outside cross line bytes (now_in inside.Nothing p)
step_in cross line bytes p inside.Front =
    Ok (now_in (cond (is_front (trimmed bytes)) inside.Nothing inside.Front) p)
step_in cross line bytes p inside.Directive =
    left_out line bytes inside.Directive marks.DirectiveEnd bytes p
step_in cross line bytes p inside.Description =
    described_as line bytes p (line_kind_of (trimmed bytes))
step_in cross line bytes p inside.Configuration =
    configured_as cross line bytes p (line_kind_of (trimmed bytes))

-- what was read so far, before a line that begins at this place of the text
abbrev pub now_at : ℕ → Progress → Progress
now_at start p = record { start = start; inside = p.inside; begun = p.begun; reader = p.reader; waiting = p.waiting }

-- one line more, which begins at this place of the text
unfoldable pub step : Option Cross → ℕ → ℕ → List ℕ → Progress → Result Progress ImportFault
step cross start line bytes p = step_in cross line bytes (now_at start p) p.inside

-- these lines, of which the first has this number, of a text whose lines begin so
unfoldable pub steps : Option Cross → List ℕ → ℕ → List (List ℕ) → Progress → Result Progress ImportFault
steps cross starts line [] p = Ok p
steps cross starts line (l ∷ ls) p =
    step cross (start_on starts line) line l p >>= (λ q. steps cross starts (line + 1) ls q)

-- what was read of a text that has ended here, where a diagram has begun
abbrev pub told_of : Position → Progress → Result Diagram ImportFault
told_of here p = cond p.begun (told p.reader) (Err (Expected here wanted.Diagram))

-- where a text of these lines ends
abbrev pub end_of : List (List ℕ) → Position
end_of lines = position_of (length lines) (get_or lines (length lines - 1) []) []

-- where the first byte stands that is no white space, in these lines, of which the first has this
-- number; and else the end
unfoldable pub first_line_place : ℕ → List (List ℕ) → Position → Position
first_line_place n [] end = end
first_line_place n (l ∷ ls) end =
    cond (is_empty (trimmed l)) (first_line_place (n + 1) ls end) (position_of n l (behind_white l))

-- what may not lack at the end of a text, which is here
unfoldable pub ended_in : Position → Progress → Inside → Result Diagram ImportFault
ended_in here p inside.Front = Err (Expected here wanted.Front)
ended_in here p inside.Directive = Err (Expected here wanted.Directive)
ended_in here p inside.Description = Err (Expected here wanted.Description)
ended_in here p inside.Configuration = Err (Expected p.waiting.spot.here wanted.Description)
ended_in here p inside.Start = told_of here p
ended_in here p inside.Nothing = told_of here p
ended_in here p inside.Rest = told_of here p

-- nothing was read
abbrev pub unread : Progress
unread = record { start = 0; inside = inside.Start; begun = false; reader = untold; waiting = none_waiting }

-- the diagram of these lines of a text, which begin so
unfoldable pub said_in : Option Cross → List ℕ → List (List ℕ) → Result Diagram ImportFault
said_in cross starts lines =
    steps cross starts 1 lines unread >>= (λ p. ended_in (end_of lines) p p.inside)

-- the diagram of a text, or its first fault
unfoldable pub mermaid : Option Cross → List ℕ → Result Diagram ImportFault
mermaid cross text = cond (nat_lt TEXT_LIMIT (length text)) (Err TooLong) (said_in cross (starts_of text) (lines_of text))
