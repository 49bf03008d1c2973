-- What one statement of Mermaid says, in the words of the table.
use Rattle.std.specs.Prelude.{ℕ, ◌+◌, Bool, true, false, cond, not, ◌||◌, ◌&&◌, ◌==◌, List, length, take, drop, Option, None, Some, is_some, Result, Ok, Err}
use Rattle.std.specs.List.{list_any}
use Rattle.std.specs.Str.{bytes_eq}
use Rattle.msc_lexer.specs.Bytes.{begins}
use Rattle.msc_mermaid.specs.declared.fault.Expectation.TheVariants as wanted
use Rattle.msc_mermaid.specs.declared.fault.ImportFault.{ImportFault}
use Rattle.msc_mermaid.specs.declared.fault.ImportFault.TheVariants.{Expected, Unsupported}
use Rattle.msc_mermaid.specs.declared.head.Head.{Head}
use Rattle.msc_mermaid.specs.declared.key.Mark.TheVariants as marks
use Rattle.msc_mermaid.specs.declared.row.Meaning.{Meaning}
use Rattle.msc_mermaid.specs.declared.row.Meaning.TheVariants as says
use Rattle.msc_mermaid.specs.declared.declaring.Tails.{Tails}
use Rattle.msc_mermaid.specs.declared.saying.Said.{Said}
use Rattle.msc_mermaid.specs.declared.saying.Said.TheVariants as said
use Rattle.msc_mermaid.specs.declared.seeking.Sought.TheVariants as sought
use Rattle.msc_mermaid.specs.declared.statement.Arrow.{Arrow}
use Rattle.msc_mermaid.specs.declared.statement.Cross.{Cross}
use Rattle.msc_mermaid.specs.declared.statement.Cross.TheVariants as crosses
use Rattle.msc_mermaid.specs.declared.statement.Fate.{Fate}
use Rattle.msc_mermaid.specs.declared.statement.Fate.TheVariants as fates
use Rattle.msc_mermaid.specs.declared.statement.Statement.TheVariants.{Says, Begins, Closes}
use Rattle.msc_place.specs.declared.position.Position.{Position}
use Rattle.msc_mermaid.specs.Gives.{◌>>=◌, unless}
use Rattle.msc_mermaid.specs.Keys.{begin_so, head_of, head_text, is_crossed, is_double, is_leftward, mark_text}
use Rattle.msc_mermaid.specs.Names.{declared, leaves_config, name_at, name_tail, parted, sender, shown_text}
use Rattle.msc_mermaid.specs.Rows.{is_dash, meaning_of}
use Rattle.msc_mermaid.specs.Seeking.{before}
use Rattle.msc_mermaid.specs.White.{behind_white}

-- what stands behind an arrow, where that is no other arrow that begins with a dash
unfoldable pub no_second : Position → List ℕ → Result (List ℕ) ImportFault
no_second here bytes =
    unless (not (begins is_dash bytes && is_some (head_of bytes))) (Expected here wanted.Name) bytes

-- `+` or `-`
abbrev pub is_sign : ℕ → Bool
is_sign b = b == 43 || b == 45

-- what stands behind the sign of an activation or `()`, if there is one of them
abbrev pub behind_sign : List ℕ → List ℕ
behind_sign bytes =
    cond (begins is_sign bytes) (drop 1 bytes) (cond (begin_so bytes (mark_text marks.Centre)) (drop 2 bytes) bytes)

-- one of these lines ends with the arrow between two
abbrev pub dies : List (List ℕ) → List ℕ → List ℕ → Bool
dies dying from to = list_any (λ d. bytes_eq d from || bytes_eq d to) dying

-- what a cross means; where that is not said, an arrow to oneself is what it is without a cross
abbrev pub cross_fate : Option Cross → List ℕ → List ℕ → Fate
cross_fate None from to = cond (bytes_eq from to) fates.Arrives fates.Either
cross_fate (Some crosses.Lost) from to = fates.Lost
cross_fate (Some crosses.Arrives) from to = fates.Arrives

-- what becomes of the message of an arrow
unfoldable pub fate_of : Option Cross → List (List ℕ) → Head → List ℕ → List ℕ → Fate
fate_of cross dying head from to =
    cond (is_crossed head && not (dies dying from to)) (cross_fate cross from to) fates.Arrives

-- the arrow of these parts, what stands before its head and what stands behind, with the bytes that are left from its
-- receiver and from its label on
unfoldable pub arrow_by : Option Cross → List (List ℕ) → Position → Head → List ℕ → List ℕ → Result (Arrow × Tails) ImportFault
arrow_by cross dying here head front rest = do
  right ← unless (not (is_leftward head)) (Unsupported here head) rest
  from ← sender here front
  behind ← no_second here (behind_white right)
  parts ← parted here marks.Colon wanted.Label (behind_sign behind)
  to ← name_at here parts.0
  Ok (record { from = from; to = to; label = (shown_text parts.1).text; fate = fate_of cross dying head from to; both = is_double head }, record { name = name_tail (behind_sign behind) parts.0; shown = (shown_text parts.1).tail })

-- the arrow of a statement in which this head is the first, behind so many bytes
abbrev pub arrow_with : Option Cross → List (List ℕ) → Position → List ℕ → ℕ → Option Head → Result (Arrow × Tails) ImportFault
arrow_with cross dying here bytes at None = Err (Expected here wanted.Statement)
arrow_with cross dying here bytes at (Some head) =
    arrow_by cross dying here head (take at bytes) (drop (at + length (head_text head)) bytes)

-- the arrow of a statement
unfoldable pub arrow_of : Option Cross → List (List ℕ) → Position → List ℕ → Result (Arrow × Tails) ImportFault
arrow_of cross dying here bytes =
    arrow_with cross dying here bytes (before sought.Arrow bytes) (head_of (drop (before sought.Arrow bytes) bytes))

-- a statement that names no line and that people read nothing of
abbrev pub no_tails : Tails
no_tails = record { name = 0; shown = 0 }

-- what a statement says that has this meaning, with what stands behind its pattern
unfoldable pub said_as : Option Cross → List (List ℕ) → Position → List ℕ → Meaning → List ℕ → Result Said ImportFault
said_as cross dying here bytes says.Nothing rest = Ok said.Nothing
said_as cross dying here bytes says.Refused rest = Err (Expected here wanted.Statement)
said_as cross dying here bytes says.Declaration rest = do
  s ← declared here rest
  Ok (said.Statement s.0 s.1)
said_as cross dying here bytes says.Destruction rest = do
  name ← name_at here rest
  Ok (said.Dies name)
said_as cross dying here bytes (says.Begin kind) rest = Ok (said.Statement (Begins kind) no_tails)
said_as cross dying here bytes (says.Close closer) rest = Ok (said.Statement (Closes closer) no_tails)
said_as cross dying here bytes says.Activation rest = do
  name ← name_at here rest
  Ok said.Nothing
said_as cross dying here bytes says.Links rest = do
  parts ← parted here marks.Colon wanted.Statement rest
  name ← name_at here parts.0
  Ok said.Nothing
said_as cross dying here bytes says.Arrow rest = do
  arrow ← arrow_of cross dying here bytes
  Ok (said.Statement (Says arrow.0) arrow.1)

-- what a statement says, behind some that say which lines end
unfoldable pub said_at : Option Cross → List (List ℕ) → Position → List ℕ → Result Said ImportFault
said_at cross dying here bytes =
    said_as cross dying here bytes (meaning_of bytes).0 (meaning_of bytes).1

-- it declares a line
abbrev pub is_declaration : Meaning → Bool
is_declaration says.Declaration = true
is_declaration meaning = false

-- a statement declares a line with a configuration that has no end
abbrev pub is_unended : List ℕ → Bool
is_unended bytes = is_declaration (meaning_of bytes).0 && leaves_config (meaning_of bytes).1
