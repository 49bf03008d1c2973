-- Names of lines, and how lines are declared.
use Rattle.std.specs.Prelude.{ℕ, ◌-◌, Bool, cond, not, ◌||◌, ◌&&◌, ◌==◌, nat_lt, List, length, take, drop, get_or, codes, Option, None, Some, Result, Ok}
use Rattle.std.specs.List.{list_any, prefix_len, suffix_len}
use Rattle.std.specs.Str.{bytes_eq}
use Rattle.msc_mermaid.specs.declared.fault.Expectation.TheVariants as wanted
use Rattle.msc_mermaid.specs.declared.fault.Expectation.{Expectation}
use Rattle.msc_mermaid.specs.declared.fault.ImportFault.{ImportFault}
use Rattle.msc_mermaid.specs.declared.fault.ImportFault.TheVariants.{Expected}
use Rattle.msc_mermaid.specs.declared.key.Mark.{Mark}
use Rattle.msc_mermaid.specs.declared.key.Mark.TheVariants as marks
use Rattle.msc_mermaid.specs.declared.declaring.Shown.{Shown}
use Rattle.msc_mermaid.specs.declared.declaring.Tails.{Tails}
use Rattle.msc_mermaid.specs.declared.seeking.Sought.TheVariants as sought
use Rattle.msc_mermaid.specs.declared.statement.Statement.{Statement}
use Rattle.msc_mermaid.specs.declared.statement.Statement.TheVariants.{Declares}
use Rattle.msc_place.specs.declared.position.Position.{Position}
use Rattle.msc_mermaid.specs.Gives.{◌>>=◌, unless}
use Rattle.msc_mermaid.specs.Keys.{begin_so, mark_text}
use Rattle.msc_mermaid.specs.Lines.{further}
use Rattle.msc_mermaid.specs.Cutting.{without_entities}
use Rattle.msc_mermaid.specs.Patterns.{is_empty}
use Rattle.msc_mermaid.specs.Rows.{is_dash}
use Rattle.msc_mermaid.specs.Seeking.{before, holds, is_alias}
use Rattle.msc_mermaid.specs.White.{before_white, behind_white, front, trimmed}

-- a byte that no name has: one of `+<=>:,`. The semicolons of a statement are those of its entities.
abbrev pub is_barred : ℕ → Bool
is_barred b = b == 43 || b == 60 || b == 61 || b == 62 || b == 58 || b == 44

-- a text that no name has
abbrev pub holds_barred : List ℕ → Bool
holds_barred bytes =
    holds bytes (sought.Text marks.Comment) || holds bytes (sought.Text marks.Centre) || holds bytes (sought.Text marks.DashSlash) || holds bytes (sought.Text marks.DashBackslash) || holds bytes (sought.Text marks.DashBar)

-- a dash stands at an end
abbrev pub ends_in_dash : List ℕ → Bool
ends_in_dash bytes = nat_lt 0 (prefix_len is_dash bytes) || nat_lt 0 (suffix_len is_dash bytes)

-- the bytes are a name
abbrev pub is_name : List ℕ → Bool
is_name bytes =
    not (is_empty bytes || list_any is_barred bytes || holds_barred bytes || ends_in_dash bytes)

-- the name that stands here, without white space at its ends
unfoldable pub name_at : Position → List ℕ → Result (List ℕ) ImportFault
name_at here bytes = unless (is_name (trimmed bytes)) (Expected here wanted.Name) (trimmed bytes)

-- a byte that no name before `()` has, where `()` would be a part of the name: one of `-/\(`
abbrev pub is_joining : ℕ → Bool
is_joining b = b == 45 || b == 47 || b == 92 || b == 40

-- `()` stands at the end
abbrev pub is_central : List ℕ → Bool
is_central bytes = bytes_eq (drop (length bytes - 2) bytes) (codes "()")

-- the name before `()`
unfoldable pub central_name : Position → List ℕ → Result (List ℕ) ImportFault
central_name here bytes = do
  name ← name_at here bytes
  unless (not (list_any is_joining name)) (Expected here wanted.Name) name

-- the name before an arrow, with `()` or without, without white space at its ends
abbrev pub sender_of : Position → List ℕ → Result (List ℕ) ImportFault
sender_of here bytes =
    cond (is_central bytes) (central_name here (take (length bytes - 2) bytes)) (name_at here bytes)

-- the name before an arrow
unfoldable pub sender : Position → List ℕ → Result (List ℕ) ImportFault
sender here bytes = sender_of here (trimmed bytes)

-- the label or shown name without the word on its wrapping, which is what stands here, or else these bytes
abbrev pub unwrapped : List ℕ → List ℕ → List ℕ
unwrapped here bytes =
    cond (begin_so here (mark_text marks.Wrap)) (drop 5 here) (cond (begin_so here (mark_text marks.NoWrap)) (drop 7 here) bytes)

-- the bytes behind a colon, if one stands here
abbrev pub behind_colon : List ℕ → List ℕ
behind_colon bytes = cond (begin_so bytes (mark_text marks.Colon)) (drop 1 bytes) bytes

-- what stands from a label or a shown name on, without the word on its wrapping
abbrev pub from_shown : List ℕ → List ℕ
from_shown bytes = behind_white (unwrapped (behind_colon (behind_white bytes)) bytes)

-- a label or a shown name at the end of a statement: with blanks for its entities
abbrev pub shown_text : List ℕ → Shown
shown_text bytes = record {
  text = without_entities (before_white (from_shown bytes));
  tail = length (from_shown bytes);
}

-- how many bytes are left from a name on, which these bytes begin with, behind white space
abbrev pub name_tail : List ℕ → List ℕ → ℕ
name_tail bytes name = length bytes - front 0 name

-- a quotation mark
abbrev pub is_quote : ℕ → Bool
is_quote b = b == 34 || b == 39

-- what stands behind a quotation mark, if one stands here
abbrev pub behind_quote : List ℕ → List ℕ
behind_quote bytes = cond (is_quote (get_or bytes 0 0)) (drop 1 bytes) bytes

-- the bytes before the first one of these
abbrev pub up_to : ℕ → List ℕ → List ℕ
up_to stop bytes = take (prefix_len (λ b. not (b == stop)) bytes) bytes

-- a value of a configuration: what stands between quotation marks, or before a comma
abbrev pub value_of : List ℕ → List ℕ
value_of bytes =
    cond (is_quote (get_or bytes 0 0)) (up_to (get_or bytes 0 0) (drop 1 bytes)) (trimmed (up_to 44 bytes))

-- how many of these bytes are left from a value on
abbrev pub value_tail : List ℕ → ℕ
value_tail bytes =
    cond (is_quote (get_or bytes 0 0)) (length (drop 1 bytes)) (name_tail bytes (up_to 44 bytes))

-- the shown name of this value, which so many bytes of the statement stand behind
abbrev pub value_shown : ℕ → List ℕ → Shown
value_shown behind bytes = record {
  text = without_entities (value_of bytes);
  tail = further behind (value_tail bytes);
}

-- the shown name that stands behind `alias` in a configuration, which so many bytes stand behind: a colon and a value
abbrev pub value_behind : ℕ → List ℕ → Option Shown
value_behind behind bytes =
    cond (begin_so bytes (mark_text marks.Colon)) (Some (value_shown behind (behind_white (drop 1 bytes)))) None

-- the shown name in a configuration, which so many bytes stand behind, if there is one
abbrev pub shown_in : ℕ → List ℕ → Option Shown
shown_in behind config =
    cond (holds config (sought.Text marks.Shown)) (value_behind behind (behind_white (behind_quote (drop 5 (drop (before (sought.Text marks.Shown) config) config))))) None

-- a line of this name and shown name, with the bytes that are left from them on
abbrev pub declares : List ℕ → ℕ → Option Shown → Statement × Tails
declares name tail None = (Declares name None, record { name = tail; shown = 0 })
declares name tail (Some s) = (Declares name (Some s.text), record { name = tail; shown = s.tail })

-- a line of this name, from which so many bytes are left, and shown name
unfoldable pub line_of : Position → List ℕ → ℕ → Option Shown → Result (Statement × Tails) ImportFault
line_of here ident tail shown = do
  name ← name_at here ident
  Ok (declares name tail shown)

-- what stands before a mark, and what stands behind it
unfoldable pub parted : Position → Mark → Expectation → List ℕ → Result (List ℕ × List ℕ) ImportFault
parted here m expected bytes =
    unless (holds bytes (sought.Text m)) (Expected here expected) (take (before (sought.Text m) bytes) bytes, drop (length (mark_text m)) (drop (before (sought.Text m) bytes) bytes))

-- the shown name of a line with this configuration, with its end, which this stands behind: behind `as`, or else in it
unfoldable pub shown_behind : Position → ℕ → List ℕ → List ℕ → Result (Option Shown) ImportFault
shown_behind here behind config bytes =
    cond (is_empty bytes) (Ok (shown_in behind config)) (unless (is_alias bytes) (Expected here wanted.StatementEnd) (Some (shown_text (drop 2 bytes))))

-- a line of this name, from which so many bytes are left, with the configuration that begins here
unfoldable pub configured : Position → List ℕ → ℕ → List ℕ → Result (Statement × Tails) ImportFault
configured here ident tail bytes = do
  name ← name_at here ident
  parts ← parted here marks.DescriptionEnd wanted.Description bytes
  shown ← shown_behind here (length bytes - length parts.0) parts.0 (behind_white parts.1)
  Ok (declares name tail shown)

-- a line without a configuration
unfoldable pub plain : Position → List ℕ → Result (Statement × Tails) ImportFault
plain here bytes =
    cond (holds bytes sought.Alias) (line_of here (take (before sought.Alias bytes) bytes) (name_tail bytes (take (before sought.Alias bytes) bytes)) (Some (shown_text (drop 2 (behind_white (drop (before sought.Alias bytes) bytes)))))) (line_of here bytes (name_tail bytes bytes) None)

-- the line that is declared here has a name, and a configuration without an end
abbrev pub leaves_config : List ℕ → Bool
leaves_config bytes =
    nat_lt (before (sought.Text marks.Config) bytes) (before sought.Alias bytes) && is_name (trimmed (take (before (sought.Text marks.Config) bytes) bytes)) && not (holds (drop 2 (drop (before (sought.Text marks.Config) bytes) bytes)) (sought.Text marks.DescriptionEnd))

-- the line that is declared
unfoldable pub declared : Position → List ℕ → Result (Statement × Tails) ImportFault
declared here bytes =
    cond (nat_lt (before (sought.Text marks.Config) bytes) (before sought.Alias bytes)) (configured here (take (before (sought.Text marks.Config) bytes) bytes) (name_tail bytes (take (before (sought.Text marks.Config) bytes) bytes)) (drop 2 (drop (before (sought.Text marks.Config) bytes) bytes))) (plain here bytes)
