-- How a line is cut into pieces, each of which is a statement: before each `;` that belongs to no entity, and
-- up to a `#` that begins none.
use Rattle.std.specs.Prelude.{ℕ, ◌+◌, Bool, true, false, cond, not, ◌&&◌, ◌==◌, nat_lt, List, [], ◌∷◌, length}
use Rattle.std.specs.List.{prefix_len}
use Rattle.msc_lexer.specs.Bytes.{begins, is_run_byte}
use Rattle.msc_mermaid.specs.declared.cutting.Turn.{Turn}
use Rattle.msc_mermaid.specs.declared.cutting.Turn.TheVariants as turns
use Rattle.msc_mermaid.specs.declared.key.Mark.TheVariants as marks
use Rattle.msc_mermaid.specs.Keys.{begin_so, mark_text}
use Rattle.msc_mermaid.specs.Lines.{led_by}
use Rattle.msc_mermaid.specs.Rows.{behind_first_word}

-- `;`
abbrev pub is_semicolon : ℕ → Bool
is_semicolon b = b == 59

-- a word and `;`, which make an entity of the `#` before them
abbrev pub is_entity : List ℕ → Bool
is_entity bytes =
    nat_lt 0 (prefix_len is_run_byte bytes) && begins is_semicolon (behind_first_word bytes)

-- what a byte does, within an entity or not, before these: the line ends here, a piece ends here, or it
-- goes on, within an entity or not
abbrev pub turn_at : Bool → ℕ → List ℕ → Turn
turn_at within b rest =
    cond within (turns.On (not (is_semicolon b))) (cond (is_semicolon b) turns.Cut (cond (b == 35) (cond (is_entity rest) (turns.On true) turns.End) (turns.On false)))

-- the pieces from such a byte on
abbrev pub cut_by : Turn → ℕ → (Bool → List (List ℕ)) → List (List ℕ)
cut_by turns.End b more = [] ∷ []
cut_by turns.Cut b more = [] ∷ more false
cut_by (turns.On within) b more = led_by (b ∷ []) (more within)

-- the pieces of a line, within an entity or not
unfoldable pub cut_from : Bool → List ℕ → List (List ℕ)
cut_from within [] = [] ∷ []
cut_from within (b ∷ bs) = cut_by (turn_at within b bs) b (λ w. cut_from w bs)

-- the pieces of a line
abbrev pub cut : List ℕ → List (List ℕ)
cut bytes = cut_from false bytes

-- how many bytes pieces take, with a semicolon behind each
unfoldable pub room : List (List ℕ) → ℕ
room [] = 0
room (p ∷ ps) = length p + 1 + room ps

-- what stands for a byte, within an entity or not, in what people read: a blank for each byte of an entity
abbrev pub bare_step : Bool → ℕ → List ℕ → ℕ × Bool
bare_step within b rest =
    cond within (32, not (is_semicolon b)) (cond (b == 35 && is_entity rest) (32, true) (b, false))

-- the bytes with blanks for entities, from one on that is within an entity or not
unfoldable pub bare_from : Bool → List ℕ → List ℕ
bare_from within [] = []
bare_from within (b ∷ bs) = (bare_step within b bs).0 ∷ bare_from (bare_step within b bs).1 bs

-- the bytes with blanks for entities
abbrev pub without_entities : List ℕ → List ℕ
without_entities bytes = bare_from false bytes

-- whether a directive is open behind a byte, if it was or not
abbrev pub open_step : Bool → List ℕ → Bool
open_step was bytes =
    cond was (not (begin_so bytes (mark_text marks.DirectiveEnd))) (begin_so bytes (mark_text marks.Directive))

-- whether a directive is open behind the bytes, if it was or not: the last `%%{` has no `}%%` behind it
unfoldable pub leaves_open : Bool → List ℕ → Bool
leaves_open was [] = was
leaves_open was (b ∷ bs) = leaves_open (open_step was (b ∷ bs)) bs
