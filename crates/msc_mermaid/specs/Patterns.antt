-- What may stand behind the word that a statement begins with, part by part.
use Rattle.std.specs.Prelude.{ℕ, Bool, true, false, cond, not, ◌&&◌, nat_lt, List, [], ◌∷◌, length, drop, Option, None, Some, option_and_then}
use Rattle.std.specs.List.{prefix_len}
use Rattle.std.specs.Char.{is_ascii_digit}
use Rattle.msc_lexer.specs.Bytes.{begins, is_run_byte}
use Rattle.msc_mermaid.specs.declared.key.Key.TheVariants as keys
use Rattle.msc_mermaid.specs.declared.key.Mark.TheVariants as marks
use Rattle.msc_mermaid.specs.declared.pattern.Part.{Part}
use Rattle.msc_mermaid.specs.declared.pattern.Part.TheVariants as parts
use Rattle.msc_mermaid.specs.declared.pattern.Pattern.{Pattern}
use Rattle.msc_mermaid.specs.declared.pattern.Pattern.TheVariants as patterns
use Rattle.msc_mermaid.specs.declared.seeking.Sought.TheVariants as sought
use Rattle.msc_mermaid.specs.Keys.{spelling, mark_text, begin_so}
use Rattle.msc_mermaid.specs.Seeking.{before}
use Rattle.msc_mermaid.specs.White.{begins_white, behind_white}

-- there is no byte
abbrev pub is_empty : List ℕ → Bool
is_empty [] = true
is_empty (b ∷ bs) = false

-- the word stands here, and no byte of a word behind it
abbrev pub is_word : List ℕ → List ℕ → Bool
is_word bytes word = begin_so bytes word && not (begins is_run_byte (drop (length word) bytes))

-- what follows where the test holds, and nothing else
abbrev pub only : Bool → List ℕ → Option (List ℕ)
only test bytes = cond test (Some bytes) None

-- what stands behind a part of a pattern, where the bytes begin with it
abbrev pub behind : Part → List ℕ → Option (List ℕ)
behind parts.Blanks bytes = Some (behind_white bytes)
behind parts.Gap bytes = only (begins_white bytes) (behind_white bytes)
behind parts.Finish bytes = only (is_empty bytes) bytes
behind (parts.Text m) bytes = only (begin_so bytes (mark_text m)) (drop (length (mark_text m)) bytes)
behind (parts.Word k) bytes = only (is_word bytes (spelling k)) (drop (length (spelling k)) bytes)
behind parts.Digits bytes =
    only (begins is_ascii_digit bytes) (drop (prefix_len is_ascii_digit bytes) bytes)
behind (parts.NoArrow m) bytes =
    only (nat_lt (before (sought.Text m) bytes) (before sought.Arrow bytes)) bytes

-- what stands behind these parts, where the bytes begin with them
unfoldable pub fits : List Part → List ℕ → Option (List ℕ)
fits [] bytes = Some bytes
fits (p ∷ ps) bytes = option_and_then (fits ps) (behind p bytes)

-- the parts of a pattern
abbrev pub parts_of : Pattern → List Part
parts_of patterns.Anything = []
parts_of patterns.Name = parts.Blanks ∷ []
parts_of patterns.Participant = parts.Gap ∷ parts.Word keys.Participant ∷ parts.Blanks ∷ []
parts_of patterns.Actor = parts.Gap ∷ parts.Word keys.Actor ∷ parts.Blanks ∷ []
parts_of patterns.Alone = parts.Blanks ∷ parts.Finish ∷ []
parts_of patterns.LeftOf =
    parts.Blanks ∷ parts.Text marks.LeftOf ∷ parts.Gap ∷ parts.NoArrow marks.Colon ∷ []
parts_of patterns.RightOf =
    parts.Blanks ∷ parts.Text marks.RightOf ∷ parts.Gap ∷ parts.NoArrow marks.Colon ∷ []
parts_of patterns.Over =
    parts.Blanks ∷ parts.Text marks.Over ∷ parts.Gap ∷ parts.NoArrow marks.Colon ∷ []
parts_of patterns.Off = parts.Blanks ∷ parts.Text marks.Off ∷ parts.Finish ∷ []
parts_of patterns.Number = parts.Blanks ∷ parts.Digits ∷ parts.Finish ∷ []
parts_of patterns.Numbers =
    parts.Blanks ∷ parts.Digits ∷ parts.Gap ∷ parts.Digits ∷ parts.Finish ∷ []
parts_of patterns.Text = parts.Gap ∷ []
parts_of patterns.ColonText = parts.Text marks.Colon ∷ parts.Gap ∷ []
parts_of patterns.AccTitle = parts.Text marks.AccTitle ∷ parts.Blanks ∷ parts.Text marks.Colon ∷ []
parts_of patterns.AccDescr = parts.Text marks.AccDescr ∷ parts.Blanks ∷ parts.Text marks.Colon ∷ []
parts_of patterns.AccBlock =
    parts.Text marks.AccDescr ∷ parts.Blanks ∷ parts.Text marks.Description ∷ []

-- the first of two that is there
abbrev pub or_next : Option (List ℕ) → Option (List ℕ) → Option (List ℕ)
or_next None other = other
or_next (Some rest) other = Some rest

-- what stands behind the first of these patterns that the bytes begin with
unfoldable pub first_fit : List Pattern → List ℕ → Option (List ℕ)
first_fit [] bytes = None
first_fit (p ∷ ps) bytes = or_next (fits (parts_of p) bytes) (first_fit ps bytes)
