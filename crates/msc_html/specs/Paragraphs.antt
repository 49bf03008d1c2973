-- The paragraphs of a text: what stands before each empty line.
use Rattle.std.specs.Prelude.{◌≡◌, ℕ, Bool, true, false, cond, List, [], ◌∷◌, ◌++◌, codes, nat_eq}
use Rattle.std.specs.List.{flat_map}

-- A text that was read so far: its paragraphs, the bytes behind the last of them, and whether a line
-- ends behind these.
pub record Cut : Type 0 where
  pub found : List (List ℕ)
  pub current : List ℕ
  pub ended : Bool

-- nothing was read
abbrev pub uncut : Cut
uncut = record { found = []; current = []; ended = false }

-- what no empty line has ended yet
abbrev pub held : Cut → List ℕ
held c = cond c.ended (c.current ++ 10 ∷ []) c.current

-- the paragraph ends
abbrev pub with_paragraph : Cut → Cut
with_paragraph c = record { found = c.found ++ c.current ∷ []; current = []; ended = false }

-- a line ends
abbrev pub with_line_end : Cut → Cut
with_line_end c = record { found = c.found; current = c.current; ended = true }

-- a byte more that ends no line
abbrev pub with_byte : Cut → ℕ → Cut
with_byte c b = record { found = c.found; current = held c ++ b ∷ []; ended = false }

-- one byte more: a line that ends right behind another one ends a paragraph
abbrev pub cut_by : Cut → ℕ → Cut
cut_by c b = cond (nat_eq b 10) (cond c.ended (with_paragraph c) (with_line_end c)) (with_byte c b)

-- these bytes more
abbrev pub cut_on : Cut → List ℕ → Cut
cut_on c [] = c
cut_on c (b ∷ text) = cut_on (cut_by c b) text

-- the paragraphs of a text
abbrev pub paragraphs : List ℕ → List (List ℕ)
paragraphs text = (cut_on uncut text).found

-- what no empty line follows
abbrev pub last_lines : List ℕ → List ℕ
last_lines text = held (cut_on uncut text)

-- a paragraph and the empty line behind it
abbrev pub with_empty_line : List ℕ → List ℕ
with_empty_line paragraph = paragraph ++ codes "\n\n"

-- a text is its paragraphs with their empty lines, and what no empty line follows
abbrev pub ParagraphsMakeTheText : Type 0
ParagraphsMakeTheText =
    (text : List ℕ) → flat_map with_empty_line (paragraphs text) ++ last_lines text ≡ text
