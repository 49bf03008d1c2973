-- What holds of the blocks of every text of Markdown.
use Rattle.std.specs.Prelude.{◌≡◌, ℕ, ◌+◌, List, take, drop, slice_get, Some}
use Rattle.msc_mermaid.specs.Lines.{lines_of}
use Rattle.msc_mermaid.specs.Parts.{Stretch}
use Rattle.msc_markdown.specs.Markdowns.{found_in}

-- bytes that stand together in a line
pub record IsPartOf (line bytes : List ℕ) : Type 0 where
  pub from : ℕ
  pub count : ℕ
  pub is : bytes ≡ take count (drop from line)

-- what of a line belongs to a block stands together in the line, and has its number
abbrev pub PartsAreOfTheirLines : Type 0
PartsAreOfTheirLines =
    (text : List ℕ) (i : ℕ) (line : List ℕ) (s : Stretch) → slice_get (lines_of text) i ≡ Some line → slice_get (found_in text).parts i ≡ Some s → (s.line ≡ i + 1) × IsPartOf line s.bytes
