-- Devices that fail, in words.
use Rattle.std.specs.Prelude.{◌≡◌, ◌⊎◌, ℕ, List, ◌++◌, None, Some, codes, take}
use Rattle.std.specs.Str.Pattern.{FindsText}
use Rattle.msc_fault_words.specs.Words.{Words, bare}

-- a cause ends before the first ` (os error `, if it has one
abbrev pub IsCause : List ℕ → List ℕ → Type 0
IsCause cause words =
    (FindsText (codes " (os error ") cause None × (words ≡ cause))
    ⊎ ((i : ℕ) × (j : ℕ) × FindsText (codes " (os error ") cause (Some (i, j)) × (words ≡ take i cause))

-- a file cannot be read
unfoldable pub reading_text : List ℕ → List ℕ → List ℕ
reading_text file cause = codes "cannot read " ++ (file ++ (codes ": " ++ cause))

abbrev pub reading : List ℕ → List ℕ → Words
reading file cause = bare (codes "device") (reading_text file cause)

-- the answer cannot be written
unfoldable pub writing_text : List ℕ → List ℕ
writing_text cause = codes "cannot write: " ++ cause

abbrev pub writing : List ℕ → Words
writing cause = bare (codes "device") (writing_text cause)
