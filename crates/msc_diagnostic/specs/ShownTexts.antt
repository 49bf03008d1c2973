-- Texts of which each character is shown.
use Rattle.std.specs.Prelude.{◌≡◌, ℕ, true, ◌⊎◌, List, Option, None, Some, encode_utf8_all}
use Rattle.std.specs.List.{AllByRecursion}
use Rattle.msc_spoken.specs.Showing.{is_shown}
use Rattle.msc_diagnostic.specs.Plain.{Diagnostic}
use Rattle.msc_diagnostic.specs.Plain.{Note}

-- the UTF-8 of characters that are shown
pub record IsShownText (bytes : List ℕ) : Type 0 where
  pub characters : List ℕ
  pub utf8 : bytes ≡ encode_utf8_all characters
  pub shown : AllByRecursion (λ c. is_shown c ≡ true) characters

-- the UTF-8 of rows: each character is shown, or ends a row
pub record AreShownRows (bytes : List ℕ) : Type 0 where
  pub characters : List ℕ
  pub utf8 : bytes ≡ encode_utf8_all characters
  pub shown : AllByRecursion (λ c. (is_shown c ≡ true) ⊎ (c ≡ 10)) characters

-- an optional text is shown
abbrev pub IsShownOption : Option (List ℕ) → Type 0
IsShownOption None = Unit {0}
IsShownOption (Some text) = IsShownText text

-- a note is shown
pub record IsShownNote (note : Note) : Type 0 where
  pub text : IsShownText note.text
  pub rows : AllByRecursion IsShownText note.rows

-- all texts of a diagnostic are shown
pub record HasShownTexts (d : Diagnostic) : Type 0 where
  pub id : IsShownText d.id
  pub sentence : IsShownText d.sentence
  pub place : IsShownOption d.place
  pub labels : AllByRecursion (λ mark. IsShownText mark.label) d.marks
  pub notes : AllByRecursion IsShownNote d.notes
