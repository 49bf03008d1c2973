-- What is put behind a page, as far as it is said.
use Rattle.std.specs.Prelude.{◌≡◌, ℕ, ◌++◌, List, Option}
use Rattle.msc_notes.specs.Texts.{error_text, IsFaultPosition}
use Rattle.msc_place.specs.declared.position.Position.{Position}

-- something was put behind it
abbrev pub Extends : List ℕ → List ℕ → Type 0
Extends old new = (more : List ℕ) × (new ≡ old ++ more)

-- a line was put behind it, behind the position of a place of the text of a file
abbrev pub BeginsSo : List ℕ → List ℕ → Option ℕ → List ℕ → List ℕ → List ℕ → Type 0
BeginsSo file text place line old new =
    (p : Position) × IsFaultPosition text place p × (new ≡ old ++ (error_text file p ++ line))
