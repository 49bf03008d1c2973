-- What the code keeps from one call of `read` to the next.
use Rattle.msc_source.specs.declared.reading.TheConstants.{BYTE_LIMIT}
use Rattle.std.specs.Prelude.{◌≡◌, ℕ, ◌≤◌, ◌<◌, List, ◌++◌, length, Option}
use Rattle.std.specs.Io.KnownBytes.{Consumes, IsAtEnd}

-- what one call of `read` gave stands behind the bytes that were read before
pub record ReadsMore (old new : Option (List ℕ)) (before after : List ℕ) : Type 0 where
  pub given : List ℕ
  pub taken : Consumes old new given
  pub behind : after ≡ before ++ given
  pub most : length after ≤ BYTE_LIMIT

-- reading is done: the input has ended, or as many bytes as may be were read
abbrev pub IsDone : Option (List ℕ) → List ℕ → Type 0
IsDone new bytes = length bytes < BYTE_LIMIT → IsAtEnd new
