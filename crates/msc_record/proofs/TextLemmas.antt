-- Texts that may be no UTF-8.
use Rattle.std.proofs.Common.{◌≡◌, ℕ, List, IsUtf8}
use Rattle.std.specs.Str.Lossy.{utf8_lossy}
use Rattle.std.proofs.lemmas.Str.{utf8_lossy-IsUtf8}

-- UTF-8 stays as it is
pub lossy_of_utf8 : (bytes : List ℕ) → IsUtf8 bytes → utf8_lossy bytes ≡ bytes
lossy_of_utf8 bytes utf8 = utf8_lossy-IsUtf8 bytes utf8
