-- The rows among bytes.
use Rattle.std.proofs.Common.{◌≡◌, ℕ, Bool, true, false, List, [], refl}
use Rattle.std.specs.Str.{is_utf8, IsUtf8}
use Rattle.std.specs.Str.Lines.{lines}
use Rattle.std.proofs.lemmas.Str.{is_utf8-from_IsUtf8, IsUtf8-from_is_utf8}
use Rattle.msc_findings.specs.Runs.{rows_in}

-- in UTF-8 they are its lines
pub rows_of_text : (bytes : List ℕ) → IsUtf8 bytes → lines bytes ≡ rows_in bytes
rows_of_text bytes is = rw (is_utf8-from_IsUtf8 bytes is) refl

-- else there are none
pub no_rows : (bytes : List ℕ) → (IsUtf8 bytes → ⊥) → [] ≡ rows_in bytes
no_rows bytes not = by_case (is_utf8 bytes) refl
  where
    by_case : (b : Bool) → is_utf8 bytes ≡ b → [] ≡ rows_in bytes
    by_case true is = absurd (not (IsUtf8-from_is_utf8 bytes is))
    by_case false is = rw is refl
