-- The characters of a text: its bytes are read as UTF-8, and a text of Mermaid has entities too.
use Rattle.std.specs.Prelude.{ℕ, ◌-◌, List, Option, None, Some, unwrap_or}
use Rattle.bstr.specs.Utf8.{decoded}
use Rattle.msc_spoken.specs.declared.reading.Notation.{Notation}
use Rattle.msc_spoken.specs.declared.reading.Notation.TheVariants as notations
use Rattle.msc_spoken.specs.Entities.{entity}
use Rattle.msc_spoken.specs.Replacing.{replaced}

-- this character and so many bytes, or `?` for the first byte alone
abbrev pub or_mark : Option ℕ → ℕ → ℕ × ℕ
or_mark (Some c) more = (c, more)
or_mark None more = (63, 0)

-- what the front of the bytes is read as, and how many bytes it has after the first: a character by
-- Table 3-7 of the Unicode Standard, or a byte that is part of no character
unfoldable pub decoded_front : List ℕ → ℕ × ℕ
decoded_front bytes = or_mark (decoded bytes).char ((decoded bytes).size - 1)

-- the same in this notation
unfoldable pub read_front : Notation → List ℕ → ℕ × ℕ
read_front notations.Plain bytes = decoded_front bytes
read_front notations.Mermaid bytes = unwrap_or (entity bytes) (decoded_front bytes)

-- the characters of a text
abbrev pub characters_of : Notation → List ℕ → List ℕ
characters_of notation bytes = replaced (read_front notation) 0 bytes
