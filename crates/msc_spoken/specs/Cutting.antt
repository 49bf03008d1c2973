-- Columns of a terminal, and texts that are cut to fit.
use Rattle.std.specs.Prelude.{ℕ, ◌+◌, ◌-◌, false, cond, nat_le, List, [], ◌∷◌, ◌++◌, take, codes, unwrap_or, sum_by}
use Rattle.unicode_width.specs.Width.{char_width}
use Rattle.msc_spoken.specs.Speaking.{before_blanks}

-- how many columns a character takes, by Unicode's East Asian Width; a control takes none
unfoldable pub width_of : ℕ → ℕ
width_of c = unwrap_or (char_width false c) 0

-- and a text
abbrev pub columns_of : List ℕ → ℕ
columns_of cs = sum_by width_of cs

-- how many characters at the front fit into so many columns
unfoldable pub fitting : ℕ → List ℕ → ℕ
fitting room [] = 0
fitting room (c ∷ cs) = cond (nat_le (width_of c) room) (1 + fitting (room - width_of c) cs) 0

-- A text of more than 40 columns is cut there: without the blanks at the cut, and with `...`.
unfoldable pub cut_text : List ℕ → List ℕ
cut_text cs =
    cond (nat_le (columns_of cs) 40) cs (before_blanks (take (fitting 40 cs) cs) ++ codes "...")
