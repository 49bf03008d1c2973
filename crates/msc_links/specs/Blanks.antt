-- Blanks: spaces, tabs and ends of lines.
use Rattle.std.specs.Prelude.{ℕ, ◌-◌, Bool, ◌||◌, ◌==◌, List, length, take, drop}
use Rattle.std.specs.List.{prefix_len, suffix_len}

-- a space, a tab, or one of the bytes that end a line
abbrev pub is_blank : ℕ → Bool
is_blank b = ((b == 32 || b == 9) || b == 10) || b == 13

-- the text after the blanks at its front
abbrev pub after_blanks : List ℕ → List ℕ
after_blanks text = drop (prefix_len is_blank text) text

-- the text before the blanks at its end
abbrev pub before_blanks : List ℕ → List ℕ
before_blanks text = take (length text - suffix_len is_blank text) text

-- the text without the blanks around it
unfoldable pub trimmed : List ℕ → List ℕ
trimmed text = before_blanks (after_blanks text)
