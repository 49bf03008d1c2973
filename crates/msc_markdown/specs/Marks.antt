-- What may stand before a block on its line: blanks, marks of block quotes and of list items.
use Rattle.std.specs.Prelude.{ℕ, ◌+◌, ◌-◌, Bool, cond, ◌||◌, ◌&&◌, ◌==◌, nat_lt, List, [], ◌∷◌, take, drop, count_by}
use Rattle.std.specs.Char.{is_ascii_digit}
use Rattle.std.specs.List.{prefix_len}
use Rattle.msc_lexer.specs.Bytes.{begins}
use Rattle.msc_markdown.specs.Blanks.{is_blank}

-- the mark of a block quote
abbrev pub is_quote : ℕ → Bool
is_quote b = b == 62

-- a blank or a mark of a block quote
abbrev pub is_quoted : ℕ → Bool
is_quoted b = is_blank b || is_quote b

-- the mark of a list item without a number: `-`, `*`, `+`
abbrev pub is_bullet : ℕ → Bool
is_bullet b = b == 45 || b == 42 || b == 43

-- what follows the number of a list item: `.`, `)`
abbrev pub is_point : ℕ → Bool
is_point b = b == 46 || b == 41

-- the bytes begin with a number of so many digits of a list item
abbrev pub is_number : ℕ → List ℕ → Bool
is_number n bytes =
    nat_lt 0 n && nat_lt n 10 && begins is_point (drop n bytes) && begins is_blank (drop (n + 1) bytes)

-- how many digits stand here
abbrev pub digits : List ℕ → ℕ
digits bytes = prefix_len is_ascii_digit bytes

-- how many bytes the mark has that stands here; 0 if there is none
abbrev pub mark : List ℕ → ℕ
mark bytes =
    cond (begins is_quoted bytes || begins is_bullet bytes && begins is_blank (drop 1 bytes)) 1 (cond (is_number (digits bytes) bytes) (digits bytes + 1) 0)

-- how many bytes are left here of a mark, if so many are left of one that began before
abbrev pub ahead : ℕ → List ℕ → ℕ
ahead left bytes = cond (left == 0) (mark bytes) left

-- how many bytes of marks stand in front
unfoldable pub marks : ℕ → List ℕ → ℕ
marks left [] = 0
marks left (b ∷ bs) =
    cond (ahead left (b ∷ bs) == 0) 0 (1 + marks (ahead left (b ∷ bs) - 1) bs)

-- how many marks of block quotes there are among these bytes
abbrev pub quotes : List ℕ → ℕ
quotes bytes = count_by is_quote bytes

-- how many of them a line has before anything else
abbrev pub quotes_before : List ℕ → ℕ
quotes_before line = quotes (take (prefix_len is_quoted line) line)

-- how many bytes stand up to so many marks of block quotes, where these are in front
unfoldable pub quoted : ℕ → List ℕ → ℕ
quoted left [] = 0
quoted left (b ∷ bs) = cond (left == 0) 0 (1 + quoted (left - cond (is_quote b) 1 0) bs)
