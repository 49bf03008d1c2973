-- The numbers of one word of a row, as the search for zeros meets them.
use Rattle.std.specs.Prelude.{ℕ, ◌/◌, ◌%◌, Bool, ◌&&◌, nat_eq}
use Rattle.bit_rows.specs.Rows.{bit_of}

-- f is a number of word k of a row, and its bit in the word is 1
unfoldable pub is_in_word : ℕ → ℕ → ℕ → ℕ → Bool
is_in_word word k e f = nat_eq (f / 64) k && bit_of word (f % 64)
