-- What is at the front of a text.
use Rattle.std.specs.Prelude.{ℕ, Bool, false, ◌==◌, List, [], ◌∷◌, take, drop}
use Rattle.std.specs.Char.{is_ascii_alphanumeric}
use Rattle.std.specs.List.{prefix_len}

-- the first byte, if there is one, is this
abbrev pub begins : ℕ → List ℕ → Bool
begins b [] = false
begins b (x ∷ xs) = x == b

-- the letters and digits at the front, and what follows them
abbrev pub word_of : List ℕ → List ℕ
word_of bytes = take (prefix_len is_ascii_alphanumeric bytes) bytes

abbrev pub after_word : List ℕ → List ℕ
after_word bytes = drop (prefix_len is_ascii_alphanumeric bytes) bytes
