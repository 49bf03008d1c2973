-- Entities of Mermaid: `#`, a word of letters and digits, and `;`. They write a character.
use Rattle.std.specs.Prelude.{ℕ, ◌+◌, Bool, cond, ◌&&◌, ◌||◌, nat_lt, nat_le, List, length, drop, codes, Option, None, Some}
use Rattle.std.specs.Int.{is_in_range}
use Rattle.std.specs.Option.{option_map}
use Rattle.std.specs.Str.{all_ascii_digits, bytes_eq}
use Rattle.std.specs.Str.Parse.{digits_value}
use Rattle.msc_spoken.specs.Fronts.{begins, word_of, after_word}

-- a word of one to seven decimal digits, and the number that it writes
abbrev pub is_number : List ℕ → Bool
is_number word = nat_lt 0 (length word) && nat_le (length word) 7 && all_ascii_digits word

abbrev pub number_of : List ℕ → Option ℕ
number_of word = cond (is_number word) (Some (digits_value 10 word)) None

-- the character with this name
abbrev pub named_character : List ℕ → Option ℕ
named_character word =
    cond (bytes_eq word (codes "quot")) (Some 34)
    (cond (bytes_eq word (codes "amp")) (Some 38)
    (cond (bytes_eq word (codes "lt")) (Some 60)
    (cond (bytes_eq word (codes "gt")) (Some 62)
    (cond (bytes_eq word (codes "nbsp")) (Some 0xA0) (cond (bytes_eq word (codes "infin")) (Some 0x221E) None)))))

-- a number that is one of a character: at most 0x10FFFF, and no surrogate
abbrev pub is_character : ℕ → Bool
is_character n = nat_lt n 0xD800 || is_in_range 0xE000 0x10_FFFF n

-- the character with this number, if there is one; without a number, the one with this name
abbrev pub character_by : Option ℕ → List ℕ → Option ℕ
character_by (Some n) word = cond (is_character n) (Some n) None
character_by None word = named_character word

-- the character that a word between `#` and `;` writes
abbrev pub entity_character : List ℕ → Option ℕ
entity_character word = character_by (number_of word) word

-- an entity may begin here: `#`, a word and `;`
abbrev pub has_entity_form : List ℕ → Bool
has_entity_form bytes = begins 35 bytes && begins 59 (after_word (drop 1 bytes))

-- the character of the entity that begins here, and how many bytes it has after its `#`
unfoldable pub entity : List ℕ → Option (ℕ × ℕ)
entity bytes =
    cond (has_entity_form bytes) (option_map (λ c. (c, length (word_of (drop 1 bytes)) + 1)) (entity_character (word_of (drop 1 bytes)))) None
