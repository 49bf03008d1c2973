-- Markup in names and labels: tags such as `<br/>`, and escapes such as `\n`.
use Rattle.std.specs.Prelude.{ℕ, ◌-◌, Bool, cond, not, ◌&&◌, ◌||◌, ◌==◌, List, length, map, drop, slice_index, codes, Option, None, Some}
use Rattle.std.specs.Char.{to_ascii_lowercase}
use Rattle.std.specs.List.{prefix_len}
use Rattle.std.specs.Str.{bytes_eq}
use Rattle.msc_spoken.specs.declared.markup.Markup.{Markup}
use Rattle.msc_spoken.specs.declared.markup.Markup.TheVariants as markups
use Rattle.msc_spoken.specs.Fronts.{begins, word_of, after_word}
use Rattle.msc_spoken.specs.Replacing.{replaced}

-- the word is this one, in either case
abbrev pub is_spelled : List ℕ → List ℕ → Bool
is_spelled word name = bytes_eq (map to_ascii_lowercase word) (map to_ascii_lowercase name)

-- the names of tags that break a line, and of those that style a text
abbrev pub is_short_tag : List ℕ → Bool
is_short_tag w = is_spelled w (codes "br") || is_spelled w (codes "b") || is_spelled w (codes "i") || is_spelled w (codes "u") || is_spelled w (codes "s")

abbrev pub is_style_tag : List ℕ → Bool
is_style_tag w = is_spelled w (codes "color") || is_spelled w (codes "size") || is_spelled w (codes "back") || is_spelled w (codes "font")

-- what follows the `<` or `</` of a tag
abbrev pub after_opening : List ℕ → List ℕ
after_opening bytes = drop (cond (begins 47 (drop 1 bytes)) 2 1) bytes

-- a byte that may stand within a tag
abbrev pub is_inner : ℕ → Bool
is_inner b = not (b == 60 || b == 62)

abbrev pub after_inner : List ℕ → List ℕ
after_inner bytes = drop (prefix_len is_inner bytes) bytes

-- where the tag that begins here ends: from its `>` on
abbrev pub tag_end : List ℕ → List ℕ
tag_end bytes = after_inner (after_word (after_opening bytes))

-- A tag begins here: `<`, at most one `/`, a name, then bytes but `<` and `>` of which the first is
-- no letter and no digit, then `>`.
unfoldable pub begins_tag : List ℕ → Bool
begins_tag bytes =
    begins 60 bytes && (is_short_tag (word_of (after_opening bytes)) || is_style_tag (word_of (after_opening bytes))) && begins 62 (tag_end bytes)

-- how many bytes the tag that begins here has after its `<`
unfoldable pub tag_rest : List ℕ → Option ℕ
tag_rest bytes = cond (begins_tag bytes) (Some (length bytes - length (tag_end bytes))) None

-- what makes an escape of a backslash before it
abbrev pub is_escaped : ℕ → Bool
is_escaped b = b == 110 || b == 108 || b == 114 || b == 116

-- an escape begins here: a backslash and one of these letters
unfoldable pub begins_escape : List ℕ → Bool
begins_escape bytes = slice_index bytes 0 == 92 && is_escaped (slice_index bytes 1)

-- a blank for a tag with so many bytes after its `<`; this byte if there is no tag
abbrev pub blank_for : Option ℕ → ℕ → ℕ × ℕ
blank_for (Some more) b = (32, more)
blank_for None b = (b, 0)

-- what replaces the front of the bytes, and how many bytes this front has after the first: a blank
-- replaces a tag or an escape, and each other byte stays
unfoldable pub markup_front : Markup → List ℕ → ℕ × ℕ
markup_front markups.Tags bytes = blank_for (tag_rest bytes) (slice_index bytes 0)
markup_front markups.Escapes bytes = cond (begins_escape bytes) (32, 1) (slice_index bytes 0, 0)

-- the bytes with a blank for each tag, and then for each escape
unfoldable pub without_markup : List ℕ → List ℕ
without_markup bytes = replaced (markup_front markups.Escapes) 0 (replaced (markup_front markups.Tags) 0 bytes)
