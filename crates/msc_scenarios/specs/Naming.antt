-- Names of charts, made of any bytes: of lines, of labels and of diagrams.
use Rattle.std.specs.Prelude.{ℕ, zero, suc, ◌+◌, ◌-◌, Bool, cond, not, ◌||◌, ◌&&◌, ◌==◌, nat_lt, List, [], ◌∷◌, ◌++◌, length, take, drop, codes, Option, None, Some, is_some}
use Rattle.std.specs.Char.{is_ascii_alphanumeric}
use Rattle.std.specs.List.{flat_map, list_any, prefix_len, suffix_len}
use Rattle.std.specs.Str.{bytes_eq}
use Rattle.std.specs.Fmt.{decimal}
use Rattle.msc_lexer.specs.Bytes.{begins, is_run_byte}
use Rattle.msc_lexer.specs.Words.{word_of}
use Rattle.msc_scenarios.specs.declared.naming.Pass.{Pass}
use Rattle.msc_scenarios.specs.declared.naming.Pass.TheVariants as passes
use Rattle.msc_mermaid.specs.Keys.{are_spelled}
use Rattle.msc_mermaid.specs.Patterns.{is_empty}

-- `<`, `/`, `>`
abbrev pub is_opening : ℕ → Bool
is_opening b = b == 60

abbrev pub is_slash : ℕ → Bool
is_slash b = b == 47

abbrev pub is_closing : ℕ → Bool
is_closing b = b == 62

-- a byte that may stand within a tag
abbrev pub is_inner : ℕ → Bool
is_inner b = not (b == 60 || b == 62)

-- the names of tags that break a line, and of those that style a text
abbrev pub is_break_tag : List ℕ → Bool
is_break_tag w = are_spelled w (codes "br") || are_spelled w (codes "b") || are_spelled w (codes "i") || are_spelled w (codes "u") || are_spelled w (codes "s")

abbrev pub is_style_tag : List ℕ → Bool
is_style_tag w = are_spelled w (codes "color") || are_spelled w (codes "size") || are_spelled w (codes "back") || are_spelled w (codes "font")

-- how many bytes open a tag: `<`, or `</`
abbrev pub opening_length : List ℕ → ℕ
opening_length bytes = cond (begins is_slash (drop 1 bytes)) 2 1

-- the name of a tag, and what stands behind it
abbrev pub tag_name : List ℕ → List ℕ
tag_name bytes = take (prefix_len is_ascii_alphanumeric (drop (opening_length bytes) bytes)) (drop (opening_length bytes) bytes)

abbrev pub behind_tag_name : List ℕ → List ℕ
behind_tag_name bytes = drop (prefix_len is_ascii_alphanumeric (drop (opening_length bytes) bytes)) (drop (opening_length bytes) bytes)

-- what stands behind all that may stand within a tag
abbrev pub behind_inner : List ℕ → List ℕ
behind_inner bytes = drop (prefix_len is_inner bytes) bytes

-- a tag stands here
abbrev pub is_tag : List ℕ → Bool
is_tag bytes =
    begins is_opening bytes && (is_break_tag (tag_name bytes) || is_style_tag (tag_name bytes)) && begins is_closing (behind_inner (behind_tag_name bytes))

-- how many bytes the tag has that stands here, and none where no tag does
unfoldable pub tag_length : List ℕ → ℕ
tag_length bytes =
    cond (is_tag bytes) (length bytes - length (behind_inner (behind_tag_name bytes)) + 1) 0

-- what behind a backslash makes a blank of both
abbrev pub is_escape : ℕ → Bool
is_escape b = b == 110 || b == 108 || b == 114 || b == 116

-- What stands for a byte, if anything does, and the state behind it. Of tags and escapes the state is
-- how many bytes more are left out; of gaps it is 1 in a gap.
unfoldable pub pass_step : Pass → ℕ → ℕ → List ℕ → Option ℕ × ℕ
pass_step passes.Tags s b bs =
    cond (nat_lt 0 s) (None, s - 1) (cond (nat_lt 0 (tag_length (b ∷ bs))) (Some 32, tag_length (b ∷ bs) - 1) (Some b, 0))
pass_step passes.Escapes s b bs =
    cond (nat_lt 0 s) (None, s - 1) (cond (b == 92 && begins is_escape bs) (Some 32, 1) (Some b, 0))
pass_step passes.Gaps s b bs =
    cond (is_run_byte b) (Some b, 0) (cond (nat_lt 0 s) (None, 1) (Some 95, 1))

-- these bytes behind one, if there is one
abbrev pub put_first : Option ℕ → List ℕ → List ℕ
put_first None bs = bs
put_first (Some b) bs = b ∷ bs

-- the bytes that such a pass leaves
unfoldable pub passed : Pass → ℕ → List ℕ → List ℕ
passed p s [] = []
passed p s (b ∷ bs) = put_first (pass_step p s b bs).0 (passed p (pass_step p s b bs).1 bs)

-- an underscore
abbrev pub is_bar : ℕ → Bool
is_bar b = b == 95

-- without underscores in front, and without those at the end
abbrev pub behind_bars : List ℕ → List ℕ
behind_bars bytes = drop (prefix_len is_bar bytes) bytes

abbrev pub before_bars : List ℕ → List ℕ
before_bars bytes = take (length bytes - suffix_len is_bar bytes) bytes

-- the first 56 bytes, without underscores at their end
abbrev pub shortened : List ℕ → List ℕ
shortened bytes = before_bars (take 56 bytes)

-- these bytes, and others where there are none
abbrev pub or_else : List ℕ → List ℕ → List ℕ
or_else [] others = others
or_else (b ∷ bs) others = b ∷ bs

-- a reserved word gets an underscore behind it
abbrev pub unreserved : List ℕ → List ℕ
unreserved name = cond (is_some (word_of name)) (name ++ 95 ∷ []) name

-- what is left of bytes for a name: tags and escapes are blanks, and all that names are not made of is
-- underscores
abbrev pub left_of : List ℕ → List ℕ
left_of bytes =
    shortened (before_bars (behind_bars (passed passes.Gaps 0 (passed passes.Escapes 0 (passed passes.Tags 0 bytes)))))

-- the name that is made of bytes; where nothing is left of them, of these others
unfoldable pub made : List ℕ → List ℕ → List ℕ
made bytes others = unreserved (or_else (left_of bytes) others)

-- a name with a number behind it, from 2 on
abbrev pub candidate : List ℕ → ℕ → List ℕ
candidate name n = cond (n == 1) name (name ++ (95 ∷ decimal n))

-- the name is there
abbrev pub is_taken : List (List ℕ) → List ℕ → Bool
is_taken names name = list_any (λ n. bytes_eq n name) names

-- the first of so many candidates from number k on that is not there
unfoldable pub free_name : List (List ℕ) → List ℕ → ℕ → ℕ → List ℕ
free_name names name k zero = name
free_name names name k (suc n) =
    cond (is_taken names (candidate name k)) (free_name names name (k + 1) n) (candidate name k)

-- the names of lines behind these names: each is the first that is not there yet; of one more candidates than
-- there are names one is free
unfoldable pub names_behind : List (List ℕ) → List (List ℕ) → List (List ℕ)
names_behind names [] = names
names_behind names (ident ∷ idents) =
    names_behind (names ++ free_name names (made ident (codes "p")) 1 (length names + 1) ∷ []) idents

-- the round of a loop, behind an underscore
abbrev pub round_text : ℕ → List ℕ
round_text n = 95 ∷ decimal n

-- the number of an arrow, and the rounds of the loops that it stands in, outermost first
unfoldable pub number_name : ℕ → List ℕ → List ℕ
number_name number rounds = decimal number ++ flat_map round_text rounds

-- what a line is of, if its shown name says that
unfoldable pub kind_of : List ℕ → List ℕ → List (List ℕ)
kind_of name shown =
    cond (is_empty (made shown []) || bytes_eq (made shown []) name) [] (made shown [] ∷ [])
