-- How a name or label of a Mermaid diagram reads for people.
use Rattle.std.specs.Prelude.{ℕ, ◌-◌, Bool, true, false, cond, ◌&&◌, ◌==◌, nat_lt, List, [], ◌∷◌, length, take, drop, slice_index}
use Rattle.std.specs.List.{prefix_len, suffix_len}
use Rattle.msc_spoken.specs.declared.reading.Notation.TheVariants.{Mermaid}
use Rattle.msc_spoken.specs.Reading.{characters_of}
use Rattle.msc_spoken.specs.Showing.{shown_characters}
use Rattle.msc_spoken.specs.Markup.{without_markup}

abbrev pub is_blank : ℕ → Bool
is_blank c = c == 32

-- the text without the blanks at its beginning, and without those at its end
abbrev pub after_blanks : List ℕ → List ℕ
after_blanks cs = drop (prefix_len is_blank cs) cs

abbrev pub before_blanks : List ℕ → List ℕ
before_blanks cs = take (length cs - suffix_len is_blank cs) cs

-- a blank or the end of the text is here
abbrev pub ends_word : List ℕ → Bool
ends_word [] = true
ends_word (c ∷ cs) = is_blank c

-- the first character is a blank before another blank, or before the end of the text
abbrev pub is_left_out : List ℕ → Bool
is_left_out [] = false
is_left_out (c ∷ cs) = is_blank c && ends_word cs

-- of each run of blanks the last one, and none at the end
unfoldable pub last_blanks : List ℕ → List ℕ
last_blanks [] = []
last_blanks (c ∷ cs) = cond (is_left_out (c ∷ cs)) (last_blanks cs) (c ∷ last_blanks cs)

-- the words of a text with one blank between two of them
unfoldable pub single_blanks : List ℕ → List ℕ
single_blanks cs = last_blanks (after_blanks cs)

-- a name or label as people read it
unfoldable pub spoken_text : List ℕ → List ℕ
spoken_text bytes = single_blanks (shown_characters (characters_of Mermaid (without_markup bytes)))

-- double quotes around something
abbrev pub is_quoted : List ℕ → Bool
is_quoted cs = nat_lt 2 (length cs) && slice_index cs 0 == 34 && slice_index cs (length cs - 1) == 34

-- a text without one pair of double quotes around all of it
unfoldable pub unquoted : List ℕ → List ℕ
unquoted cs = cond (is_quoted cs) (take (length cs - 2) (drop 1 cs)) cs
