-- Only shown characters are shown.
use Rattle.std.proofs.Common.{◌≡◌, ℕ, ◌-◌, Bool, true, false, cond, List, [], ◌∷◌, ◌++◌, length, take, drop, Option, Some, None, refl}
use Rattle.std.proofs.lemmas.List.Elements.{All-append, All-cons, All-drop, All-from_recursion, All-nil, All-take, recursion_from_All}
use Rattle.std.specs.List.{AllByRecursion, cons_option, prefix_len, suffix_len}
use Rattle.ucd_category.proofs.Computing.{ucd_category}
use Rattle.msc_spoken.specs.declared.reading.Notation.TheVariants.{Mermaid, Plain}
use Rattle.msc_spoken.specs.Reading.{characters_of}
use Rattle.msc_spoken.specs.Showing.{is_filler, is_joiner, is_shown, is_visible, shown_characters, shown_for, shown_text}
use Rattle.msc_spoken.specs.Markup.{without_markup}
use Rattle.msc_spoken.specs.Speaking.{after_blanks, before_blanks, is_blank, is_left_out, is_quoted, last_blanks, single_blanks, spoken_text, unquoted}
use Rattle.msc_spoken.specs.Cutting.{columns_of, cut_text, fitting}
use Rattle.msc_spoken.specs.Laws.{AreShown, OnlyShownCharacters}
use Rattle.std.specs.Prelude.{codes, nat_le, ◌==◌}

-- these are shown: a blank, `?` and `.`
blank_shown : is_shown 32 ≡ true
unfolding is_shown is_visible is_filler ucd_category
blank_shown = refl

mark_shown : is_shown 63 ≡ true
unfolding is_shown is_visible is_filler ucd_category
mark_shown = refl

dot_shown : is_shown 46 ≡ true
unfolding is_shown is_visible is_filler ucd_category
dot_shown = refl

abbrev Shown : ℕ → Type 0
Shown c = is_shown c ≡ true

-- what is shown for a character is shown
shown_by : (itself joins tab : Bool) (c d : ℕ) → is_shown c ≡ itself → cond itself (Some c) (cond joins None (cond tab (Some 32) (Some 63))) ≡ Some d → Shown d
shown_by true joins tab c d is e = let same : c ≡ d = cc in rw (← same) is
shown_by false true tab c d is e = absurd cc
shown_by false false true c d is e = let same : 32 ≡ d = cc in rw (← same) blank_shown
shown_by false false false c d is e = let same : 63 ≡ d = cc in rw (← same) mark_shown

shown_one : (c d : ℕ) → shown_for c ≡ Some d → Shown d
unfolding shown_for
shown_one c d e = shown_by (is_shown c) (is_joiner c) (c == 9) c d refl e

shown_first : (o : Option ℕ) (ds : List ℕ) → ((d : ℕ) → o ≡ Some d → Shown d) → AllByRecursion Shown ds → AllByRecursion Shown (cons_option o ds)
shown_first None ds one rest = rest
shown_first (Some d) ds one rest = (one d refl, rest)

shown_each : (cs : List ℕ) → AllByRecursion Shown (shown_characters cs)
unfolding shown_characters
shown_each [] = tt
shown_each (c ∷ cs) = shown_first (shown_for c) (shown_characters cs) (shown_one c) (shown_each cs)

all_shown : (cs : List ℕ) → AreShown (shown_characters cs)
all_shown cs = All-from_recursion Shown (shown_characters cs) (shown_each cs)

-- the same of parts of what is shown
one_of_two : (b : Bool) (xs ys : List ℕ) → AreShown xs → AreShown ys → AreShown (cond b xs ys)
one_of_two true xs ys first second = first
one_of_two false xs ys first second = second

last_shown : (cs : List ℕ) → AllByRecursion Shown cs → AreShown (last_blanks cs)
unfolding last_blanks
last_shown [] all = All-nil Shown
last_shown (c ∷ cs) all =
    let rest = last_shown cs all.1 in
    one_of_two (is_left_out (c ∷ cs)) (last_blanks cs) (c ∷ last_blanks cs) rest (All-cons Shown c (last_blanks cs) all.0 rest)

single_shown : (cs : List ℕ) → AreShown cs → AreShown (single_blanks cs)
unfolding single_blanks
single_shown cs all =
    last_shown (after_blanks cs) (recursion_from_All Shown (after_blanks cs) (All-drop Shown (prefix_len is_blank cs) cs all))

unquoted_shown : (cs : List ℕ) → AreShown cs → AreShown (unquoted cs)
unfolding unquoted
unquoted_shown cs all =
    one_of_two (is_quoted cs) (take (length cs - 2) (drop 1 cs)) cs (All-take Shown (length cs - 2) (drop 1 cs) (All-drop Shown 1 cs all)) all

dots_shown : AreShown (codes "...")
dots_shown = All-from_recursion Shown (codes "...") (dot_shown, (dot_shown, (dot_shown, tt)))

cut_shown : (cs : List ℕ) → AreShown cs → AreShown (cut_text cs)
unfolding cut_text
cut_shown cs all =
    let front = take (fitting 40 cs) cs in
    let front_shown = All-take Shown (length front - suffix_len is_blank front) front (All-take Shown (fitting 40 cs) cs all) in
    one_of_two (nat_le (columns_of cs) 40) cs (before_blanks front ++ codes "...") all (All-append Shown (before_blanks front) (codes "...") front_shown dots_shown)

text_shown : (bytes : List ℕ) → AreShown (shown_text bytes)
unfolding shown_text
text_shown bytes = all_shown (characters_of Plain bytes)

spoken_shown : (bytes : List ℕ) → AreShown (spoken_text bytes)
unfolding spoken_text
spoken_shown bytes =
    let characters = characters_of Mermaid (without_markup bytes) in
    single_shown (shown_characters characters) (all_shown characters)

pub only_shown : OnlyShownCharacters
only_shown = record {
  shown = text_shown;
  spoken = spoken_shown;
  unquoted = λ bytes. unquoted_shown (spoken_text bytes) (spoken_shown bytes);
  cut = cut_shown;
}
