-- The boxes of actions: how their texts are laid into lines, and how much room they take.
use Rattle.std.specs.Prelude.{ℕ, ◌+◌, ◌*◌, Bool, true, false, ◌||◌, not, cond, max, List, [], ◌∷◌, ◌++◌, codes, fold, get_or, length, nat_eq, nat_lt, take}
use Rattle.msc_svg.specs.declared.action.ActionBox.{ActionBox}
use Rattle.msc_svg.specs.declared.action.WordPart.{WordPart}

-- a part of a word that ends here, if there is one
abbrev pub part_of : List ℕ → Bool → List WordPart
part_of held later =
    cond (nat_eq (length held) 0) [] (record { text = held; later = later } ∷ [])

-- the parts of words of a text behind the beginning of a part, which is a later one of its word or not:
-- a word ends at a space, and a part has at most 24 characters
abbrev pub parts_after : List ℕ → Bool → List ℕ → List WordPart
parts_after held later [] = part_of held later
parts_after held later (b ∷ bs) =
    cond (nat_eq b 32) (part_of held later ++ parts_after [] false bs)
    (cond (nat_eq (length held) 24) (part_of held later ++ parts_after (b ∷ []) true bs)
    (parts_after (held ++ b ∷ []) later bs))

-- the parts of the words of a text
abbrev pub parts_of : List ℕ → List WordPart
parts_of text = parts_after [] false text

-- a part goes behind the line so far with a space, where it is no later part of its word
abbrev pub fits_behind : List ℕ → WordPart → Bool
fits_behind line part = not (part.later || nat_lt 24 (length line + (length part.text + 1)))

-- Full lines and the line so far, with one more part: it begins the line where that is empty, it goes
-- behind it where it fits, else it begins the next line.
abbrev pub with_part : List (List ℕ) × List ℕ → WordPart → List (List ℕ) × List ℕ
with_part s part =
    cond (nat_eq (length s.1) 0) (s.0, part.text)
    (cond (fits_behind s.1 part) (s.0, (s.1 ++ codes " ") ++ part.text) (s.0 ++ s.1 ∷ [], part.text))

-- all lines
abbrev pub ended : List (List ℕ) × List ℕ → List (List ℕ)
ended s = s.0 ++ s.1 ∷ []

-- the lines of a text
abbrev pub filled : List ℕ → List (List ℕ)
filled text = ended (fold with_part ([], []) (parts_of text))

-- the last line that is shown where there are more
abbrev pub cut_line : List ℕ → List ℕ
cut_line line = take 22 line ++ codes ".."

-- the first four lines
abbrev pub first_lines : List (List ℕ) → List (List ℕ)
first_lines lines = cond (nat_lt 4 (length lines)) (take 3 lines ++ cut_line (get_or lines 3 []) ∷ []) lines

-- the length of the longest line
abbrev pub longest : List (List ℕ) → ℕ
longest lines = fold (λ most line. max most (length line)) 0 lines

-- the box of an action: its lines, how far it reaches from its axis, and how far up and down
abbrev pub box_of_lines : List (List ℕ) → ActionBox
box_of_lines lines =
    record { lines = lines; reach = 4 * longest lines + 12; up = 8 * length lines + 4 }

-- the box of an action with this text
abbrev pub action_box : List ℕ → ActionBox
action_box text = box_of_lines (first_lines (filled text))
