-- The head of a mark: the architectures and the arrows that it is for.
use Rattle.std.specs.Prelude.{ℕ, ◌+◌, ◌-◌, Bool, not, cond, ◌&&◌, ◌==◌, List, [], ◌∷◌, Option, None, Some, codes, drop, length, nat_eq, nat_lt, option_map, slice_index, take}
use Rattle.std.specs.Char.{is_ascii_digit}
use Rattle.std.specs.List.{list_all, list_any, starts_with}
use Rattle.msc_chart.specs.Architectures.{link_kind_of_word}
use Rattle.msc_chart.specs.declared.queue.LinkKind.{LinkKind}
use Rattle.msc_arrow_marks.specs.declared.head.MarkHead.{MarkHead}
use Rattle.msc_arrow_marks.specs.declared.other.OtherArrow.{OtherArrow}
use Rattle.msc_arrow_marks.specs.declared.other.OtherArrow.TheVariants.{Label, Number}
use Rattle.msc_arrow_marks.specs.Parts.{is_quote, open_parts, pieces}

abbrev pub is_empty : List ℕ → Bool
is_empty text = length text == 0

-- what stands behind a blank, if one is in front
abbrev pub behind_blank : List ℕ → Option (List ℕ)
behind_blank [] = None
behind_blank (b ∷ bs) = cond (b == 32) (Some bs) None

-- a list with one more in front, if both are there
abbrev pub in_front : {A : Type 0} → Option A → Option (List A) → Option (List A)
in_front None others = None
in_front (Some first) others = option_map (λ them. first ∷ them) others

-- what all parts say, if each says something
unfoldable pub all_of : {A : Type 0} → (List ℕ → Option A) → List (List ℕ) → Option (List A)
all_of says [] = Some []
all_of says (part ∷ parts) = in_front (says part) (all_of says parts)

-- `ARCH`, by its usual kind, behind a blank
abbrev pub kind_at : Option (List ℕ) → Option LinkKind
kind_at None = None
kind_at (Some word) = link_kind_of_word word

abbrev pub kind_in : List ℕ → Option LinkKind
kind_in part = kind_at (behind_blank part)

-- the text between double quotes, if no quote is in it
abbrev pub inner : List ℕ → List ℕ
inner text = take (length text - 2) (drop 1 text)

abbrev pub is_label : List ℕ → Bool
is_label text = nat_lt 1 (length text) && slice_index text 0 == 34
    && slice_index text (length text - 1) == 34 && not (list_any is_quote (inner text))

abbrev pub label_in : List ℕ → Option (List ℕ)
label_in text = cond (is_label text) (Some (inner text)) None

abbrev pub is_number : List ℕ → Bool
is_number text = not (is_empty text) && list_all is_ascii_digit text

-- ID: a label between quotes, or a number
abbrev pub other_of : List ℕ → Option OtherArrow
other_of text = cond (is_label text) (Some (Label (inner text)))
    (cond (is_number text) (Some (Number text)) None)

abbrev pub other_at : Option (List ℕ) → Option OtherArrow
other_at None = None
other_at (Some text) = other_of text

-- ID behind a blank
abbrev pub other_in : List ℕ → Option OtherArrow
other_in part = other_at (behind_blank part)

-- ` in ARCH, ARCH..`, or nothing
unfoldable pub kinds_in : List ℕ → Option (List LinkKind)
kinds_in text = cond (is_empty text) (Some [])
    (cond (starts_with nat_eq text (codes " in")) (all_of kind_in (pieces 44 (drop 3 text))) None)

-- ` with ID; ID..`, or nothing
unfoldable pub others_in : List ℕ → Option (List OtherArrow)
others_in text = cond (is_empty text) (Some [])
    (cond (starts_with nat_eq text (codes " with")) (all_of other_in (open_parts 59 (drop 5 text))) None)

abbrev pub begins_with : List ℕ → Bool
begins_with text = starts_with nat_eq text (codes " with ")

-- how many bytes stand before the first ` with `, or all
unfoldable pub with_place : List ℕ → ℕ
with_place [] = 0
with_place (b ∷ bs) = cond (begins_with (b ∷ bs)) 0 (1 + with_place bs)

-- a head, if both parts are well written
abbrev pub head_by : Option (List LinkKind) → Option (List OtherArrow) → Option MarkHead
head_by None others = None
head_by (Some kinds) None = None
head_by (Some kinds) (Some others) = Some (record { kinds = kinds; others = others })

-- the head of a mark without its first two words
unfoldable pub head_of : List ℕ → Option MarkHead
head_of text = head_by (kinds_in (take (with_place text) text)) (others_in (drop (with_place text) text))
