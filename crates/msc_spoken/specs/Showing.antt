-- Which characters are shown. No other character reaches a terminal: no control, and no override of
-- the direction of writing.
use Rattle.std.specs.Prelude.{ℕ, Bool, cond, not, ◌&&◌, ◌||◌, ◌==◌, List, Option, None, Some}
use Rattle.std.specs.List.{filter_map}
use Rattle.ucd_category.specs.GeneralCategory.{general_category, general_category_eq}
use Rattle.ucd_category.specs.GeneralCategoryGroup.{in_group}
use Rattle.ucd_category.specs.declared.GeneralCategory.{GeneralCategory}
use Rattle.ucd_category.specs.declared.GeneralCategory.TheVariants.{SpaceSeparator}
use Rattle.ucd_category.specs.declared.GeneralCategoryGroup.TheVariants.{Letter, Mark, Number, Punctuation, Symbol}
use Rattle.msc_spoken.specs.declared.reading.Notation.TheVariants.{Plain}
use Rattle.msc_spoken.specs.Reading.{characters_of}

-- a general category (Unicode) of letters, marks, numbers, punctuation, symbols or blanks
unfoldable pub is_visible : GeneralCategory → Bool
is_visible g =
    in_group Letter g || in_group Mark g || in_group Number g || in_group Punctuation g || in_group Symbol g || general_category_eq g SpaceSeparator

-- a letter without a shape, which fills the place of one in Hangul
unfoldable pub is_filler : ℕ → Bool
is_filler c = c == 0x115F || c == 0x1160 || c == 0x3164 || c == 0xFFA0

-- a character that is shown as it is
unfoldable pub is_shown : ℕ → Bool
is_shown c = is_visible (general_category c) && not (is_filler c)

-- the two characters that only join or part their neighbours
unfoldable pub is_joiner : ℕ → Bool
is_joiner c = c == 0x200C || c == 0x200D

-- What is shown for a character: itself, nothing for a joiner, a blank for a tab, and else `?`.
unfoldable pub shown_for : ℕ → Option ℕ
shown_for c = cond (is_shown c) (Some c) (cond (is_joiner c) None (cond (c == 9) (Some 32) (Some 63)))

-- what is shown for characters
unfoldable pub shown_characters : List ℕ → List ℕ
shown_characters cs = filter_map shown_for cs

-- what is shown of a text
unfoldable pub shown_text : List ℕ → List ℕ
shown_text bytes = shown_characters (characters_of Plain bytes)
