-- The formats of answers, and how many races they show.
use Rattle.std.specs.Prelude.{ℕ, Bool, true, false, List, [], ◌∷◌, Option, codes, find}
use Rattle.std.specs.Str.{bytes_eq}
use Rattle.msc_answer.specs.declared.tasks.Format.{Format}
use Rattle.msc_answer.specs.declared.tasks.Format.TheVariants as formats

-- the word for the format of an answer
abbrev pub format_word : Format → List ℕ
format_word formats.Text = codes "text"
format_word formats.Count = codes "count"
format_word formats.Lines = codes "lines"
format_word formats.Full = codes "full"

-- all forms
abbrev pub formats_all : List Format
formats_all = formats.Text ∷ formats.Count ∷ formats.Lines ∷ formats.Full ∷ []

-- the form of a word
unfoldable pub format_of_word : List ℕ → Option Format
format_of_word word = find (λ format. bytes_eq word (format_word format)) formats_all

-- whether a format is that of findings as people read them
abbrev pub is_full : Format → Bool
is_full formats.Text = false
is_full formats.Count = false
is_full formats.Lines = false
is_full formats.Full = true

-- how many races are listed and shown where no option says: more than any chart has
abbrev pub unlimited : ℕ
unlimited = 4294967295
