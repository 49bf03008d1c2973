-- Texts between quotes.
use Rattle.std.specs.Prelude.{ℕ, Bool, cond, ◌==◌, List, ◌++◌, codes}
use Rattle.std.specs.List.{list_any}

abbrev pub is_quote : ℕ → Bool
is_quote byte = byte == 34

abbrev pub has_quote : List ℕ → Bool
has_quote text = list_any is_quote text

-- an apostrophe if the text has a double quote, else a double quote
abbrev pub quote_for : List ℕ → List ℕ
quote_for text = cond (has_quote text) (codes "'") (codes "\"")

abbrev pub quoted : List ℕ → List ℕ
quoted text = quote_for text ++ (text ++ quote_for text)
