-- What people call the lines of a diagram.
use Rattle.std.specs.Prelude.{ℕ, Bool, cond, ◌==◌, List, [], ◌++◌, Option, None, Some, codes, count_by, encode_utf8_all, length, map, nat_lt}
use Rattle.std.specs.Option.{option_copied}
use Rattle.std.specs.Str.{bytes_eq}
use Rattle.msc_speech.specs.declared.names.LineName.{LineName}
use Rattle.msc_spoken.specs.Cutting.{cut_text}
use Rattle.msc_spoken.specs.Showing.{shown_text}
use Rattle.msc_spoken.specs.Speaking.{spoken_text, unquoted}

-- an identifier, and a shown name, as people read them
abbrev pub ident_said : List ℕ → List ℕ
ident_said ident = encode_utf8_all (cut_text (spoken_text ident))

abbrev pub shown_said : List ℕ → List ℕ
shown_said name = encode_utf8_all (cut_text (unquoted (spoken_text name)))

-- the shown name, or the identifier if nothing is left of it
abbrev pub or_ident : List ℕ → List ℕ → List ℕ
or_ident ident said = cond (length said == 0) (ident_said ident) said

abbrev pub named : List ℕ → Option (List ℕ) → List ℕ
named ident None = ident_said ident
named ident (Some name) = or_ident ident (shown_said name)

-- what a line is called, without regard to the others
abbrev pub said_of : LineName → List ℕ
said_of line = named line.ident.now (option_copied line.shown)

-- an identifier in parentheses
abbrev pub in_parentheses : List ℕ → List ℕ
in_parentheses ident = codes " (" ++ (encode_utf8_all (cut_text (shown_text ident)) ++ codes ")")

-- several of the names are this one
abbrev pub is_shared : List (List ℕ) → List ℕ → Bool
is_shared names name = nat_lt 1 (count_by (bytes_eq name) names)

-- what a line is called among lines that have these names without regard to each other
abbrev pub full_name : List (List ℕ) → LineName → List ℕ
full_name names line = said_of line ++ cond (is_shared names (said_of line)) (in_parentheses line.ident.now) []

-- what the lines of a diagram are called
abbrev pub line_names : List LineName → List (List ℕ)
line_names lines = map (full_name (map said_of lines)) lines
