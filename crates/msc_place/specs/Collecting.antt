-- How places are collected from the tokens of a text.
use Rattle.std.specs.Prelude.{ℕ, ◌+◌, Bool, true, false, List, [], ◌∷◌, Option, Some, None, if◌then◌else◌}
use Rattle.msc_lexer.specs.declared.word.Word.TheVariants as words
use Rattle.msc_lexer.specs.Lexemes.{Symbol, Reserved, Semicolon, Lexeme}
use Rattle.msc_place.specs.declared.places.EventPlace.{EventPlace}
use Rattle.msc_place.specs.declared.naming.Part.{Part}
use Rattle.msc_place.specs.declared.naming.Part.TheVariants.{Header, Sections}
use Rattle.msc_place.specs.Standing.{begins_event, begins_section, leads_decl}

-- of each token that passes a test what is said of the tokens from it on, up to the first that stops
unfoldable pub collected : {P : Type 0} → (Symbol → Bool) → (Symbol → Bool) → (List Lexeme → P)
    → List Lexeme → List P
collected leads stops of [] = []
collected leads stops of (l ∷ ls) =
    if stops l.symbol then [] else (if leads l.symbol then of (l ∷ ls) ∷ collected leads stops of ls else collected leads stops of ls)

-- nothing stops
abbrev pub never : Symbol → Bool
never symbol = false

-- `;`
abbrev pub is_semicolon : Symbol → Bool
is_semicolon Semicolon = true
is_semicolon symbol = false

-- `to` or `from`
abbrev pub leads_address : Symbol → Bool
leads_address (Reserved words.To) = true
leads_address (Reserved words.From) = true
leads_address symbol = false

-- where the first token stands, or 0
abbrev pub first_place : List Lexeme → ℕ
first_place [] = 0
first_place (l ∷ ls) = l.place

-- where the second token stands, or 0
abbrev pub second_place : List Lexeme → ℕ
second_place [] = 0
second_place (l ∷ ls) = first_place ls

-- the place behind the first `;`, or 0
unfoldable pub end_of : List Lexeme → ℕ
end_of [] = 0
end_of (l ∷ ls) = if is_semicolon l.symbol then l.place + 1 else end_of ls

-- the place behind the first `to` or `from`, where no `;` stands before it
unfoldable pub address_of : List Lexeme → Option ℕ
address_of [] = None
address_of (l ∷ ls) =
    if is_semicolon l.symbol then None else (if leads_address l.symbol then Some (first_place ls) else address_of ls)

-- what is read past the last place
abbrev pub no_place : EventPlace
no_place = record { start = 0; «end» = 0; address = None }

-- the place of the statement that these tokens begin with
abbrev pub event_place : List Lexeme → EventPlace
event_place ls = record { start = first_place ls; «end» = end_of ls; address = address_of ls }

-- the places of the statements of events
abbrev pub event_places : List Lexeme → List EventPlace
event_places ls = collected begins_event never event_place ls

-- what stands before a name of this part of a chart
abbrev pub leads_name : Part → Symbol → Bool
leads_name Header symbol = leads_decl symbol
leads_name Sections symbol = begins_section symbol

-- what stands behind this part of a chart
abbrev pub stops_part : Part → Symbol → Bool
stops_part Header symbol = begins_section symbol
stops_part Sections symbol = false

-- the places of the names of instances in this part of a chart
abbrev pub name_places : Part → List Lexeme → List ℕ
name_places part ls = collected (leads_name part) (stops_part part) second_place ls
