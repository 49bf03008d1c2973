-- What the notes say where something else was expected.
use Rattle.std.specs.Prelude.{◌≡◌, ℕ, ◌==◌, if◌then◌else◌, List, [], ◌∷◌, ◌++◌, Option, Some, None}
use Rattle.msc_lexer.specs.declared.token.Token.{Token}
use Rattle.msc_lexer.specs.Lexing.{HasTokens}
use Rattle.msc_parser.specs.declared.fault.ParseFault.{ParseFault}
use Rattle.msc_parser.specs.declared.fault.ParseFault.TheVariants.{Expected}
use Rattle.msc_place.specs.declared.tokens_at.TokenAt.{TokenAt}
use Rattle.msc_place.specs.Positions.{IsPosition}
use Rattle.msc_place.specs.TokensAt.{IsTokenAt}
use Rattle.msc_notes.specs.declared.note.Note.{Note}
use Rattle.msc_notes.specs.declared.note.Tag.TheVariants as tags

-- the place behind a token, where that is on another line than the fault
abbrev pub IsOnAnotherLine : List ℕ → ℕ → Option ℕ → Option ℕ → Type 0
IsOnAnotherLine text at None o = o ≡ None
IsOnAnotherLine text at (Some b) o =
    (l : ℕ) × (c : ℕ) × (m : ℕ) × (d : ℕ) × IsPosition text b l c × IsPosition text at m d × (o ≡ (if l == m then None else Some b))

-- the place right behind the last byte of the token before the fault, where there is one and that
-- is on another line than the fault
pub record IsBehind (text : List ℕ) (at : ℕ) (o : Option ℕ) : Type 0 where
  pub tokens : List Token
  pub spot : TokenAt
  pub have : HasTokens text tokens
  pub is_spot : IsTokenAt tokens at spot
  pub chosen : IsOnAnotherLine text at spot.behind o

-- `found ..`
abbrev pub found_note : List ℕ → Note
found_note text = record { tag = tags.Found; text = text; place = None; pair = None }

-- `behind PLACE`
abbrev pub behind_notes : Option ℕ → List Note
behind_notes None = []
behind_notes (Some at) = record { tag = tags.Behind; text = []; place = Some at; pair = None } ∷ []

-- `hint ..`
abbrev pub hint_notes : Option (List ℕ) → List Note
hint_notes None = []
hint_notes (Some text) = record { tag = tags.Hint; text = text; place = None; pair = None } ∷ []

-- what was found, what stands before it on another line, and a hint
abbrev pub expected_notes : List ℕ → Option ℕ → Option (List ℕ) → List Note
expected_notes found behind hint = found_note found ∷ (behind_notes behind ++ hint_notes hint)

-- the notes where something else was expected at a place
abbrev pub AreExpected : List ℕ → ℕ → List Note → Type 0
AreExpected text at notes =
    (found : List ℕ) × (behind : Option ℕ) × (hint : Option (List ℕ)) × IsBehind text at behind × (notes ≡ expected_notes found behind hint)

-- what is said of the notes of a fault of a text
abbrev pub AreParseNotes : List ℕ → ParseFault → List Note → Type 0
AreParseNotes text (Expected at what) notes = AreExpected text at notes
AreParseNotes text fault notes = Unit {0}
