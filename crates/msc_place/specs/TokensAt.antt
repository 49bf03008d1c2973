-- What stands at a place of a text that need have no draft.
use Rattle.std.specs.Prelude.{◌≡◌, ℕ, ◌<◌, ◌≤◌, List, [], ◌∷◌, ◌++◌, All, Option, None, Some}
use Rattle.msc_lexer.specs.declared.token.Token.{Token}
use Rattle.msc_place.specs.declared.tokens_at.TokenAt.{TokenAt}

-- the first of the tokens, which does not begin before the place, if there is one
abbrev pub IsFound : ℕ → List Token → Option Token → Type 0
IsFound at rest None = rest ≡ []
IsFound at rest (Some t) = (more : List Token) × (rest ≡ t ∷ more) × (at ≤ t.start)

-- the place behind the last of the tokens, if there is one
abbrev pub IsBehind : List Token → Option ℕ → Type 0
IsBehind front None = front ≡ []
IsBehind front (Some b) =
    (more : List Token) × (t : Token) × (front ≡ more ++ t ∷ []) × (b ≡ t.«end»)

-- The tokens `front` begin before the place: the first of the others, and the place behind the last
-- of these.
pub record IsTokenAt (tokens : List Token) (at : ℕ) (spot : TokenAt) : Type 0 where
  pub front : List Token
  pub rest : List Token
  pub whole : tokens ≡ front ++ rest
  pub before : All (λ t. t.start < at) front
  pub found : IsFound at rest spot.token
  pub behind : IsBehind front spot.behind
