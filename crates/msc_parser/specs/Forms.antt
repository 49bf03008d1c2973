-- The forms that the grammar is made of. `X before x after` says that the tokens `before` begin with
-- the part x, and that the tokens `after` follow it.
use Rattle.std.specs.Prelude.{◌≡◌, ℕ, List, [], ◌∷◌}
use Rattle.msc_lexer.specs.Lexemes.{Symbol, Named, Comma, Lexeme}

-- one token
abbrev pub IsToken : Symbol → List Lexeme → List Lexeme → Type 0
IsToken s before after = (place : ℕ) × (before ≡ record { symbol = s; place = place } ∷ after)

-- a name
abbrev pub IsNamed : List Lexeme → List ℕ → List Lexeme → Type 0
IsNamed before name after = IsToken (Named name) before after

-- any number of parts, one after the other
abbrev pub AreMany : {X : Type 0} → (List Lexeme → X → List Lexeme → Type 0) → List Lexeme → List X
    → List Lexeme → Type 0
AreMany IsPart before [] after = before ≡ after
AreMany IsPart before (x ∷ xs) after =
    (more : List Lexeme) × IsPart before x more × AreMany IsPart more xs after

-- a token and then a part
abbrev pub IsLedBy : {X : Type 0} → Symbol → (List Lexeme → X → List Lexeme → Type 0) → List Lexeme
    → X → List Lexeme → Type 0
IsLedBy s IsPart before x after = (part : List Lexeme) × IsToken s before part × IsPart part x after

-- a part, and any number of further ones, each behind a comma
abbrev pub AreListed : {X : Type 0} → (List Lexeme → X → List Lexeme → Type 0) → List Lexeme
    → List X → List Lexeme → Type 0
AreListed IsPart before [] after = ⊥
AreListed IsPart before (x ∷ xs) after =
    (more : List Lexeme) × IsPart before x more × AreMany (IsLedBy Comma IsPart) more xs after
