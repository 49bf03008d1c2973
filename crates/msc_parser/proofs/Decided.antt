-- Lists of parts that begin and end in one way begin and end in one way.
use Rattle.std.proofs.Common.{◌≡◌, List, [], ◌∷◌, refl, sym, subst, ◌∙◌}
use Rattle.msc_lexer.specs.Lexemes.{Symbol, Comma, Lexeme}
use Rattle.msc_parser.specs.Forms.{AreMany, IsLedBy, AreListed}
use Rattle.msc_parser.proofs.Tokens.{token_same}

-- where what follows stops the part, its value and what follows are determined
abbrev pub Decided : {X : Type 0} → (List Lexeme → Type 0)
    → (List Lexeme → X → List Lexeme → Type 0) → Type 0
Decided {X} Stop IsPart =
    (b a c : List Lexeme) (x y : X) → IsPart b x a → IsPart b y c → Stop a → Stop c → (x ≡ y) × (a ≡ c)

-- parts that may follow one another: each begins with what stops the one before, and not with what
-- ends them all
pub record IsSequence {X : Type 0} (IsPart : List Lexeme → X → List Lexeme → Type 0) (Stop Ends : List Lexeme → Type 0) : Type 0 where
  pub one : Decided Stop IsPart
  pub goes_on : (b a : List Lexeme) (x : X) → IsPart b x a → Ends b → ⊥
  pub begins : (b a : List Lexeme) (x : X) → IsPart b x a → Stop b
  pub ends : (b : List Lexeme) → Ends b → Stop b

-- equal heads and equal tails make equal lists
pair_same : {X : Type 0} {x y : X} {xs ys : List X} → x ≡ y → xs ≡ ys → x ∷ xs ≡ y ∷ ys
pair_same e f = cc

module _ {X : Type 0} (IsPart : List Lexeme → X → List Lexeme → Type 0) (Stop Ends : List Lexeme → Type 0)
    (seq : IsSequence IsPart Stop Ends) where
  -- what follows a part of many stops it
  pub stopped : (xs : List X) (b a : List Lexeme) → AreMany IsPart b xs a → Ends a → Stop b
  stopped [] b a h ends = subst Stop (sym h) (seq.ends a ends)
  stopped (x ∷ xs) b a h ends = seq.begins b h.0 x h.1

  -- many parts up to what ends them are determined
  pub many_same : (xs ys : List X) (b a c : List Lexeme) → AreMany IsPart b xs a
      → AreMany IsPart b ys c
      → Ends a → Ends c → (xs ≡ ys) × (a ≡ c)
  many_same [] [] b a c h g ends_a ends_c = (refl, sym h ∙ g)
  many_same [] (y ∷ ys) b a c h g ends_a ends_c =
      absurd (seq.goes_on b g.0 y g.1 (subst Ends (sym h) ends_a))
  many_same (x ∷ xs) [] b a c h g ends_a ends_c =
      absurd (seq.goes_on b h.0 x h.1 (subst Ends (sym g) ends_c))
  many_same (x ∷ xs) (y ∷ ys) b a c h g ends_a ends_c =
      let stop_a = stopped xs h.0 a h.2 ends_a in
      let first = seq.one b h.0 g.0 x y h.1 g.1 stop_a (stopped ys g.0 c g.2 ends_c) in
      let more = subst (λ (m : List Lexeme). AreMany IsPart m xs a) first.1 h.2 in
      let others = many_same xs ys g.0 a c more g.2 ends_a ends_c in
      (pair_same first.0 others.0, others.1)

-- a part behind a token is determined where the part is
pub behind_same : {X : Type 0} (s : Symbol) (IsPart : List Lexeme → X → List Lexeme → Type 0)
    (Stop : List Lexeme → Type 0) → Decided Stop IsPart → Decided Stop (IsLedBy s IsPart)
behind_same s IsPart Stop one b a c x y h g stop_a stop_c =
    let e = (token_same s s b h.0 g.0 h.1 g.1).1 in
    one g.0 a c x y (subst (λ (m : List Lexeme). IsPart m x a) e h.2) g.2 stop_a stop_c

-- parts with commas between them are determined
pub listed_same : {X : Type 0} (IsPart : List Lexeme → X → List Lexeme → Type 0)
    (Stop Ends : List Lexeme → Type 0) → Decided Stop IsPart
    → IsSequence (IsLedBy Comma IsPart) Stop Ends → Decided Ends (AreListed IsPart)
listed_same IsPart Stop Ends one seq b a c [] ys h g ends_a ends_c = absurd h
listed_same IsPart Stop Ends one seq b a c xs [] h g ends_a ends_c = absurd g
listed_same IsPart Stop Ends one seq b a c (x ∷ xs) (y ∷ ys) h g ends_a ends_c =
    let first = one b h.0 g.0 x y h.1 g.1 (stopped (IsLedBy Comma IsPart) Stop Ends seq xs h.0 a h.2 ends_a) (stopped (IsLedBy Comma IsPart) Stop Ends seq ys g.0 c g.2 ends_c) in
    let others = many_same (IsLedBy Comma IsPart) Stop Ends seq xs ys g.0 a c (subst (λ (m : List Lexeme). AreMany (IsLedBy Comma IsPart) m xs a) first.1 h.2) g.2 ends_a ends_c in
    (pair_same first.0 others.0, others.1)
