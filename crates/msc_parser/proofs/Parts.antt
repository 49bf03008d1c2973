-- Parts that were read are put together.
use Rattle.std.proofs.Common.{◌≡◌, ℕ, List, [], ◌∷◌, ◌++◌, Some, refl, sym, subst, ◌∙◌, arith}
use Rattle.msc_lexer.specs.declared.token.Kind.TheVariants as kinds
use Rattle.msc_lexer.specs.declared.token.Token.{Token}
use Rattle.msc_lexer.specs.Lexemes.{Symbol, Named, Comma, Lexeme, lexemes}
use Rattle.msc_parser.specs.declared.fault.ParseFault.{ParseFault}
use Rattle.msc_parser.specs.Forms.{IsNamed, AreMany, IsLedBy, AreListed}
use Rattle.msc_parser.specs.Places.{GrammarPlace, next}
use Rattle.msc_parser.specs.Reading.{first_kind, Stops, DidTake, DidRead, AreUpTo}
use Rattle.msc_parser.proofs.Steps.{others, took, leads_on, Stops-back}

-- a name is a part
pub named_read : (text : List ℕ) (p q : GrammarPlace) (a b : List Token) (n : List ℕ)
    → DidTake text (Named n) a b → next p (Named n) ≡ Some q → DidRead text IsNamed p q a b n
named_read text p q a b n h step =
    record { part = h.part; within = h.within; shorter = omega (arith, h.shorter); leads = leads_on text p q (Named n) a b h step }

-- ---- many parts

-- one more part behind many
pub AreMany-push : {X : Type 0} (IsPart : List Lexeme → X → List Lexeme → Type 0)
    (before : List Lexeme)
    (xs : List X) (mid : List Lexeme) (x : X) (after : List Lexeme)
    → AreMany IsPart before xs mid → IsPart mid x after → AreMany IsPart before (xs ++ x ∷ []) after
AreMany-push IsPart before [] mid x after h one =
    (after, subst (λ (b : List Lexeme). IsPart b x after) (sym h) one, refl)
AreMany-push IsPart before (y ∷ ys) mid x after h one =
    (h.0, h.1, AreMany-push IsPart h.0 ys mid x after h.2 one)

-- one more part behind a comma
AreListed-push : {X : Type 0} (IsPart : List Lexeme → X → List Lexeme → Type 0)
    (before : List Lexeme)
    (xs : List X) (mid : List Lexeme) (x : X) (after : List Lexeme)
    → AreListed IsPart before xs mid → IsLedBy Comma IsPart mid x after
    → AreListed IsPart before (xs ++ x ∷ []) after
AreListed-push IsPart before [] mid x after h one = absurd h
AreListed-push IsPart before (y ∷ ys) mid x after h one =
    (h.0, h.1, AreMany-push (IsLedBy Comma IsPart) h.0 ys mid x after h.2 one)

module _ {X : Type 0} (text : List ℕ) (IsPart : List Lexeme → X → List Lexeme → Type 0) where
  -- a token and then a part
  pub behind_read : (p r q : GrammarPlace) {s : Symbol} {a b c : List Token} {x : X}
      → DidTake text s a b → next p s ≡ Some r → DidRead text IsPart r q b c x
      → DidRead text (IsLedBy s IsPart) p q a c x
  behind_read p r q {s} {a} {b} h step rest = record {
    part = (lexemes text b, h.part, rest.part);
    within = rest.within;
    shorter = omega (arith, h.shorter, rest.shorter);
    leads = leads_on text p r s a b h step ∙ rest.leads;
  }

  -- one more part at the same place
  pub many_more : (p : GrammarPlace) {a b c : List Token} {xs : List X} {x : X}
      → DidRead text (AreMany IsPart) p p a b xs → DidRead text IsPart p p b c x
      → DidRead text (AreMany IsPart) p p a c (xs ++ x ∷ [])
  many_more p {a} {b} {c} {xs} {x} h one = record {
    part = AreMany-push IsPart (lexemes text a) xs (lexemes text b) x (lexemes text c) h.part one.part;
    within = one.within;
    shorter = omega (arith, h.shorter, one.shorter);
    leads = h.leads ∙ one.leads;
  }

  -- many parts, and the token behind them
  pub many_up_to : (p q : GrammarPlace) {s : Symbol} {a b c : List Token} {xs : List X}
      → DidRead text (AreMany IsPart) p p a b xs → DidTake text s b c → next p s ≡ Some q
      → DidRead text (AreUpTo s IsPart) p q a c xs
  many_up_to p q {s} {a} {b} {c} h last step = record {
    part = (lexemes text b, h.part, last.part);
    within = last.within;
    shorter = omega (arith, h.shorter, last.shorter);
    leads = h.leads ∙ leads_on text p q s b c last step;
  }

  -- ---- parts with commas between them

  -- the first of them
  pub listed_first : (p q : GrammarPlace) {a b : List Token} {x : X} {xs : List X}
      → DidRead text IsPart p q a b x → xs ≡ [] ++ x ∷ []
      → DidRead text (AreListed IsPart) p q a b xs
  listed_first p q {b = b} h pushed =
      rw pushed (record { part = (lexemes text b, h.part, refl); within = h.within; shorter = h.shorter; leads = h.leads })

  -- one more, behind a comma
  pub listed_more : (p q r : GrammarPlace) {a b c : List Token} {xs : List X} {x : X}
      → DidRead text (AreListed IsPart) p q a b xs → first_kind b ≡ Some kinds.Comma
      → next q Comma ≡ Some r → DidRead text IsPart r q (others b) c x
      → DidRead text (AreListed IsPart) p q a c (xs ++ x ∷ [])
  listed_more p q r {a} {b} {c} {xs} {x} h comma step one =
      let more = behind_read q r q (took text kinds.Comma b h.within comma).1 step one in
      record {
        part = AreListed-push IsPart (lexemes text a) xs (lexemes text b) x (lexemes text c) h.part more.part;
        within = more.within;
        shorter = omega (arith, h.shorter, more.shorter);
        leads = h.leads ∙ more.leads;
      }

  -- a fault behind a comma is a fault of the whole
  pub listed_stops : (p q r : GrammarPlace) {a b : List Token} {xs : List X} (e : ParseFault)
      → DidRead text (AreListed IsPart) p q a b xs → first_kind b ≡ Some kinds.Comma
      → next q Comma ≡ Some r → Stops text r (others b) e → Stops text p a e
  listed_stops p q r {a} {b} e h comma step stop =
      let took_comma = (took text kinds.Comma b h.within comma).1 in
      Stops-back text p r a (others b) e (h.leads ∙ leads_on text q r Comma b (others b) took_comma step) stop

-- ---- what was pushed

-- one element was pushed
pub pushed_one : {X : Type 0} (a b : List X) (x : X) → a ≡ [] → b ≡ a ++ x ∷ [] → b ≡ x ∷ []
pushed_one a b x none push = push ∙ rw none refl

-- a second element was pushed
pub pushed_two : {X : Type 0} (a b : List X) (x y : X) → a ≡ x ∷ [] → b ≡ a ++ y ∷ []
    → b ≡ x ∷ y ∷ []
pushed_two a b x y one push = push ∙ rw one refl
