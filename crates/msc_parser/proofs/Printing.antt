-- Printed tokens are read as those tokens: words, names, texts and marks, with blanks between them.
use Rattle.std.proofs.Common.{◌≡◌, ◌≢◌, ℕ, ◌+◌, false, nat_eq, List, [], ◌∷◌, ◌++◌, length, Some, None, refl, sym, subst, append_assoc}
use Rattle.std.specs.List.{flat_map, AllByRecursion}
use Rattle.msc_lexer.specs.declared.word.Word.{Word}
use Rattle.msc_lexer.specs.declared.token.Kind.{Kind}
use Rattle.msc_lexer.specs.declared.token.Kind.TheVariants as kinds
use Rattle.msc_lexer.specs.Bytes.{is_run_byte, begins}
use Rattle.msc_lexer.specs.Words.{spelling}
use Rattle.msc_lexer.specs.Pieces.{Piece, Blank, Run, Mark, quoted, text_of, AreCut}
use Rattle.msc_lexer.specs.Pieces as pieces
use Rattle.msc_lexer.specs.Lexemes.{Symbol, Reserved, Quoted, Semicolon, Comma, Colon, LeftParen, RightParen, Lexeme, IsName, lexeme_at, lexemes_of, PrintsPieces}
use Rattle.msc_parser.specs.Forms.{IsToken, IsNamed, AreMany, IsLedBy}
use Rattle.msc_parser.specs.Canonical.{word, space}

-- no letter, digit or underscore stands first
abbrev pub StopsRun : List Piece → Type 0
StopsRun rest = begins is_run_byte (text_of rest ++ []) ≡ false

-- The pieces `ps` are the part x and the pieces `rest` behind it: so they are read, wherever they
-- begin, and they are cut where the rest is.
pub record IsPrintedAs {X : Type 0} (IsPart : List Lexeme → X → List Lexeme → Type 0) (x : X) (ps rest : List Piece) : Type 0 where
  pub reads : (at : ℕ) → (to : ℕ) × IsPart (lexemes_of at ps) x (lexemes_of to rest)
  pub cut : AreCut rest [] → AreCut ps []

-- a token and no value
abbrev pub IsOnly : Symbol → List Lexeme → Unit {0} → List Lexeme → Type 0
IsOnly s before x after = IsToken s before after

-- a space before a part is not seen
pub after_space : {X : Type 0} (IsPart : List Lexeme → X → List Lexeme → Type 0) (x : X)
    (ps rest : List Piece) → IsPrintedAs IsPart x ps rest → IsPrintedAs IsPart x (space ∷ ps) rest
unfolding lexemes_of lexeme_at
after_space IsPart x ps rest h =
    record { reads = λ at. h.reads (at + 1); cut = λ c. (refl, h.cut c) }

-- the same pieces
pub same_pieces : {X : Type 0} (IsPart : List Lexeme → X → List Lexeme → Type 0) (x : X)
    (ps qs rest : List Piece) → ps ≡ qs → IsPrintedAs IsPart x qs rest
    → IsPrintedAs IsPart x ps rest
same_pieces IsPart x ps qs rest e h =
    subst (λ (rs : List Piece). IsPrintedAs IsPart x rs rest) (sym e) h

-- ---- marks

-- a mark is a token
mark_fits : (k : Kind) → Some k ≢ None
mark_fits k e = cc

-- `,`
pub a_comma : (rest : List Piece) → IsPrintedAs (IsOnly Comma) tt (Mark 44 ∷ rest) rest
unfolding lexemes_of lexeme_at
a_comma rest = record { reads = λ at. (at + 1, (at, refl)); cut = λ c. (mark_fits kinds.Comma, c) }

-- `:`
pub a_colon : (rest : List Piece) → IsPrintedAs (IsOnly Colon) tt (Mark 58 ∷ rest) rest
unfolding lexemes_of lexeme_at
a_colon rest = record { reads = λ at. (at + 1, (at, refl)); cut = λ c. (mark_fits kinds.Colon, c) }

-- `(`
pub a_left_paren : (rest : List Piece) → IsPrintedAs (IsOnly LeftParen) tt (Mark 40 ∷ rest) rest
unfolding lexemes_of lexeme_at
a_left_paren rest =
    record { reads = λ at. (at + 1, (at, refl)); cut = λ c. (mark_fits kinds.LeftParen, c) }

-- `)`
pub a_right_paren : (rest : List Piece) → IsPrintedAs (IsOnly RightParen) tt (Mark 41 ∷ rest) rest
unfolding lexemes_of lexeme_at
a_right_paren rest =
    record { reads = λ at. (at + 1, (at, refl)); cut = λ c. (mark_fits kinds.RightParen, c) }

-- `;` and the end of the line
pub a_line_end : (rest : List Piece)
    → IsPrintedAs (IsOnly Semicolon) tt (Mark 59 ∷ Blank 10 ∷ rest) rest
unfolding lexemes_of lexeme_at
a_line_end rest =
    record { reads = λ at. (at + 1 + 1, (at, refl)); cut = λ c. (mark_fits kinds.Semicolon, (refl, c)) }

-- ---- words, names and what is behind a token

module _ (laws : PrintsPieces) where
  -- a reserved word, where no letter, digit or underscore follows
  pub a_word : (w : Word) (rest : List Piece) → StopsRun rest
      → IsPrintedAs (IsOnly (Reserved w)) tt (word w ∷ rest) rest
  unfolding lexemes_of lexeme_at
  a_word w rest stop =
      record { reads = λ at. (at + length (spelling w), (at, rw (laws.words w) refl)); cut = λ c. (laws.word_fits w (text_of rest ++ []) stop, c) }

  -- a name, where no letter, digit or underscore follows
  pub a_name : (n : List ℕ) (rest : List Piece) → IsName n → StopsRun rest
      → IsPrintedAs IsNamed n (Run n ∷ rest) rest
  unfolding lexemes_of lexeme_at
  a_name n rest named stop =
      record { reads = λ at. (at + length n, (at, rw named.free refl)); cut = λ c. (laws.name_fits n (text_of rest ++ []) named stop, c) }

  -- a text, where no apostrophe follows
  pub a_text : (l : List ℕ) (rest : List Piece) → begins (nat_eq 39) (text_of rest ++ []) ≡ false
      → IsPrintedAs (IsOnly (Quoted l)) tt (pieces.Quoted l ∷ rest) rest
  unfolding lexemes_of lexeme_at
  a_text l rest stop =
      record { reads = λ at. (at + length (quoted l), (at, rw (laws.texts l) refl)); cut = λ c. (stop, c) }

-- a token and then a part
pub a_behind : {X : Type 0} (s : Symbol) (IsPart : List Lexeme → X → List Lexeme → Type 0) (x : X)
    (ps mid rest : List Piece) → IsPrintedAs (IsOnly s) tt ps mid → IsPrintedAs IsPart x mid rest
    → IsPrintedAs (IsLedBy s IsPart) x ps rest
a_behind s IsPart x ps mid rest token part = record {
  reads = λ at. let t = token.reads at in let p = part.reads t.0 in (p.0, (lexemes_of t.0 mid, t.1, p.1));
  cut = λ c. token.cut (part.cut c);
}

-- ---- many parts

-- Each part is printed before what may follow it, and begins as what may follow.
pub record PrintsEach {X : Type 0} (IsPart : List Lexeme → X → List Lexeme → Type 0) (f : X → List Piece) (P : X → Type 0) (Follows : List Piece → Type 0) : Type 0 where
  pub one : (x : X) (rest : List Piece) → P x → Follows rest
      → IsPrintedAs IsPart x (f x ++ rest) rest
  pub follows : (x : X) (rest : List Piece) → Follows (f x ++ rest)

-- what follows a part of many
pub many_follow : {X : Type 0} (IsPart : List Lexeme → X → List Lexeme → Type 0)
    (f : X → List Piece) (P : X → Type 0) (Follows : List Piece → Type 0)
    → PrintsEach IsPart f P Follows → (xs : List X) (rest : List Piece) → Follows rest
    → Follows (flat_map f xs ++ rest)
many_follow IsPart f P Follows each [] rest follows = follows
many_follow IsPart f P Follows each (x ∷ xs) rest follows =
    subst Follows (sym (append_assoc (f x) (flat_map f xs) rest)) (each.follows x (flat_map f xs ++ rest))

-- many parts, one after the other
pub a_many : {X : Type 0} (IsPart : List Lexeme → X → List Lexeme → Type 0) (f : X → List Piece)
    (P : X → Type 0) (Follows : List Piece → Type 0) → PrintsEach IsPart f P Follows
    → (xs : List X) (rest : List Piece) → AllByRecursion P xs → Follows rest
    → IsPrintedAs (AreMany IsPart) xs (flat_map f xs ++ rest) rest
a_many IsPart f P Follows each [] rest named follows =
    record { reads = λ at. (at, refl); cut = λ c. c }
a_many IsPart f P Follows each (x ∷ xs) rest named follows =
    let more = flat_map f xs ++ rest in
    let one = each.one x more named.0 (many_follow IsPart f P Follows each xs rest follows) in
    let others = a_many IsPart f P Follows each xs rest named.1 follows in
    same_pieces (AreMany IsPart) (x ∷ xs) ((f x ++ flat_map f xs) ++ rest) (f x ++ more) rest (append_assoc (f x) (flat_map f xs) rest) (record {
      reads = λ at. let t = one.reads at in let p = others.reads t.0 in (p.0, (lexemes_of t.0 more, t.1, p.1));
      cut = λ c. one.cut (others.cut c);
    })
