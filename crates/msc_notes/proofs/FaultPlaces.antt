-- Where the first fault of a text stands.
use Rattle.std.proofs.Common.{◌≡◌, ℕ, ◌≤◌, Bool, true, false, List, [], ◌∷◌, ◌++◌, length, Some, IfSome, refl, sym, ap, subst, arith, length-append}
use Rattle.msc_lexer.specs.declared.fault.LexFault.{LexFault}
use Rattle.msc_lexer.specs.declared.fault.LexFault.TheVariants as lexical
use Rattle.msc_lexer.specs.declared.word.Word.{Word}
use Rattle.msc_lexer.specs.Pieces.{text_of}
use Rattle.msc_lexer.specs.Lexemes.{Symbol, Reserved, Lexeme}
use Rattle.msc_lexer.specs.Lexing.{HasFault, IsFirstFlaw}
use Rattle.msc_lexer.proofs.Placed.{are_within}
use Rattle.msc_parser.specs.declared.fault.What.{What}
use Rattle.msc_parser.specs.declared.fault.ParseFault.{ParseFault}
use Rattle.msc_parser.specs.declared.fault.ParseFault.TheVariants.{Lex, Unsupported, Expected, Memory}
use Rattle.msc_parser.specs.Parsing.{HasParseFault, IsGrammarFault, is_refused, refused_at, fault_at}
use Rattle.msc_place.proofs.InsideLemmas.{BeginInside, tokens_inside}
use Rattle.msc_notes.specs.Faults.{lexical_place, parse_place}

-- a flaw stands behind pieces of the text
flaw_inside : (text : List ℕ) (fault : LexFault) (at : ℕ) (h : IsFirstFlaw text fault)
    → at ≡ length (text_of h.pieces) → at ≤ length text
flaw_inside text fault at h is =
    omega (arith, is, ap length h.whole, length-append (text_of h.pieces) h.rest)

pub lexical_inside : (text : List ℕ) (fault : LexFault) → HasFault text fault
    → IfSome (lexical_place fault) (λ at. at ≤ length text)
lexical_inside text lexical.TooLong h = tt
lexical_inside text (lexical.BadByte at) h = flaw_inside text (lexical.BadByte at) at h h.flaw.0
lexical_inside text (lexical.OpenNote at) h = flaw_inside text (lexical.OpenNote at) at h h.flaw.0
lexical_inside text (lexical.OpenText at) h = flaw_inside text (lexical.OpenText at) at h h.flaw.0
lexical_inside text (lexical.LongName at) h = flaw_inside text (lexical.LongName at) at h h.flaw.0
lexical_inside text lexical.Memory h = tt

-- a refused token is the place of its fault
refused_word : (at : ℕ) (w : What) (word : Word) (b : Bool) → is_refused word ≡ b
    → parse_place (refused_at at w (Reserved word)) ≡ Some at
refused_word at w word true e = rw e refl
refused_word at w word false e = rw e refl

refused_place : (at : ℕ) (w : What) (s : Symbol) → parse_place (refused_at at w s) ≡ Some at
refused_place at w (Reserved word) = refused_word at w word (is_refused word) refl
refused_place at w s = refl

-- one of the tokens
one_inside : (n : ℕ) (front rest : List Lexeme) (l : Lexeme) → BeginInside n (front ++ l ∷ rest)
    → l.place ≤ n
one_inside n [] rest l h = h.0
one_inside n (m ∷ front) rest l h = one_inside n front rest l h.1

-- the place of a grammar fault is that of a token, or the end
rest_inside : (text : List ℕ) (w : What) (front rest : List Lexeme)
    → BeginInside (length text) (front ++ rest)
    → IfSome (parse_place (fault_at (length text) w rest)) (λ at. at ≤ length text)
rest_inside text w front [] h = omega arith
rest_inside text w front (l ∷ ls) h =
    subst (λ o. IfSome o (λ at. at ≤ length text)) (sym (refused_place l.place w l.symbol)) (one_inside (length text) front ls l h)

grammar_inside : (text : List ℕ) (fault : ParseFault) → IsGrammarFault text fault
    → IfSome (parse_place fault) (λ at. at ≤ length text)
grammar_inside text fault h =
    let inside = tokens_inside text h.tokens (are_within text h.tokens h.have) in
    subst (λ f. IfSome (parse_place f) (λ at. at ≤ length text)) (sym h.fault_is)
    (rest_inside text _ h.front h.rest (subst (BeginInside (length text)) h.whole inside))

-- the place of a fault is one of the text
pub fault_inside : (text : List ℕ) (fault : ParseFault) → HasParseFault text fault
    → IfSome (parse_place fault) (λ at. at ≤ length text)
fault_inside text Memory h = tt
fault_inside text (Lex f) h = lexical_inside text f h
fault_inside text (Unsupported at w) h = grammar_inside text (Unsupported at w) h
fault_inside text (Expected at w) h = grammar_inside text (Expected at w) h
