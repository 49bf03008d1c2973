-- The end of a statement, wherever the statement ends.
use Rattle.std.proofs.Common.{◌≡◌, ◌≢◌, ℕ, List, [], ◌∷◌, Option, Some, None, Result, Ok, Err, refl, sym, ap, subst, ◌∙◌, arith}
use Rattle.std.specs.Prelude.{IsErrAnd}
use Rattle.std.specs.Borrow.{Bor}
use Rattle.std.proofs.lemmas.List.{take_rest}
use Rattle.std.proofs.lemmas.List.Elements.{All-drop}
use Rattle.msc_lexer.specs.declared.word.Word.TheVariants as words
use Rattle.msc_lexer.specs.declared.token.Kind.{Kind}
use Rattle.msc_lexer.specs.declared.token.Kind.TheVariants as kinds
use Rattle.msc_lexer.specs.declared.token.Token.{Token}
use Rattle.msc_lexer.specs.Lexemes.{Reserved, Quoted, Semicolon, lexemes, symbol_of, AreWithin, IsWithin}
use Rattle.msc_parser.specs.declared.fault.What.TheVariants as whats
use Rattle.msc_parser.specs.declared.fault.ParseFault.{ParseFault}
use Rattle.msc_parser.specs.Grammar.{Plain, Commented}
use Rattle.msc_parser.specs.Places.{GrammarPlace, StatementEnd, CommentText, CommentEnd, next}
use Rattle.msc_parser.specs.Reading.{first_kind, Stops, DidTake, Refuses, TakesToken, Ends}
use Rattle.msc_parser.proofs.Steps.{others, took, leads_on, IsStuck, OnlyTakes, stops_here, refuses_kind, Stops-back}

-- the tokens behind the first stand in the text
pub within_others : (text : List ℕ) (tokens : List Token) → AreWithin text tokens
    → AreWithin text (others tokens)
within_others text tokens h = rw take_rest (All-drop (IsWithin text) 1 tokens h)

-- tokens of two kinds alone may stand at the place, and none of them does
pub stuck_but_two : (text : List ℕ) (p : GrammarPlace) (a b : Kind) (tokens : List Token)
    → ((k : Kind) (bytes : List ℕ) → k ≢ a → k ≢ b → next p (symbol_of k bytes) ≡ None)
    → first_kind tokens ≢ Some a → first_kind tokens ≢ Some b → IsStuck text p tokens
stuck_but_two text p a b [] only no_a no_b = tt
stuck_but_two text p a b (t ∷ ts) only no_a no_b =
    only t.kind _ (λ e. no_a (ap some_kind e)) (λ e. no_b (ap some_kind e))
  where
    -- a kind as the first of some tokens
    some_kind : Kind → Option Kind
    some_kind k = Some k

-- at the end of a statement only `comment` and `;` may stand
only-StatementEnd : (p : GrammarPlace) (k : Kind) (bytes : List ℕ) → k ≢ kinds.Word words.Comment
    → k ≢ kinds.Semicolon → next (StatementEnd p) (symbol_of k bytes) ≡ None
only-StatementEnd p (kinds.Word words.Comment) bytes a b = absurd (a refl)
only-StatementEnd p kinds.Semicolon bytes a b = absurd (b refl)
only-StatementEnd p k bytes a b = refl

-- behind `comment` only a text may stand
only-CommentText : (p : GrammarPlace) → OnlyTakes (CommentText p) kinds.Text
only-CommentText p kinds.Text bytes a = absurd (a refl)
only-CommentText p k bytes a = refl

-- behind the text of a comment only `;` may stand
only-CommentEnd : (p : GrammarPlace) → OnlyTakes (CommentEnd p) kinds.Semicolon
only-CommentEnd p kinds.Semicolon bytes a = absurd (a refl)
only-CommentEnd p k bytes a = refl

-- no comment stands there, and `;` was taken or refused
pub ends_plain : (text : List ℕ) (tokens : List Token) (r : Result (Bor (List Token)) ParseFault)
    → first_kind tokens ≢ Some (kinds.Word words.Comment)
    → TakesToken text kinds.Semicolon whats.End tokens r → Ends text tokens r
ends_plain text tokens (Ok after) no_comment h =
    let d = h.1 in
    record { part = Plain d.part; within = d.within; shorter = d.shorter; leads = λ p. leads_on text (StatementEnd p) p Semicolon tokens after.now d refl }
ends_plain text tokens (Err e) no_comment h =
    λ p. stops_here text (StatementEnd p) whats.End tokens e (λ len ls. refl) (stuck_but_two text (StatementEnd p) _ _ tokens (only-StatementEnd p) no_comment h.1) refl h.0

-- behind `comment` a text was refused
pub ends_without_text : (text : List ℕ) (tokens : List Token)
    (r : Result (Bor (List Token)) ParseFault) (e : ParseFault) → AreWithin text tokens
    → first_kind tokens ≡ Some (kinds.Word words.Comment)
    → IsErrAnd r (λ y. y ≡ e) → Refuses text kinds.Text whats.Text (others tokens) e
    → Ends text tokens r
ends_without_text text tokens (Ok x) e within comment is h = absurd is
ends_without_text text tokens (Err y) e within comment is h = λ p.
    let word = took text (kinds.Word words.Comment) tokens within comment in
    let stop = refuses_kind text (CommentText p) kinds.Text whats.Text (others tokens) e (λ len ls. refl) (only-CommentText p) refl h in
    subst (λ (f : ParseFault). Stops text (StatementEnd p) tokens f) (sym is) (Stops-back text (StatementEnd p) (CommentText p) tokens (others tokens) e (leads_on text (StatementEnd p) (CommentText p) (Reserved words.Comment) tokens (others tokens) word.1 refl) stop)

-- behind the text of a comment `;` was taken or refused
pub ends_commented : (text : List ℕ) (tokens rest : List Token) (bytes : List ℕ)
    (r : Result (Bor (List Token)) ParseFault) → AreWithin text tokens
    → first_kind tokens ≡ Some (kinds.Word words.Comment)
    → DidTake text (Quoted bytes) (others tokens) rest
    → TakesToken text kinds.Semicolon whats.End rest r → Ends text tokens r
ends_commented text tokens rest bytes (Ok after) within comment quoted h =
    let word = (took text (kinds.Word words.Comment) tokens within comment).1 in
    let d = h.1 in
    record {
      part = Commented bytes (lexemes text (others tokens)) (lexemes text rest) word.part quoted.part d.part;
      within = d.within;
      shorter = omega (arith, word.shorter, quoted.shorter, d.shorter);
      leads = λ p. leads_on text (StatementEnd p) (CommentText p) _ tokens (others tokens) word refl ∙ leads_on text (CommentText p) (CommentEnd p) _ (others tokens) rest quoted refl ∙ leads_on text (CommentEnd p) p _ rest after.now d refl;
    }
ends_commented text tokens rest bytes (Err e) within comment quoted h = λ p.
    let word = (took text (kinds.Word words.Comment) tokens within comment).1 in
    let front = leads_on text (StatementEnd p) (CommentText p) _ tokens (others tokens) word refl ∙ leads_on text (CommentText p) (CommentEnd p) _ (others tokens) rest quoted refl in
    Stops-back text (StatementEnd p) (CommentEnd p) tokens rest e front (refuses_kind text (CommentEnd p) kinds.Semicolon whats.End rest e (λ len ls. refl) (only-CommentEnd p) refl h)
