-- One step of each walk: over the tokens of a text, and over the words of a mark.
use Rattle.std.proofs.Common.{◌≡◌, ◌≢◌, inl, inr, ℕ, ◌+◌, ◌<◌, ◌≤◌, true, false, List, [], ◌∷◌, ◌++◌, length, get_or, drop, Option, Some, None, Err, refl, sym, ap, ◌∙◌, arith}
use Rattle.std.specs.Option.{option_or}
use Rattle.std.proofs.lemmas.List.{at_drop_more, at_drop_all, append-nil, append_assoc}
use Rattle.msc_lexer.specs.declared.word.Word.TheVariants as words
use Rattle.msc_lexer.specs.declared.token.Kind.TheVariants as kinds
use Rattle.msc_lexer.specs.declared.token.Token.{Token}
use Rattle.msc_lexer.specs.Lexemes.{Lexeme, lexemes, lexeme_of}
use Rattle.msc_place.specs.Standing.{begins_event}
use Rattle.msc_mark.specs.declared.fault.MarkFault.{MarkFault}
use Rattle.msc_mark.specs.declared.fault.MarkFault.TheVariants.{Part, Reason, Memory}
use Rattle.msc_mark.specs.declared.mark.Mark.{Mark}
use Rattle.msc_mark.specs.declared.place.MarkPlace.{MarkPlace}
use Rattle.msc_mark.specs.Places.{behind, next}
use Rattle.msc_mark.specs.Comments.{AddsComment, AreMarksOf, AreOwn, HasMarkFault, comment_in, fault_from, fault_in, first_text, is_comment, is_semicolon, listed, mark_in, marks_from}
use Rattle.msc_place.proofs.Collected.{seen_more, seen_all}

-- the token that is read past the end of a list
abbrev pub no_token : Token
no_token = record { kind = kinds.Word words.Msc; start = 0; «end» = 0 }

-- token i of a text, as a grammar sees it
abbrev pub seen_at : List ℕ → List Token → ℕ → Lexeme
seen_at text tokens i = lexeme_of text (get_or tokens i no_token)

-- ---- the comment of a statement

pub comment_none : (l : Lexeme) (ls : List Lexeme) → is_semicolon l.symbol ≡ true
    → comment_in (l ∷ ls) ≡ None
unfolding comment_in
comment_none l ls is = rw is refl

pub comment_here : (l : Lexeme) (ls : List Lexeme) → is_semicolon l.symbol ≡ false
    → is_comment l.symbol ≡ true → comment_in (l ∷ ls) ≡ first_text ls
unfolding comment_in
comment_here l ls is here = rw (is, here) refl

pub comment_later : (l : Lexeme) (ls : List Lexeme) → is_semicolon l.symbol ≡ false
    → is_comment l.symbol ≡ false → comment_in (l ∷ ls) ≡ comment_in ls
unfolding comment_in
comment_later l ls is here = rw (is, here) refl

pub comment_nowhere : comment_in [] ≡ None
unfolding comment_in
comment_nowhere = refl

-- ---- the marks of a text, and its first faulty comment

pub marks_nil : (e : ℕ) → marks_from e [] ≡ []
unfolding marks_from
marks_nil e = refl

pub marks_one : (e : ℕ) (l : Lexeme) (ls : List Lexeme) → begins_event l.symbol ≡ true
    → marks_from e (l ∷ ls) ≡ listed (mark_in e (comment_in ls)) ++ marks_from (e + 1) ls
unfolding marks_from
marks_one e l ls is = rw is refl

pub marks_none : (e : ℕ) (l : Lexeme) (ls : List Lexeme) → begins_event l.symbol ≡ false
    → marks_from e (l ∷ ls) ≡ marks_from e ls
unfolding marks_from
marks_none e l ls is = rw is refl

pub fault_nil : fault_from [] ≡ None
unfolding fault_from
fault_nil = refl

pub fault_one : (l : Lexeme) (ls : List Lexeme) → begins_event l.symbol ≡ true
    → fault_from (l ∷ ls) ≡ option_or (fault_in (comment_in ls)) (fault_from ls)
unfolding fault_from
fault_one l ls is = rw is refl

pub fault_none : (l : Lexeme) (ls : List Lexeme) → begins_event l.symbol ≡ false
    → fault_from (l ∷ ls) ≡ fault_from ls
unfolding fault_from
fault_none l ls is = rw is refl

-- `list` and the marks from token i on are all marks, and the first faulty comment is from there on
pub record AreReadTo (text : List ℕ) (tokens : List Token) (i event : ℕ) (list : List Mark) : Type 0 where
  pub marks : list ++ marks_from event (lexemes text (drop i tokens)) ≡ marks_from 0 (lexemes text tokens)
  pub fault : fault_from (lexemes text (drop i tokens)) ≡ fault_from (lexemes text tokens)
  pub few : event ≤ i

-- before the first token
pub read_none : (text : List ℕ) (tokens : List Token) → AreReadTo text tokens 0 0 []
read_none text tokens = record { marks = refl; fault = refl; few = omega arith }

module _ (text : List ℕ) (tokens : List Token) (i event : ℕ) (list : List Mark) (so_far : AreReadTo text tokens i event list) (inside : i < length tokens) where
  -- the comment of the statement that token i begins
  abbrev pub comment_behind : Option Lexeme
  comment_behind = comment_in (lexemes text (drop (i + 1) tokens))

  -- token i begins a statement whose comment is not faulty
  pub reads_one : begins_event (seen_at text tokens i).symbol ≡ true → fault_in comment_behind ≡ None
      → AreReadTo text tokens (i + 1) (event + 1) (list ++ listed (mark_in event comment_behind))
  reads_one is good =
      let l = seen_at text tokens i in let ls = lexemes text (drop (i + 1) tokens) in
      let more = seen_more text tokens i inside in
      let marks = ap (marks_from event) more ∙ marks_one event l ls is in
      let fault = ap fault_from more ∙ fault_one l ls is ∙ ap (λ f. option_or f (fault_from ls)) good in
      record {
        marks = append_assoc list (listed (mark_in event comment_behind)) (marks_from (event + 1) ls) ∙ ap (λ ms. list ++ ms) (sym marks) ∙ so_far.marks;
        fault = sym fault ∙ so_far.fault;
        few = omega (arith, so_far.few);
      }

  -- token i begins none
  pub reads_none : begins_event (seen_at text tokens i).symbol ≡ false
      → AreReadTo text tokens (i + 1) event list
  reads_none is =
      let l = seen_at text tokens i in let ls = lexemes text (drop (i + 1) tokens) in
      let more = seen_more text tokens i inside in
      let marks = ap (marks_from event) more ∙ marks_none event l ls is in
      let fault = ap fault_from more ∙ fault_none l ls is in
      record {
        marks = ap (λ ms. list ++ ms) (sym marks) ∙ so_far.marks;
        fault = sym fault ∙ so_far.fault;
        few = omega (arith, so_far.few);
      }

  -- the comment behind token i is the first faulty one
  pub reads_fault : (f : MarkFault) → begins_event (seen_at text tokens i).symbol ≡ true
      → fault_in comment_behind ≡ Some f → fault_from (lexemes text tokens) ≡ Some f
  reads_fault f is bad =
      let l = seen_at text tokens i in let ls = lexemes text (drop (i + 1) tokens) in
      sym so_far.fault ∙ ap fault_from (seen_more text tokens i inside) ∙ fault_one l ls is ∙ ap (λ g. option_or g (fault_from ls)) bad

-- behind the last token
pub reads_marks : (text : List ℕ) (tokens : List Token) (i event : ℕ) (list : List Mark)
    → AreReadTo text tokens i event list → length tokens ≤ i
    → list ≡ marks_from 0 (lexemes text tokens)
reads_marks text tokens i event list so_far past =
    let none = ap (marks_from event) (seen_all text tokens i past) ∙ marks_nil event in
    sym (append-nil list) ∙ ap (λ ms. list ++ ms) (sym none) ∙ so_far.marks

pub reads_faultless : (text : List ℕ) (tokens : List Token) (i event : ℕ) (list : List Mark)
    → AreReadTo text tokens i event list → length tokens ≤ i
    → fault_from (lexemes text tokens) ≡ None
reads_faultless text tokens i event list so_far past =
    sym so_far.fault ∙ ap fault_from (seen_all text tokens i past) ∙ fault_nil

-- ---- the words of a mark

pub behind_more : (p : MarkPlace) (w : List ℕ) (ws : List (List ℕ))
    → behind p (w ∷ ws) ≡ behind (next p w) ws
unfolding behind
behind_more p w ws = refl

pub behind_nil : (p : MarkPlace) → behind p [] ≡ p
unfolding behind
behind_nil p = refl

-- the words from i on, at a place, lead where those behind the next lead at the place behind it
pub behind_step : (p q : MarkPlace) (ws : List (List ℕ)) (i : ℕ) (w d : List ℕ) → i < length ws
    → w ≡ get_or ws i d → q ≡ next p w → behind p (drop i ws) ≡ behind q (drop (i + 1) ws)
behind_step p q ws i w d inside is step =
    at_drop_more (behind p) ws i d inside ∙ behind_more p (get_or ws i d) (drop (i + 1) ws)
    ∙ ap (λ v. behind (next p v) (drop (i + 1) ws)) (sym is) ∙ ap (λ r. behind r (drop (i + 1) ws)) (sym step)

-- behind the last word no place follows
pub behind_all : (p : MarkPlace) (ws : List (List ℕ)) (i : ℕ) → length ws ≤ i
    → behind p (drop i ws) ≡ p
behind_all p ws i past = at_drop_all (behind p) ws i past ∙ behind_nil p

-- ---- what is answered

-- a comment that is refused is faulty
pub refused_comment : (event : ℕ) (comment : Option Lexeme) (before after : List Mark) (e : MarkFault)
    → AddsComment event comment before after (Err e) → e ≢ Memory → fault_in comment ≡ Some e
refused_comment event comment before after (Part at) h other = h
refused_comment event comment before after (Reason at) h other = h
refused_comment event comment before after Memory h other = absurd (other refl)

-- no comment is faulty where there is none
none_faulty : (text : List ℕ) (tokens : List Token) (e : MarkFault) → tokens ≡ []
    → fault_from (lexemes text tokens) ≡ Some e → ⊥
none_faulty text tokens e none bad =
    let both : None ≡ Some e = sym fault_nil ∙ sym (ap (λ ts. fault_from (lexemes text ts)) none) ∙ bad in
    cc both

-- the first faulty comment of a text's tokens is that of the text
fault_told : (text : List ℕ) (tokens : List Token) (e : MarkFault) → AreOwn text tokens
    → fault_from (lexemes text tokens) ≡ Some e → HasMarkFault text e
fault_told text tokens e (inl none) bad = absurd (none_faulty text tokens e none bad)
fault_told text tokens e (inr have) bad = (tokens, have, bad)

pub refused_text : (text : List ℕ) (tokens : List Token) (e : MarkFault) → AreOwn text tokens
    → (e ≢ Memory → fault_from (lexemes text tokens) ≡ Some e) → AreMarksOf text (Err e)
refused_text text tokens (Part at) own f = fault_told text tokens (Part at) own (f (λ h. cc h))
refused_text text tokens (Reason at) own f = fault_told text tokens (Reason at) own (f (λ h. cc h))
refused_text text tokens Memory own f = tt
