-- One step from place to place: a token that was taken, and one that was refused.
use Rattle.std.proofs.Common.{◌≡◌, ◌≢◌, ℕ, ◌-◌, Bool, true, false, ◌↔◌, List, [], ◌∷◌, length, take, drop, get_or, Option, Some, None, Result, Ok, Err, refl, sym, ap, subst, ◌∙◌, arith}
use Rattle.std.specs.Prelude.{IsErrAnd}
use Rattle.std.specs.Option.{option_map_or}
use Rattle.std.specs.List.{slice_range}
use Rattle.std.specs.Borrow.{Bor}
use Rattle.std.proofs.lemmas.Bool.{true≢false}
use Rattle.std.proofs.lemmas.List.{take_rest}
use Rattle.std.proofs.lemmas.List.Elements.{All-tail}
use Rattle.msc_lexer.specs.declared.token.Kind.{Kind}
use Rattle.msc_lexer.specs.declared.token.Kind.TheVariants as kinds
use Rattle.msc_lexer.specs.declared.token.Token.{Token}
use Rattle.msc_lexer.specs.Lexemes.{Symbol, Named, Lexeme, lexemes, lexeme_of, symbol_of, AreWithin, IsWithin}
use Rattle.msc_parser.specs.declared.fault.What.{What}
use Rattle.msc_parser.specs.declared.fault.ParseFault.{ParseFault}
use Rattle.msc_parser.specs.declared.fault.ParseFault.TheVariants as faults
use Rattle.msc_parser.specs.Places.{GrammarPlace, next, what, walk}
use Rattle.msc_parser.specs.Parsing.{fault_at}
use Rattle.msc_parser.specs.Reading.{first_kind, fault_of, fault_from, Stops, DidTake, Refuses, TakesName, Reads}
use Rattle.msc_parser.proofs.Accepting.{walk_token}
use Rattle.msc_parser.proofs.FirstFault.{stuck}

-- a test that was false
pub not_both : {b : Bool} {P : Type 0} → ((b ≡ true) ↔ P) → b ≡ false → P → ⊥
not_both both failed holds = true≢false (sym (both.1 holds) ∙ failed)

-- ---- tokens that were taken

-- the tokens behind the first
abbrev pub others : List Token → List Token
others tokens = take (length tokens - 1) (drop 1 tokens)

-- the first token is of this kind, so it may be taken
pub took : (text : List ℕ) (kind : Kind) (tokens : List Token) → AreWithin text tokens
    → first_kind tokens ≡ Some kind
    → (bytes : List ℕ) × DidTake text (symbol_of kind bytes) tokens (others tokens)
took text kind [] within h = absurd cc
took text kind (t ∷ ts) within h =
    let same : t.kind ≡ kind = cc in
    let bytes = slice_range text t.start t.«end» in
    let symbol : symbol_of t.kind bytes ≡ symbol_of kind bytes = ap (λ (k : Kind). symbol_of k bytes) same in (
      bytes,
      rw take_rest (record {
        part = (t.start, ap (λ (s : Symbol). record { symbol = s; place = t.start } ∷ lexemes text ts) symbol);
        within = All-tail (IsWithin text) t ts within;
        shorter = omega arith;
      }),
    )

-- the first token is a name of these bytes
pub took_name : (text : List ℕ) (tokens : List Token) (bytes : List ℕ) (d : Token)
    → AreWithin text tokens → first_kind tokens ≡ Some kinds.Name
    → bytes ≡ slice_range text (get_or tokens 0 d).start (get_or tokens 0 d).«end»
    → DidTake text (Named bytes) tokens (others tokens)
took_name text [] bytes d within h e = absurd cc
took_name text (t ∷ ts) bytes d within h e =
    let same : t.kind ≡ kinds.Name = cc in
    let symbol : symbol_of t.kind (slice_range text t.start t.«end») ≡ Named bytes = ap (λ (k : Kind). symbol_of k (slice_range text t.start t.«end»)) same ∙ ap Named (sym e) in
    rw take_rest (record {
      part = (t.start, ap (λ (s : Symbol). record { symbol = s; place = t.start } ∷ lexemes text ts) symbol);
      within = All-tail (IsWithin text) t ts within;
      shorter = omega arith;
    })

-- what follows a token that was taken has the fault of the whole
pub leads_on : (text : List ℕ) (p q : GrammarPlace) (s : Symbol) (before after : List Token)
    → DidTake text s before after → next p s ≡ Some q
    → fault_from text p before ≡ fault_from text q after
unfolding fault_from
leads_on text p q s before after h step =
    ap (fault_of (length text)) (walk_token p q s (lexemes text before) (lexemes text after) h.part step)

-- ---- two places with one fault

-- a chart isn't whole at this place
abbrev pub IsInside : GrammarPlace → Type 0
IsInside p = (len : ℕ) (ls : List Lexeme) → Some (fault_at len (what p) ls) ≡ fault_of len (p, ls)

-- both places go on alike with the first token, if there is one
abbrev pub GoAlike : List ℕ → GrammarPlace → GrammarPlace → List Token → Type 0
GoAlike text p q [] = Unit {0}
GoAlike text p q (t ∷ ts) = next p (lexeme_of text t).symbol ≡ next q (lexeme_of text t).symbol

-- a fault as that of a walk
abbrev pub some_fault : ParseFault → Option ParseFault
some_fault e = Some e

-- one step of two places that go on alike
alike_step : (len : ℕ) (p q : GrammarPlace) (l : Lexeme) (ls : List Lexeme) (o : Option GrammarPlace)
    → what p ≡ what q → IsInside p → IsInside q
    → fault_of len (option_map_or (λ a. walk a ls) o (p, l ∷ ls)) ≡ fault_of len (option_map_or (λ a. walk a ls) o (q, l ∷ ls))
alike_step len p q l ls None same in_p in_q =
    sym (in_p len (l ∷ ls)) ∙ ap (λ (w : What). some_fault (fault_at len w (l ∷ ls))) same ∙ in_q len (l ∷ ls)
alike_step len p q l ls (Some a) same in_p in_q = refl

-- places that go on alike and expect the same have the same fault
pub same_fault : (text : List ℕ) (p q : GrammarPlace) (tokens : List Token) → GoAlike text p q tokens
    → what p ≡ what q → IsInside p → IsInside q
    → fault_from text p tokens ≡ fault_from text q tokens
unfolding fault_from
same_fault text p q [] alike same in_p in_q =
    sym (in_p (length text) []) ∙ ap (λ (w : What). some_fault (fault_at (length text) w [])) same ∙ in_q (length text) []
same_fault text p q (t ∷ ts) alike same in_p in_q =
    let l = lexeme_of text t in
    let ls = lexemes text ts in
    ap (λ (o : Option GrammarPlace). fault_of (length text) (option_map_or (λ a. walk a ls) o (p, l ∷ ls))) alike ∙ alike_step (length text) p q l ls (next q l.symbol) same in_p in_q

-- places that differ at tokens of one kind alone have the same fault before any other
pub fault_but : (text : List ℕ) (p q : GrammarPlace) (kind : Kind) (tokens : List Token)
    → ((k : Kind) (bytes : List ℕ) → k ≢ kind → next p (symbol_of k bytes) ≡ next q (symbol_of k bytes))
    → first_kind tokens ≢ Some kind → what p ≡ what q → IsInside p → IsInside q
    → fault_from text p tokens ≡ fault_from text q tokens
fault_but text p q kind [] alike other = same_fault text p q [] tt
fault_but text p q kind (t ∷ ts) alike other =
    same_fault text p q (t ∷ ts) (alike t.kind _ (λ e. other (ap some_kind e)))
  where
    -- a kind as the first of some tokens
    some_kind : Kind → Option Kind
    some_kind k = Some k

-- ---- tokens that were refused

-- no token stands first, or none that may stand at the place
abbrev pub IsStuck : List ℕ → GrammarPlace → List Token → Type 0
IsStuck text p [] = Unit {0}
IsStuck text p (t ∷ ts) = next p (lexeme_of text t).symbol ≡ None

-- a walk that cannot begin stays where it is
stays : (text : List ℕ) (p : GrammarPlace) (tokens : List Token) → IsStuck text p tokens
    → walk p (lexemes text tokens) ≡ (p, lexemes text tokens)
stays text p [] h = refl
stays text p (t ∷ ts) h = stuck p (lexeme_of text t) (lexemes text ts) h

-- a fault from a place on, told of each kind of fault
pub Stops-from : (text : List ℕ) (p : GrammarPlace) (tokens : List Token) (e : ParseFault)
    → Some e ≡ fault_from text p tokens → Stops text p tokens e
Stops-from text p tokens faults.Memory h = tt
Stops-from text p tokens (faults.Lex f) h = h
Stops-from text p tokens (faults.Unsupported at w) h = h
Stops-from text p tokens (faults.Expected at w) h = h

-- the fault of a place before a token that may not stand there
pub stops_here : (text : List ℕ) (p : GrammarPlace) (w : What) (tokens : List Token) (e : ParseFault)
    → IsInside p → IsStuck text p tokens → w ≡ what p
    → e ≡ fault_at (length text) w (lexemes text tokens) → Stops text p tokens e
unfolding fault_from
stops_here text p w tokens e inside here same fault =
    let a : Some e ≡ Some (fault_at (length text) (what p) (lexemes text tokens)) = rw (fault, same) refl in
    Stops-from text p tokens e (a ∙ inside (length text) (lexemes text tokens) ∙ sym (ap (fault_of (length text)) (stays text p tokens here)))

-- tokens of one kind alone may stand at the place
abbrev pub OnlyTakes : GrammarPlace → Kind → Type 0
OnlyTakes p kind = (k : Kind) (bytes : List ℕ) → k ≢ kind → next p (symbol_of k bytes) ≡ None

-- no token of the one kind that may stand at the place stands there, so the walk is over
pub stuck_but : (text : List ℕ) (p : GrammarPlace) (kind : Kind) (tokens : List Token) → OnlyTakes p kind
    → first_kind tokens ≢ Some kind → IsStuck text p tokens
stuck_but text p kind [] only other = tt
stuck_but text p kind (t ∷ ts) only other = only t.kind _ (λ e. other (ap some_kind e))
  where
    -- a kind as the first of some tokens
    some_kind : Kind → Option Kind
    some_kind k = Some k

-- no token of the one kind that may stand at the place stands there
pub refuses_kind : (text : List ℕ) (p : GrammarPlace) (kind : Kind) (w : What) (tokens : List Token)
    (e : ParseFault) → IsInside p → OnlyTakes p kind → w ≡ what p → Refuses text kind w tokens e
    → Stops text p tokens e
refuses_kind text p kind w tokens e inside only same h =
    stops_here text p w tokens e inside (stuck_but text p kind tokens only h.1) same h.0

-- no name stands where a name may stand, and nothing else that may
pub name_stops : (text : List ℕ) (p : GrammarPlace) (w : What) (tokens : List Token) (e : ParseFault)
    → IsInside p → (first_kind tokens ≢ Some kinds.Name → IsStuck text p tokens) → w ≡ what p
    → TakesName text w tokens (Err e) → Stops text p tokens e
name_stops text p w tokens faults.Memory inside only same h = tt
name_stops text p w tokens (faults.Lex f) inside only same h =
    stops_here text p w tokens _ inside (only h.1) same h.0
name_stops text p w tokens (faults.Unsupported at v) inside only same h =
    stops_here text p w tokens _ inside (only h.1) same h.0
name_stops text p w tokens (faults.Expected at v) inside only same h =
    stops_here text p w tokens _ inside (only h.1) same h.0

-- no name stands where only a name may stand
pub refuses_name : (text : List ℕ) (p : GrammarPlace) (w : What) (tokens : List Token) (e : ParseFault)
    → IsInside p → OnlyTakes p kinds.Name → w ≡ what p → TakesName text w tokens (Err e)
    → Stops text p tokens e
refuses_name text p w tokens e inside only same h =
    name_stops text p w tokens e inside (stuck_but text p kinds.Name tokens only) same h

-- ---- exits

-- a fault of what follows is a fault of the whole
pub Stops-back : (text : List ℕ) (p q : GrammarPlace) (before after : List Token) (e : ParseFault)
    → fault_from text p before ≡ fault_from text q after → Stops text q after e
    → Stops text p before e
Stops-back text p q before after faults.Memory same h = tt
Stops-back text p q before after (faults.Lex f) same h = h ∙ sym same
Stops-back text p q before after (faults.Unsupported at w) same h = h ∙ sym same
Stops-back text p q before after (faults.Expected at w) same h = h ∙ sym same

-- the exit of a `?`
pub exits : {X : Type 0} (text : List ℕ) (IsPart : List Lexeme → X → List Lexeme → Type 0)
    (p q : GrammarPlace) (before : List Token) (r : Result (X × Bor (List Token)) ParseFault)
    (e : ParseFault)
    → IsErrAnd r (λ y. y ≡ e) → Stops text p before e → Reads text IsPart p q before r
exits text IsPart p q before (Ok x) e h stop = absurd h
exits text IsPart p q before (Err y) e h stop =
    subst (λ (f : ParseFault). Stops text p before f) (sym h) stop
