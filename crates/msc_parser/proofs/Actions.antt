-- Actions are read: a text, what it holds, and the end of the statement. They and message events
-- are told apart by their first words.
use Rattle.std.proofs.Common.{◌≡◌, ℕ, List, [], ◌∷◌, get_or, Some, Err, refl, sym, ap, ◌∙◌, arith}
use Rattle.std.specs.List.{slice_range}
use Rattle.std.proofs.lemmas.List.{take_rest}
use Rattle.std.proofs.lemmas.List.Elements.{All-tail}
use Rattle.msc_lexer.specs.declared.token.Kind.{Kind}
use Rattle.msc_lexer.specs.declared.token.Kind.TheVariants as kinds
use Rattle.msc_lexer.specs.declared.token.Token.{Token}
use Rattle.msc_lexer.specs.Lexemes.{Symbol, Quoted, unquoted, lexemes, symbol_of, AreWithin, IsWithin}
use Rattle.msc_parser.specs.declared.tree.Direction.{Direction}
use Rattle.msc_parser.specs.declared.tree.Signal.{Signal}
use Rattle.msc_parser.specs.declared.tree.Statement.TheVariants as statements
use Rattle.msc_parser.specs.declared.opening.Opening.TheVariants as openings
use Rattle.msc_parser.specs.declared.fault.What.TheVariants as whats
use Rattle.msc_parser.specs.declared.fault.ParseFault.{ParseFault}
use Rattle.msc_parser.specs.declared.fault.ParseFault.TheVariants as faults
use Rattle.msc_parser.specs.Grammar.{IsAction}
use Rattle.msc_parser.specs.Places.{GrammarPlace, Message, ActionText, StatementEnd}
use Rattle.msc_parser.specs.Reading.{first_kind, fault_from, Stops, DidTake, TakesText, DidEnd, DidRead, IsSignalOf, IsOpened}
use Rattle.msc_parser.proofs.Steps.{others, leads_on, OnlyTakes, refuses_kind}

-- the first token is a text that holds these bytes
pub took_text : (text : List ℕ) (tokens : List Token) (held : List ℕ) (d : Token)
    → AreWithin text tokens → first_kind tokens ≡ Some kinds.Text
    → held ≡ unquoted (slice_range text (get_or tokens 0 d).start (get_or tokens 0 d).«end»)
    → DidTake text (Quoted held) tokens (others tokens)
took_text text [] held d within h e = absurd cc
took_text text (t ∷ ts) held d within h e =
    let same : t.kind ≡ kinds.Text = cc in
    let symbol : symbol_of t.kind (slice_range text t.start t.«end») ≡ Quoted held = ap (λ (k : Kind). symbol_of k (slice_range text t.start t.«end»)) same ∙ ap Quoted (sym e) in
    rw take_rest (record {
      part = (t.start, ap (λ (s : Symbol). record { symbol = s; place = t.start } ∷ lexemes text ts) symbol);
      within = All-tail (IsWithin text) t ts within;
      shorter = omega arith;
    })

-- behind `action` only a text may stand
only-ActionText : (p : GrammarPlace) → OnlyTakes (ActionText p) kinds.Text
only-ActionText p kinds.Text bytes a = absurd (a refl)
only-ActionText p k bytes a = refl

-- behind `action` no text stands
pub text_refused : (text : List ℕ) (a : List Token) (e : ParseFault) → TakesText text a (Err e)
    → (p : GrammarPlace) → Stops text (ActionText p) a e
text_refused text a faults.Memory h p = tt
text_refused text a (faults.Lex f) h p =
    refuses_kind text (ActionText p) kinds.Text whats.Text a _ (λ len ls. refl) (only-ActionText p) refl h
text_refused text a (faults.Unsupported at v) h p =
    refuses_kind text (ActionText p) kinds.Text whats.Text a _ (λ len ls. refl) (only-ActionText p) refl h
text_refused text a (faults.Expected at v) h p =
    refuses_kind text (ActionText p) kinds.Text whats.Text a _ (λ len ls. refl) (only-ActionText p) refl h

-- the text leads to the end of the action
pub text_leads : (text : List ℕ) (p : GrammarPlace) (a b : List Token) (l : List ℕ)
    → DidTake text (Quoted l) a b
    → fault_from text (ActionText p) a ≡ fault_from text (StatementEnd p) b
text_leads text p a b l h = leads_on text (ActionText p) (StatementEnd p) (Quoted l) a b h refl

-- an action behind its first word is a text and an end
pub action_read : (text : List ℕ) (p : GrammarPlace) (a b c : List Token) (l : List ℕ)
    → DidTake text (Quoted l) a b → DidEnd text b c → DidRead text IsAction (ActionText p) p a c l
action_read text p a b c l held end = record {
  part = record { close = lexemes text b; is_text = held.part; is_end = end.part };
  within = end.within;
  shorter = omega (arith, held.shorter, end.shorter);
  leads = text_leads text p a b l held ∙ end.leads p;
}

-- a message event behind its first word is an event that begins so
pub message_opened : (text : List ℕ) (w : Direction) (p : GrammarPlace) (a b : List Token) (e : Signal)
    → DidRead text (IsSignalOf w) (Message w p) p a b e
    → DidRead text (IsOpened (openings.Message w)) (Message w p) p a b (statements.Message e)
message_opened text w p a b e h =
    record { part = h.part; within = h.within; shorter = h.shorter; leads = h.leads }

-- an action behind its first word is an event that begins so
pub action_opened : (text : List ℕ) (p : GrammarPlace) (a b : List Token) (l : List ℕ)
    → DidRead text IsAction (ActionText p) p a b l
    → DidRead text (IsOpened openings.Action) (ActionText p) p a b (statements.Action l)
action_opened text p a b l h =
    record { part = h.part; within = h.within; shorter = h.shorter; leads = h.leads }
