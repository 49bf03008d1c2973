-- Message instance names, parameters and events are read.
use Rattle.std.proofs.Common.{◌≡◌, ◌≢◌, ℕ, List, [], Option, Some, None, Err, refl, sym, subst, ◌∙◌, arith}
use Rattle.msc_lexer.specs.declared.word.Word.{Word}
use Rattle.msc_lexer.specs.declared.word.Word.TheVariants as words
use Rattle.msc_lexer.specs.declared.token.Kind.{Kind}
use Rattle.msc_lexer.specs.declared.token.Kind.TheVariants as kinds
use Rattle.msc_lexer.specs.declared.token.Token.{Token}
use Rattle.msc_lexer.specs.Lexemes.{Reserved, Named, Comma, LeftParen, RightParen, lexemes, symbol_of, AreWithin}
use Rattle.msc_parser.specs.declared.tree.Direction.{Direction}
use Rattle.msc_parser.specs.declared.tree.Direction.TheVariants as directions
use Rattle.msc_parser.specs.declared.fault.What.{What}
use Rattle.msc_parser.specs.declared.fault.What.TheVariants as whats
use Rattle.msc_parser.specs.declared.fault.ParseFault.{ParseFault}
use Rattle.msc_parser.specs.Forms.{IsToken, IsNamed, AreListed}
use Rattle.msc_parser.specs.Grammar.{address_word, IsNumber, AreParameters, Absent, Empty, Given}
use Rattle.msc_parser.specs.Places.{GrammarPlace, Message, AfterMessage, Number, AfterNumber, Parameters, Parameter, AfterParameter, AfterParameters, Address, StatementEnd, next, address_what}
use Rattle.msc_parser.specs.Reading.{first_kind, fault_from, Stops, DidTake, Refuses, TakesName, DidEnd, DidRead, IsAddressOf, IsSignalOf}
use Rattle.msc_parser.proofs.Leading.{comma_leads, open_leads, word_leads}
use Rattle.msc_parser.proofs.Steps.{others, took, leads_on, fault_but, OnlyTakes, stops_here, refuses_kind, name_stops, refuses_name, Stops-back}
use Rattle.msc_parser.proofs.Endings.{stuck_but_two}

-- ---- message instance names

-- but for a comma, behind a message name stands what stands behind a message instance name
alike-AfterMessage : (w : Direction) (p : GrammarPlace) (k : Kind) (bytes : List ℕ) → k ≢ kinds.Comma
    → next (AfterMessage w p) (symbol_of k bytes) ≡ next (AfterNumber w p) (symbol_of k bytes)
alike-AfterMessage directions.Output p kinds.Comma bytes a = absurd (a refl)
alike-AfterMessage directions.Output p k bytes a = refl
alike-AfterMessage directions.Input p kinds.Comma bytes a = absurd (a refl)
alike-AfterMessage directions.Input p k bytes a = refl

-- behind that comma only a name may stand
only-Number : (w : Direction) (p : GrammarPlace) → OnlyTakes (Number w p) kinds.Name
only-Number w p kinds.Name bytes a = absurd (a refl)
only-Number w p k bytes a = refl

-- no comma stands behind the message's name
pub number_none : (text : List ℕ) (a : List Token) → AreWithin text a
    → first_kind a ≢ Some kinds.Comma → (w : Direction) (p : GrammarPlace)
    → DidRead text IsNumber (AfterMessage w p) (AfterNumber w p) a a None
number_none text a within no_comma w p = record {
  part = refl;
  within = within;
  shorter = omega arith;
  leads = fault_but text (AfterMessage w p) (AfterNumber w p) kinds.Comma a (alike-AfterMessage w p) no_comma refl (λ len ls. refl) (λ len ls. refl);
}

-- behind the comma no name stands
pub number_refused : (text : List ℕ) (a : List Token) (e : ParseFault) → AreWithin text a
    → first_kind a ≡ Some kinds.Comma → TakesName text whats.Name (others a) (Err e)
    → (w : Direction) (p : GrammarPlace) → Stops text (AfterMessage w p) a e
number_refused text a e within comma refused w p =
    Stops-back text (AfterMessage w p) (Number w p) a (others a) e (leads_on text (AfterMessage w p) (Number w p) Comma a (others a) (took text kinds.Comma a within comma).1 (comma_leads w p))
    (refuses_name text (Number w p) whats.Name (others a) e (λ len ls. refl) (only-Number w p) refl refused)

-- a comma and a message instance name
pub number_some : (text : List ℕ) (a b : List Token) (n : List ℕ) → AreWithin text a
    → first_kind a ≡ Some kinds.Comma → DidTake text (Named n) (others a) b → (w : Direction) (p : GrammarPlace)
    → DidRead text IsNumber (AfterMessage w p) (AfterNumber w p) a b (Some n)
number_some text a b n within comma name w p =
    let word = (took text kinds.Comma a within comma).1 in
    record {
      part = (lexemes text (others a), word.part, name.part);
      within = name.within;
      shorter = omega (arith, word.shorter, name.shorter);
      leads = leads_on text (AfterMessage w p) (Number w p) Comma a (others a) word (comma_leads w p) ∙ leads_on text (Number w p) (AfterNumber w p) (Named n) (others a) b name refl;
    }

-- ---- parameters

-- behind a comma between parameters only a name may stand
only-Parameter : (w : Direction) (p : GrammarPlace) → OnlyTakes (Parameter w p) kinds.Name
only-Parameter w p kinds.Name bytes a = absurd (a refl)
only-Parameter w p k bytes a = refl

-- behind `(` only a name and `)` may stand
only-Parameters : (w : Direction) (p : GrammarPlace) (k : Kind) (bytes : List ℕ) → k ≢ kinds.RightParen
    → k ≢ kinds.Name → next (Parameters w p) (symbol_of k bytes) ≡ None
only-Parameters w p kinds.RightParen bytes a b = absurd (a refl)
only-Parameters w p kinds.Name bytes a b = absurd (b refl)
only-Parameters w p k bytes a b = refl

-- behind a parameter only a comma and `)` may stand
only-AfterParameter : (w : Direction) (p : GrammarPlace) (k : Kind) (bytes : List ℕ) → k ≢ kinds.Comma
    → k ≢ kinds.RightParen → next (AfterParameter w p) (symbol_of k bytes) ≡ None
only-AfterParameter w p kinds.Comma bytes a b = absurd (a refl)
only-AfterParameter w p kinds.RightParen bytes a b = absurd (b refl)
only-AfterParameter w p k bytes a b = refl

-- neither a parameter nor `)` stands behind `(`
pub first_refused : (text : List ℕ) (a : List Token) (e : ParseFault)
    → first_kind a ≢ Some kinds.RightParen → TakesName text whats.Parameter a (Err e)
    → (w : Direction) (p : GrammarPlace) → Stops text (Parameters w p) a e
first_refused text a e no_close refused w p =
    name_stops text (Parameters w p) whats.Parameter a e (λ len ls. refl) (λ no_name. stuck_but_two text (Parameters w p) kinds.RightParen kinds.Name a (only-Parameters w p) no_close no_name) refl refused

-- behind a comma between parameters no name stands
pub next_refused : (text : List ℕ) (a : List Token) (e : ParseFault)
    → TakesName text whats.Name a (Err e) → (w : Direction) (p : GrammarPlace) → Stops text (Parameter w p) a e
next_refused text a e refused w p =
    refuses_name text (Parameter w p) whats.Name a e (λ len ls. refl) (only-Parameter w p) refl refused

-- but for `(`, behind a message instance name stands what stands behind parameters
alike-AfterNumber : (w : Direction) (p : GrammarPlace) (k : Kind) (bytes : List ℕ) → k ≢ kinds.LeftParen
    → next (AfterNumber w p) (symbol_of k bytes) ≡ next (AfterParameters w p) (symbol_of k bytes)
alike-AfterNumber directions.Output p kinds.LeftParen bytes a = absurd (a refl)
alike-AfterNumber directions.Output p k bytes a = refl
alike-AfterNumber directions.Input p kinds.LeftParen bytes a = absurd (a refl)
alike-AfterNumber directions.Input p k bytes a = refl

-- no parentheses stand there
pub parameters_none : (text : List ℕ) (a : List Token) (ps : List (List ℕ)) → AreWithin text a
    → first_kind a ≢ Some kinds.LeftParen → ps ≡ [] → (w : Direction) (p : GrammarPlace)
    → DidRead text AreParameters (AfterNumber w p) (AfterParameters w p) a a ps
parameters_none text a ps within no_open none w p = record {
  part = Absent none refl;
  within = within;
  shorter = omega arith;
  leads = fault_but text (AfterNumber w p) (AfterParameters w p) kinds.LeftParen a (alike-AfterNumber w p) no_open refl (λ len ls. refl) (λ len ls. refl);
}

-- `(` leads to the parameters
opened : (text : List ℕ) (a : List Token) → AreWithin text a → first_kind a ≡ Some kinds.LeftParen
    → (w : Direction) (p : GrammarPlace)
    → fault_from text (AfterNumber w p) a ≡ fault_from text (Parameters w p) (others a)
opened text a within paren w p =
    leads_on text (AfterNumber w p) (Parameters w p) LeftParen a (others a) (took text kinds.LeftParen a within paren).1 (open_leads w p)

-- `()` is no parameter
pub parameters_empty : (text : List ℕ) (a : List Token) (ps : List (List ℕ)) → AreWithin text a
    → first_kind a ≡ Some kinds.LeftParen → first_kind (others a) ≡ Some kinds.RightParen → ps ≡ []
    → (w : Direction) (p : GrammarPlace)
    → DidRead text AreParameters (AfterNumber w p) (AfterParameters w p) a (others (others a)) ps
parameters_empty text a ps within paren close none w p =
    let first = (took text kinds.LeftParen a within paren).1 in
    let second = (took text kinds.RightParen (others a) first.within close).1 in
    record {
      part = Empty (lexemes text (others a)) none first.part second.part;
      within = second.within;
      shorter = omega (arith, first.shorter, second.shorter);
      leads = opened text a within paren w p ∙ leads_on text (Parameters w p) (AfterParameters w p) RightParen (others a) (others (others a)) second refl;
    }

-- a fault of the names is a fault of the parameters
pub names_stop : (text : List ℕ) (a : List Token) (e : ParseFault) → AreWithin text a
    → first_kind a ≡ Some kinds.LeftParen → (w : Direction) (p : GrammarPlace)
    → Stops text (Parameters w p) (others a) e → Stops text (AfterNumber w p) a e
names_stop text a e within paren w p stop =
    Stops-back text (AfterNumber w p) (Parameters w p) a (others a) e (opened text a within paren w p) stop

-- neither a comma nor `)` stands behind the parameters
pub close_refused : (text : List ℕ) (a : List Token) {b : List Token} {ps : List (List ℕ)} (e : ParseFault)
    → AreWithin text a → first_kind a ≡ Some kinds.LeftParen → (w : Direction) (p : GrammarPlace)
    → DidRead text (AreListed IsNamed) (Parameters w p) (AfterParameter w p) (others a) b ps
    → first_kind b ≢ Some kinds.Comma → Refuses text kinds.RightParen whats.Parameter b e
    → Stops text (AfterNumber w p) a e
close_refused text a {b} e within paren w p names no_comma refused =
    Stops-back text (AfterNumber w p) (AfterParameter w p) a b e (opened text a within paren w p ∙ names.leads)
    (stops_here text (AfterParameter w p) whats.Parameter b e (λ len ls. refl) (stuck_but_two text (AfterParameter w p) kinds.Comma kinds.RightParen b (only-AfterParameter w p) no_comma refused.1) refl refused.0)

-- names in parentheses are parameters
pub parameters_read : (text : List ℕ) (a : List Token) {b c : List Token} {ps : List (List ℕ)}
    → AreWithin text a → first_kind a ≡ Some kinds.LeftParen → (w : Direction) (p : GrammarPlace)
    → DidRead text (AreListed IsNamed) (Parameters w p) (AfterParameter w p) (others a) b ps
    → DidTake text RightParen b c
    → DidRead text AreParameters (AfterNumber w p) (AfterParameters w p) a c ps
parameters_read text a {b} {c} within paren w p names close =
    let first = (took text kinds.LeftParen a within paren).1 in
    record {
      part = Given (lexemes text (others a)) (lexemes text b) first.part names.part close.part;
      within = close.within;
      shorter = omega (arith, first.shorter, names.shorter, close.shorter);
      leads = opened text a within paren w p ∙ names.leads ∙ leads_on text (AfterParameter w p) (AfterParameters w p) RightParen b c close refl;
    }

-- ---- events behind their first words

-- behind `out` and `in` only a name may stand
only-Message : (w : Direction) (p : GrammarPlace) → OnlyTakes (Message w p) kinds.Name
only-Message w p kinds.Name bytes a = absurd (a refl)
only-Message w p k bytes a = refl

-- behind parameters only the word before the address may stand
only-AfterParameters : (w : Direction) (p : GrammarPlace)
    → OnlyTakes (AfterParameters w p) (kinds.Word (address_word w))
only-AfterParameters directions.Output p (kinds.Word words.To) bytes a = absurd (a refl)
only-AfterParameters directions.Output p k bytes a = refl
only-AfterParameters directions.Input p (kinds.Word words.From) bytes a = absurd (a refl)
only-AfterParameters directions.Input p k bytes a = refl

-- behind that word only a name may stand
only-Address : (p : GrammarPlace) → OnlyTakes (Address p) kinds.Name
only-Address p kinds.Name bytes a = absurd (a refl)
only-Address p k bytes a = refl

-- behind `out` or `in` no name stands
pub signal_refused : (text : List ℕ) (w : Direction) (a : List Token) (e : ParseFault)
    → TakesName text whats.Name a (Err e) → (p : GrammarPlace) → Stops text (Message w p) a e
signal_refused text w a e refused p =
    refuses_name text (Message w p) whats.Name a e (λ len ls. refl) (only-Message w p) refl refused

-- the message's name leads to what follows it
pub message_leads : (text : List ℕ) (w : Direction) (p : GrammarPlace) (a b : List Token) (n : List ℕ)
    → DidTake text (Named n) a b
    → fault_from text (Message w p) a ≡ fault_from text (AfterMessage w p) b
message_leads text w p a b n name =
    leads_on text (Message w p) (AfterMessage w p) (Named n) a b name refl

-- the word before the address leads to the address
pub address_leads : (text : List ℕ) (w : Direction) (p : GrammarPlace) (a b : List Token) (v : Word)
    → v ≡ address_word w → DidTake text (Reserved v) a b
    → fault_from text (AfterParameters w p) a ≡ fault_from text (Address p) b
address_leads text w p a b v same word =
    leads_on text (AfterParameters w p) (Address p) (Reserved v) a b word (rw same (word_leads w p))

-- the address leads to the end of the statement
pub end_leads : (text : List ℕ) (p : GrammarPlace) (a b : List Token) (n : List ℕ)
    → DidTake text (Named n) a b
    → fault_from text (Address p) a ≡ fault_from text (StatementEnd p) b
end_leads text p a b n name = leads_on text (Address p) (StatementEnd p) (Named n) a b name refl

-- the word before the address does not stand there
pub word_refused : (text : List ℕ) (w : Direction) (p : GrammarPlace) (a : List Token) (v : Word) (x : What)
    (e : ParseFault) → v ≡ address_word w → x ≡ address_what w → Refuses text (kinds.Word v) x a e
    → Stops text (AfterParameters w p) a e
word_refused text w p a v x e same expects refused =
    refuses_kind text (AfterParameters w p) (kinds.Word v) x a e (λ len ls. refl) (subst (λ (u : Word). OnlyTakes (AfterParameters w p) (kinds.Word u)) (sym same) (only-AfterParameters w p)) expects refused

-- no address stands there
pub address_refused : (text : List ℕ) (p : GrammarPlace) (a : List Token) (e : ParseFault)
    → TakesName text whats.Name a (Err e) → Stops text (Address p) a e
address_refused text p a e refused =
    refuses_name text (Address p) whats.Name a e (λ len ls. refl) (only-Address p) refl refused

-- an address is a word, a name and an end
pub address_read : (text : List ℕ) (w : Direction) (p : GrammarPlace) {a b c d : List Token} {m : List ℕ} {v : Word}
    → v ≡ address_word w → DidTake text (Reserved v) a b → DidTake text (Named m) b c → DidEnd text c d
    → DidRead text (IsAddressOf w) (AfterParameters w p) p a d m
address_read text w p {a} {b} {c} {d} {m} {v} same word address end = record {
  part = record {
    address = lexemes text b;
    close = lexemes text c;
    is_word = subst (λ (u : Word). IsToken (Reserved u) (lexemes text a) (lexemes text b)) same word.part;
    is_address = address.part;
    is_end = end.part;
  };
  within = end.within;
  shorter = omega (arith, word.shorter, address.shorter, end.shorter);
  leads = address_leads text w p a b v same word ∙ end_leads text p b c m address ∙ end.leads p;
}

-- an event behind its first word is its ident and its address
pub signal_read : (text : List ℕ) (w : Direction) (p : GrammarPlace)
    {a b c d e : List Token} {n m : List ℕ} {o : Option (List ℕ)} {ps : List (List ℕ)}
    → DidTake text (Named n) a b → DidRead text IsNumber (AfterMessage w p) (AfterNumber w p) b c o
    → DidRead text AreParameters (AfterNumber w p) (AfterParameters w p) c d ps
    → DidRead text (IsAddressOf w) (AfterParameters w p) p d e m
    → DidRead text (IsSignalOf w) (Message w p) p a e record { direction = w; name = n; number = o; parameters = ps; address = m }
signal_read text w p {a} {b} {c} {d} {n = n} name number parameters address = record {
  part = (
    refl,
    record {
      word = lexemes text d;
      address = address.part.address;
      close = address.part.close;
      is_ident = record { number = lexemes text b; parameters = lexemes text c; is_name = name.part; is_number = number.part; are_parameters = parameters.part };
      is_word = address.part.is_word;
      is_address = address.part.is_address;
      is_end = address.part.is_end;
    },
  );
  within = address.within;
  shorter = omega (arith, name.shorter, number.shorter, parameters.shorter, address.shorter);
  leads = message_leads text w p a b n name ∙ number.leads ∙ parameters.leads ∙ address.leads;
}
