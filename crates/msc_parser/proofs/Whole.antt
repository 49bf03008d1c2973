-- The whole chart is read.
use Rattle.std.proofs.Common.{◌≡◌, ℕ, ◌<◌, ◌≤◌, List, [], ◌∷◌, length, None, Result, Ok, Err, refl, sym, ap, subst, ◌∙◌, arith}
use Rattle.std.specs.Prelude.{IsErrAnd}
use Rattle.std.proofs.lemmas.List.{length-map}
use Rattle.msc_lexer.specs.declared.TheConstants.{TEXT_LIMIT}
use Rattle.msc_lexer.specs.declared.word.Word.TheVariants as words
use Rattle.msc_lexer.specs.declared.token.Kind.TheVariants as kinds
use Rattle.msc_lexer.specs.declared.token.Token.{Token}
use Rattle.msc_lexer.specs.Lexemes.{Symbol, Reserved, Named, lexemes, lexeme_of}
use Rattle.msc_parser.specs.declared.fault.What.TheVariants as whats
use Rattle.msc_parser.specs.declared.fault.ParseFault.{ParseFault}
use Rattle.msc_parser.specs.Grammar.{Tree, IsHeader, IsSection, IsChart}
use Rattle.msc_parser.specs.Places.{Start, ChartName, Header, Sections, StatementEnd, Done, next}
use Rattle.msc_parser.specs.Parsing.{fault_at}
use Rattle.msc_parser.specs.Reading.{fault_from, Stops, DidTake, fault_of, Refuses, TakesName, DidEnd, DidRead, AreUpTo, ReadsChart}
use Rattle.msc_parser.proofs.FirstFault.{stuck}
use Rattle.msc_parser.proofs.Steps.{leads_on, OnlyTakes, Stops-from, refuses_kind, refuses_name, Stops-back, some_fault}

-- at the start only `msc` may stand
only-Start : OnlyTakes Start (kinds.Word words.Msc)
only-Start (kinds.Word words.Msc) bytes a = absurd (a refl)
only-Start k bytes a = refl

-- behind `msc` only a name may stand
only-ChartName : OnlyTakes ChartName kinds.Name
only-ChartName kinds.Name bytes a = absurd (a refl)
only-ChartName k bytes a = refl

-- no `msc` stands at the start
pub msc_refused : (text : List ℕ) (a : List Token) (e : ParseFault)
    → Refuses text (kinds.Word words.Msc) whats.Msc a e → Stops text Start a e
msc_refused text a e refused =
    refuses_kind text Start (kinds.Word words.Msc) whats.Msc a e (λ len ls. refl) only-Start refl refused

-- behind `msc` no name stands
pub chart_name_refused : (text : List ℕ) (a b : List Token) (e : ParseFault)
    → DidTake text (Reserved words.Msc) a b → TakesName text whats.Name b (Err e)
    → Stops text Start a e
chart_name_refused text a b e msc refused =
    Stops-back text Start ChartName a b e (leads_on text Start ChartName (Reserved words.Msc) a b msc refl) (refuses_name text ChartName whats.Name b e (λ len ls. refl) only-ChartName refl refused)

-- what was read of a chart's head
pub head_leads : (text : List ℕ) (a b c : List Token) (n : List ℕ)
    → DidTake text (Reserved words.Msc) a b → DidTake text (Named n) b c
    → fault_from text Start a ≡ fault_from text (StatementEnd Header) c
head_leads text a b c n msc name =
    leads_on text Start ChartName (Reserved words.Msc) a b msc refl ∙ leads_on text ChartName (StatementEnd Header) (Named n) b c name refl

-- a token behind the whole chart
pub more_refused : (text : List ℕ) (g : List Token) (e : ParseFault) → 0 < length g
    → e ≡ fault_at (length text) whats.Nothing (lexemes text g) → Stops text Done g e
unfolding fault_from
more_refused text [] e some fault = absurd (omega arith)
more_refused text (t ∷ ts) e some fault =
    Stops-from text Done (t ∷ ts) e (ap some_fault fault ∙ sym (ap (fault_of (length text)) (stuck Done (lexeme_of text t) (lexemes text ts) (nothing (lexeme_of text t).symbol))))
  where
    -- behind a whole chart no symbol may stand
    nothing : (x : Symbol) → next Done x ≡ None
    nothing x = refl

-- all parts of a chart, and nothing behind them
pub chart_read : (text : List ℕ) {a b c d e f : List Token} (g : List Token) (t : Tree)
    → DidTake text (Reserved words.Msc) a b → DidTake text (Named t.name) b c → DidEnd text c d
    → DidRead text IsHeader Header Sections d e t.header
    → DidRead text (AreUpTo (Reserved words.EndMsc) IsSection) Sections (StatementEnd Done) e f t.sections
    → DidEnd text f g → length g ≡ 0 → IsChart (lexemes text a) t
chart_read text (x ∷ g) t msc name end header sections last none = absurd (omega (arith, none))
chart_read text {a} {b} {c} {d} {e} {f} [] t msc name end header sections last none = record {
  name = lexemes text b;
  close = lexemes text c;
  header = lexemes text d;
  sections = lexemes text e;
  last = sections.part.0;
  last_close = lexemes text f;
  is_msc = msc.part;
  is_name = name.part;
  is_end = end.part;
  is_header = header.part;
  are_sections = sections.part.1;
  is_endmsc = sections.part.2;
  is_last_end = last.part;
}

-- the exit of a `?`
pub chart_exits : (text : List ℕ) (tokens : List Token) (r : Result Tree ParseFault)
    (e : ParseFault) → IsErrAnd r (λ y. y ≡ e) → Stops text Start tokens e
    → ReadsChart text tokens r
chart_exits text tokens (Ok x) e h stop = absurd h
chart_exits text tokens (Err y) e h stop =
    subst (λ (f : ParseFault). Stops text Start tokens f) (sym h) stop

-- as many lexemes as tokens
pub lexemes_few : (text : List ℕ) (tokens : List Token) → length tokens ≤ TEXT_LIMIT
    → length (lexemes text tokens) ≤ TEXT_LIMIT
lexemes_few text tokens few = omega (arith, few, length-map tokens (lexeme_of text))
