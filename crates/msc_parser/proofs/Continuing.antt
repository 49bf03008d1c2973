-- What leads from the start to the end is a chart, built one token back at a time.
use Rattle.std.proofs.Common.{◌≡◌, ℕ, List, [], ◌∷◌, Option, Some, None, refl, sym, ap, subst}
use Rattle.std.specs.Prelude.{IfSome}
use Rattle.std.specs.Option.{option_map_or}
use Rattle.msc_lexer.specs.declared.word.Word.TheVariants as words
use Rattle.msc_lexer.specs.Lexemes.{Symbol, Reserved, Named, Quoted, Semicolon, Comma, Colon, LeftParen, RightParen, Lexeme}
use Rattle.msc_parser.specs.declared.tree.Direction.TheVariants as directions
use Rattle.msc_parser.specs.Grammar.{Tree, Empty, Given, IsChart}
use Rattle.msc_parser.specs.Places.{InInst, InInstance, GrammarPlace, Start, ChartName, Header, Sections, Items, Events, DeclName, DeclKind, KindFirst, KindSecond, DeclEnd, Message, AfterMessage, Number, AfterNumber, Parameters, Parameter, AfterParameter, AfterParameters, Address, ActionText, StatementEnd, CommentText, CommentEnd, Done, next, walk}
use Rattle.msc_parser.proofs.Following.{at_place, HeaderRest, ItemsRest, Rest}
use Rattle.msc_parser.proofs.Backwards.{plain_end, commented_end, no_decls, comma_decl, no_kind, no_second, no_number, no_parameters, word_back, event_back, action_back, item_back, coregion_event, coregion_back, last_back, section_back, no_inst, inst_back, chart_back}

-- one token back, a line for each that may stand at a place
back : (p : GrammarPlace) (s : Symbol) (at : ℕ) (ls : List Lexeme)
    → IfSome (next p s) (λ q. Rest q ls → Rest p (at_place s at ∷ ls))
unfolding Rest
back Start (Reserved words.Msc) at ls = λ r. chart_back at ls r
back ChartName (Named n) at ls = λ r. (n, ls, (at, refl), r)
back Header (Reserved words.Inst) at ls = λ r. inst_back at ls r
back Header (Reserved words.Instance) at ls = λ r. no_inst _ (section_back at ls r)
back Header (Reserved words.EndMsc) at ls = λ r. no_inst _ (last_back at ls r)
back Sections (Reserved words.Instance) at ls = λ r. section_back at ls r
back Sections (Reserved words.EndMsc) at ls = λ r. last_back at ls r
back Items (Reserved words.Output) at ls = λ r. item_back _ (r at)
back Items (Reserved words.Input) at ls = λ r. item_back _ (r at)
back Items (Reserved words.Action) at ls = λ r. item_back _ (r at)
back Items (Reserved words.Concurrent) at ls = λ r. coregion_back at ls r
back Items (Reserved words.EndInstance) at ls =
    λ r. record { items = []; last = at_place (Reserved words.EndInstance) at ∷ ls; close = ls; after = r.after; are = refl; is_endinstance = (at, refl); is_end = r.is_end; rest = r.rest }
back Events (Reserved words.Output) at ls = λ r. coregion_event _ (r at)
back Events (Reserved words.Input) at ls = λ r. coregion_event _ (r at)
back Events (Reserved words.Action) at ls = λ r. coregion_event _ (r at)
back Events (Reserved words.EndConcurrent) at ls =
    λ r. record { events = []; last = at_place (Reserved words.EndConcurrent) at ∷ ls; close = ls; after = r.after; are = refl; is_endconcurrent = (at, refl); is_end = r.is_end; rest = r.rest }
back (DeclName st) (Named n) at ls =
    λ r. record { decl = record { name = n; kind = r.kind }; after = r.after; is = (ls, (at, refl), r.is); rest = r.rest }
back (DeclKind InInst) Colon at ls = λ r. r at
back (DeclKind InInst) Comma at ls = λ r. no_kind InInst _ (comma_decl at ls r)
back (DeclKind InInst) (Reserved words.Comment) at ls = λ r. no_kind InInst _ (no_decls _ (r at))
back (DeclKind InInst) Semicolon at ls =
    λ r. no_kind InInst _ (no_decls _ (plain_end HeaderRest at ls r))
back (DeclKind InInstance) Colon at ls = λ r. r at
back (DeclKind InInstance) (Reserved words.Comment) at ls = λ r. no_kind InInstance _ (r at)
back (DeclKind InInstance) Semicolon at ls = λ r. no_kind InInstance _ (plain_end ItemsRest at ls r)
back (KindFirst st) (Named n) at ls =
    λ r bt. record { kind = n ∷ r.second; after = r.after; is = (at_place (Named n) at ∷ ls, ls, (bt, refl), (at, refl), r.is); rest = r.rest }
back (KindSecond InInst) (Named n) at ls =
    λ r. record { second = n ∷ []; after = ls; is = (at, refl); rest = r }
back (KindSecond InInst) Comma at ls = λ r. no_second InInst _ (comma_decl at ls r)
back (KindSecond InInst) (Reserved words.Comment) at ls =
    λ r. no_second InInst _ (no_decls _ (r at))
back (KindSecond InInst) Semicolon at ls =
    λ r. no_second InInst _ (no_decls _ (plain_end HeaderRest at ls r))
back (KindSecond InInstance) (Named n) at ls =
    λ r. record { second = n ∷ []; after = ls; is = (at, refl); rest = r }
back (KindSecond InInstance) (Reserved words.Comment) at ls = λ r. no_second InInstance _ (r at)
back (KindSecond InInstance) Semicolon at ls =
    λ r. no_second InInstance _ (plain_end ItemsRest at ls r)
back (DeclEnd InInst) Comma at ls = λ r. comma_decl at ls r
back (DeclEnd InInst) (Reserved words.Comment) at ls = λ r. no_decls _ (r at)
back (DeclEnd InInst) Semicolon at ls = λ r. no_decls _ (plain_end HeaderRest at ls r)
back (DeclEnd InInstance) (Reserved words.Comment) at ls = λ r. r at
back (DeclEnd InInstance) Semicolon at ls = λ r. plain_end ItemsRest at ls r
back (Message w p) (Named n) at ls = λ r bt. event_back w (Rest p) n bt at ls r
back (AfterMessage directions.Output p) Comma at ls = λ r. r at
back (AfterMessage directions.Input p) Comma at ls = λ r. r at
back (AfterMessage directions.Output p) LeftParen at ls = λ r. no_number directions.Output (Rest p) _ (r at)
back (AfterMessage directions.Input p) LeftParen at ls = λ r. no_number directions.Input (Rest p) _ (r at)
back (AfterMessage directions.Output p) (Reserved words.To) at ls =
    λ r. no_number directions.Output (Rest p) _ (no_parameters directions.Output (Rest p) _ (word_back directions.Output (Rest p) at ls r))
back (AfterMessage directions.Input p) (Reserved words.From) at ls =
    λ r. no_number directions.Input (Rest p) _ (no_parameters directions.Input (Rest p) _ (word_back directions.Input (Rest p) at ls r))
back (Number w p) (Named n) at ls =
    λ r bt. record { number = Some n; parameters = ls; is = (at_place (Named n) at ∷ ls, (bt, refl), (at, refl)); rest = r }
back (AfterNumber directions.Output p) LeftParen at ls = λ r. r at
back (AfterNumber directions.Input p) LeftParen at ls = λ r. r at
back (AfterNumber directions.Output p) (Reserved words.To) at ls =
    λ r. no_parameters directions.Output (Rest p) _ (word_back directions.Output (Rest p) at ls r)
back (AfterNumber directions.Input p) (Reserved words.From) at ls =
    λ r. no_parameters directions.Input (Rest p) _ (word_back directions.Input (Rest p) at ls r)
back (Parameters w p) (Named n) at ls =
    λ r bt. record { parameters = n ∷ r.names; word = r.word; are = Given (at_place (Named n) at ∷ ls) r.close (bt, refl) (ls, (at, refl), r.are) r.is_close; rest = r.rest }
back (Parameters w p) RightParen at ls =
    λ r bt. record { parameters = []; word = ls; are = Empty (at_place RightParen at ∷ ls) refl (bt, refl) (at, refl); rest = r }
back (Parameter w p) (Named n) at ls =
    λ r bt. record { names = n ∷ r.names; close = r.close; word = r.word; are = (ls, (at_place (Named n) at ∷ ls, (bt, refl), (at, refl)), r.are); is_close = r.is_close; rest = r.rest }
back (AfterParameter w p) Comma at ls = λ r. r at
back (AfterParameter w p) RightParen at ls =
    λ r. record { names = []; close = at_place RightParen at ∷ ls; word = ls; are = refl; is_close = (at, refl); rest = r }
back (AfterParameters directions.Output p) (Reserved words.To) at ls =
    λ r. word_back directions.Output (Rest p) at ls r
back (AfterParameters directions.Input p) (Reserved words.From) at ls =
    λ r. word_back directions.Input (Rest p) at ls r
back (Address p) (Named n) at ls = λ r. record { name = n; close = ls; is = (at, refl); rest = r }
back (ActionText p) (Quoted label) at ls = λ r bt. action_back (Rest p) label bt at ls r
back (StatementEnd p) (Reserved words.Comment) at ls = λ r. r at
back (StatementEnd p) Semicolon at ls = λ r. plain_end (Rest p) at ls r
back (CommentText p) (Quoted bytes) at ls = λ r bt. r bt at bytes
back (CommentEnd p) Semicolon at ls =
    λ r at_1 bt bytes. commented_end (Rest p) at_1 bt at bytes ls r
back p s at ls = tt

-- one token back, from the place behind it
onward : (p : GrammarPlace) (l : Lexeme) (ls : List Lexeme) (o : Option GrammarPlace) → next p l.symbol ≡ o
    → ((q : GrammarPlace) → walk q ls ≡ (Done, []) → Rest q ls)
    → option_map_or (λ q. walk q ls) o (p, l ∷ ls) ≡ (Done, []) → Rest p (l ∷ ls)
onward p l ls None step others h =
    let t : l ∷ ls ≡ [] = ap (λ (x : GrammarPlace × List Lexeme). x.1) h in absurd cc
onward p l ls (Some q) step others h =
    let r = subst (λ (o : Option GrammarPlace). IfSome o (λ k. Rest k ls → Rest p (l ∷ ls))) step (back p l.symbol l.place ls) in r (others q h)

-- what leads to the end may follow its place
sound : (ls : List Lexeme) (p : GrammarPlace) → walk p ls ≡ (Done, []) → Rest p ls
unfolding Rest
sound [] p e = subst (λ (q : GrammarPlace). Rest q []) (sym (ap (λ (x : GrammarPlace × List Lexeme). x.0) e)) refl
sound (l ∷ ls) p e = onward p l ls (next p l.symbol) refl (λ q h. sound ls q h) e

-- what leads from the start to the end is a chart
pub walks_chart : (ls : List Lexeme) → walk Start ls ≡ (Done, []) → (t : Tree) × IsChart ls t
unfolding Rest
walks_chart ls e = sound ls Start e
