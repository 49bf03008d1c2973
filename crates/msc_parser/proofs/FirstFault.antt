-- The first fault of a list of tokens stands where its walk from the start ends.
use Rattle.std.proofs.Common.{◌≡◌, List, [], ◌∷◌, ◌++◌, Option, Some, None, refl, sym, ap, subst, ◌∙◌, append_assoc}
use Rattle.std.specs.Option.{option_map_or}
use Rattle.std.proofs.lemmas.List.{append-nil}
use Rattle.msc_lexer.specs.declared.word.Word.TheVariants as words
use Rattle.msc_lexer.specs.Lexemes.{Symbol, Reserved, Named, Quoted, Semicolon, RightParen, Lexeme}
use Rattle.msc_parser.specs.declared.tree.Direction.{Direction}
use Rattle.msc_parser.specs.declared.tree.Direction.TheVariants as directions
use Rattle.msc_parser.specs.Grammar.{address_word}
use Rattle.msc_parser.specs.Places.{DeclStatement, InInst, InInstance, GrammarPlace, Start, ChartName, Header, Sections, Items, Events, DeclName, DeclKind, KindFirst, KindSecond, DeclEnd, Message, AfterMessage, Number, AfterNumber, Parameters, Parameter, AfterParameter, AfterParameters, Address, ActionText, StatementEnd, CommentText, CommentEnd, Done, next, walk}
use Rattle.msc_parser.specs.Parsing.{IsContinuable, IsEndOfGood}
use Rattle.msc_parser.proofs.Accepting.{chart_walks}
use Rattle.msc_parser.proofs.Continuing.{walks_chart}

-- ---- where a walk ends

-- a walk is over at the end of the tokens, or before one that may not stand there
pub record WalksTo (p : GrammarPlace) (ls : List Lexeme) (q : GrammarPlace) (rest : List Lexeme) : Type 0 where
  pub front : List Lexeme
  pub whole : ls ≡ front ++ rest
  pub leads : (more : List Lexeme) → walk p (front ++ more) ≡ walk q more
  pub stops : (l : Lexeme) (more : List Lexeme) → rest ≡ l ∷ more → next q l.symbol ≡ None

-- one step of a walk
walk_step : (p : GrammarPlace) (l : Lexeme) (ls : List Lexeme) (o : Option GrammarPlace) → next p l.symbol ≡ o
    → ((q : GrammarPlace) → WalksTo q ls (walk q ls).0 (walk q ls).1)
    → WalksTo p (l ∷ ls) (option_map_or (λ q. walk q ls) o (p, l ∷ ls)).0 (option_map_or (λ q. walk q ls) o (p, l ∷ ls)).1
walk_step p l ls None step others =
    record { front = []; whole = refl; leads = λ more. refl; stops = λ k more e. let s : l ≡ k = cc in subst (λ (x : Lexeme). next p x.symbol ≡ None) s step }
walk_step p l ls (Some q) step others =
    let w = others q in
    record {
      front = l ∷ w.front;
      whole = ap (λ (x : List Lexeme). l ∷ x) w.whole;
      leads = λ more. ap (λ (o : Option GrammarPlace). option_map_or (λ k. walk k (w.front ++ more)) o (p, l ∷ (w.front ++ more))) step ∙ w.leads more;
      stops = w.stops;
    }

-- where each walk ends
pub walks_to : (ls : List Lexeme) (p : GrammarPlace) → WalksTo p ls (walk p ls).0 (walk p ls).1
walks_to [] p =
    record { front = []; whole = refl; leads = λ more. refl; stops = λ l more e. absurd cc }
walks_to (l ∷ ls) p = walk_step p l ls (next p l.symbol) refl (λ q. walks_to ls q)

-- a token that may not stand there ends the walk
pub stuck : (p : GrammarPlace) (l : Lexeme) (ls : List Lexeme) → next p l.symbol ≡ None
    → walk p (l ∷ ls) ≡ (p, l ∷ ls)
stuck p l ls none = ap (λ (o : Option GrammarPlace). option_map_or (λ n. walk n ls) o (p, l ∷ ls)) none

-- ---- each place has a way to the end

-- a symbol at no place that matters
lexeme : Symbol → Lexeme
lexeme s = record { symbol = s; place = 0 }

-- some name
name : Lexeme
unfolding lexeme
name = lexeme (Named (97 ∷ []))

-- `;` and what follows
from_end : List Lexeme → List Lexeme
unfolding lexeme
from_end more = lexeme Semicolon ∷ more

-- the shortest way to the end from between the sections
from_sections : List Lexeme
unfolding lexeme
from_sections = lexeme (Reserved words.EndMsc) ∷ from_end []

-- the shortest way to the end from between items
from_items : List Lexeme
unfolding lexeme
from_items = lexeme (Reserved words.EndInstance) ∷ from_end from_sections

-- the shortest way to the end from behind a decl
from_decl : DeclStatement → List Lexeme
from_decl InInst = from_end from_sections
from_decl InInstance = from_end from_items

-- the word before an address, an address and `;`
from_word : Direction → List Lexeme → List Lexeme
unfolding lexeme
from_word w more = lexeme (Reserved (address_word w)) ∷ name ∷ from_end more

-- a way to the end from each place
pub completion : GrammarPlace → List Lexeme
unfolding lexeme
completion Start = lexeme (Reserved words.Msc) ∷ name ∷ from_end from_sections
completion ChartName = name ∷ from_end from_sections
completion Header = from_sections
completion Sections = from_sections
completion Items = from_items
completion Events = lexeme (Reserved words.EndConcurrent) ∷ from_end from_items
completion (DeclName st) = name ∷ from_decl st
completion (DeclKind st) = from_decl st
completion (KindFirst st) = name ∷ from_decl st
completion (KindSecond st) = from_decl st
completion (DeclEnd st) = from_decl st
completion (Message w p) = name ∷ from_word w (completion p)
completion (AfterMessage w p) = from_word w (completion p)
completion (Number w p) = name ∷ from_word w (completion p)
completion (AfterNumber w p) = from_word w (completion p)
completion (Parameters w p) = lexeme RightParen ∷ from_word w (completion p)
completion (Parameter w p) = name ∷ lexeme RightParen ∷ from_word w (completion p)
completion (AfterParameter w p) = lexeme RightParen ∷ from_word w (completion p)
completion (AfterParameters w p) = from_word w (completion p)
completion (Address p) = name ∷ from_end (completion p)
completion (ActionText p) = lexeme (Quoted []) ∷ from_end (completion p)
completion (StatementEnd p) = from_end (completion p)
completion (CommentText p) = lexeme (Quoted []) ∷ from_end (completion p)
completion (CommentEnd p) = from_end (completion p)
completion Done = []

-- it leads there
pub completed : (p : GrammarPlace) → walk p (completion p) ≡ (Done, [])
unfolding completion lexeme name from_end from_sections from_items from_decl from_word
completed Start = refl
completed ChartName = refl
completed Header = refl
completed Sections = refl
completed Items = refl
completed Events = refl
completed (DeclName InInst) = refl
completed (DeclName InInstance) = refl
completed (DeclKind InInst) = refl
completed (DeclKind InInstance) = refl
completed (KindFirst InInst) = refl
completed (KindFirst InInstance) = refl
completed (KindSecond InInst) = refl
completed (KindSecond InInstance) = refl
completed (DeclEnd InInst) = refl
completed (DeclEnd InInstance) = refl
completed (Message directions.Output p) = completed p
completed (Message directions.Input p) = completed p
completed (AfterMessage directions.Output p) = completed p
completed (AfterMessage directions.Input p) = completed p
completed (Number directions.Output p) = completed p
completed (Number directions.Input p) = completed p
completed (AfterNumber directions.Output p) = completed p
completed (AfterNumber directions.Input p) = completed p
completed (Parameters directions.Output p) = completed p
completed (Parameters directions.Input p) = completed p
completed (Parameter directions.Output p) = completed p
completed (Parameter directions.Input p) = completed p
completed (AfterParameter directions.Output p) = completed p
completed (AfterParameter directions.Input p) = completed p
completed (AfterParameters directions.Output p) = completed p
completed (AfterParameters directions.Input p) = completed p
completed (Address p) = completed p
completed (ActionText p) = completed p
completed (StatementEnd p) = completed p
completed (CommentText p) = completed p
completed (CommentEnd p) = completed p
completed Done = refl

-- ---- the first fault

-- the tokens that were walked over can go on to a chart
can_go_on : (ls : List Lexeme) (q : GrammarPlace) (rest : List Lexeme) (w : WalksTo Start ls q rest)
    → IsContinuable w.front
can_go_on ls q rest w =
    let c = walks_chart (w.front ++ completion q) (w.leads (completion q) ∙ completed q) in
    (completion q, c.0, c.1)

-- and they cannot go on with the next token
cannot_go_on : (ls : List Lexeme) (q : GrammarPlace) (rest : List Lexeme) (w : WalksTo Start ls q rest)
    → ((q ≡ Done) → rest ≡ [] → ⊥) → IsEndOfGood w.front rest
cannot_go_on ls q [] w failed =
    λ t c. let e : walk Start w.front ≡ (Done, []) = chart_walks w.front t c in
    let f : walk Start w.front ≡ (q, []) = ap (walk Start) (sym (append-nil w.front)) ∙ w.leads [] in
    failed (ap (λ (x : GrammarPlace × List Lexeme). x.0) (sym f ∙ e)) refl
cannot_go_on ls q (l ∷ rest) w failed = λ c.
    let e : walk Start ((w.front ++ l ∷ []) ++ c.0) ≡ (Done, []) = chart_walks _ c.1 c.2 in
    let f : walk Start ((w.front ++ l ∷ []) ++ c.0) ≡ (q, l ∷ c.0) = ap (walk Start) (append_assoc w.front (l ∷ []) c.0) ∙ w.leads (l ∷ c.0) ∙ stuck q l c.0 (w.stops l rest refl) in
    let g : l ∷ c.0 ≡ [] = ap (λ (x : GrammarPlace × List Lexeme). x.1) (sym f ∙ e) in absurd cc

-- the tokens have their first fault where the walk ends
pub record FaultAt (ls : List Lexeme) : Type 0 where
  pub front : List Lexeme
  pub rest : List Lexeme
  pub whole : ls ≡ front ++ rest
  pub good : IsContinuable front
  pub last : IsEndOfGood front rest
  pub place : (walk Start front).0 ≡ (walk Start ls).0
  pub rest_is : rest ≡ (walk Start ls).1

-- a walk that doesn't reach the end of a chart ends at the first fault
pub fault_at_walk : (ls : List Lexeme) → (((walk Start ls).0 ≡ Done) → (walk Start ls).1 ≡ [] → ⊥)
    → FaultAt ls
fault_at_walk ls failed =
    let w = walks_to ls Start in
    record {
      front = w.front;
      rest = (walk Start ls).1;
      whole = w.whole;
      good = can_go_on ls (walk Start ls).0 (walk Start ls).1 w;
      last = cannot_go_on ls (walk Start ls).0 (walk Start ls).1 w failed;
      place = ap (λ (x : List Lexeme). (walk Start x).0) (sym (append-nil w.front)) ∙ ap (λ (x : GrammarPlace × List Lexeme). x.0) (w.leads []);
      rest_is = refl;
    }
