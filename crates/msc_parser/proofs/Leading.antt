-- Steps of the table that are alike for both statements with decls, for both ways of a message
-- event, or for all events.
use Rattle.std.proofs.Common.{◌≡◌, ℕ, List, Some, refl}
use Rattle.msc_lexer.specs.Lexemes.{Reserved, Named, Comma, Colon, LeftParen}
use Rattle.msc_parser.specs.declared.tree.Direction.{Direction}
use Rattle.msc_parser.specs.declared.tree.Direction.TheVariants as directions
use Rattle.msc_parser.specs.declared.opening.Opening.{Opening}
use Rattle.msc_parser.specs.declared.opening.Opening.TheVariants as openings
use Rattle.msc_parser.specs.Grammar.{address_word}
use Rattle.msc_parser.specs.Places.{DeclStatement, InInst, InInstance, GrammarPlace, Items, Events, DeclKind, KindFirst, KindSecond, DeclEnd, AfterMessage, Number, AfterNumber, Parameters, AfterParameters, Address, next}
use Rattle.msc_parser.specs.Reading.{opening_word, behind_opening}

-- `:` leads to the first name of a kind
pub colon_leads : (st : DeclStatement) → next (DeclKind st) Colon ≡ Some (KindFirst st)
colon_leads InInst = refl
colon_leads InInstance = refl

-- a second name of a kind leads to the end of the decl
pub second_leads : (st : DeclStatement) (n : List ℕ)
    → next (KindSecond st) (Named n) ≡ Some (DeclEnd st)
second_leads InInst n = refl
second_leads InInstance n = refl

-- a comma leads to the message instance name
pub comma_leads : (w : Direction) (p : GrammarPlace) → next (AfterMessage w p) Comma ≡ Some (Number w p)
comma_leads directions.Output p = refl
comma_leads directions.Input p = refl

-- `(` leads to the parameters
pub open_leads : (w : Direction) (p : GrammarPlace) → next (AfterNumber w p) LeftParen ≡ Some (Parameters w p)
open_leads directions.Output p = refl
open_leads directions.Input p = refl

-- the word before an address leads to the address
pub word_leads : (w : Direction) (p : GrammarPlace)
    → next (AfterParameters w p) (Reserved (address_word w)) ≡ Some (Address p)
word_leads directions.Output p = refl
word_leads directions.Input p = refl

-- the first word of an event leads behind it from the place
abbrev pub LeadsToEvents : GrammarPlace → Type 0
LeadsToEvents p =
    (o : Opening) → next p (Reserved (opening_word o)) ≡ Some (behind_opening o p)

-- so it does from a statement of a section
pub item_leads : LeadsToEvents Items
item_leads (openings.Message directions.Output) = refl
item_leads (openings.Message directions.Input) = refl
item_leads openings.Action = refl

-- and from a statement of a coregion
pub event_leads : LeadsToEvents Events
event_leads (openings.Message directions.Output) = refl
event_leads (openings.Message directions.Input) = refl
event_leads openings.Action = refl
