-- What may stand at each place of a text, what an error there says was expected, and which fault a
-- list of tokens has (this project's profile of MSC/PR, ITU-T Z.120).
use Rattle.std.specs.Prelude.{List, [], ◌∷◌, Option, Some, None}
use Rattle.std.specs.Option.{option_map_or}
use Rattle.msc_lexer.specs.declared.word.Word.TheVariants as words
use Rattle.msc_lexer.specs.Lexemes.{Symbol, Reserved, Named, Quoted, Semicolon, Comma, Colon, LeftParen, RightParen, Lexeme}
use Rattle.msc_parser.specs.declared.tree.Direction.{Direction}
use Rattle.msc_parser.specs.declared.tree.Direction.TheVariants as directions
use Rattle.msc_parser.specs.declared.fault.What.{What}
use Rattle.msc_parser.specs.declared.fault.What.TheVariants as whats

-- the statement in which a decl stands
pub data DeclStatement : Type 0 where
  InInst : DeclStatement
  InInstance : DeclStatement

-- A place between two tokens. Where a statement ends at several places, the place behind its `;` is
-- told with it.
pub data GrammarPlace : Type 0 where
  Start : GrammarPlace  -- the start of the text
  ChartName : GrammarPlace  -- after `msc`
  Header : GrammarPlace  -- after the chart's head or an `inst` statement
  Sections : GrammarPlace  -- after a section
  Items : GrammarPlace  -- at the beginning of a statement in a section
  Events : GrammarPlace  -- at the beginning of a statement in a coregion
  DeclName : DeclStatement → GrammarPlace  -- after `inst` or a comma there, or after `instance`
  DeclKind : DeclStatement → GrammarPlace  -- after the name of a decl
  KindFirst : DeclStatement → GrammarPlace  -- after the `:` of a kind
  KindSecond : DeclStatement → GrammarPlace  -- after the first name of a kind
  DeclEnd : DeclStatement → GrammarPlace  -- after the second name of a kind
  Message : Direction → GrammarPlace → GrammarPlace  -- after `out` or `in`
  AfterMessage : Direction → GrammarPlace → GrammarPlace  -- after the message name
  Number : Direction → GrammarPlace → GrammarPlace  -- after the comma behind the message name
  AfterNumber : Direction → GrammarPlace → GrammarPlace  -- after the message instance name
  Parameters : Direction → GrammarPlace → GrammarPlace  -- after `(`
  Parameter : Direction → GrammarPlace → GrammarPlace  -- after a comma between parameters
  AfterParameter : Direction → GrammarPlace → GrammarPlace  -- after a parameter
  AfterParameters : Direction → GrammarPlace → GrammarPlace  -- after `)`
  Address : GrammarPlace → GrammarPlace  -- after `to` or `from`
  ActionText : GrammarPlace → GrammarPlace  -- after `action`
  StatementEnd : GrammarPlace → GrammarPlace  -- at the end of a statement
  CommentText : GrammarPlace → GrammarPlace  -- after `comment`
  CommentEnd : GrammarPlace → GrammarPlace  -- after the text of a comment
  Done : GrammarPlace  -- after the whole chart

-- the place behind the `;` of a statement with decls
abbrev pub behind : DeclStatement → GrammarPlace
behind InInst = Header
behind InInstance = Items

-- the place behind a token that may stand at a place
abbrev pub next : GrammarPlace → Symbol → Option GrammarPlace
next Start (Reserved words.Msc) = Some ChartName
next ChartName (Named n) = Some (StatementEnd Header)
next Header (Reserved words.Inst) = Some (DeclName InInst)
next Header (Reserved words.Instance) = Some (DeclName InInstance)
next Header (Reserved words.EndMsc) = Some (StatementEnd Done)
next Sections (Reserved words.Instance) = Some (DeclName InInstance)
next Sections (Reserved words.EndMsc) = Some (StatementEnd Done)
next Items (Reserved words.Output) = Some (Message directions.Output Items)
next Items (Reserved words.Input) = Some (Message directions.Input Items)
next Items (Reserved words.Action) = Some (ActionText Items)
next Items (Reserved words.Concurrent) = Some (StatementEnd Events)
next Items (Reserved words.EndInstance) = Some (StatementEnd Sections)
next Events (Reserved words.Output) = Some (Message directions.Output Events)
next Events (Reserved words.Input) = Some (Message directions.Input Events)
next Events (Reserved words.Action) = Some (ActionText Events)
next Events (Reserved words.EndConcurrent) = Some (StatementEnd Items)
next (DeclName st) (Named n) = Some (DeclKind st)
next (DeclKind st) Colon = Some (KindFirst st)
next (DeclKind InInst) Comma = Some (DeclName InInst)
next (DeclKind st) (Reserved words.Comment) = Some (CommentText (behind st))
next (DeclKind st) Semicolon = Some (behind st)
next (KindFirst st) (Named n) = Some (KindSecond st)
next (KindSecond st) (Named n) = Some (DeclEnd st)
next (KindSecond InInst) Comma = Some (DeclName InInst)
next (KindSecond st) (Reserved words.Comment) = Some (CommentText (behind st))
next (KindSecond st) Semicolon = Some (behind st)
next (DeclEnd InInst) Comma = Some (DeclName InInst)
next (DeclEnd st) (Reserved words.Comment) = Some (CommentText (behind st))
next (DeclEnd st) Semicolon = Some (behind st)
next (Message direction p) (Named n) = Some (AfterMessage direction p)
next (AfterMessage direction p) Comma = Some (Number direction p)
next (AfterMessage direction p) LeftParen = Some (Parameters direction p)
next (AfterMessage directions.Output p) (Reserved words.To) = Some (Address p)
next (AfterMessage directions.Input p) (Reserved words.From) = Some (Address p)
next (Number direction p) (Named n) = Some (AfterNumber direction p)
next (AfterNumber direction p) LeftParen = Some (Parameters direction p)
next (AfterNumber directions.Output p) (Reserved words.To) = Some (Address p)
next (AfterNumber directions.Input p) (Reserved words.From) = Some (Address p)
next (Parameters direction p) (Named n) = Some (AfterParameter direction p)
next (Parameters direction p) RightParen = Some (AfterParameters direction p)
next (Parameter direction p) (Named n) = Some (AfterParameter direction p)
next (AfterParameter direction p) Comma = Some (Parameter direction p)
next (AfterParameter direction p) RightParen = Some (AfterParameters direction p)
next (AfterParameters directions.Output p) (Reserved words.To) = Some (Address p)
next (AfterParameters directions.Input p) (Reserved words.From) = Some (Address p)
next (Address p) (Named n) = Some (StatementEnd p)
next (ActionText p) (Quoted label) = Some (StatementEnd p)
next (StatementEnd p) (Reserved words.Comment) = Some (CommentText p)
next (StatementEnd p) Semicolon = Some p
next (CommentText p) (Quoted bytes) = Some (CommentEnd p)
next (CommentEnd p) Semicolon = Some p
next place symbol = None

-- what is expected before the address of a message event
abbrev pub address_what : Direction → What
address_what directions.Output = whats.To
address_what directions.Input = whats.From

-- what an error at a place says was expected
abbrev pub what : GrammarPlace → What
what Start = whats.Msc
what ChartName = whats.Name
what Header = whats.Section
what Sections = whats.Section
what Items = whats.Item
what Events = whats.Event
what (DeclName st) = whats.Name
what (DeclKind st) = whats.End
what (KindFirst st) = whats.Name
what (KindSecond st) = whats.End
what (DeclEnd st) = whats.End
what (Message direction p) = whats.Name
what (AfterMessage direction p) = address_what direction
what (Number direction p) = whats.Name
what (AfterNumber direction p) = address_what direction
what (Parameters direction p) = whats.Parameter
what (Parameter direction p) = whats.Name
what (AfterParameter direction p) = whats.Parameter
what (AfterParameters direction p) = address_what direction
what (Address p) = whats.Name
what (ActionText p) = whats.Text
what (StatementEnd p) = whats.End
what (CommentText p) = whats.Text
what (CommentEnd p) = whats.End
what Done = whats.Nothing

-- where the tokens stop to be what may stand there: the place, and the tokens from there on
abbrev pub walk : GrammarPlace → List Lexeme → GrammarPlace × List Lexeme
walk place [] = (place, [])
walk place (l ∷ ls) = option_map_or (λ after. walk after ls) (next place l.symbol) (place, l ∷ ls)
