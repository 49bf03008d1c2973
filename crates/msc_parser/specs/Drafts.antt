-- What every draft keeps: its names are names that a text can have, and there are no more of its parts
-- than a text has bytes. The text of an action may have any bytes.
use Rattle.std.specs.Prelude.{◌≤◌, List, [], ◌∷◌, length, IfSome}
use Rattle.std.specs.List.{flat_map, AllByRecursion}
use Rattle.msc_lexer.specs.declared.TheConstants.{TEXT_LIMIT}
use Rattle.msc_lexer.specs.Lexemes.{IsName}
use Rattle.msc_parser.specs.declared.tree.Decl.{Decl}
use Rattle.msc_parser.specs.declared.tree.Signal.{Signal}
use Rattle.msc_parser.specs.declared.tree.Statement.{Statement}
use Rattle.msc_parser.specs.declared.tree.Statement.TheVariants.{Message, Action}
use Rattle.msc_parser.specs.declared.tree.Item.{Item}
use Rattle.msc_parser.specs.declared.tree.Item.TheVariants.{Single, Coregion}
use Rattle.msc_parser.specs.declared.tree.Section.{Section}
use Rattle.msc_parser.specs.Grammar.{Tree}

-- a decl of names, with at most two of a kind
pub record IsDeclNamed (d : Decl) : Type 0 where
  pub name : IsName d.name
  pub kind : AllByRecursion IsName d.kind
  pub short : length d.kind ≤ 2

-- a message event of names
pub record IsSignalNamed (e : Signal) : Type 0 where
  pub name : IsName e.name
  pub number : IfSome e.number IsName
  pub parameters : AllByRecursion IsName e.parameters
  pub address : IsName e.address

-- such an event, or an action
abbrev pub IsStatementNamed : Statement → Type 0
IsStatementNamed (Message e) = IsSignalNamed e
IsStatementNamed (Action label) = Unit {0}

-- an item of such statements
abbrev pub IsItemNamed : Item → Type 0
IsItemNamed (Single s) = IsStatementNamed s
IsItemNamed (Coregion ss) = AllByRecursion IsStatementNamed ss

-- a section of such items
pub record IsSectionNamed (s : Section) : Type 0 where
  pub decl : IsDeclNamed s.decl
  pub items : AllByRecursion IsItemNamed s.items

-- the statements of an item
abbrev pub statements_in : Item → List Statement
statements_in (Single s) = s ∷ []
statements_in (Coregion ss) = ss

-- the statements of all sections, in the order of the text
abbrev pub statements_of : List Section → List Statement
statements_of ss = flat_map (λ s. flat_map statements_in s.items) ss

-- what every draft keeps; each name and statement takes a byte of the text at least
pub record IsDraft (t : Tree) : Type 0 where
  pub name : IsName t.name
  pub header : AllByRecursion IsDeclNamed t.header
  pub few_decls : length t.header ≤ TEXT_LIMIT
  pub sections : AllByRecursion IsSectionNamed t.sections
  pub few_statements : length (statements_of t.sections) ≤ TEXT_LIMIT
