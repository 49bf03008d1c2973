-- What may follow each place up to the end of a chart.
use Rattle.std.proofs.Common.{◌≡◌, ℕ, List, [], ◌∷◌, Option}
use Rattle.msc_lexer.specs.declared.word.Word.TheVariants as words
use Rattle.msc_lexer.specs.Lexemes.{Symbol, Reserved, Named, Quoted, Comma, Colon, LeftParen, RightParen, Lexeme}
use Rattle.msc_parser.specs.declared.tree.Direction.{Direction}
use Rattle.msc_parser.specs.declared.tree.Decl.{Decl}
use Rattle.msc_parser.specs.declared.tree.Statement.{Statement}
use Rattle.msc_parser.specs.declared.tree.Item.{Item}
use Rattle.msc_parser.specs.declared.tree.Section.{Section}
use Rattle.msc_parser.specs.Forms.{IsToken, IsNamed, AreMany, IsLedBy}
use Rattle.msc_parser.specs.Grammar.{Tree, IsEnd, IsSecond, IsKind, IsDecl, direction_word, address_word, IsNumber, AreParameters, IsEvent, IsItem, IsSection, AreDecls, IsChart}
use Rattle.msc_parser.specs.Places.{DeclStatement, InInst, InInstance, GrammarPlace, Start, ChartName, Header, Sections, Items, Events, DeclName, DeclKind, KindFirst, KindSecond, DeclEnd, Message, AfterMessage, Number, AfterNumber, Parameters, Parameter, AfterParameter, AfterParameters, Address, ActionText, StatementEnd, CommentText, CommentEnd, Done}

-- a symbol that stands at a place of the text
abbrev pub at_place : Symbol → ℕ → Lexeme
at_place s at = record { symbol = s; place = at }

-- ---- what may follow, part by part

-- sections, `endmsc` and the last end
pub record SectionsRest (ls : List Lexeme) : Type 0 where
  pub sections : List Section
  pub last : List Lexeme
  pub close : List Lexeme
  pub are : AreMany IsSection ls sections last
  pub is_endmsc : IsToken (Reserved words.EndMsc) last close
  pub is_end : IsEnd close []

-- `inst` statements, and what follows the header
pub record HeaderRest (ls : List Lexeme) : Type 0 where
  pub groups : List (List Decl)
  pub after : List Lexeme
  pub are : AreMany (IsLedBy (Reserved words.Inst) AreDecls) ls groups after
  pub rest : SectionsRest after

-- items, `endinstance` and its end, and what follows a section
pub record ItemsRest (ls : List Lexeme) : Type 0 where
  pub items : List Item
  pub last : List Lexeme
  pub close : List Lexeme
  pub after : List Lexeme
  pub are : AreMany IsItem ls items last
  pub is_endinstance : IsToken (Reserved words.EndInstance) last close
  pub is_end : IsEnd close after
  pub rest : SectionsRest after

-- events, `endconcurrent` and its end, and what follows an item
pub record EventsRest (ls : List Lexeme) : Type 0 where
  pub events : List Statement
  pub last : List Lexeme
  pub close : List Lexeme
  pub after : List Lexeme
  pub are : AreMany IsEvent ls events last
  pub is_endconcurrent : IsToken (Reserved words.EndConcurrent) last close
  pub is_end : IsEnd close after
  pub rest : ItemsRest after

-- the end of a statement, and more
pub record EndRest (More : List Lexeme → Type 0) (ls : List Lexeme) : Type 0 where
  pub after : List Lexeme
  pub is_end : IsEnd ls after
  pub rest : More after

-- further decls of `inst`, its end, and the header behind it
pub record DeclsRest (ls : List Lexeme) : Type 0 where
  pub decls : List Decl
  pub close : List Lexeme
  pub are : AreMany (IsLedBy Comma IsDecl) ls decls close
  pub rest : EndRest HeaderRest close

-- what may follow a decl
abbrev pub DeclRest : DeclStatement → List Lexeme → Type 0
DeclRest InInst ls = DeclsRest ls
DeclRest InInstance ls = EndRest ItemsRest ls

-- a second name of a kind or none, and what follows the decl
pub record SecondRest (st : DeclStatement) (ls : List Lexeme) : Type 0 where
  pub second : List (List ℕ)
  pub after : List Lexeme
  pub is : IsSecond ls second after
  pub rest : DeclRest st after

-- a kind or none, and what follows the decl
pub record KindRest (st : DeclStatement) (ls : List Lexeme) : Type 0 where
  pub kind : List (List ℕ)
  pub after : List Lexeme
  pub is : IsKind ls kind after
  pub rest : DeclRest st after

-- a decl, and what follows it
pub record NameRest (st : DeclStatement) (ls : List Lexeme) : Type 0 where
  pub decl : Decl
  pub after : List Lexeme
  pub is : IsDecl ls decl after
  pub rest : DeclRest st after

-- an address and the end of the message event, and more
pub record AddressRest (More : List Lexeme → Type 0) (ls : List Lexeme) : Type 0 where
  pub name : List ℕ
  pub close : List Lexeme
  pub is : IsToken (Named name) ls close
  pub rest : EndRest More close

-- the word before an address, and what follows it
pub record WordRest (w : Direction) (More : List Lexeme → Type 0) (ls : List Lexeme) : Type 0 where
  pub address : List Lexeme
  pub is : IsToken (Reserved (address_word w)) ls address
  pub rest : AddressRest More address

-- parameters or none, and what follows them
pub record ParametersRest (w : Direction) (More : List Lexeme → Type 0) (ls : List Lexeme) : Type 0 where
  pub parameters : List (List ℕ)
  pub word : List Lexeme
  pub are : AreParameters ls parameters word
  pub rest : WordRest w More word

-- further parameters and `)`, and what follows them
pub record NamesRest (w : Direction) (More : List Lexeme → Type 0) (ls : List Lexeme) : Type 0 where
  pub names : List (List ℕ)
  pub close : List Lexeme
  pub word : List Lexeme
  pub are : AreMany (IsLedBy Comma IsNamed) ls names close
  pub is_close : IsToken RightParen close word
  pub rest : WordRest w More word

-- a message instance name or none, and what follows it
pub record NumberRest (w : Direction) (More : List Lexeme → Type 0) (ls : List Lexeme) : Type 0 where
  pub number : Option (List ℕ)
  pub parameters : List Lexeme
  pub is : IsNumber ls number parameters
  pub rest : ParametersRest w More parameters

-- an event, and more
pub record EventRest (More : List Lexeme → Type 0) (ls : List Lexeme) : Type 0 where
  pub event : Statement
  pub after : List Lexeme
  pub is : IsEvent ls event after
  pub rest : More after

-- what may follow from a place to the end of a chart; where a part began before the place, the
-- tokens before it, which may stand anywhere, are told too
unfoldable pub Rest : GrammarPlace → List Lexeme → Type 0
Rest Start ls = (t : Tree) × IsChart ls t
Rest ChartName ls =
    (name : List ℕ) × (close : List Lexeme) × IsToken (Named name) ls close × EndRest HeaderRest close
Rest Header ls = HeaderRest ls
Rest Sections ls = SectionsRest ls
Rest Items ls = ItemsRest ls
Rest Events ls = EventsRest ls
Rest (DeclName st) ls = NameRest st ls
Rest (DeclKind st) ls = KindRest st ls
Rest (KindFirst st) ls = (at : ℕ) → KindRest st (at_place Colon at ∷ ls)
Rest (KindSecond st) ls = SecondRest st ls
Rest (DeclEnd st) ls = DeclRest st ls
Rest (Message w p) ls = (at : ℕ) → EventRest (Rest p) (at_place (Reserved (direction_word w)) at ∷ ls)
Rest (AfterMessage w p) ls = NumberRest w (Rest p) ls
Rest (Number w p) ls = (at : ℕ) → NumberRest w (Rest p) (at_place Comma at ∷ ls)
Rest (AfterNumber w p) ls = ParametersRest w (Rest p) ls
Rest (Parameters w p) ls = (at : ℕ) → ParametersRest w (Rest p) (at_place LeftParen at ∷ ls)
Rest (Parameter w p) ls = (at : ℕ) → NamesRest w (Rest p) (at_place Comma at ∷ ls)
Rest (AfterParameter w p) ls = NamesRest w (Rest p) ls
Rest (AfterParameters w p) ls = WordRest w (Rest p) ls
Rest (Address p) ls = AddressRest (Rest p) ls
Rest (ActionText p) ls =
    (at : ℕ) → EventRest (Rest p) (at_place (Reserved words.Action) at ∷ ls)
Rest (StatementEnd p) ls = EndRest (Rest p) ls
Rest (CommentText p) ls = (at : ℕ) → EndRest (Rest p) (at_place (Reserved words.Comment) at ∷ ls)
Rest (CommentEnd p) ls =
    (at bt : ℕ) (bytes : List ℕ) → EndRest (Rest p) (at_place (Reserved words.Comment) at ∷ at_place (Quoted bytes) bt ∷ ls)
Rest Done ls = ls ≡ []
