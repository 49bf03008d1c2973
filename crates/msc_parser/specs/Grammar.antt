-- The grammar of charts, one relation for each line of its table (this project's profile of MSC/PR,
-- ITU-T Z.120). `X before x after` says that the tokens `before` begin with the part x, and that
-- the tokens `after` follow it.
use Rattle.std.specs.Prelude.{◌≡◌, ℕ, List, [], ◌∷◌, Option, Some, None}
use Rattle.std.specs.List.{flat_map}
use Rattle.msc_lexer.specs.declared.word.Word.{Word}
use Rattle.msc_lexer.specs.declared.word.Word.TheVariants.{Msc, EndMsc, Inst, Instance, EndInstance, Input, From, Output, To, Concurrent, EndConcurrent, Comment}
use Rattle.msc_lexer.specs.declared.word.Word.TheVariants as words
use Rattle.msc_lexer.specs.Lexemes.{Reserved, Named, Quoted, Semicolon, Comma, Colon, LeftParen, RightParen, Lexeme}
use Rattle.msc_parser.specs.Forms.{IsToken, IsNamed, AreMany, IsLedBy, AreListed}
use Rattle.msc_parser.specs.declared.tree.Direction.{Direction}
use Rattle.msc_parser.specs.declared.tree.Direction.TheVariants as directions
use Rattle.msc_parser.specs.declared.tree.Decl.{Decl}
use Rattle.msc_parser.specs.declared.tree.Signal.{Signal}
use Rattle.msc_parser.specs.declared.tree.Statement.{Statement}
use Rattle.msc_parser.specs.declared.tree.Statement.TheVariants.{Message, Action}
use Rattle.msc_parser.specs.declared.tree.Item.{Item}
use Rattle.msc_parser.specs.declared.tree.Item.TheVariants.{Single, Coregion}
use Rattle.msc_parser.specs.declared.tree.Section.{Section}

-- a draft: the names of a chart, and the texts of its actions
pub record Tree : Type 0 where
  pub name : List ℕ
  pub header : List Decl
  pub sections : List Section

-- the end of a statement: `;`, or `comment`, a text and `;`
pub data IsEnd (before after : List Lexeme) : Type 0 where
  Plain : IsToken Semicolon before after → IsEnd before after
  Commented : (bytes : List ℕ) (text close : List Lexeme) → IsToken (Reserved Comment) before text
      → IsToken (Quoted bytes) text close → IsToken Semicolon close after → IsEnd before after

-- no second name of a kind, or one
abbrev pub IsSecond : List Lexeme → List (List ℕ) → List Lexeme → Type 0
IsSecond before [] after = before ≡ after
IsSecond before (second ∷ []) after = IsToken (Named second) before after
IsSecond before (second ∷ third ∷ others) after = ⊥

-- no kind, or `:` and one name or two
abbrev pub IsKind : List Lexeme → List (List ℕ) → List Lexeme → Type 0
IsKind before [] after = before ≡ after
IsKind before (first ∷ others) after =
    (name second : List Lexeme) × IsToken Colon before name × IsToken (Named first) name second × IsSecond second others after

-- a decl: a name, and a kind if there is one
abbrev pub IsDecl : List Lexeme → Decl → List Lexeme → Type 0
IsDecl before d after =
    (kind : List Lexeme) × IsToken (Named d.name) before kind × IsKind kind d.kind after

-- the first word of a message event
abbrev pub direction_word : Direction → Word
direction_word directions.Output = Output
direction_word directions.Input = Input

-- the word before the address of a message event
abbrev pub address_word : Direction → Word
address_word directions.Output = To
address_word directions.Input = From

-- no message instance name, or a comma and one
abbrev pub IsNumber : List Lexeme → Option (List ℕ) → List Lexeme → Type 0
IsNumber before None after = before ≡ after
IsNumber before (Some number) after = IsLedBy Comma IsNamed before number after

-- no parameters, in no parentheses or in empty ones; or names in parentheses
pub data AreParameters (before : List Lexeme) (ps : List (List ℕ)) (after : List Lexeme) : Type 0 where
  Absent : ps ≡ [] → before ≡ after → AreParameters before ps after
  Empty : (close : List Lexeme) → ps ≡ [] → IsToken LeftParen before close
      → IsToken RightParen close after → AreParameters before ps after
  Given : (names close : List Lexeme) → IsToken LeftParen before names
      → AreListed IsNamed names ps close → IsToken RightParen close after
      → AreParameters before ps after

-- an ident: the message's name, its message instance name and its parameters
pub record IsIdent (before : List Lexeme) (e : Signal) (after : List Lexeme) : Type 0 where
  pub number : List Lexeme
  pub parameters : List Lexeme
  pub is_name : IsToken (Named e.name) before number
  pub is_number : IsNumber number e.number parameters
  pub are_parameters : AreParameters parameters e.parameters after

-- a message event behind its first word
pub record IsSignal (before : List Lexeme) (e : Signal) (after : List Lexeme) : Type 0 where
  pub word : List Lexeme
  pub address : List Lexeme
  pub close : List Lexeme
  pub is_ident : IsIdent before e word
  pub is_word : IsToken (Reserved (address_word e.direction)) word address
  pub is_address : IsToken (Named e.address) address close
  pub is_end : IsEnd close after

-- an action behind its first word: a text and the end. What the text holds is kept.
pub record IsAction (before : List Lexeme) (label : List ℕ) (after : List Lexeme) : Type 0 where
  pub close : List Lexeme
  pub is_text : IsToken (Quoted label) before close
  pub is_end : IsEnd close after

-- a message event: `out` ident `to` name end, or `in` ident `from` name end
abbrev pub IsMessage : List Lexeme → Signal → List Lexeme → Type 0
IsMessage before e after = IsLedBy (Reserved (direction_word e.direction)) IsSignal before e after

-- an event: that of a message, or `action` text end
abbrev pub IsEvent : List Lexeme → Statement → List Lexeme → Type 0
IsEvent before (Message e) after = IsMessage before e after
IsEvent before (Action label) after = IsLedBy (Reserved words.Action) IsAction before label after

-- a coregion behind its first word: end, events, `endconcurrent` end
pub record IsCoregion (before : List Lexeme) (es : List Statement) (after : List Lexeme) : Type 0 where
  pub events : List Lexeme
  pub last : List Lexeme
  pub close : List Lexeme
  pub is_end : IsEnd before events
  pub are_events : AreMany IsEvent events es last
  pub is_endconcurrent : IsToken (Reserved EndConcurrent) last close
  pub is_last_end : IsEnd close after

-- an item of a section: an event or a coregion
abbrev pub IsItem : List Lexeme → Item → List Lexeme → Type 0
IsItem before (Single e) after = IsEvent before e after
IsItem before (Coregion es) after = IsLedBy (Reserved Concurrent) IsCoregion before es after

-- a section behind its first word: decl, end, items, `endinstance` end
pub record IsInstance (before : List Lexeme) (s : Section) (after : List Lexeme) : Type 0 where
  pub close : List Lexeme
  pub items : List Lexeme
  pub last : List Lexeme
  pub last_close : List Lexeme
  pub is_decl : IsDecl before s.decl close
  pub is_end : IsEnd close items
  pub are_items : AreMany IsItem items s.items last
  pub is_endinstance : IsToken (Reserved EndInstance) last last_close
  pub is_last_end : IsEnd last_close after

-- a section: `instance` and what follows
abbrev pub IsSection : List Lexeme → Section → List Lexeme → Type 0
IsSection before s after = IsLedBy (Reserved Instance) IsInstance before s after

-- an `inst` statement behind its first word: decls and end
abbrev pub AreDecls : List Lexeme → List Decl → List Lexeme → Type 0
AreDecls before ds after =
    (close : List Lexeme) × AreListed IsDecl before ds close × IsEnd close after

-- the decls of all `inst` statements
abbrev pub IsHeader : List Lexeme → List Decl → List Lexeme → Type 0
IsHeader before ds after =
    (groups : List (List Decl)) × (ds ≡ flat_map (λ g. g) groups) × AreMany (IsLedBy (Reserved Inst) AreDecls) before groups after

-- a chart: `msc` name end, the header, the sections, `endmsc` end, and then nothing
pub record IsChart (before : List Lexeme) (t : Tree) : Type 0 where
  pub name : List Lexeme
  pub close : List Lexeme
  pub header : List Lexeme
  pub sections : List Lexeme
  pub last : List Lexeme
  pub last_close : List Lexeme
  pub is_msc : IsToken (Reserved Msc) before name
  pub is_name : IsToken (Named t.name) name close
  pub is_end : IsEnd close header
  pub is_header : IsHeader header t.header sections
  pub are_sections : AreMany IsSection sections t.sections last
  pub is_endmsc : IsToken (Reserved EndMsc) last last_close
  pub is_last_end : IsEnd last_close []
