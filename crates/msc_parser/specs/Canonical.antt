-- The canonical text of a draft, as pieces: words, names, texts, marks, spaces and line ends (this
-- project's profile of MSC/PR, ITU-T Z.120). A line ends behind each statement; words are in small
-- letters; no notes are there, and no comment but one after the chart's name, if one is given.
use Rattle.std.specs.Prelude.{ℕ, List, [], ◌∷◌, ◌++◌, Option, Some, None}
use Rattle.std.specs.List.{flat_map}
use Rattle.msc_lexer.specs.declared.word.Word.{Word}
use Rattle.msc_lexer.specs.declared.word.Word.TheVariants.{Msc, EndMsc, Inst, Instance, EndInstance, Concurrent, EndConcurrent, Comment}
use Rattle.msc_lexer.specs.declared.word.Word.TheVariants as words
use Rattle.msc_lexer.specs.Words.{spelling}
use Rattle.msc_lexer.specs.Pieces.{Piece, Blank, Run, Quoted, Mark, text_of}
use Rattle.msc_parser.specs.declared.tree.Decl.{Decl}
use Rattle.msc_parser.specs.declared.tree.Signal.{Signal}
use Rattle.msc_parser.specs.declared.tree.Statement.{Statement}
use Rattle.msc_parser.specs.declared.tree.Statement.TheVariants.{Message, Action}
use Rattle.msc_parser.specs.declared.tree.Item.{Item}
use Rattle.msc_parser.specs.declared.tree.Item.TheVariants.{Single, Coregion}
use Rattle.msc_parser.specs.declared.tree.Section.{Section}
use Rattle.msc_parser.specs.Grammar.{Tree, direction_word, address_word}

-- a reserved word
abbrev pub word : Word → Piece
word w = Run (spelling w)

-- a space
abbrev pub space : Piece
space = Blank 32

-- `;` and the end of the line
abbrev pub line_end : List Piece
line_end = Mark 59 ∷ Blank 10 ∷ []

-- a second name of a kind
abbrev pub second_pieces : List ℕ → List Piece
second_pieces name = space ∷ Run name ∷ []

-- ` : FIRST` for a kind of one name, ` : FIRST SECOND` for one of two
abbrev pub kind_pieces : List (List ℕ) → List Piece
kind_pieces [] = []
kind_pieces (name ∷ others) = space ∷ Mark 58 ∷ space ∷ Run name ∷ flat_map second_pieces others

-- a decl: the name, and its kind
abbrev pub decl_pieces : Decl → List Piece
decl_pieces d = Run d.name ∷ kind_pieces d.kind

-- a decl behind a comma
abbrev pub next_decl_pieces : Decl → List Piece
next_decl_pieces d = Mark 44 ∷ space ∷ decl_pieces d

-- all decls of the header in one line `inst DECL, DECL, ..;`, and no line where there is none
abbrev pub header_pieces : List Decl → List Piece
header_pieces [] = []
header_pieces (d ∷ ds) =
    word Inst ∷ space ∷ decl_pieces d ++ (flat_map next_decl_pieces ds ++ line_end)

-- a name behind a comma
abbrev pub next_name_pieces : List ℕ → List Piece
next_name_pieces name = Mark 44 ∷ space ∷ Run name ∷ []

-- `, NUMBER` where there is a message instance name
abbrev pub number_pieces : Option (List ℕ) → List Piece
number_pieces None = []
number_pieces (Some name) = next_name_pieces name

-- `(P1, P2, ..)` where there are parameters
abbrev pub parameter_pieces : List (List ℕ) → List Piece
parameter_pieces [] = []
parameter_pieces (name ∷ others) =
    Mark 40 ∷ Run name ∷ flat_map next_name_pieces others ++ Mark 41 ∷ []

-- an ident: the message's name, its message instance name and its parameters
abbrev pub ident_pieces : Signal → List Piece
ident_pieces e = Run e.name ∷ number_pieces e.number ++ parameter_pieces e.parameters

-- ` to NAME;` or ` from NAME;`
abbrev pub address_pieces : Signal → List Piece
address_pieces e = space ∷ word (address_word e.direction) ∷ space ∷ Run e.address ∷ line_end

-- `out IDENT to NAME;` or `in IDENT from NAME;`
abbrev pub signal_pieces : Signal → List Piece
signal_pieces e = word (direction_word e.direction) ∷ space ∷ ident_pieces e ++ address_pieces e

-- `action 'TEXT';`, where each apostrophe that the text holds is doubled
abbrev pub action_pieces : List ℕ → List Piece
action_pieces label = word words.Action ∷ space ∷ Quoted label ∷ line_end

-- an event: that of a message, or an action
abbrev pub event_pieces : Statement → List Piece
event_pieces (Message e) = signal_pieces e
event_pieces (Action label) = action_pieces label

-- four spaces before an event of a coregion
abbrev pub inner_pieces : Statement → List Piece
inner_pieces e = space ∷ space ∷ space ∷ space ∷ event_pieces e

-- two spaces before `concurrent;` and before `endconcurrent;`
abbrev pub coregion_pieces : List Statement → List Piece
coregion_pieces es =
    space ∷ space ∷ word Concurrent ∷ line_end ++ (flat_map inner_pieces es ++ (space ∷ space ∷ word EndConcurrent ∷ line_end))

-- two spaces before a single event
abbrev pub item_pieces : Item → List Piece
item_pieces (Single e) = space ∷ space ∷ event_pieces e
item_pieces (Coregion es) = coregion_pieces es

-- `instance DECL;`, the items, and `endinstance;`
abbrev pub section_pieces : Section → List Piece
section_pieces s =
    word Instance ∷ space ∷ decl_pieces s.decl ++ (line_end ++ (flat_map item_pieces s.items ++ (word EndInstance ∷ line_end)))

-- the end of the first line; before it a comment, if there is one, where each apostrophe is doubled
abbrev pub first_end : Option (List ℕ) → List Piece
first_end None = line_end
first_end (Some comment) = space ∷ word Comment ∷ space ∷ Quoted comment ∷ line_end

-- `msc NAME`, the end of that line, the header, the sections, and `endmsc;`
abbrev pub printed_with : Option (List ℕ) → Tree → List Piece
printed_with comment t =
    word Msc ∷ space ∷ Run t.name ∷ first_end comment ++ (header_pieces t.header ++ (flat_map section_pieces t.sections ++ (word EndMsc ∷ line_end)))

-- the canonical text of a draft, with this comment after the chart's name, if there is one
abbrev pub canonical_with : Option (List ℕ) → Tree → List ℕ
canonical_with comment t = text_of (printed_with comment t)

-- the canonical text of a draft
abbrev pub canonical : Tree → List ℕ
canonical t = canonical_with None t
