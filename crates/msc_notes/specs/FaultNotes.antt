-- What the notes of faults say.
use Rattle.std.specs.Prelude.{◌≡◌, ◌⊎◌, ℕ, ◌<◌, List, [], ◌∷◌, slice_get, Some, None}
use Rattle.msc_parser.specs.declared.tree.Decl.{Decl}
use Rattle.msc_parser.specs.declared.tree.Signal.{Signal}
use Rattle.msc_parser.specs.declared.tree.Statement.TheVariants.{Message}
use Rattle.msc_parser.specs.declared.tree.Section.{Section}
use Rattle.msc_parser.specs.Drafts.{statements_of}
use Rattle.msc_parser.specs.Grammar.{Tree}
use Rattle.msc_chart.specs.declared.fault.ChartFault.{ChartFault}
use Rattle.msc_chart.specs.declared.fault.ChartFault.TheVariants.{TwiceInstance, HeaderWithoutBody, UnknownAddress, TwiceEvent}
use Rattle.msc_chart.specs.Events.{Act, MessageEnd, acts_of}
use Rattle.msc_chart.specs.Events.Act.{OfMessage}
use Rattle.msc_place.specs.Standing.{BeginsEvent, NamesSection}
use Rattle.msc_notes.specs.declared.note.Note.{Note}
use Rattle.msc_notes.specs.declared.note.Tag.TheVariants as tags

-- `name NAME`
abbrev pub name_note : List ℕ → Note
name_note name = record { tag = tags.Name; text = name; place = None; pair = None }

-- `first PLACE`
abbrev pub first_note : ℕ → Note
first_note at = record { tag = tags.First; text = []; place = Some at; pair = None }

-- this is the first note
abbrev pub BeginWith : List Note → Note → Type 0
BeginWith notes note = (more : List Note) × (notes ≡ note ∷ more)

-- section j is the first of this name
pub record IsFirstNamed (ss : List Section) (name : List ℕ) (j : ℕ) : Type 0 where
  pub section : Section
  pub listed : slice_get ss j ≡ Some section
  pub named : section.decl.name ≡ name
  pub first : (i : ℕ) (s : Section) → i < j → slice_get ss i ≡ Some s → s.decl.name ≡ name → ⊥

-- no section has this name
abbrev pub HasNoneNamed : List Section → List ℕ → Type 0
HasNoneNamed ss name = (i : ℕ) (s : Section) → slice_get ss i ≡ Some s → s.decl.name ≡ name → ⊥

-- event j is the first that is this end of a message
pub record IsFirstEnd (acts : List Act) (x : MessageEnd) (j : ℕ) : Type 0 where
  pub listed : slice_get acts j ≡ Some (OfMessage x)
  pub first : (i : ℕ) → i < j → slice_get acts i ≡ Some (OfMessage x) → ⊥

-- no event is this end of a message
abbrev pub HasNoEnd : List Act → MessageEnd → Type 0
HasNoEnd acts x = (i : ℕ) → slice_get acts i ≡ Some (OfMessage x) → ⊥

-- event j is the first of the kind and key of event e: both are one end of a message
abbrev pub IsFirstLike : List Act → ℕ → ℕ → Type 0
IsFirstLike acts e j =
    (x : MessageEnd) × (slice_get acts e ≡ Some (OfMessage x)) × IsFirstEnd acts x j

-- event e is no end of a message
abbrev pub HasNoMessageAt : List Act → ℕ → Type 0
HasNoMessageAt acts e = (x : MessageEnd) → slice_get acts e ≡ Some (OfMessage x) → ⊥

-- the notes of a name: it is that of no section, or they are the name and the place of the first section
-- of that name
abbrev pub AreOfName : List ℕ → Tree → List ℕ → List Note → Type 0
AreOfName text t name notes =
    HasNoneNamed t.sections name ⊎ ((j : ℕ) × (at : ℕ) × IsFirstNamed t.sections name j × NamesSection text t j at × (notes ≡ name_note name ∷ first_note at ∷ []))

-- the notes of a section whose name an earlier one has: its name, and the place of the first
abbrev pub AreRepeated : List ℕ → Tree → ℕ → List Note → Type 0
AreRepeated text t i notes =
    (s : Section) → slice_get t.sections i ≡ Some s
    → (j : ℕ) × (at : ℕ) × IsFirstNamed t.sections s.decl.name j × NamesSection text t j at × (notes ≡ name_note s.decl.name ∷ first_note at ∷ [])

-- the notes of an event whose kind and key an earlier one has begin with the place of the first
abbrev pub AreTwice : List ℕ → Tree → ℕ → List Note → Type 0
AreTwice text t e notes =
    (x : MessageEnd) → slice_get (acts_of t) e ≡ Some (OfMessage x)
    → (j : ℕ) × (at : ℕ) × IsFirstEnd (acts_of t) x j × BeginsEvent text t j at × BeginWith notes (first_note at)

-- the notes of a header name begin with it
abbrev pub AreOfHeader : Tree → ℕ → List Note → Type 0
AreOfHeader t k notes =
    (d : Decl) → slice_get t.header k ≡ Some d → BeginWith notes (name_note d.name)

-- the notes of an event with an unknown address begin with that
abbrev pub AreOfAddress : Tree → ℕ → List Note → Type 0
AreOfAddress t e notes =
    (s : Signal) → slice_get (statements_of t.sections) e ≡ Some (Message s)
    → BeginWith notes (name_note s.address)

-- what is said of the notes of a fault of the draft
abbrev pub AreChartNotes : List ℕ → Tree → ChartFault → List Note → Type 0
AreChartNotes text t (TwiceInstance i) notes = AreRepeated text t i notes
AreChartNotes text t (HeaderWithoutBody k) notes = AreOfHeader t k notes
AreChartNotes text t (UnknownAddress e) notes = AreOfAddress t e notes
AreChartNotes text t (TwiceEvent e) notes = AreTwice text t e notes
AreChartNotes text t fault notes = Unit {0}
