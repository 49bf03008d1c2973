-- What is printed of a text.
use Rattle.std.specs.Prelude.{◌≡◌, ℕ, List, [], ◌∷◌, ◌++◌, Option, None, Some, Result, Ok, Err}
use Rattle.std.specs.Io.KnownBytes.{Appends}
use Rattle.msc_answer.specs.Importing.{title_of}
use Rattle.msc_answer.specs.declared.tasks.ScenarioArgs.{ScenarioArgs}
use Rattle.msc_import.specs.declared.importing.Language.{Language}
use Rattle.msc_import.specs.declared.importing.Language.TheVariants.{Any, Mermaid}
use Rattle.msc_scan.specs.declared.name.FileKind.{FileKind}
use Rattle.msc_scan.specs.declared.name.FileKind.TheVariants as kinds
use Rattle.msc_scanning.specs.Charts.{PutsChart}
use Rattle.msc_scanning.specs.Diagrams.{PutsDiagram}
use Rattle.msc_scanning.specs.Folding.{Folds}
use Rattle.msc_scanning.specs.Holding.{holding_of}
use Rattle.msc_scanning.specs.Words.{printing}
use Rattle.msc_scanning.specs.declared.holding.Holding.{Holding}
use Rattle.msc_scanning.specs.declared.holding.Holding.TheVariants as holdings
use Rattle.msc_scanning.specs.declared.outcome.Outcome.{Outcome}
use Rattle.msc_scanning.specs.declared.words.Plan.{Plan}

-- the language of a diagram, by how its file is read
abbrev pub language_of : Option FileKind → Language
language_of (Some kinds.Chart) = Any
language_of (Some kinds.Mermaid) = Mermaid
language_of (Some kinds.Markdown) = Any
language_of None = Any

-- these are the words of the check of a diagram of a file of this name
pub record AreWordsFor (p : Plan) (file : List ℕ) (kind : Option FileKind) (x : ScenarioArgs) : Type 0 where
  pub named : x.diagram.name.now ≡ title_of file
  pub words_are : x ≡ record (printing p) {
    diagram = record p.args.words.diagram { language = language_of kind; fence = None; name = x.diagram.name };
  }

-- something was printed of one more diagram, and how it ended is behind how others did
abbrev pub GivesNext : {W E : Type 0} → (W → Option (List ℕ)) → (List Outcome → List Outcome → List ℕ → Type 0)
    → Result (Unit {0}) E → List Outcome → List Outcome → W → W → Type 0
GivesNext contents step (Ok u) before after old new =
    (printed : List ℕ) × step before after printed × Appends (contents old) (contents new) printed
GivesNext contents step (Err e) before after old new = Unit {0}

-- what is printed of the sequence diagram of this number in Markdown
abbrev pub PutsNumber : Plan → ScenarioArgs → List ℕ → List ℕ → ℕ → List Outcome → List Outcome → List ℕ → Type 0
PutsNumber p x file text n before after printed =
    (one : Outcome) × PutsDiagram p x file text (Some n) one printed × (after ≡ before ++ one ∷ [])

-- what is printed of what a text holds, and how each of its diagrams ended
abbrev pub PutsHeld : Holding → Plan → ScenarioArgs → List ℕ → List ℕ → List Outcome → List ℕ → Type 0
PutsHeld holdings.Nothing p x file text outcomes printed = (outcomes ≡ []) × (printed ≡ [])
PutsHeld holdings.Chart p x file text outcomes printed =
    (one : Outcome) × PutsChart p file text one printed × (outcomes ≡ one ∷ [])
PutsHeld holdings.Diagram p x file text outcomes printed =
    (one : Outcome) × PutsDiagram p x file text None one printed × (outcomes ≡ one ∷ [])
PutsHeld (holdings.Blocks f) p x file text outcomes printed =
    Folds (PutsNumber p x file text) f.numbers [] outcomes printed

-- what is printed of a text of a file of this name, which is read so
abbrev pub PutsText : Plan → List ℕ → Option FileKind → List ℕ → List Outcome → List ℕ → Type 0
PutsText p file kind text outcomes printed =
    (x : ScenarioArgs) × AreWordsFor p file kind x × PutsHeld (holding_of kind text) p x file text outcomes printed
