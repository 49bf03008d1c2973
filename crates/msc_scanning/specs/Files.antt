-- What is printed of the files of a scan.
use Rattle.std.specs.Prelude.{◌≡◌, ◌⊎◌, ℕ, Bool, true, false, List, [], ◌∷◌, Option, None, Some, Result, Ok, Err, codes}
use Rattle.std.specs.Borrow.{Bor}
use Rattle.std.specs.String.{string_bytes}
use Rattle.std.specs.declared.io.Error.{Error}
use Rattle.msc_scan.specs.declared.name.FileKind.{FileKind}
use Rattle.msc_scan.specs.declared.walk.Entry.{Entry}
use Rattle.msc_scan.specs.declared.walk.Found.{Found}
use Rattle.msc_scan.specs.declared.walk.Found.TheVariants.{File, TooDeep, Unread}
use Rattle.msc_scanning.specs.Progress.{with_outcomes}
use Rattle.msc_scanning.specs.Refusing.{PutsFailed}
use Rattle.msc_scanning.specs.Texts.{PutsText}
use Rattle.msc_scanning.specs.declared.files.Block.{Block}
use Rattle.msc_scanning.specs.declared.files.Item.{Item}
use Rattle.msc_scanning.specs.declared.files.Item.TheVariants as items
use Rattle.msc_scanning.specs.declared.outcome.Outcome.{Outcome}
use Rattle.msc_scanning.specs.declared.progress.Progress.{Progress}
use Rattle.msc_scanning.specs.declared.words.Plan.{Plan}

-- the text of the input, or why it cannot be read
abbrev pub Input : Type 0
Input = Result (Bor (List ℕ)) (Bor Error)

-- something failed
abbrev pub AreFailed : Plan → List Outcome → List ℕ → Type 0
AreFailed p outcomes printed = (one : Outcome) × PutsFailed p one printed × (outcomes ≡ one ∷ [])

-- a text is that of the input if the name is `-`; the contents of other files are not known
abbrev pub IsInput : Input → List ℕ → Type 0
IsInput (Ok bytes) text = text ≡ bytes.now
IsInput (Err error) text = ⊥

abbrev pub IsTextOf : Input → List ℕ → List ℕ → Type 0
IsTextOf input name text = name ≡ codes "-" → IsInput input text

-- what is printed of a file of this name: that of its text, or that it cannot be read
abbrev pub PutsFile : Plan → Input → List ℕ → Option FileKind → List Outcome → List ℕ → Type 0
PutsFile p input name kind outcomes printed =
    ((text : List ℕ) × IsTextOf input name text × PutsText p name kind text outcomes printed)
    ⊎ AreFailed p outcomes printed

-- what is printed of a name that was found
abbrev pub PutsFound : Found → Plan → Input → List ℕ → List Outcome → List ℕ → Type 0
PutsFound (File kind) p input name outcomes printed = PutsFile p input name kind outcomes printed
PutsFound TooDeep p input name outcomes printed = AreFailed p outcomes printed
PutsFound (Unread error) p input name outcomes printed = AreFailed p outcomes printed

abbrev pub PutsEntry : Plan → Input → Entry → List Outcome → List ℕ → Type 0
PutsEntry p input entry outcomes printed = PutsFound entry.found p input (string_bytes entry.name) outcomes printed

-- this was printed of an item before its turn, if something was
abbrev pub IsBlock : Plan → Input → Item → Option Block → Type 0
IsBlock p input item None = Unit {0}
IsBlock p input (items.File entry) (Some block) = PutsEntry p input entry.now block.outcomes.items block.bytes.items
IsBlock p input (items.End path) (Some block) = ⊥

-- these were printed of some first items
abbrev pub AreBlocks : Plan → Input → List Item → List (Option Block) → Type 0
AreBlocks p input all [] = Unit {0}
AreBlocks p input [] (block ∷ blocks) = ⊥
AreBlocks p input (item ∷ all) (block ∷ blocks) = IsBlock p input item block × AreBlocks p input all blocks

-- the end of the files of a path: a path of which nothing was found fails
abbrev pub PutsEnd : Bool → Plan → Progress → Progress → List ℕ → Type 0
PutsEnd true p before after printed = (after ≡ record before { found = false }) × (printed ≡ [])
PutsEnd false p before after printed =
    (outcomes : List Outcome) × AreFailed p outcomes printed × (after ≡ record (with_outcomes before outcomes) { found = false })

-- what is printed of an item, and what was found so far
abbrev pub PutsItem : Plan → Input → Item → Progress → Progress → List ℕ → Type 0
PutsItem p input (items.File entry) before after printed =
    (outcomes : List Outcome) × PutsEntry p input entry.now outcomes printed × (after ≡ with_outcomes before outcomes)
PutsItem p input (items.End path) before after printed = PutsEnd before.found p before after printed
