-- What a scan prints.
use Rattle.std.specs.Prelude.{◌≡◌, ◌⊎◌, ℕ, Bool, true, false, cond, List, [], ◌∷◌, ◌++◌, map, Option, Result, Ok, Err, codes}
use Rattle.std.specs.Io.KnownBytes.{Appends}
use Rattle.std.specs.List.{list_any}
use Rattle.std.specs.Str.{bytes_eq}
use Rattle.std.specs.declared.io.Error.{Error}
use Rattle.std.specs.Global.{Vec}
use Rattle.msc_answer.specs.declared.ending.Status.{Status}
use Rattle.msc_answer.specs.declared.ending.Status.TheVariants.{Failed}
use Rattle.msc_answer.specs.declared.tasks.Format.{Format}
use Rattle.msc_answer.specs.declared.tasks.Format.TheVariants as formats
use Rattle.msc_scan.specs.Walks.{names_of, AreFound}
use Rattle.msc_scan.specs.declared.walk.Entry.{Entry}
use Rattle.msc_source.specs.Inputs.{IsReadFrom}
use Rattle.msc_scanning.specs.Files.{Input, PutsItem}
use Rattle.msc_scanning.specs.Folding.{Folds}
use Rattle.msc_scanning.specs.LastLines.{last_text, total_text}
use Rattle.msc_scanning.specs.LastLines as last_lines
use Rattle.msc_scanning.specs.Progress.{none}
use Rattle.msc_scanning.specs.Words.{architectures_of, words_in}
use Rattle.msc_scanning.specs.declared.files.Item.{Item}
use Rattle.msc_scanning.specs.declared.files.Item.TheVariants as items
use Rattle.msc_scanning.specs.declared.progress.Progress.{Progress}
use Rattle.msc_scanning.specs.declared.tally.Tally.{Tally}
use Rattle.msc_scanning.specs.declared.words.Architecture.{Architecture}
use Rattle.msc_scanning.specs.declared.words.Plan.{Plan}
use Rattle.msc_scanning.specs.declared.words.ScanArgs.{ScanArgs}

-- what each path stands for
abbrev pub AreAllFound : List (List ℕ) → List (List ℕ) → List (Vec Entry) → Type 0
AreAllFound skips [] [] = Unit {0}
AreAllFound skips (path ∷ paths) (entries ∷ all) = AreFound skips path entries.items × AreAllFound skips paths all
AreAllFound skips paths all = ⊥

-- a file to check, or the end of the files of a path, as plain data
pub data PlainItem : Type 0 where
  file : Entry → PlainItem
  end : List ℕ → PlainItem

abbrev pub plain_item : Item → PlainItem
plain_item (items.File entry) = file entry.now
plain_item (items.End path) = end path.now

-- the files of a path, and its end
abbrev pub path_items : List ℕ → List Entry → List PlainItem
path_items path entries = map file entries ++ end path ∷ []

-- those of all paths, in their order
abbrev pub items_in : List (List ℕ) → List (Vec Entry) → List PlainItem
items_in (path ∷ paths) (entries ∷ all) = path_items path entries.items ++ items_in paths all
items_in paths all = []

-- the input is among the paths
abbrev pub is_input : List ℕ → Bool
is_input path = bytes_eq path (codes "-")

abbrev pub has_input : List (List ℕ) → Bool
has_input paths = list_any is_input paths

-- the input was read if it is among the paths, or it could not be
abbrev pub IsRead : Bool → Option (List ℕ) → Option (List ℕ) → List ℕ → Type 0
IsRead true rest left text = IsReadFrom rest left text
IsRead false rest left text = Unit {0}

abbrev pub IsInputRead : {A B : Type 0} → (A → List ℕ) → Bool → Option (List ℕ) → Option (List ℕ) → Result A B → Type 0
IsInputRead bytes has rest left (Ok text) = IsRead has rest left (bytes text)
IsInputRead bytes has rest left (Err error) = Unit {0}

-- what was read is lent
abbrev pub IsLent : Result (Vec ℕ) Error → Input → Type 0
IsLent (Ok text) (Ok bytes) = bytes.now ≡ text.items
IsLent (Err error) (Err lent) = Unit {0}
IsLent read input = ⊥

-- the queues are those that the texts name, and no others
abbrev pub only_own : List Architecture → Bool
only_own (a ∷ []) = a.own
only_own found = false

abbrev pub is_own : Plan → Bool
is_own p = only_own p.architectures.now

-- what follows the verdicts on all texts
abbrev pub full_end : Plan → Tally → List ℕ
full_end p t =
    cond p.args.words.quiet (last_text t p.args.words.check_args.colours)
    (last_lines.end_text t (is_own p) p.args.words.check_args.colours)

abbrev pub end_in : Format → Plan → Tally → List ℕ
end_in formats.Text p t = total_text t
end_in formats.Count p t = []
end_in formats.Lines p t = []
end_in formats.Full p t = full_end p t

abbrev pub end_text : Plan → Tally → List ℕ
end_text p t = end_in p.args.words.check_args.format p t

-- what is printed of these items, and the worst status
abbrev pub PutsItems : Plan → Input → List Item → Status → List ℕ → Type 0
PutsItems p input all status printed =
    (end : Progress) × (first : List ℕ) × Folds (PutsItem p input) all none end first
    × (status ≡ end.status) × (printed ≡ first ++ end_text p end.tally)

-- What is printed by a scan of these paths: of all files that they stand for, in their order. The
-- input is read if it is among them; what other files hold is not known.
pub record PutsScan (x : ScanArgs) (rest left : Option (List ℕ)) (status : Status) (printed : List ℕ) : Type 0 where
  pub plan : Plan
  pub args_are : plan.args ≡ x
  pub architectures_are : plan.architectures.now ≡ architectures_of (words_in x.queues.now)
  pub input : Input
  pub read : IsInputRead (λ bytes. bytes.now) (has_input (words_in x.paths.now)) rest left input
  pub all : List (Vec Entry)
  pub found : AreAllFound (names_of x.skips.now) (words_in x.paths.now) all
  pub items : List Item
  pub are_items : map plain_item items ≡ items_in (words_in x.paths.now) all
  pub puts : PutsItems plan input items status printed

-- a scan came to its end, or memory ran out or the output failed
abbrev pub Scans : {W : Type 0} → Option (List ℕ) → Option (List ℕ) → (W → Option (List ℕ)) → ScanArgs → Status → W → W → Type 0
Scans rest left contents x status old new =
    ((printed : List ℕ) × PutsScan x rest left status printed × Appends (contents old) (contents new) printed) ⊎ (status ≡ Failed)
