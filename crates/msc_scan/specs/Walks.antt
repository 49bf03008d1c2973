-- Which files a path stands for.
use Rattle.std.specs.Prelude.{◌≡◌, ◌⊎◌, ◌+◌, ℕ, zero, suc, Bool, true, false, cond, List, [], ◌∷◌, ◌++◌, map, Option, None, Some, Result, Ok, Err}
use Rattle.std.specs.declared.io.Error.{Error}
use Rattle.std.specs.Borrow.{Bor}
use Rattle.std.specs.Cmp.Lexicographic.{slice_cmp}
use Rattle.std.specs.List.Sorted.{IsPermutation, IsSortedBy}
use Rattle.std.specs.Ordering.{is_lt, nat_cmp}
use Rattle.std.specs.String.{string_bytes}
use Rattle.msc_scan.specs.declared.name.FileKind.{FileKind}
use Rattle.msc_scan.specs.declared.walk.Entry.{Entry}
use Rattle.msc_scan.specs.declared.walk.Found.{Found}
use Rattle.msc_scan.specs.declared.walk.Found.TheVariants.{File, TooDeep, Unread}
use Rattle.msc_scan.specs.declared.walk.Item.{Item as Read}
use Rattle.msc_scan.specs.declared.walk.ItemKind.{ItemKind}
use Rattle.msc_scan.specs.declared.walk.ItemKind.TheVariants as kinds
use Rattle.msc_scan.specs.declared.walk.TheConstants.{LEVELS}
use Rattle.msc_scan.specs.Names.{is_passed_over, kind_of_name, whole_name}

-- the names that are to be skipped, as bytes
abbrev pub names_of : List (Bor (List ℕ)) → List (List ℕ)
names_of skips = map (λ skip. skip.now) skips

-- what was read of a name in a folder: the name and what it is, or that it could not be read
pub record Item : Type 0 where
  pub name : List ℕ
  pub kind : ItemKind

-- it, of the value that has it
abbrev pub plain_item : Result Read Error → Option Item
plain_item (Ok item) = Some (record { name = string_bytes item.name; kind = item.kind })
plain_item (Err error) = None

-- such entries were added to a list
abbrev pub Adds : (List Entry → Type 0) → List Entry → List Entry → Type 0
Adds are old new = (added : List Entry) × are added × (new ≡ old ++ added)

-- a name was found that is this
pub record IsEntry (whole : List ℕ) (is : Found → Type 0) (added : List Entry) : Type 0 where
  pub entry : Entry
  pub name_is : string_bytes entry.name ≡ whole
  pub found_is : is entry.found
  pub alone : added ≡ entry ∷ []

abbrev pub IsUnread : Found → Type 0
IsUnread (Unread error) = Unit {0}
IsUnread found = ⊥

-- a file in a folder is found if its name says how it is read
abbrev pub OfFile : Option FileKind → List ℕ → List Entry → Type 0
OfFile None whole added = added ≡ []
OfFile (Some kind) whole added = IsEntry whole (λ found. found ≡ File (Some kind)) added

-- what a name in a folder adds that is not passed over, where this is what a folder of that name adds
abbrev pub OfKind : (List ℕ → List Entry → Type 0) → ItemKind → List ℕ → List Entry → Type 0
OfKind below kinds.File whole added = OfFile (kind_of_name whole) whole added
OfKind below kinds.Folder whole added = below whole added
OfKind below kinds.Other whole added = added ≡ []

-- whether it is a folder
abbrev pub is_folder : ItemKind → Bool
is_folder kinds.File = false
is_folder kinds.Folder = true
is_folder kinds.Other = false

-- what a name in a folder adds
abbrev pub OfItem : (List ℕ → List Entry → Type 0) → List (List ℕ) → List ℕ → Option Item → List Entry → Type 0
OfItem below skips folder None added = IsEntry folder IsUnread added
OfItem below skips folder (Some item) added =
    cond (is_passed_over (is_folder item.kind) skips item.name (whole_name folder item.name)) (added ≡ [])
    (OfKind below item.kind (whole_name folder item.name) added)

-- what the names in a folder add
unfoldable pub OfItems : (List ℕ → List Entry → Type 0) → List (List ℕ) → List ℕ → List (Option Item) → List Entry → Type 0
OfItems below skips folder [] added = added ≡ []
OfItems below skips folder (item ∷ items) added =
    (first rest : List Entry) × OfItem below skips folder item first × OfItems below skips folder items rest × (added ≡ first ++ rest)

-- What is found in a folder with fewer than so many levels of folders below it, by what was read of
-- it: it could not be read, or each name in it adds what it is.
unfoldable pub IsBelow : ℕ → List (List ℕ) → List ℕ → List Entry → Type 0
IsBelow zero skips folder added = IsEntry folder (λ found. found ≡ TooDeep) added
IsBelow (suc levels) skips folder added =
    IsEntry folder IsUnread added
    ⊎ ((items : List (Option Item)) × OfItems (IsBelow levels skips) skips folder items added)

-- the names are in the order of their bytes
abbrev pub IsSorted : List Entry → Type 0
IsSorted entries = IsSortedBy (λ one other. is_lt (slice_cmp nat_cmp (string_bytes one.name) (string_bytes other.name))) entries

-- a path for itself: a file, or nothing that can be read
abbrev pub IsFileAt : List ℕ → List Entry → Type 0
IsFileAt path found = IsEntry path (λ it. it ≡ File (kind_of_name path)) found

-- what is below a folder, in the order of the names
pub record AreInFolder (skips : List (List ℕ)) (folder : List ℕ) (found : List Entry) : Type 0 where
  pub below : List Entry
  pub are_below : IsBelow (LEVELS + 1) skips folder below
  pub all : IsPermutation below found
  pub in_order : IsSorted found

-- what a path stands for
abbrev pub AreFound : List (List ℕ) → List ℕ → List Entry → Type 0
AreFound skips path found = IsFileAt path found ⊎ AreInFolder skips path found
