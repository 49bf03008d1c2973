-- Names of files and folders: what a file is by its name, and which names are passed over.
use Rattle.std.specs.Prelude.{ℕ, Bool, false, cond, ◌||◌, ◌&&◌, ◌==◌, eqb, List, [], ◌∷◌, ◌++◌, Option, None, Some, codes}
use Rattle.std.specs.List.{ends_with, list_any}
use Rattle.std.specs.Str.{bytes_eq}
use Rattle.msc_scan.specs.declared.name.FileKind.{FileKind}
use Rattle.msc_scan.specs.declared.name.FileKind.TheVariants.{Chart, Mermaid, Markdown}

-- the name ends so
abbrev pub has_ending : List ℕ → List ℕ → Bool
has_ending name ending = ends_with eqb name ending

-- how a file is read by the ending of its name, if that says it
abbrev pub kind_of_name : List ℕ → Option FileKind
kind_of_name name =
    cond (has_ending name (codes ".msc")) (Some Chart)
    (cond (has_ending name (codes ".mmd") || has_ending name (codes ".mermaid")) (Some Mermaid)
    (cond (has_ending name (codes ".md") || has_ending name (codes ".markdown")) (Some Markdown) None))

-- the name begins with a dot
abbrev pub is_hidden : List ℕ → Bool
is_hidden [] = false
is_hidden (first ∷ rest) = first == 46

-- folders of this name hold what tools put there
abbrev pub is_made : List ℕ → Bool
is_made name = bytes_eq name (codes "node_modules") || bytes_eq name (codes "target")

-- a file or folder of this name, and this whole name, is called so
abbrev pub is_called : List ℕ → List ℕ → List ℕ → Bool
is_called name whole skip = bytes_eq skip name || bytes_eq skip whole

-- it is called as one of these
abbrev pub is_skipped : List (List ℕ) → List ℕ → List ℕ → Bool
is_skipped skips name whole = list_any (is_called name whole) skips

-- a name in a folder is passed over
abbrev pub is_passed_over : Bool → List (List ℕ) → List ℕ → List ℕ → Bool
is_passed_over is_folder skips name whole =
    is_hidden name || ((is_folder && is_made name) || is_skipped skips name whole)

-- the whole name of a name in a folder: behind that of the folder and a slash, but for `.` and `./`
abbrev pub whole_name : List ℕ → List ℕ → List ℕ
whole_name folder name =
    cond (bytes_eq folder (codes ".") || bytes_eq folder (codes "./")) name
    (cond (has_ending folder (codes "/")) (folder ++ name) (folder ++ (codes "/" ++ name)))
