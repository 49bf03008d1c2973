-- The notes of names.
use Rattle.std.proofs.Common.{◌≡◌, ℕ, ◌≤◌, inl, inr, List, [], ◌∷◌, length, Option, Some, None, MatchOption, slice_get, refl, sym, subst, ◌∙◌, arith}
use Rattle.std.proofs.lemmas.Option.{slice_get_within}
use Rattle.msc_parser.specs.declared.tree.Section.{Section}
use Rattle.msc_parser.specs.Grammar.{Tree}
use Rattle.msc_place.specs.Standing.{NamesSection}
use Rattle.msc_notes.specs.declared.note.Note.{Note}
use Rattle.msc_notes.specs.FaultNotes.{IsFirstNamed, HasNoneNamed, AreOfName, AreRepeated, name_note, first_note}

-- where the first section of a name stands
abbrev pub IsFirstPlace : List ℕ → Tree → List ℕ → ℕ → Type 0
IsFirstPlace text t name at = (j : ℕ) × IsFirstNamed t.sections name j × NamesSection text t j at

pub named_place : (text : List ℕ) (t : Tree) (name : List ℕ) (j : ℕ) (o : Option ℕ)
    → IsFirstNamed t.sections name j
    → MatchOption o (length t.sections ≤ j) (NamesSection text t j)
    → MatchOption o (HasNoneNamed t.sections name) (IsFirstPlace text t name)
named_place text t name j None h le =
    absurd (omega (arith, le, slice_get_within t.sections j h.section h.listed))
named_place text t name j (Some at) h n = (j, h, n)

-- what is said of a name is said of the section that has it
pub repeated : (text : List ℕ) (t : Tree) (i : ℕ) (s : Section) (notes : List Note)
    → slice_get t.sections i ≡ Some s → AreOfName text t s.decl.name notes
    → AreRepeated text t i notes
repeated text t i s notes h (inl none) = absurd (none i s h refl)
repeated text t i s notes h (inr n) = λ r k.
    let same : Some s ≡ Some r = sym h ∙ k in
    let one : s ≡ r = cc same in
    subst (λ (q : Section). (j : ℕ) × (at : ℕ) × IsFirstNamed t.sections q.decl.name j × NamesSection text t j at × (notes ≡ name_note q.decl.name ∷ first_note at ∷ [])) one n
