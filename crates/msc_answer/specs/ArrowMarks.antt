-- The marks of a diagram, where they are asked for.
use Rattle.std.specs.Prelude.{◌≡◌, ℕ, Bool, true, false, List, [], ◌∷◌, ◌++◌, Option, None, Some, Result, Ok, Err}
use Rattle.std.specs.List.Sorted.{IsNonDecreasingBy, IsPermutation}
use Rattle.msc_arrow_marks.specs.Marks.{found_in, label_faults}
use Rattle.msc_arrow_marks.specs.declared.fault.FaultyMark.{FaultyMark}
use Rattle.msc_arrow_marks.specs.declared.marks.DiagramMarks.{DiagramMarks}
use Rattle.msc_mermaid.specs.declared.statement.Diagram.{Diagram}
use Rattle.msc_report.specs.declared.fault.Fault.TheVariants.{Memory}
use Rattle.msc_scenario_marks.specs.Places.{position_at}
use Rattle.msc_answer.specs.declared.arrow_marks.RefusedMark.{RefusedMark}
use Rattle.msc_answer.specs.declared.ending.Refusal.{Refusal}
use Rattle.msc_answer.specs.declared.ending.Refusal.TheVariants as refusals

-- the faulty marks of a diagram, in no order
abbrev pub mark_faults : List ℕ → Diagram → List FaultyMark
mark_faults text d = (found_in text d).faults ++ label_faults d.statements

-- these are the marks of a diagram, none of which is faulty
pub record AreMarksOf (text : List ℕ) (d : Diagram) (m : DiagramMarks) : Type 0 where
  pub marks : m.marks ≡ (found_in text d).marks
  pub faultless : IsPermutation (mark_faults text d) []

-- they are read where they are asked for
abbrev pub AreArrowMarks : Bool → List ℕ → Diagram → Option DiagramMarks → Type 0
AreArrowMarks accept text d None = accept ≡ false
AreArrowMarks accept text d (Some m) = (accept ≡ true) × AreMarksOf text d m

-- this is the first of these
abbrev pub IsHead : List FaultyMark → FaultyMark → Type 0
IsHead [] fault = ⊥
IsHead (first ∷ faults) fault = first ≡ fault

-- a faulty mark, with its position
pub record IsRefusedMark (text : List ℕ) (fault : FaultyMark) (r : RefusedMark) : Type 0 where
  pub fault_is : r.fault ≡ fault
  pub position_is : r.position ≡ position_at text fault.span.first

-- this is the first faulty mark of a diagram, by where it begins
pub record IsFaultyMark (text : List ℕ) (d : Diagram) (r : RefusedMark) : Type 0 where
  pub faults : List FaultyMark
  pub are : IsPermutation (mark_faults text d) faults
  pub sorted : IsNonDecreasingBy (λ fault. fault.span.first) faults
  pub first : FaultyMark
  pub is_first : IsHead faults first
  pub is : IsRefusedMark text first r

-- what reading the marks answers: them, or the first faulty one, or that memory ran out
abbrev pub ReadsArrowMarks : Bool → List ℕ → Diagram → Result (Option DiagramMarks) Refusal → Type 0
ReadsArrowMarks accept text d (Ok marks) = AreArrowMarks accept text d marks
ReadsArrowMarks accept text d (Err (refusals.ArrowMark r)) = (accept ≡ true) × IsFaultyMark text d r
ReadsArrowMarks accept text d (Err (refusals.Fault Memory)) = Unit {0}
ReadsArrowMarks accept text d (Err refusal) = ⊥
