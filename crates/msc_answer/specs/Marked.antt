-- The marks of a text, where they are asked.
use Rattle.std.specs.Prelude.{◌≡◌, ℕ, Bool, true, false, List, Option, None, Some, Result, Ok, Err, length, nat_lt}
use Rattle.msc_mark.specs.Comments.{AreMarksOf, HasMarkFault}
use Rattle.msc_mark.specs.declared.fault.MarkFault.{MarkFault}
use Rattle.msc_mark.specs.declared.fault.MarkFault.TheVariants.{Part, Reason, Memory}
use Rattle.msc_mark.specs.declared.mark.Mark.{Mark}

-- these are the marks of the text, where they are asked, and else there are none
abbrev pub AreMarked : Bool → List ℕ → Option (List Mark) → Type 0
AreMarked accept text None = accept ≡ false
AreMarked accept text (Some marks) = (accept ≡ true) × AreMarksOf text (Ok marks)

-- marks are used, and there are some
abbrev pub has_marks : Option (List Mark) → Bool
has_marks None = false
has_marks (Some marks) = nat_lt 0 (length marks)

-- they are asked, and this is the first comment that is to be a mark and is none
abbrev pub HasFaultyMark : Bool → List ℕ → MarkFault → Type 0
HasFaultyMark accept text fault = (accept ≡ true) × HasMarkFault text fault

-- what reading them answers: them, or the first faulty comment, or that memory ran out
abbrev pub ReadsMarks : Bool → List ℕ → Result (Option (List Mark)) MarkFault → Type 0
ReadsMarks accept text (Ok marks) = AreMarked accept text marks
ReadsMarks accept text (Err Memory) = Unit {0}
ReadsMarks accept text (Err (Part at)) = HasFaultyMark accept text (Part at)
ReadsMarks accept text (Err (Reason at)) = HasFaultyMark accept text (Reason at)
