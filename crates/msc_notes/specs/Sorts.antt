-- Sorts of events.
use Rattle.std.specs.Prelude.{ℕ, Bool, true, false, min, Option, Some, None}
use Rattle.msc_parser.specs.declared.tree.Direction.{Direction}
use Rattle.msc_parser.specs.declared.tree.Direction.TheVariants as directions
use Rattle.msc_parser.specs.declared.tree.Statement.{Statement}
use Rattle.msc_parser.specs.declared.tree.Statement.TheVariants as statements
use Rattle.msc_notes.specs.declared.counting.Sort.{Sort}
use Rattle.msc_notes.specs.declared.counting.Sort.TheVariants as sorts

-- the sort of a message event
abbrev pub sort_by : Direction → Sort
sort_by directions.Output = sorts.Output
sort_by directions.Input = sorts.Input

-- the sort of a statement
abbrev pub sort_of : Statement → Sort
sort_of (statements.Message s) = sort_by s.direction
sort_of (statements.Action label) = sorts.Action

-- whether two sorts are one
abbrev pub same_sort : Sort → Sort → Bool
same_sort sorts.Output sorts.Output = true
same_sort sorts.Input sorts.Input = true
same_sort sorts.Action sorts.Action = true
same_sort a b = false

-- whether a statement is of a sort
abbrev pub is_of : Sort → Statement → Bool
is_of sort s = same_sort sort (sort_of s)

-- the lesser of two numbers, or that which there is
abbrev pub lesser : Option ℕ → Option ℕ → Option ℕ
lesser (Some a) (Some b) = Some (min a b)
lesser (Some a) None = Some a
lesser None b = b
