-- How the faults of a draft are put together, sort by sort.
use Rattle.std.specs.Prelude.{◌≡◌, ◌⊎◌, ◌↔◌, ℕ, ◌<◌, ◌^◌, ◌++◌, Bool, cond, List, map}
use Rattle.msc_parser.specs.declared.tree.Decl.{Decl}
use Rattle.msc_parser.specs.declared.tree.Section.{Section}
use Rattle.msc_chart.specs.declared.fault.ChartFault.{ChartFault}
use Rattle.msc_chart.specs.declared.fault.ChartFault.TheVariants.{UnmatchedOut, UnmatchedIn}
use Rattle.msc_chart.specs.Events.{Act, MessageEnd, other_end}
use Rattle.msc_chart.specs.Events.Act.{OfMessage}
use Rattle.msc_chart.specs.Faults.{IsRepeat}
use Rattle.msc_chart.specs.Lists.{Occurs}
use Rattle.msc_notes.specs.AllFaults.{AreOrdered, IsBefore}

-- the names of decls
abbrev pub decl_names : List Decl → List (List ℕ)
decl_names ds = map (λ d. d.name) ds

-- the names of sections
abbrev pub section_names : List Section → List (List ℕ)
section_names ss = map (λ s. s.decl.name) ss

-- the fault of an output, or of an input, that has no other end
abbrev pub unmatched_fault : Bool → ℕ → ChartFault
unmatched_fault sends e = cond sends (UnmatchedOut e) (UnmatchedIn e)

-- the element at place i is equal to an earlier one, and its place is a number of 32 bits
abbrev pub IsFewRepeats : List (List ℕ) → ℕ → Type 0
IsFewRepeats names i = (i < 2 ^ 32) × IsRepeat names i

-- a fault is put at the back for each number below n that is such, ascending
pub record HasPut (make : ℕ → ChartFault) (Such : ℕ → Type 0) (n : ℕ) (old new : List ChartFault) : Type 0 where
  pub numbers : List ℕ
  pub put : new ≡ old ++ map make numbers
  pub all : (k : ℕ) → Occurs numbers k ↔ ((k < n) × Such k)
  pub ascending : AreOrdered (λ a b. a < b) numbers

-- the same names, in any order
abbrev pub HasNames : List (List ℕ) → List (List ℕ) → Type 0
HasNames keys names = (name : List ℕ) → Occurs keys name ↔ Occurs names name

-- the ends of messages that these acts are, in any order
abbrev pub HasEnds : List MessageEnd → List Act → Type 0
HasEnds keys acts = (x : MessageEnd) → Occurs keys x ↔ Occurs acts (OfMessage x)

-- the same ends and the one that an act is, if it is one
abbrev pub HasWith : List MessageEnd → Act → List MessageEnd → Type 0
HasWith old act new = (x : MessageEnd) → Occurs new x ↔ (Occurs old x ⊎ (act ≡ OfMessage x))

-- an output, or an input, whose other end is none of these
pub record IsAlone (sends : Bool) (keys : List MessageEnd) (x : MessageEnd) : Type 0 where
  pub kind : x.sends ≡ sends
  pub alone : Occurs keys (other_end x) → ⊥

-- some of these faults in their order, and not this one
pub record IsPartWithout (first : ChartFault) (part whole : List ChartFault) : Type 0 where
  pub within : (f : ChartFault) → Occurs part f → Occurs whole f
  pub others : (f : ChartFault) → Occurs part f → f ≡ first → ⊥
  pub ordered : AreOrdered IsBefore whole → AreOrdered IsBefore part
