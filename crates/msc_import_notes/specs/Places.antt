-- Where faults of imports stand in their texts.
use Rattle.std.specs.Prelude.{ℕ, ◌≤◌, List, length}
use Rattle.msc_mermaid.specs.declared.fault.ImportFault.{ImportFault}
use Rattle.msc_mermaid.specs.declared.fault.ImportFault.TheVariants as imports
use Rattle.msc_place.specs.Positions.{IsPosition}

-- the line of a diagram's text on which a fault stands; the first, where it stands on none
abbrev pub fault_line : ImportFault → ℕ
fault_line (imports.Expected here what) = here.line
fault_line (imports.Unsupported here head) = here.line
fault_line (imports.Unended here) = here.line
fault_line (imports.Outside here word) = here.line
fault_line (imports.TooDeep here) = here.line
fault_line (imports.TooManyLines here) = here.line
fault_line (imports.Choice here choice most) = here.line
fault_line (imports.TooManyArrows here) = here.line
fault_line (imports.Shared here at) = here.line
fault_line (imports.Stray here) = here.line
fault_line (imports.Entity here) = here.line
fault_line fault = 1

-- the place stands on this line of the text, in some column
abbrev pub IsOnLine : List ℕ → ℕ → ℕ → Type 0
IsOnLine text line at = (at ≤ length text) × (column : ℕ) × IsPosition text at line column
