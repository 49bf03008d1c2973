-- What contracts see of a printer.
use Rattle.std.specs.Prelude.{ℕ, List, Option}
use Rattle.msc_print.specs.declared.page.WriteFault.{WriteFault}

-- where a printer prints to (the name of its reference), the known bytes of what it prints to, its
-- page, which has not gone out yet, and the fault that ended it, if one did
pub record Printed : Type 0 where
  pub place : ℕ
  pub out : Option (List ℕ)
  pub page : List ℕ
  pub fault : Option WriteFault

abbrev pub printed : ℕ → Option (List ℕ) → List ℕ → Option WriteFault → Printed
printed place out page fault = record { place = place; out = out; page = page; fault = fault }
