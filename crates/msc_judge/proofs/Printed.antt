-- A heading, rows and an end are printed one after another.
use Rattle.std.proofs.Common.{◌≡◌, List, ℕ, ◌++◌, sym, subst}
use Rattle.msc_print.specs.Printed.{Printed}
use Rattle.msc_print.specs.Prints.{Prints}
use Rattle.msc_print.proofs.PrintLemmas.{prints_then}

pub prints_all : (a b c d : Printed) (heading rows end text : List ℕ) → text ≡ heading ++ (rows ++ end)
    → Prints a b heading → Prints b c rows → Prints c d end → Prints a d text
prints_all a b c d heading rows end text same first then last =
    subst (Prints a d) (sym same) (prints_then a b d heading (rows ++ end) first (prints_then b c d rows end then last))
