-- What is printed.
use Rattle.std.specs.Prelude.{◌≡◌, ℕ, List, ◌++◌, Option, Some, None}
use Rattle.std.specs.Io.KnownBytes.{Appends}
use Rattle.msc_print.specs.Printed.{Printed}
use Rattle.msc_print.specs.declared.page.WriteFault.{WriteFault}
use Rattle.msc_print.specs.declared.page.WriteFault.TheVariants.{Memory, Device}

-- of a page and the text behind it a front went out, and the rest did not
pub record GoesOut (before after : Option (List ℕ)) (page text rest : List ℕ) : Type 0 where
  pub front : List ℕ
  pub split : page ++ text ≡ front ++ rest
  pub out : Appends before after front

-- A text stands behind all that was printed; or memory ran out, and a front of all went out; or the
-- writer failed.
abbrev pub Ends : Option WriteFault → Printed → Printed → List ℕ → Type 0
Ends None old new text = GoesOut old.out new.out old.page text new.page
Ends (Some Memory) old new text = (rest : List ℕ) × GoesOut old.out new.out old.page text rest
Ends (Some Device) old new text = Unit {0}

-- after a fault a printer is left as it is
abbrev pub Prints' : Option WriteFault → Printed → Printed → List ℕ → Type 0
Prints' None old new text = (new.place ≡ old.place) × Ends new.fault old new text
Prints' (Some f) old new text = new ≡ old

-- A text is printed behind all that was printed before, up to a fault.
abbrev pub Prints : Printed → Printed → List ℕ → Type 0
Prints old new text = Prints' old.fault old new text
