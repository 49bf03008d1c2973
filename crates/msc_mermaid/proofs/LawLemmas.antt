-- What the laws of imports rest on.
use Rattle.std.proofs.Common.{◌≡◌, Result, Ok, Err, sym, ap, ◌∙◌}
use Rattle.msc_mermaid.specs.declared.fault.ImportFault.{ImportFault}

from_ok : {A : Type 0} → A → Result A ImportFault → A
from_ok a (Ok x) = x
from_ok a (Err e) = a

pub same_ok : {A : Type 0} (r : Result A ImportFault) (x y : A) → r ≡ Ok x → r ≡ Ok y → x ≡ y
unfolding from_ok
same_ok r x y e f = ap (from_ok x) (sym e ∙ f)
