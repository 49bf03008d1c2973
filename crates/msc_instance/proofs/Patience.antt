-- How long takes have found nothing: some inlet has been idle no longer than the rounds were empty.
use Rattle.std.proofs.Common.{◌≡◌, ℕ, ◌+◌, ◌<◌, ◌≤◌, List, [], ◌∷◌, length, get_or, sym, ap, arith, subst, All}
use Rattle.std.proofs.lemmas.Option.{slice_get-get_or}
use Rattle.msc_execution.specs.Roles.{NumberedInlet}
use Rattle.msc_execution.specs.Running.{AllHaveEnded, AreEager, SomeIdled}
use Rattle.msc_instance.specs.declared.active.Active.{Active}
use Rattle.msc_instance.specs.Active.{HasSent}
use Rattle.msc_instance.specs.Taking.{IsIdle, SomeFound}

-- where there are inlets, on one of them no more than the last n takes have found nothing
abbrev pub IsNotLate : ℕ → List NumberedInlet → Type 0
IsNotLate n inlets = 0 < length inlets
    → (j : ℕ) × (j < length inlets) × ((x : NumberedInlet) → (get_or inlets j x).1.idle ≤ n)

-- before the first round
pub late_first : (inlets : List NumberedInlet) → AreEager inlets → IsNotLate 0 inlets
late_first inlets eager some = (0, some, λ x. omega (arith, eager 0 x some))

-- after a round that found something
pub late_found : (a : Active) → SomeFound a → IsNotLate 0 a.inlets.items
late_found a found some = (found.0, found.1, λ x. omega (arith, found.2 x))

-- after one that found nothing
pub late_idle : (n : ℕ) (a b c : Active) → HasSent a b → IsIdle b c → IsNotLate n a.inlets.items
    → IsNotLate (n + 1) c.inlets.items
late_idle n a b c sent idle before some =
    let late : IsNotLate n b.inlets.items = subst (IsNotLate n) (sym sent.inlets) before in
    let (j, lt, low) = late (omega (arith, idle.many, some)) in
    (j, omega (arith, idle.many, lt), λ x. omega (arith, idle.once j x, low x))

-- so where all have been idle that long, some has been idle no longer
pub late_last : (n : ℕ) (inlets : List NumberedInlet) → (AllHaveEnded inlets → ⊥)
    → All (λ (x : NumberedInlet). n ≤ x.1.idle) inlets → IsNotLate n inlets → SomeIdled n inlets
late_last n [] going low late = absurd (going (λ k x lt. absurd (omega arith)))
late_last n (y ∷ inlets) going low late =
    let (j, lt, most) = late (omega arith) in (
      j,
      get_or (y ∷ inlets) j y,
      slice_get-get_or (y ∷ inlets) j y lt,
      omega (arith, most y, low j y lt),
    )
