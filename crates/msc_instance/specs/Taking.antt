-- What takes of an instance come to, and rounds of takes.
use Rattle.std.specs.Prelude.{◌≡◌, ◌≢◌, ℕ, ◌+◌, ◌<◌, ◌≤◌, min, Bool, length, get_or, All}
use Rattle.msc_chart.specs.Drawings.{Drawing}
use Rattle.msc_fifo.specs.Entries.{greatest_idle}
use Rattle.msc_ending.specs.declared.end.End.TheVariants as end
use Rattle.msc_execution.specs.Roles.{NumberedInlet}
use Rattle.msc_instance.specs.declared.active.Active.{Active}
use Rattle.msc_instance.specs.declared.active.Post.{Post}
use Rattle.msc_instance.specs.declared.taking.TakeStep.{TakeStep}
use Rattle.msc_instance.specs.declared.taking.TakeStep.TheVariants as step
use Rattle.msc_instance.specs.declared.round.Round.{Round}
use Rattle.msc_instance.specs.declared.round.Round.TheVariants as round
use Rattle.msc_instance.specs.Active.{IsSound, EndsSo, logged_by, weight}

-- a take on inlet k found nothing
pub record IsQuiet (k : ℕ) (a b : Active) : Type 0 where
  pub kept : logged_by b ≡ logged_by a
  pub idle : (n : NumberedInlet)
      → (get_or b.inlets.items k n).1.idle ≡ min ((get_or a.inlets.items k n).1.idle + 1) greatest_idle
  pub others : (j : ℕ) (n : NumberedInlet) → j ≢ k → get_or b.inlets.items j n ≡ get_or a.inlets.items j n

-- and one found something
pub record IsFound (k : ℕ) (a b : Active) : Type 0 where
  pub idle : (n : NumberedInlet) → (get_or b.inlets.items k n).1.idle ≡ 0
  pub others : (j : ℕ) (n : NumberedInlet) → j ≢ k → get_or b.inlets.items j n ≡ get_or a.inlets.items j n

-- after a take on inlet k
abbrev pub TookOne : Drawing → Post → ℕ → Active → Active → TakeStep → Type 0
TookOne d p k a b step.Nothing = IsSound d p b × IsQuiet k a b × (weight d p b ≡ weight d p a)
TookOne d p k a b step.Ended = IsSound d p b × (weight d p b < weight d p a) × IsFound k a b
TookOne d p k a b step.Logged = IsSound d p b × (weight d p b < weight d p a) × IsFound k a b
TookOne d p k a b step.Stopped = IsSound d p b
TookOne d p k a b (step.Foreign m) = (open' : Bool) (patience : ℕ)
    → EndsSo d p open' patience b (end.Foreign m)

-- no take of a round found anything
pub record IsIdle (a b : Active) : Type 0 where
  pub kept : logged_by b ≡ logged_by a
  pub many : length b.inlets.items ≡ length a.inlets.items
  pub once : (j : ℕ) (i : NumberedInlet)
      → (get_or b.inlets.items j i).1.idle ≤ (get_or a.inlets.items j i).1.idle + 1
  pub idle : (n : ℕ) → n < greatest_idle → All (λ (i : NumberedInlet). n ≤ i.1.idle) a.inlets.items
      → All (λ (i : NumberedInlet). n + 1 ≤ i.1.idle) b.inlets.items

-- the last take on some inlet found something
abbrev pub SomeFound : Active → Type 0
SomeFound a = (j : ℕ) × (j < length a.inlets.items)
    × ((n : NumberedInlet) → (get_or a.inlets.items j n).1.idle ≡ 0)

-- after a round of takes
abbrev pub TookEach : Drawing → Post → Active → Active → Round → Type 0
TookEach d p a b round.Empty = IsSound d p b × IsIdle a b × (weight d p b ≡ weight d p a)
TookEach d p a b round.Busy = IsSound d p b × (weight d p b < weight d p a) × SomeFound b
TookEach d p a b round.Stopped = IsSound d p b
TookEach d p a b (round.Foreign m) = (open' : Bool) (patience : ℕ)
    → EndsSo d p open' patience b (end.Foreign m)
