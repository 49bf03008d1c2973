-- The kind of an event, from what it does.
use Rattle.std.proofs.Common.{◌≡◌, ℕ, Bool, true, false, cond, List, Some, None, refl, sym, true≢false}
use Rattle.msc_chart.specs.declared.event.EventKind.{EventKind}
use Rattle.msc_chart.specs.declared.event.EventKind.TheVariants.{Output, Input, Local}
use Rattle.msc_chart.specs.Charts.{sends, takes, acts}

-- a kind that sends is an output's
pub kind_sends : (k : EventKind) → sends k ≡ true → k ≡ Output
kind_sends Output h = refl
kind_sends Input h = absurd (true≢false (sym h))
kind_sends Local h = absurd (true≢false (sym h))

-- one that takes is an input's
pub kind_takes : (k : EventKind) → takes k ≡ true → k ≡ Input
kind_takes Output h = absurd (true≢false (sym h))
kind_takes Input h = refl
kind_takes Local h = absurd (true≢false (sym h))

-- one that acts is a local event's
pub kind_acts : (k : EventKind) → acts k ≡ true → k ≡ Local
kind_acts Output h = absurd (true≢false (sym h))
kind_acts Input h = absurd (true≢false (sym h))
kind_acts Local h = refl

-- a label that is told is that of a local event
pub label_told : (local : Bool) (x label : List ℕ) → Some x ≡ cond local (Some label) None → (local ≡ true) × (x ≡ label)
label_told true x label h = (refl, cc)
label_told false x label h = cc
