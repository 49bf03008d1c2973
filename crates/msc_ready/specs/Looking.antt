-- The events that are looked at for the next one.
use Rattle.std.specs.Prelude.{◌≡◌, ◌≤◌, ℕ, Bool, List, IsTrue}
use Rattle.msc_chart.specs.Charts.{is_input, line}
use Rattle.msc_chart.specs.Orders.{WiredChart}
use Rattle.msc_ready.specs.declared.running.Among.{Among}
use Rattle.msc_ready.specs.declared.running.Among.TheVariants.{UpTo, Inputs, InTurn, All}
use Rattle.msc_ready.specs.Finishing.{IsInTurn}
use Rattle.msc_ready.specs.Readiness.{MayComeReady}
use Rattle.msc_ready.specs.Running.{IsUpTo}

-- x is one of the events that are looked at
abbrev pub IsAmong : WiredChart → (ℕ → Bool) → Among → List ℕ → ℕ → Type 0
IsAmong chart ready (UpTo t) past x = IsUpTo chart ready t x
IsAmong chart ready Inputs past x = IsTrue (is_input chart.events x)
IsAmong chart ready InTurn past x = IsInTurn chart ready past x
IsAmong chart ready All past x = Unit {0}

-- x is one of these and may come next
abbrev pub ComesAmong : WiredChart → (ℕ → Bool) → Among → List ℕ → ℕ → Type 0
ComesAmong chart ready among past x = IsAmong chart ready among past x × MayComeReady chart ready past x

-- x is one of these, stands on line i, and may come next
abbrev pub ComesOn : WiredChart → (ℕ → Bool) → Among → List ℕ → ℕ → ℕ → Type 0
ComesOn chart ready among past i x = (line chart.events x ≡ i) × ComesAmong chart ready among past x

-- no event of line i from x on may come next
abbrev pub NoneComesFrom : WiredChart → (ℕ → Bool) → List ℕ → ℕ → ℕ → Type 0
NoneComesFrom chart ready past i x =
    (y : ℕ) → x ≤ y → line chart.events y ≡ i → MayComeReady chart ready past y → ⊥
