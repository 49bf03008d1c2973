-- All faults that stand in a draft, listed together.
use Rattle.std.specs.Prelude.{◌≡◌, ◌⊎◌, ◌↔◌, ℕ, ◌<◌, ◌^◌, List}
use Rattle.msc_parser.specs.Grammar.{Tree}
use Rattle.msc_chart.specs.declared.fault.ChartFault.{ChartFault}
use Rattle.msc_chart.specs.declared.fault.ChartFault.TheVariants.{TwiceInstance, HeaderWithoutBody, UnknownAddress, TwiceEvent, UnmatchedOut, UnmatchedIn}
use Rattle.msc_chart.specs.Faults.{Stands, place, rank}
use Rattle.msc_chart.specs.Lists.{StandsAt, Occurs}

-- the sorts of faults that are listed: those of names, of addresses and of ends of messages
abbrev pub IsListed : ChartFault → Type 0
IsListed (TwiceInstance i) = Unit {0}
IsListed (HeaderWithoutBody k) = Unit {0}
IsListed (UnknownAddress e) = Unit {0}
IsListed (TwiceEvent e) = Unit {0}
IsListed (UnmatchedOut e) = Unit {0}
IsListed (UnmatchedIn e) = Unit {0}
IsListed fault = ⊥

-- a fault of these sorts that stands in the draft. Its place is a number of 32 bits; no text has as many
-- sections, header names or events.
pub record IsFault (d : Tree) (f : ChartFault) : Type 0 where
  pub sort : IsListed f
  pub number : place f < 2 ^ 32
  pub stands : Stands d f

-- the first is answered before the second: it has the lower rank, or of one rank the lower place
abbrev pub IsBefore : ChartFault → ChartFault → Type 0
IsBefore f g = (rank f < rank g) ⊎ ((rank f ≡ rank g) × (place f < place g))

-- each comes before all that follow it, and so stands there once
abbrev pub AreOrdered : {T : Type 0} → (T → T → Type 0) → List T → Type 0
AreOrdered {T} Before xs =
    (i j : ℕ) (x y : T) → i < j → StandsAt xs i x → StandsAt xs j y → Before x y

-- exactly the faults of these sorts that stand in the draft, ascending
pub record AreAllFaults (d : Tree) (fs : List ChartFault) : Type 0 where
  pub all : (f : ChartFault) → Occurs fs f ↔ IsFault d f
  pub ascending : AreOrdered IsBefore fs

-- further faults behind a first one: some of the others that stand, ascending
pub record AreFurther (d : Tree) (first : ChartFault) (fs : List ChartFault) : Type 0 where
  pub others : (f : ChartFault) → Occurs fs f → IsFault d f × (f ≡ first → ⊥)
  pub ascending : AreOrdered IsBefore fs
