-- The events that are named on a command line.
use Rattle.std.specs.Prelude.{◌≡◌, ◌≢◌, ◌⊎◌, ◌&&◌, not, ℕ, ◌<◌, ◌≤◌, Bool, true, false, List, length, nat_eq, nat_lt, slice_get, Option, None, Some, Result, Ok, Err}
use Rattle.std.specs.Option.{option_map_or}
use Rattle.msc_chart.specs.Charts.{is_controlled, line}
use Rattle.msc_chart.specs.Drawings.{Drawing}
use Rattle.msc_import.specs.declared.importing.Imported.{Imported}
use Rattle.msc_parser.specs.Grammar.{Tree}
use Rattle.msc_parser.specs.Parsing.{HasDraft}
use Rattle.msc_place.specs.Standing.{HasNoneOnLine, IsFirstOnLine}
use Rattle.msc_place.specs.declared.position.Position.{Position}
use Rattle.msc_report.specs.declared.pair.EventName.{EventName}
use Rattle.msc_report.specs.declared.pair.EventName.TheVariants.{Number, Line}
use Rattle.msc_report.specs.declared.pair.NamedFault.{NamedFault}
use Rattle.msc_report.specs.declared.pair.NamedFault.TheVariants.{NoEvent, OneEvent, NoRace}
use Rattle.msc_answer.specs.Charted.{ChartedText}

-- the arrow of event e begins on a line, by the positions of the arrows
abbrev pub begins_on : List Position → ℕ → ℕ → Bool
begins_on positions line e = option_map_or (λ p. nat_eq p.line line) (slice_get positions e) false

-- a name in a diagram can mean event e: it is its number, or its arrow begins on this line
abbrev pub can_mean : List Position → EventName → ℕ → Bool
can_mean positions (Number n) e = nat_eq n e
can_mean positions (Line line) e = begins_on positions line e

-- two names can mean two events, e and f, which are on one line, and of which f is an input
abbrev pub can_pair : List Position → Drawing → EventName → EventName → ℕ → ℕ → Bool
can_pair positions d first second e f =
    nat_lt e (length d.events) && (nat_lt f (length d.events) && (not (nat_eq e f) && (can_mean positions first e
    && (can_mean positions second f && (nat_eq (line d.events e) (line d.events f) && not (is_controlled d.events f))))))

-- a name means event e by itself: it is its number, or e is an output or an action of an arrow that
-- begins on this line
abbrev pub can_lead : List Position → Drawing → EventName → ℕ → Bool
can_lead positions d (Number n) e = nat_lt e (length d.events) && nat_eq n e
can_lead positions d (Line line) e = nat_lt e (length d.events) && (begins_on positions line e && is_controlled d.events e)

-- no number passes a test
abbrev pub HasNone : (ℕ → Bool) → Type 0
HasNone test = (x : ℕ) → test x ≡ false

-- the least number that passes a test
pub record IsFirst (test : ℕ → Bool) (x : ℕ) : Type 0 where
  pub passes : test x ≡ true
  pub first : (y : ℕ) → y < x → test y ≡ false

-- the second of the least pair with this first event, if there is one
abbrev pub HasNoSecond : List Position → Drawing → EventName → EventName → ℕ → Type 0
HasNoSecond positions d first second e = HasNone (can_pair positions d first second e)

abbrev pub IsLeastSecond : List Position → Drawing → EventName → EventName → ℕ → ℕ → Type 0
IsLeastSecond positions d first second e f = IsFirst (can_pair positions d first second e) f

-- the least pair that two names can mean in a diagram, if there is one
abbrev pub HasNoPairIn : List Position → Drawing → EventName → EventName → Type 0
HasNoPairIn positions d first second = (e : ℕ) → HasNoSecond positions d first second e

pub record IsLeastPairIn (positions : List Position) (d : Drawing) (first second : EventName) (e f : ℕ) : Type 0 where
  pub second_is : IsLeastSecond positions d first second e f
  pub first_is : (x : ℕ) → x < e → HasNoSecond positions d first second x

-- the same of a text: names in a chart mean events by themselves
abbrev pub NoPairIf : Option Imported → Drawing → EventName → EventName → Type 0
NoPairIf None d first second = Unit {0}
NoPairIf (Some is) d first second = HasNoPairIn is.places d first second

abbrev pub LeastPairIf : Option Imported → Drawing → EventName → EventName → ℕ → ℕ → Type 0
LeastPairIf None d first second e f = ⊥
LeastPairIf (Some is) d first second e f = IsLeastPairIn is.places d first second e f

abbrev pub HasNoPair : ChartedText → EventName → EventName → Type 0
HasNoPair s first second = NoPairIf s.imported s.chart first second

abbrev pub IsLeastPair : ChartedText → EventName → EventName → ℕ → ℕ → Type 0
IsLeastPair s first second e f = LeastPairIf s.imported s.chart first second e f

-- the event that a name means by itself in a diagram, if there is one
abbrev pub HasNoLead : List Position → Drawing → EventName → Type 0
HasNoLead positions d name = HasNone (can_lead positions d name)

abbrev pub IsLead : List Position → Drawing → EventName → ℕ → Type 0
IsLead positions d name e = IsFirst (can_lead positions d name) e

-- the name is that of event e of a chart: its number, or a line on which its statement is the first
-- to begin
abbrev pub NamesIn : List ℕ → Drawing → EventName → ℕ → Type 0
NamesIn text d (Number n) e = (e < length d.events) × (e ≡ n)
NamesIn text d (Line line) e = (e < length d.events) × ((t : Tree) → HasDraft text t → IsFirstOnLine text t line e)

-- the name is that of no event of a chart
abbrev pub NamesNoneIn : List ℕ → Drawing → EventName → Type 0
NamesNoneIn text d (Number n) = length d.events ≤ n
NamesNoneIn text d (Line line) = (t : Tree) → HasDraft text t → HasNoneOnLine text t line

-- the event of a name in a chart, if there is one
abbrev pub IsNamedIn : List ℕ → Drawing → EventName → Option ℕ → Type 0
IsNamedIn text d name None = NamesNoneIn text d name
IsNamedIn text d name (Some e) = NamesIn text d name e

-- the name means event e by itself
abbrev pub NamesBy : Option Imported → List ℕ → Drawing → EventName → ℕ → Type 0
NamesBy None text d name e = NamesIn text d name e
NamesBy (Some is) text d name e = IsLead is.places d name e

abbrev pub NamesEvent : ChartedText → EventName → ℕ → Type 0
NamesEvent s name e = NamesBy s.imported s.text s.chart name e

-- and means none
abbrev pub NamesNoneBy : Option Imported → List ℕ → Drawing → EventName → Type 0
NamesNoneBy None text d name = NamesNoneIn text d name
NamesNoneBy (Some is) text d name = HasNoLead is.places d name

abbrev pub NamesNone : ChartedText → EventName → Type 0
NamesNone s name = NamesNoneBy s.imported s.text s.chart name

-- the event of a name, if there is one
abbrev pub IsNamed : ChartedText → EventName → Option ℕ → Type 0
IsNamed s name None = NamesNone s name
IsNamed s name (Some e) = NamesEvent s name e

-- these are the two events that the names mean by themselves
pub record AreTwo (s : ChartedText) (first second : EventName) (e f : ℕ) : Type 0 where
  pub first_is : NamesEvent s first e
  pub second_is : NamesEvent s second f
  pub differ : e ≢ f

-- why two names are no two events: the first that is none of an event, or they are those of one
abbrev pub IsTwoFault : ChartedText → EventName → EventName → NamedFault → Type 0
IsTwoFault s first second (NoEvent name) =
    ((name ≡ first) × NamesNone s first)
    ⊎ ((name ≡ second) × ((e : ℕ) × NamesEvent s first e) × NamesNone s second)
IsTwoFault s first second (OneEvent a b) =
    (a ≡ first) × (b ≡ second) × ((e : ℕ) × NamesEvent s first e × NamesEvent s second e)
IsTwoFault s first second (NoRace a b) = ⊥

-- the two events that the names mean by themselves, or why they are none
abbrev pub AreTwoOrFault : ChartedText → EventName → EventName → Result (ℕ × ℕ) NamedFault → Type 0
AreTwoOrFault s first second (Ok p) = AreTwo s first second p.0 p.1
AreTwoOrFault s first second (Err fault) = IsTwoFault s first second fault

-- these are the two events of the names: of a diagram the least pair that they can mean, if there is
-- one; else those that they mean by themselves
abbrev pub AreTwoNamed : ChartedText → EventName → EventName → ℕ → ℕ → Type 0
AreTwoNamed s first second e f =
    IsLeastPair s first second e f ⊎ (HasNoPair s first second × AreTwo s first second e f)

-- and this is why they are none
abbrev pub IsNamedFault : ChartedText → EventName → EventName → NamedFault → Type 0
IsNamedFault s first second fault = HasNoPair s first second × IsTwoFault s first second fault

-- the two events of the names, or why they are none
abbrev pub AreNamed : ChartedText → EventName → EventName → Result (ℕ × ℕ) NamedFault → Type 0
AreNamed s first second (Ok p) = AreTwoNamed s first second p.0 p.1
AreNamed s first second (Err fault) = IsNamedFault s first second fault
