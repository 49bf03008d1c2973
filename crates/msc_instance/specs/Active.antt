-- What is known of an instance while it runs, between two steps.
use Rattle.std.specs.Prelude.{◌≡◌, ℕ, ◌+◌, ◌-◌, ◌<◌, ◌≤◌, Bool, true, false, List, ◌++◌, ◌∷◌, [], length, filter, All, nat_eq, IsTrue, vec_capacity}
use Rattle.std.specs.List.{AllZip, range_with_len, sum_by}
use Rattle.msc_chart.specs.Lists.{occurs}
use Rattle.msc_chart.specs.Charts.{line, before}
use Rattle.msc_chart.specs.Drawings.{Drawing, IsAccepted, IsLine}
use Rattle.msc_chart.specs.Laws.{SegmentsRise}
use Rattle.msc_fifo.specs.declared.entry.Entry.TheVariants.{Message, Ended}
use Rattle.msc_fifo.specs.Claims.{claim}
use Rattle.msc_fifo.specs.declared.entry.Taken.{Taken}
use Rattle.msc_fifo.specs.Entries.{entries_of, idle_after, ends_in}
use Rattle.msc_fifo.specs.Ends.{IsSameOutlet, IsSameInlet, Clocked, unended_in}
use Rattle.msc_ending.specs.declared.end.End.{End}
use Rattle.msc_execution.specs.Roles.{Role, EndLists, NumberedOutlet, NumberedInlet, role, IsFit}
use Rattle.msc_execution.specs.Logs.{Reading, IsLogOf, line_events, controlled}
use Rattle.msc_execution.specs.Fits.{OutputsHaveOutlets, LogsKeepQuotas, InletsBringOwn}
use Rattle.msc_execution.specs.Growth.{HasTaken}
use Rattle.msc_execution.specs.Running.{Left, IsFirstDue, EndsAs}
use Rattle.msc_instance.specs.declared.active.Active.{Active}
use Rattle.msc_instance.specs.declared.active.Post.{Post}
use Rattle.msc_instance.specs.Views.{ends_of}
use Rattle.msc_instance.specs.Steps.{State, HasBegun, ArePutBy}

-- the part of an instance in the execution
abbrev pub post_role : Drawing → Post → Role
post_role d p = role p.queues d p.instance

-- the ends with which it began
abbrev pub first_ends : Post → EndLists
first_ends p = ends_of p.began.value

-- its ends now
abbrev pub ends_now : Active → EndLists
ends_now a = record { outlets = a.outlets.items; inlets = a.inlets.items }

-- what has been logged
abbrev pub logged_by : Active → List ℕ
logged_by a = a.journal.log.items

-- what is said of an instance between two steps
abbrev pub state_of : Active → State
state_of a = record { shut = a.shut; ends = ends_now a; log = a.journal.log.items; clock = a.clock }

-- the laws on which the loop rests
pub record AreLaws : Type 0 where
  pub rise : SegmentsRise
  pub outlets : OutputsHaveOutlets
  pub quotas : LogsKeepQuotas
  pub own : InletsBringOwn

-- the post of an instance of the chart, whose ends fit
pub record IsPost (d : Drawing) (p : Post) : Type 0 where
  pub laws : AreLaws
  pub accepted : IsAccepted d
  pub line : IsLine d p.instance p.start p.end
  pub ordered : p.start ≤ p.end
  pub within : p.end ≤ length d.events
  pub fit : IsFit (post_role d p) (first_ends p)

-- the events of line i with numbers below n, ascending
abbrev pub line_below : Drawing → ℕ → ℕ → List ℕ
line_below d i n = filter (λ e. nat_eq (line d.events e) i) (range_with_len 0 n)

-- the line's outputs and local events below next are logged, and no others
pub record IsNext (d : Drawing) (p : Post) (log : List ℕ) (next : ℕ) : Type 0 where
  pub from : p.start ≤ next
  pub to : next ≤ p.end
  pub done : controlled d log ≡ controlled d (line_below d p.instance next)

-- the line's events below first are logged
pub record HasUpTo (p : Post) (log : List ℕ) (first : ℕ) : Type 0 where
  pub from : p.start ≤ first
  pub to : first ≤ p.end
  pub there : (e : ℕ) → p.start ≤ e → e < first → IsTrue (occurs log e)

-- an instance that runs
pub record IsSound (d : Drawing) (p : Post) (a : Active) : Type 0 where
  pub post : IsPost d p
  pub begun : HasBegun (post_role d p) (first_ends p) (state_of a)
  pub next : IsNext d p (logged_by a) a.next
  pub first : HasUpTo p (logged_by a) a.first
  pub closed : a.shut ≡ true → a.next ≡ p.end
  pub room : length (line_events d p.instance) ≤ vec_capacity a.journal.log

-- how much can still come: end marks, and events of the line
abbrev pub weight : Drawing → Post → Active → ℕ
weight d p a =
    sum_by (λ (n : NumberedInlet). unended_in n.1) a.inlets.items
    + (length (line_events d p.instance) - length (logged_by a))

-- what sending and closing leave: the inlets, and all that was logged
pub record HasSent (a b : Active) : Type 0 where
  pub inlets : b.inlets.items ≡ a.inlets.items
  pub longer : length (logged_by a) ≤ length (logged_by b)

-- the line's first output or local event outside the log, if there is one, lacks something
abbrev pub IsBlocked : Drawing → ℕ → List ℕ → Type 0
IsBlocked d i log =
    (s : ℕ) → IsFirstDue d i log s → (x : ℕ) × IsTrue (before d.events x s) × (occurs log x ≡ false)

-- an outlet that put a message, with this clock before it and that one after it
pub record HasPut (m clock now : ℕ) (old new : NumberedOutlet) : Type 0 where
  pub number : new.0 ≡ old.0
  pub same : IsSameOutlet old.1 new.1
  pub put : new.1.put ≡ old.1.put ++ m ∷ []
  pub opened : new.1.closed ≡ false
  pub place : ℕ
  pub claims : new.1.claims ≡ old.1.claims ++ claim place (Message old.1.sender m) (clock + 1) now ∷ []

-- each number is below those behind it
abbrev pub IsAscending : List ℕ → Type 0
IsAscending [] = Unit {0}
IsAscending (x ∷ xs) = ((y : ℕ) → IsTrue (occurs xs y) → x < y) × IsAscending xs

-- a closed outlet
pub record IsClosedFrom (old new : NumberedOutlet) : Type 0 where
  pub number : new.0 ≡ old.0
  pub same : IsSameOutlet old.1 new.1
  pub put : new.1.put ≡ old.1.put
  pub closed : new.1.closed ≡ true
  pub claims : old.1.closed ≡ false
      → (place : ℕ) × (new.1.claims ≡ old.1.claims ++ claim place (Ended old.1.sender) 0 0 ∷ [])
  pub again : old.1.closed ≡ true → new.1 ≡ old.1

-- all these outlets are closed
abbrev pub AreClosed : List NumberedOutlet → Type 0
AreClosed outlets = All (λ (o : NumberedOutlet). o.1.closed ≡ true) outlets

-- an inlet after a take
pub record HasGot (clock : ℕ) (taken : Taken) (old new : NumberedInlet) : Type 0 where
  pub number : new.0 ≡ old.0
  pub same : IsSameInlet old.1 new.1
  pub got : new.1.got ≡ old.1.got ++ entries_of taken
  pub clocks : Clocked old.1 clock taken new.1
  pub even : length old.1.clocks ≡ length old.1.got
  pub idle : new.1.idle ≡ idle_after old.1.idle taken
  pub unended : unended_in new.1 + ends_in taken ≡ unended_in old.1

-- what the run of an instance has come to; its outlets are closed or are not
pub record HasCome (r : Role) (open' : Bool) (patience : ℕ) (first : EndLists) (shut : Bool)
    (left : Left) : Type 0 where
  pub reading : Reading
  pub log : IsLogOf r.chart r.number left.log
  pub put : ArePutBy shut r left.log reading first.outlets left.ends.outlets
  pub strange : ℕ → List ℕ
  pub got : AllZip (HasTaken r left.log reading strange) first.inlets left.ends.inlets
  pub ended : EndsAs r open' patience reading left strange left.end

-- what an instance leaves that ends so
abbrev pub what_is_left : Active → End → Left
what_is_left a end = record { log = a.journal.log.items; ends = ends_now a; end = end }

-- the run of an instance ends so
abbrev pub EndsSo : Drawing → Post → Bool → ℕ → Active → End → Type 0
EndsSo d p open' patience a end = HasCome (post_role d p) open' patience (first_ends p) a.shut (what_is_left a end)
