-- What is printed of a chart or a diagram under the queues that the architectures of a scan give it.
use Rattle.std.specs.Prelude.{◌≡◌, ◌⊎◌, ℕ, Bool, true, false, List, []}
use Rattle.std.specs.List.{list_any}
use Rattle.msc_answer.specs.Own.{OwnSaid, IsSilent}
use Rattle.msc_answer.specs.declared.ending.Refusal.{Refusal}
use Rattle.msc_answer.specs.declared.ending.Status.TheVariants.{Refused}
use Rattle.msc_answer.specs.declared.tasks.LinkWords.{LinkWords}
use Rattle.msc_chart.specs.declared.queue.Queues.{Queues}
use Rattle.msc_scanning.specs.Putting.{PutsEach, RefusesFirst}
use Rattle.msc_scanning.specs.Queued.{AreQueues, IsUnqueued}
use Rattle.msc_scanning.specs.Refusing.{ended, IsRefusalPage}
use Rattle.msc_scanning.specs.declared.outcome.Outcome.{Outcome}
use Rattle.msc_scanning.specs.declared.putting.Target.{Target}
use Rattle.msc_scanning.specs.declared.queues.Linked.{Linked}
use Rattle.msc_scanning.specs.declared.words.Plan.{Plan}

-- texts are asked for their own queues
abbrev pub asks_own : Plan → Bool
asks_own p = list_any (λ a. a.own) p.architectures.now

-- a text that is asked for its queues, and says so much of them, names none
abbrev pub IsSilentIf : Bool → (OwnSaid → Type 0) → Bool → Type 0
IsSilentIf false says silent = silent ≡ false
IsSilentIf true says silent = IsSilent says silent

-- what is printed of a text by these rules of the command line, which says so much of its queues
abbrev pub PutsLinked : Plan → Target → LinkWords → Linked → (OwnSaid → Type 0) → Outcome → List ℕ → Type 0
PutsLinked p target links of says outcome printed =
    (queues : List Queues) × AreQueues links of p.architectures.now [] queues
    × (silent : Bool) × IsSilentIf (asks_own p) says silent × PutsEach p target silent queues outcome printed

-- why nothing is: it has no queues, or is refused under them
abbrev pub RefusesLinked : Plan → Target → LinkWords → Linked → Refusal → Type 0
RefusesLinked p target links of refusal =
    IsUnqueued links of refusal
    ⊎ ((queues : List Queues) × AreQueues links of p.architectures.now [] queues × RefusesFirst p target queues refusal)

-- what is printed of a text that is refused, and what counts of it
abbrev pub IsRefusedSo : Plan → List ℕ → List ℕ → List ℕ → Refusal → Outcome → List ℕ → Type 0
IsRefusedSo p label file text refusal outcome printed =
    (outcome ≡ ended Refused) × IsRefusalPage p label file text refusal printed
