-- What the code keeps while the instances of a chart are started and joined.
use Rattle.std.specs.Prelude.{◌≡◌, ◌⊎◌, ℕ, ◌<◌, ◌≤◌, Bool, List, [], ◌∷◌, ◌++◌, length, map, All, Some, slice_get, vec_capacity}
use Rattle.std.specs.List.{AllZip}
use Rattle.msc_chart.specs.declared.queue.Queues.{Queues}
use Rattle.msc_chart.specs.Drawings.{Drawing}
use Rattle.msc_execution.specs.Roles.{role, IsWiring, IsFit}
use Rattle.msc_execution.specs.Logs.{line_events}
use Rattle.msc_execution.specs.Running.{HasRun}
use Rattle.msc_instance.specs.declared.ends.InstanceEnds.{InstanceEnds}
use Rattle.msc_instance.specs.declared.ends.InstanceEnd.{InstanceEnd}
use Rattle.msc_instance.specs.declared.threads.Job.{Job}
use Rattle.msc_instance.specs.declared.threads.Answer.{Answer}
use Rattle.msc_instance.specs.declared.threads.Answer.TheVariants.{Ran, NotRun}
use Rattle.msc_instance.specs.declared.threads.Gathered.{Gathered}
use Rattle.msc_instance.specs.Active.{IsClosedFrom}
use Rattle.msc_instance.specs.Gates.{Rule, WasLet}
use Rattle.msc_instance.specs.Views.{ends_of, left_by}

-- this is known of a gate
abbrev pub rule : Bool → (ℕ → ℕ → Bool) → Rule
rule open' lets = record { is_open = open'; lets = lets }

-- what an instance left is the run of the instance of this number from these ends, under this gate
abbrev pub RunsFrom : Drawing → ℕ → Rule → ℕ → InstanceEnds → InstanceEnd → Type 0
RunsFrom d i gate patience ends r =
    HasRun (role ends.queues d i) gate.is_open patience (ends_of ends) (left_by r)
    × WasLet gate.lets d i r.log.items r.end

-- the job of an instance that was not begun, its outlets closed
pub record IsClosedJob (old new : Job) : Type 0 where
  pub number : new.number ≡ old.number
  pub queues : new.ends.value.queues ≡ old.ends.value.queues
  pub outlets : AllZip IsClosedFrom old.ends.value.outlets.items new.ends.value.outlets.items
  pub inlets : new.ends.value.inlets.items ≡ old.ends.value.inlets.items
  pub log : new.log.items ≡ old.log.items

-- what a thread answers is the run from its job, or that job, not begun
abbrev pub AnswersRun : Drawing → Rule → ℕ → Job → Answer → Type 0
AnswersRun d gate patience j (Ran r) = RunsFrom d j.number gate patience j.ends.value r
AnswersRun d gate patience j (NotRun k) = IsClosedJob j k

-- an instance may be run from here
pub record IsReady (d : Drawing) (j : Job) : Type 0 where
  pub known : j.number < length d.instances
  pub fit : IsFit (role j.ends.value.queues d j.number) (ends_of j.ends.value)
  pub empty : j.log.items ≡ []
  pub room : length (line_events d j.number) ≤ vec_capacity j.log

-- these start the instances of a chart, in their order, from fresh ends
pub record AreJobs (queues : Queues) (d : Drawing) (jobs : List Job) : Type 0 where
  pub wiring : IsWiring queues d (map (λ (j : Job). ends_of j.ends.value) jobs)
  pub numbers : (i : ℕ) (j : Job) → slice_get jobs i ≡ Some j → j.number ≡ i
  pub under : All (λ (j : Job). j.ends.value.queues ≡ queues) jobs
  pub ready : All (IsReady d) jobs

-- each was run, in their order
abbrev pub HaveRun : Drawing → Rule → ℕ → List Job → List InstanceEnd → Type 0
HaveRun d gate patience jobs ran =
    AllZip (λ (j : Job) (r : InstanceEnd). RunsFrom d j.number gate patience j.ends.value r) jobs ran

-- The later instances, whose jobs these were, are closed. Beside them stands the one whose thread
-- was refused, or its answer beside the answers
abbrev pub HaveStopped : Answer → List Job → List Answer → Gathered → Type 0
HaveStopped (Ran r) jobs answers g =
    AllZip IsClosedJob jobs g.unstarted.items × (g.answers.items ≡ answers ++ Ran r ∷ [])
HaveStopped (NotRun k) jobs answers g =
    (closed : List Job) × AllZip IsClosedJob jobs closed
    × (g.unstarted.items ≡ closed ++ k ∷ []) × (g.answers.items ≡ answers)

-- Of these jobs, in which the first instance stands last, the first ones were started, and each of
-- their threads has answered; the others were not begun and their outlets are closed
pub record HaveAnswered (d : Drawing) (gate : Rule) (patience : ℕ) (jobs : List Job) (g : Gathered)
    : Type 0 where
  pub others : List Job
  pub started : List Job
  pub whole : jobs ≡ others ++ started
  pub answers : AllZip (AnswersRun d gate patience) started g.answers.items
  pub closed : AllZip IsClosedJob others g.unstarted.items

-- the instance of this number has answered that it was not begun
abbrev pub HasNotRun : List Answer → ℕ → Type 0
HasNotRun answers i = (n : ℕ) × (k : Job) × (slice_get answers n ≡ Some (NotRun k)) × (k.number ≡ i)

-- the number of the first instance whose thread was not started, or of one that was told so
abbrev pub IsRefused : Gathered → ℕ → Type 0
IsRefused g i =
    ((later : List Job) × (k : Job) × (g.unstarted.items ≡ later ++ k ∷ []) × (k.number ≡ i))
    ⊎ ((g.unstarted.items ≡ []) × HasNotRun g.answers.items i)

-- Instance i was refused: those before it have answered, and it and all behind it are closed
abbrev pub WasRefused : Drawing → Rule → ℕ → List Job → ℕ → Type 0
WasRefused d gate patience jobs i =
    (g : Gathered) × HaveAnswered d gate patience jobs g × IsRefused g i
