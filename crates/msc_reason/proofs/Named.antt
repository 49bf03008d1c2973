-- All events that a reason names are events of the chart.
use Rattle.std.proofs.Common.{ℕ, ◌<◌, Bool, List, [], ◌∷◌, None, Some, length, sym, subst, arith}
use Rattle.std.proofs.lemmas.List.Elements.{All-cons}
use Rattle.msc_chart.proofs.Drawn.{before_parts, input_parts, output_parts}
use Rattle.msc_chart.proofs.ListLemmas.{by_test}
use Rattle.msc_chart.specs.declared.queue.Queues.{Queues}
use Rattle.msc_chart.specs.Charts.{partner}
use Rattle.msc_chart.specs.Drawings.{Drawing, IsAccepted}
use Rattle.msc_chart.specs.Orders.{wired}
use Rattle.msc_reason.proofs.OnePair.{share_parts}
use Rattle.msc_reason.specs.Chains.{IsWhy, LeadsTo, Step, below, over}
use Rattle.msc_reason.specs.Causes.{needed, share_queue, IsCauseOf}
use Rattle.msc_reason.specs.Named.{AreEventsOf, NamesAll, NamesCause, NamesSteps}
use Rattle.msc_reason.specs.Reasons.{IsReason}
use Rattle.msc_reason.specs.declared.cause.Cause.{Cause}
use Rattle.msc_reason.specs.declared.reason.Reason.{Reason}
use Rattle.msc_reason.specs.declared.reason.Reason.TheVariants.{Enforced, Free}
use Rattle.msc_reason.specs.declared.why.Why.{Why}
use Rattle.msc_reason.specs.declared.why.Why.TheVariants.{Straight, ByQueue}

module _ (queues : Queues) (d : Drawing) (accepted : IsAccepted d) where
  -- a step leads to an event
  step_known : (x y : ℕ) → Step d.events x y → y < length d.events
  step_known x y (below b c) = (before_parts d.events x y b).1
  step_known x y (over o p) =
      subst (λ (n : ℕ). n < length d.events) p (accepted.matched.in_range x (output_parts d.events x o).0)

  -- so what leads on is of events
  leads_known : (x : ℕ) (steps : List ℕ) (y : ℕ) → LeadsTo d.events x steps y → AreEventsOf d steps
  leads_known x [] y leads = λ k n within. absurd (omega (arith, within))
  leads_known x (z ∷ steps) y leads =
      All-cons (λ e. e < length d.events) z steps (step_known x z leads.0) (leads_known z steps y leads.1)

  -- what shows that an event is enforced before another names events
  names_steps : (e f : ℕ) (why : Why) → IsWhy (wired queues d) e f why → NamesSteps d why
  names_steps e f (Straight steps) is = leads_known e steps f is.1
  names_steps e f (ByQueue u outputs onward) is = (
    (input_parts d.events u (share_parts (wired queues d) e u is.mates).1).0,
    leads_known (partner d.events e) outputs (partner d.events u) is.chain.1,
    leads_known u onward f is.rest,
  )

  -- what would have to come first is an event
  needed_known : (e f : ℕ) → e < length d.events → needed (wired queues d) e f < length d.events
  unfolding needed
  needed_known e f known = by_test (share_queue (wired queues d) e f)
      (λ shared. rw shared (accepted.matched.in_range e known))
      (λ apart. rw apart known)

  -- and so does a cause
  cause_known : (e f : ℕ) (cause : Cause) → e < length d.events → f < length d.events → IsCauseOf (wired queues d) e f cause → NamesCause d cause
  cause_known e f cause e_known f_known is = record {
    needed = subst (λ (n : ℕ). n < length d.events) (sym is.first) (needed_known e f e_known);
    output = subst (λ (n : ℕ). n < length d.events) (sym is.second) (accepted.matched.in_range f f_known);
  }

  -- a reason names events
  pub names_all : (e f : ℕ) → e < length d.events → f < length d.events → (short : Bool) (reason : Reason) → IsReason short (wired queues d) e f reason → NamesAll d reason
  names_all e f e_known f_known short (Enforced why) is = names_steps e f why is.0
  names_all e f e_known f_known short (Free run None None) is = (tt, tt)
  names_all e f e_known f_known short (Free run None (Some why)) is = (tt, names_steps f e why is.turned.0)
  names_all e f e_known f_known short (Free run (Some cause) None) is = (cause_known e f cause e_known f_known is.race.1, tt)
  names_all e f e_known f_known short (Free run (Some cause) (Some why)) is =
      (cause_known e f cause e_known f_known is.race.1, names_steps f e why is.turned.0)
