use Rattle.std.proofs.Common.{◌≡◌, ℕ, Bool, List, refl}
use Rattle.msc_chart.specs.declared.queue.Queues.{Queues}
use Rattle.msc_chart.specs.Drawings.{Drawing, IsAccepted}
use Rattle.msc_chart.specs.Orders.{wired}
use Rattle.msc_reason.specs.Laws.{AWhyIsEnough}
use Rattle.msc_reason.specs.Pairs.{AreTwoEvents}
use Rattle.msc_reason.specs.Reasons.{IsReason}
use Rattle.msc_reason.specs.declared.reason.Reason.{Reason}
use Rattle.msc_reason.specs.declared.reason.Reason.TheVariants as reasons
use Rattle.msc_race.proofs.Runs.RunEvents.{run_events}
use Rattle.msc_report.specs.Reasons.{explained_text, NamesRun}
use Rattle.msc_report.specs.declared.style.Style.{Style}
use Rattle.msc_text.specs.Explaining.{is_enforced, PrintsReason}
use Rattle.msc_text.proofs.explaining.explain_pair.Goals as goal

-- a reason that is right, and its text, are what is printed of a pair
prints_reason : (queues : Queues) (d : Drawing) (e f : ℕ) (short : Bool) (style : Style) (reason : Reason) (printed : List ℕ)
    → IsAccepted d → AWhyIsEnough → AreTwoEvents d e f → IsReason short (wired queues d) e f reason → printed ≡ explained_text style d queues e f reason
    → PrintsReason d queues e f short style (is_enforced reason) printed
prints_reason queues d e f short style (reasons.Enforced why) printed accepted enough two right text = record {
  two = two;
  reason = reasons.Enforced why;
  right = right;
  answered = (λ yes. enough queues d accepted e f why right.0, λ enforced. refl);
  text = text;
}
prints_reason queues d e f short style (reasons.Free run cause late) printed accepted enough two right text = record {
  two = two;
  reason = reasons.Free run cause late;
  right = right;
  answered = (λ yes. absurd cc, λ enforced. absurd (right.free enforced));
  text = text;
}

pub page_of-requires-clause-named : goal.page_of-requires-clause-named
page_of-requires-clause-named c =
    let two = c.requires in
    c.a_reason_names_events.ensures c.args.queues c.args.chart.now c.facts.ensures c.args.e c.args.f two.first two.second
    c.args.short c.in_ok-reason.reason c.in_ok-reason.ensures

-- the run of a reason that is right has events of the chart alone
names_run : (queues : Queues) (d : Drawing) (e f : ℕ) (short : Bool) (reason : Reason) → IsReason short (wired queues d) e f reason → NamesRun d reason
names_run queues d e f short (reasons.Enforced why) right = tt
names_run queues d e f short (reasons.Free run cause late) right = run_events (wired queues d) run right.shown.run

pub page_of-requires-clause-run : goal.page_of-requires-clause-run
page_of-requires-clause-run c =
    names_run c.args.queues c.args.chart.now c.args.e c.args.f c.args.short c.in_ok-reason.reason c.in_ok-reason.ensures

pub returns : goal.returns
returns c =
    rw c.is_enforced.ensures (prints_reason c.args.queues c.args.chart.now c.args.e c.args.f c.args.short c.args.style c.in_ok-reason.reason _ c.facts.ensures c.a_why_is_enough.ensures.enough
    c.requires c.in_ok-reason.ensures c.in_ok-page.ensures)
