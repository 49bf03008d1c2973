-- What is printed of a pair of a chart's events.
use Rattle.std.specs.Prelude.{◌≡◌, ◌↔◌, ℕ, Bool, true, false, List, IsTrue}
use Rattle.msc_chart.specs.declared.queue.Queues.{Queues}
use Rattle.msc_chart.specs.Drawings.{Drawing}
use Rattle.msc_chart.specs.Orders.{wired, Enforced}
use Rattle.msc_reason.specs.Pairs.{AreTwoEvents}
use Rattle.msc_reason.specs.Reasons.{IsReason}
use Rattle.msc_reason.specs.declared.reason.Reason.{Reason}
use Rattle.msc_reason.specs.declared.reason.Reason.TheVariants as reasons
use Rattle.msc_report.specs.Reasons.{explained_text}
use Rattle.msc_report.specs.declared.style.Style.{Style}

-- whether a reason says that the first event is enforced before the second
abbrev pub is_enforced : Reason → Bool
is_enforced (reasons.Enforced why) = true
is_enforced (reasons.Free run cause late) = false

-- What is printed of two events of a chart in a style, and whether the first is enforced before the
-- second: a reason that is right, with a short witness where that is wanted.
pub record PrintsReason (d : Drawing) (queues : Queues) (e f : ℕ) (short : Bool) (style : Style) (enforced : Bool) (printed : List ℕ) : Type 0 where
  pub two : AreTwoEvents d e f
  pub reason : Reason
  pub right : IsReason short (wired queues d) e f reason
  pub answered : IsTrue enforced ↔ Enforced (wired queues d) e f
  pub text : printed ≡ explained_text style d queues e f reason
