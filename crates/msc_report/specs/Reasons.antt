-- The texts that reasons are printed as. This project's own formats.
use Rattle.std.specs.Prelude.{ℕ, ◌&&◌, cond, List, [], ◌∷◌, ◌++◌, Option, None, Some, codes, nat_eq}
use Rattle.std.specs.Fmt.{decimal}
use Rattle.msc_chart.specs.declared.queue.Queues.{Queues}
use Rattle.msc_chart.specs.Charts.{before, is_output, partner}
use Rattle.msc_chart.specs.Drawings.{Drawing}
use Rattle.msc_reason.specs.declared.cause.Cause.{Cause}
use Rattle.msc_reason.specs.declared.reason.Reason.{Reason}
use Rattle.msc_reason.specs.declared.reason.Reason.TheVariants.{Enforced, Free}
use Rattle.msc_reason.specs.declared.why.Why.{Why}
use Rattle.msc_reason.specs.declared.why.Why.TheVariants.{Straight, ByQueue}
use Rattle.msc_place.specs.EventPositions.{EventPositionsIn}
use Rattle.msc_reason.specs.Named.{AreEventsOf}
use Rattle.msc_report.specs.Texts.{text_line}
use Rattle.msc_report.specs.Links.{queues_text}
use Rattle.msc_report.specs.Verdicts.{name_line, race_text}
use Rattle.msc_report.specs.Styles.{at_text, run_text, event_positions_in}
use Rattle.msc_report.specs.Lines.{pair_text, why_text}
use Rattle.msc_report.specs.declared.style.Style.{Style}

-- the word for a step from x to y: y is the input of x, or it is drawn below x; otherwise x has to be
-- ahead of y in their queue
abbrev pub step_word : Drawing → ℕ → ℕ → List ℕ
step_word d x y =
    cond (is_output d.events x && nat_eq (partner d.events x) y) (codes "sent") (cond (before d.events x y) (codes "drawn") (codes "ahead"))

-- a chain from x on: a line for each step, behind so many blanks
abbrev pub chain_text : Option EventPositionsIn → List ℕ → Drawing → ℕ → List ℕ → List ℕ
chain_text event_positions blanks d x [] = []
chain_text event_positions blanks d x (y ∷ steps) = pair_text event_positions blanks (step_word d x y) d x y ++ chain_text event_positions blanks d y steps

-- What shows that e is enforced before another event: a chain from e; or that e is before u by the
-- rule of queues, behind blanks the chain from the output of e to that of u, and what leads on from
-- u.
abbrev pub showing_text : Option EventPositionsIn → Drawing → ℕ → Why → List ℕ
showing_text event_positions d e (Straight steps) = chain_text event_positions [] d e steps
showing_text event_positions d e (ByQueue u outputs onward) =
    pair_text event_positions [] (codes "queue") d e u
    ++ (chain_text event_positions (codes "  ") d (partner d.events e) outputs ++ chain_text event_positions [] d u onward)

-- that e is not enforced before f: as a race, with why it is one, or not drawn in this order
abbrev pub free_text : Option EventPositionsIn → Drawing → ℕ → ℕ → Option Cause → List ℕ
free_text event_positions d e f None = pair_text event_positions [] (codes "free") d e f
free_text event_positions d e f (Some cause) = race_text d e f None ++ (at_text event_positions [] e f ++ why_text event_positions d cause)

-- that f is enforced before e, where something shows it
abbrev pub late_text : Option EventPositionsIn → Drawing → ℕ → ℕ → Option Why → List ℕ
late_text event_positions d e f None = []
late_text event_positions d e f (Some why) =
    codes "always " ++ (decimal f ++ (codes " " ++ (text_line (decimal e) ++ showing_text event_positions d f why)))

-- the run of a reason, where it has one, has events of the chart alone
abbrev pub NamesRun : Drawing → Reason → Type 0
NamesRun d (Enforced why) = Unit {0}
NamesRun d (Free run cause late) = AreEventsOf d run

-- why e is enforced before f; or that it is not, and a run that has f before e
abbrev pub reason_text : Style → Drawing → ℕ → ℕ → Reason → List ℕ
reason_text style d e f (Enforced why) =
    pair_text (event_positions_in style) [] (codes "enforced") d e f ++ showing_text (event_positions_in style) d e why
reason_text style d e f (Free run cause late) =
    free_text (event_positions_in style) d e f cause ++ (late_text (event_positions_in style) d e f late ++ run_text style.words d run)

-- what is printed of two events of a chart
abbrev pub explained_text : Style → Drawing → Queues → ℕ → ℕ → Reason → List ℕ
explained_text style d queues e f reason = name_line d ++ (queues_text d queues ++ reason_text style d e f reason)
