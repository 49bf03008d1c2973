use Rattle.std.proofs.Common.{◌≡◌, ◌∷◌, ◌++◌, ℕ, List, refl, subst}
use Rattle.std.specs.Io.KnownBytes.{Appends}
use Rattle.std.specs.List.{flat_map}
use Rattle.std.specs.Prelude.{codes}
use Rattle.std.proofs.lemmas.Result.{IfOk-weaker}
use Rattle.msc_chart.specs.Drawings.{Drawing}
use Rattle.msc_place.specs.EventPositions.{event_position_text, EventPositionsIn}
use Rattle.msc_print.proofs.KnownBytes.{Appends-append}
use Rattle.msc_report.specs.Following.{never_error, note_text}
use Rattle.msc_report.specs.Texts.{text_line}
use Rattle.msc_report.proofs.following.write_never_error.Goals as goal

-- the text of steps of which this is the first
of_first : (event_positions : EventPositionsIn) (d : Drawing) (p : ℕ × ℕ) (rest steps : List (ℕ × ℕ)) → steps ≡ p ∷ rest
    → event_position_text event_positions p.0 ++ (text_line (codes ": error: no run follows the drawing [never]") ++ flat_map (note_text event_positions d) steps)
    ≡ never_error event_positions d steps
of_first event_positions d p rest steps is = rw is refl

pub returns : goal.returns
returns g c =
    IfOk-weaker c.write_step_notes.result _ _
    (λ u wrote. subst (Appends (g.W.Write.contents c.args.writer.now) (g.W.Write.contents c.write_step_notes.new.writer))
    (of_first c.args.event_positions.now c.args.chart.now c.in-Some.first.now c.in-Some.field-0-1.now c.args.steps.now c.in-Some.ensures.cases.0)
    (Appends-append _ _ _ _ _ c.in_ok-write_event_position.ensures (Appends-append _ _ _ _ _ c.in_ok-write_all.ensures.bytes wrote)))
    c.write_step_notes.ensures
