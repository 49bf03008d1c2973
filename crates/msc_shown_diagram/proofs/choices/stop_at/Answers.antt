use Rattle.std.proofs.Common.{◌≡◌, subst, IfOk}
use Rattle.msc_mermaid.specs.Reading.{Leaves}
use Rattle.msc_scenarios.specs.Steps.{Walk, unended}
use Rattle.msc_shown_diagram.specs.Choices.{stop_of}
use Rattle.msc_shown_diagram.proofs.choices.stop_at.Goals as goal

pub returns : goal.returns
returns c =
    let w : Walk = c.in_ok-walker.walker in
    let fails = subst (λ r. Leaves r w (unended w w.ending)) c.in-Err.is c.whole.ensures in
    subst (λ (x : Walk). IfOk c.stop_of.result (λ at. at ≡ stop_of (unended x x.ending))) c.in_ok-walker.ensures
    (c.stop_of.ensures (unended w w.ending) fails)
