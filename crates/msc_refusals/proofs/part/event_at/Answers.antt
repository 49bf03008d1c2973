use Rattle.std.proofs.Common.{sym, ◌∙◌}
use Rattle.msc_refusals.proofs.PartLemmas.{hit, missed}
use Rattle.msc_refusals.proofs.part.event_at.Goals as goal

pub returns-in-Some-clause-place : goal.returns-in-Some-clause-place
returns-in-Some-clause-place c =
    hit c.args.at c.args.count c.args.places.now.stand.events c.loop-e.e c.loop-e.invariant c.in-Some.event c.loop-e-test.true
    (sym c.begun.ensures.place ∙ c.in-Some.is)

pub loop-e-preserved : goal.loop-e-preserved
loop-e-preserved c =
    missed c.args.at c.args.count c.args.places.now.stand.events c.loop-e.e c.loop-e.invariant c.loop-e-test.true
    (sym c.begun.ensures.place ∙ c.in_default.is)
