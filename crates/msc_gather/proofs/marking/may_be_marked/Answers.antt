use Rattle.std.proofs.Common.{sym, ◌∙◌, arith}
use Rattle.std.proofs.lemmas.Bool.{not-true, not_from_false, false_from_ne_true}
use Rattle.msc_chart.specs.Wirings.{wired_by}
use Rattle.msc_chart.proofs.ListLemmas.{clash}
use Rattle.msc_gather.proofs.MarkLemmas.{drawn_marked, not_last}
use Rattle.msc_gather.proofs.marking.may_be_marked.Goals as goal

pub returns : goal.returns
returns c =
    let controlled = sym c.is_controlled.ensures ∙ c.if-not-is_controlled.false in
    let here = sym c.instance_of.ensures ∙ c.if-instance_of-i.false in (
      λ h. record {
        event = omega (arith, c.if-e-events.false, c.events.ensures.number);
        on_line = here;
        new = c.if-marks-e.false;
        drawn = λ k. drawn_marked (wired_by c.args.w.now) c.args.i c.args.e
            c.events.ensures.accepted.in_text_order c.requires.line c.requires.front here
            (false_from_ne_true _ (λ b. clash (c.before-2.ensures.1 b) (not-true _ h)));
      },
      λ may. not_from_false _ (false_from_ne_true _ (λ b.
          clash (c.before-2.ensures.0 b) (not_last c.requires.front
          (omega (arith, c.if-front-events.false, c.events-2.ensures.number, c.requires.long)) may
          controlled))),
    )
