use Rattle.std.proofs.Common.{◌≡◌, ◌≤◌, length, map, ap, ◌∙◌, arith}
use Rattle.std.proofs.lemmas.List.{length-map}
use Rattle.msc_chart.specs.declared.fault.ChartFault.TheVariants.{TwiceEvent}
use Rattle.msc_chart.specs.Events.Act.{OfMessage}
use Rattle.msc_chart.specs.Faults.{IsTwice}
use Rattle.msc_chart.specs.Lists.{Occurs}
use Rattle.msc_chart.proofs.ListLemmas.{clash}
use Rattle.msc_notes.specs.Events.{act_view, end_view}
use Rattle.msc_notes.proofs.Ends.{end_same_by}
use Rattle.msc_notes.proofs.Firsts.{act_at}
use Rattle.msc_notes.proofs.Putting.{put_begun, put_passed, put_taken}
use Rattle.msc_notes.proofs.Sets.{Earlier, earlier_all, earlier_grows, none_there, twice_here, twice_not}
use Rattle.msc_notes.proofs.standing.put_repeated_ends.Goals as goal
use Rattle.msc_notes.proofs.standing.put_repeated_ends.Goals.{then-branch+in_ok-push, else-branch}

pub loop-e-init : goal.loop-e-init
loop-e-init c = record {
  faults = put_begun TwiceEvent (IsTwice (map act_view c.args.events.now)) c.args.faults.now.items;
  ends = λ x. (
    λ o. absurd (none_there end_view c.in_ok-ends.ends.keys x c.in_ok-ends.ensures.empty o),
    λ h. absurd (omega (arith, h.1)),
  );
}

pub loop-e-preserved : goal.loop-e-preserved
loop-e-preserved c =
    let events = c.args.events.now in let acts = map act_view events in let e = c.loop-e.e in
    let d = c.index-events-e.result in let a = act_view d in
    let here = act_at events e d c.loop-e-test.true c.index-events-e.is in
    let old = c.args.faults.now.items in let now = c.loop-e.faults.items in
    let seen = end_same_by (Occurs (map end_view c.loop-e.ends.keys)) (λ x. Earlier acts e (OfMessage x)) c.loop-e.invariant.ends a in
    let again = c.in_ok-put_end.ensures.again in
    record {
      faults = elim c.if-branch.branch [
        | then-branch+in_ok-push w ↦
            rw (ap (λ v. v.items) w.faults-is ∙ w.in_ok-push.ensures.items)
            (put_taken TwiceEvent (IsTwice acts) e old now c.loop-e.invariant.faults (twice_here acts e a here (seen.0 (again.0 w.if-branch.true))))
        | else-branch w ↦
            rw w.faults-is
            (put_passed TwiceEvent (IsTwice acts) e old now c.loop-e.invariant.faults (twice_not acts e a here (λ h. clash (again.1 (seen.1 h)) w.if-branch.false)))
      ];
      ends = λ x. earlier_grows acts e a here (OfMessage x) _ _ (c.loop-e.invariant.ends x) (c.in_ok-put_end.ensures.ends x);
    }

pub returns-clause-ends : goal.returns-clause-ends
returns-clause-ends c = λ x.
    let acts = map act_view c.args.events.now in
    let long : length acts ≡ length c.args.events.now = simp length-map in
    let past : length acts ≤ c.loop-e.e = omega (arith, long) in
    let all = earlier_all acts c.loop-e.e past (OfMessage x) in let so_far = c.loop-e.invariant.ends x in
    (λ o. all.0 (so_far.0 o), λ o. so_far.1 (all.1 o))
