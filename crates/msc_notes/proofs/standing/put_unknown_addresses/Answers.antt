use Rattle.std.proofs.Common.{◌≡◌, ℕ, length, map, ap, subst, ◌∙◌, arith}
use Rattle.std.specs.Map.Iter.{deref}
use Rattle.msc_chart.specs.declared.fault.ChartFault.TheVariants.{UnknownAddress}
use Rattle.msc_chart.specs.Events.{address_of}
use Rattle.msc_chart.specs.Faults.{HoldsAt, IsUnknown, OfEnd}
use Rattle.msc_chart.proofs.ListLemmas.{clash}
use Rattle.msc_notes.specs.Events.{act_view}
use Rattle.msc_notes.specs.Putting.{HasPut}
use Rattle.msc_notes.proofs.Firsts.{act_at}
use Rattle.msc_notes.proofs.Putting.{put_passed, put_taken}
use Rattle.msc_notes.proofs.Sets.{holds_here, holds_not}
use Rattle.msc_notes.proofs.standing.put_unknown_addresses.Goals as goal
use Rattle.msc_notes.proofs.standing.put_unknown_addresses.Goals.{then-is_away+in_ok-push, else-is_away}

pub loop-e-preserved : goal.loop-e-preserved
loop-e-preserved c =
    let events = c.args.events.now in let acts = map act_view events in let e = c.loop-e.e in
    let d = c.index-events-e.result in
    let Away = OfEnd (λ x. IsUnknown (map deref c.args.names.now.keys) (address_of x)) in
    let here = act_at events e d c.loop-e-test.true c.index-events-e.is in
    let old = c.args.faults.now.items in let now = c.loop-e.faults.items in
    elim c.if-is_away.branch [
      | then-is_away+in_ok-push w ↦
          rw (ap (λ v. v.items) w.faults-is ∙ w.in_ok-push.ensures.items)
          (put_taken UnknownAddress (HoldsAt Away acts) e old now c.loop-e.invariant
          (holds_here Away acts e (act_view d) here (c.is_away.ensures.0 w.if-is_away.true)))
      | else-is_away w ↦
          rw w.faults-is
          (put_passed UnknownAddress (HoldsAt Away acts) e old now c.loop-e.invariant
          (holds_not Away acts e (act_view d) here (λ u. clash (c.is_away.ensures.1 u) w.if-is_away.false)))
    ]

pub returns : goal.returns
returns c =
    let Away = OfEnd (λ x. IsUnknown (map deref c.args.names.now.keys) (address_of x)) in
    let Such = HoldsAt Away (map act_view c.args.events.now) in
    let end : c.loop-e.e ≡ length c.args.events.now = omega (arith, c.loop-e-test.false, c.loop-e.auto.e-end) in
    subst (λ (n : ℕ). HasPut UnknownAddress Such n c.args.faults.now.items c.loop-e.faults.items) end c.loop-e.invariant
