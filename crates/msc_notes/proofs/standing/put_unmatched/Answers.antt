use Rattle.std.proofs.Common.{◌≡◌, ℕ, length, map, ap, subst, ◌∙◌, arith}
use Rattle.msc_chart.specs.Faults.{HoldsAt, IsUnmatched, OfEnd}
use Rattle.msc_chart.proofs.ListLemmas.{clash}
use Rattle.msc_notes.specs.Events.{act_view, end_view}
use Rattle.msc_notes.specs.Putting.{HasPut, IsAlone, unmatched_fault}
use Rattle.msc_notes.proofs.Ends.{alone_same, end_same_by}
use Rattle.msc_notes.proofs.Firsts.{act_at}
use Rattle.msc_notes.proofs.Putting.{put_passed, put_taken}
use Rattle.msc_notes.proofs.Sets.{holds_here, holds_not}
use Rattle.msc_notes.proofs.standing.put_unmatched.Goals as goal
use Rattle.msc_notes.proofs.standing.put_unmatched.Goals.{then-is_unmatched+in_ok-push, else-is_unmatched}

pub loop-e-preserved : goal.loop-e-preserved
loop-e-preserved c =
    let events = c.args.events.now in let acts = map act_view events in let e = c.loop-e.e in
    let sends = c.args.sends in let keys = map end_view c.args.ends.now.keys in
    let d = c.index-events-e.result in let Lost = OfEnd (IsUnmatched sends acts) in
    let here = act_at events e d c.loop-e-test.true c.index-events-e.is in
    let same = end_same_by (IsAlone sends keys) (IsUnmatched sends acts) (alone_same sends keys acts c.requires.ends) (act_view d) in
    let old = c.args.faults.now.items in let now = c.loop-e.faults.items in
    elim c.if-is_unmatched.branch [
      | then-is_unmatched+in_ok-push w ↦
          rw (ap (λ v. v.items) w.faults-is ∙ w.in_ok-push.ensures.items, w.unmatched_fault.ensures)
          (put_taken (unmatched_fault sends) (HoldsAt Lost acts) e old now c.loop-e.invariant
          (holds_here Lost acts e (act_view d) here (same.0 (c.is_unmatched.ensures.0 w.if-is_unmatched.true))))
      | else-is_unmatched w ↦
          rw w.faults-is
          (put_passed (unmatched_fault sends) (HoldsAt Lost acts) e old now c.loop-e.invariant
          (holds_not Lost acts e (act_view d) here (λ u. clash (c.is_unmatched.ensures.1 (same.1 u)) w.if-is_unmatched.false)))
    ]

pub returns : goal.returns
returns c =
    let acts = map act_view c.args.events.now in
    let Such = HoldsAt (OfEnd (IsUnmatched c.args.sends acts)) acts in
    let end : c.loop-e.e ≡ length c.args.events.now = omega (arith, c.loop-e-test.false, c.loop-e.auto.e-end) in
    subst (λ (n : ℕ). HasPut (unmatched_fault c.args.sends) Such n c.args.faults.now.items c.loop-e.faults.items) end c.loop-e.invariant
