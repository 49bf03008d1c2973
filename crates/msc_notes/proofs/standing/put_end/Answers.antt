use Rattle.std.proofs.Common.{inl, inr, map, sym}
use Rattle.std.specs.List.{list_any}
use Rattle.msc_chart.specs.Lists.{Occurs}
use Rattle.msc_notes.specs.Events.{act_view, end_view}
use Rattle.msc_notes.proofs.Ends.{ended, not_new, of_end, with_end}
use Rattle.msc_notes.proofs.SameEnds.{end_same, same_ends}
use Rattle.msc_notes.proofs.Sets.{found, inserted}
use Rattle.msc_notes.proofs.standing.put_end.Goals as goal

pub returns-in_ok-is_new-in-Some-clause-again : goal.returns-in_ok-is_new-in-Some-clause-again
returns-in_ok-is_new-in-Some-clause-again c =
    let event = c.args.event.now in let end = c.in-Some.end in let keys = c.args.ends.now.keys in
    let of = of_end event.own.now (Occurs (map end_view keys)) event.statement.now (end_view end) (sym c.in-Some.ensures) in
    let was = not_new (list_any (end_same end) keys) c.in_ok-is_new-in-Some.is_new c.in_ok-is_new-in-Some.ensures.added in
    let there = found end_view end_same same_ends keys end in
    (λ t. of.1 (there.0 (was.0 t)), λ h. was.1 (there.1 (of.0 h)))

pub returns-in_ok-is_new-in-Some-clause-ends : goal.returns-in_ok-is_new-in-Some-clause-ends
returns-in_ok-is_new-in-Some-clause-ends c = λ x.
    let event = c.args.event.now in let end = c.in-Some.end in
    let act = ended event.own.now event.statement.now (end_view end) (sym c.in-Some.ensures) in
    let one = with_end (act_view event) (end_view end) x act in
    let more = inserted end_view end_same same_ends c.args.ends.now.keys end x in
    rw c.in_ok-is_new-in-Some.ensures.keys (
      λ o. elim (more.0 o) [ inl a ↦ inl a | inr e ↦ inr (one.1 e) ],
      λ a. more.1 (elim a [ inl o ↦ inl o | inr e ↦ inr (one.0 e) ]),
    )
