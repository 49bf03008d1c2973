use Rattle.std.proofs.Common.{map, subst, sym}
use Rattle.std.specs.Map.Iter.{deref}
use Rattle.msc_chart.specs.Events.{address_of}
use Rattle.msc_chart.specs.Faults.{IsUnknown}
use Rattle.msc_chart.proofs.MatchingLemmas.{unknown_test}
use Rattle.msc_notes.specs.Events.{end_view}
use Rattle.msc_notes.proofs.Ends.{of_end}
use Rattle.msc_notes.proofs.standing.is_away.Goals as goal

pub returns-in-Some : goal.returns-in-Some
returns-in-Some c =
    let event = c.args.event.now in let keys = c.args.names.now.keys in
    let of = of_end event.own.now (λ x. IsUnknown (map deref keys) (address_of x)) event.statement.now (end_view c.in-Some.end) (sym c.in-Some.ensures) in
    let test = unknown_test keys c.address.result.now c.contains.result c.contains.ensures in (
      λ t. of.1 (subst (IsUnknown (map deref keys)) c.address.ensures (test.0 t)),
      λ h. test.1 (subst (IsUnknown (map deref keys)) (sym c.address.ensures) (of.0 h)),
    )
