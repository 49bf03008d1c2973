use Rattle.std.proofs.Common.{map, sym}
use Rattle.std.specs.Cmp.{booleans_Decides}
use Rattle.msc_chart.specs.Events.{other_end}
use Rattle.msc_notes.specs.Events.{end_view}
use Rattle.msc_notes.specs.Putting.{IsAlone}
use Rattle.msc_notes.proofs.Ends.{of_end}
use Rattle.msc_notes.proofs.SameEnds.{missing_test}
use Rattle.msc_notes.proofs.standing.is_unmatched.Goals as goal

pub returns-then-end-sends : goal.returns-then-end-sends
returns-then-end-sends c =
    let event = c.args.event.now in let x = end_view c.in-Some.end in let keys = c.args.ends.now.keys in
    let of = of_end event.own.now (IsAlone c.args.sends (map end_view keys)) event.statement.now x (sym c.in-Some.ensures) in
    let test = missing_test keys c.other.result (other_end x) c.contains.result c.contains.ensures c.other.ensures in
    let kind = (booleans_Decides x.sends c.args.sends).0 c.if-end-sends.true in
    (λ t. of.1 (record { kind = kind; alone = test.0 t }), λ h. test.1 (of.0 h).alone)
