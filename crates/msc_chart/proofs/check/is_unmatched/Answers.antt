use Rattle.std.proofs.Common.{arith, map, length, get_or, ap, sym, true≢false}
use Rattle.std.proofs.lemmas.List.{length-map}
use Rattle.msc_chart.specs.declared.end.Mark.TheVariants.{OfMessage, Action}
use Rattle.msc_chart.specs.Views.{end_view, mark_view}
use Rattle.msc_chart.proofs.ListLemmas.{clash}
use Rattle.msc_chart.proofs.TableLemmas.{partners-many, mark-at, other-kind, unmatched-test, action-matched}
use Rattle.msc_chart.proofs.check.is_unmatched.Goals as goal

pub bounds-partners-e : goal.bounds-partners-e
bounds-partners-e c =
    let many = partners-many (map mark_view c.args.marks.now) in
    let marks = length-map c.args.marks.now mark_view in
    omega (arith, c.requires.event, ap length c.requires.partners, many, marks)

pub returns-then-end-sends : goal.returns-then-end-sends
returns-then-end-sends c =
    let marks = c.args.marks.now in
    let here = mark-at marks c.args.e _ (OfMessage c.in-OfMessage.end) c.requires.event c.in-OfMessage.is in
    let read = ap (λ ps. get_or ps c.args.e 0) c.requires.partners in
    unmatched-test (map mark_view marks) c.args.sends c.args.e (end_view c.in-OfMessage.end) here _ _
    read (sym (length-map marks mark_view)) c.if-end-sends.true

pub returns-else-end-sends : goal.returns-else-end-sends
returns-else-end-sends c =
    let acts = map mark_view c.args.marks.now in
    let x = end_view c.in-OfMessage.end in
    let differ = c.if-end-sends.false in
    let here = mark-at c.args.marks.now c.args.e _ (OfMessage c.in-OfMessage.end) c.requires.event c.in-OfMessage.is in (
      λ t. clash t differ,
      λ u. absurd (other-kind acts c.args.sends c.args.e x here differ u),
    )

pub returns-in-Action : goal.returns-in-Action
returns-in-Action c =
    let acts = map mark_view c.args.marks.now in
    let action = Action c.in-Action.field-0 c.in-Action.field-1 in
    let text = c.in-Action.field-1.bytes.now in
    let here = mark-at c.args.marks.now c.args.e _ action c.requires.event c.in-Action.is in (
      λ t. absurd (true≢false (sym t)),
      λ u. absurd (action-matched acts c.args.sends c.args.e text here u),
    )
