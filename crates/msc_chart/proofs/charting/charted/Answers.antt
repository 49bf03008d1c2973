use Rattle.std.proofs.Common.{◌<◌, arith, map, length, get_or, ap, ◌∙◌, cond}
use Rattle.std.proofs.lemmas.List.{length-map}
use Rattle.msc_chart.specs.declared.end.Mark.TheVariants as marks
use Rattle.msc_chart.specs.declared.event.EventKind.TheVariants.{Local}
use Rattle.msc_chart.specs.Events.Act.{OfMessage, Action}
use Rattle.msc_chart.specs.Tables.{numbers_of}
use Rattle.msc_chart.specs.Views.{end_view, mark_view}
use Rattle.msc_chart.proofs.TableLemmas.{charted_act, mark-at, numbers-many, number-of_action, output-numbered, partners-many, subject-of_end}
use Rattle.msc_chart.proofs.charting.charted.Goals as goal
use Rattle.msc_chart.proofs.charting.charted.Goals.{in-OfMessage, in-Action}

pub bounds-partners-e : goal.bounds-partners-e
bounds-partners-e c =
    let many = partners-many (map mark_view c.args.marks.now) in
    let marks = length-map c.args.marks.now mark_view in
    omega (arith, c.requires.within, ap length c.requires.partners, many, marks)

pub bounds-numbers-e : goal.bounds-numbers-e
bounds-numbers-e c =
    let many = numbers-many (map mark_view c.args.marks.now) in
    let marks = length-map c.args.marks.now mark_view in
    omega (arith, c.requires.within, ap length c.requires.numbers, many, marks)

pub bounds-numbers-output_of : goal.bounds-numbers-output_of
bounds-numbers-output_of c =
    let acts = map mark_view c.args.marks.now in
    let x = end_view c.in-OfMessage.end in
    let e = c.args.e in
    let here = mark-at c.args.marks.now e _ (marks.OfMessage c.in-OfMessage.end) c.requires.within c.in-OfMessage.is in
    let read = ap (λ ps. get_or ps e 0) c.requires.partners in
    let output = c.output_of.ensures ∙ ap (cond x.sends e) read in
    let known : c.output_of.result < length (numbers_of acts) =
    output-numbered acts c.requires.once e x here _ output in
    omega (arith, known, ap length c.requires.numbers)

pub returns : goal.returns
returns c =
    let acts = map mark_view c.args.marks.now in
    let e = c.args.e in
    let read = ap (λ ps. get_or ps e 0) c.requires.partners in
    elim c.match-marks-e.branch [
      | in-OfMessage w ↦
          let x = end_view w.in-OfMessage.end in
          let here = mark-at c.args.marks.now e _ (marks.OfMessage w.in-OfMessage.end) c.requires.within w.in-OfMessage.is in
          let output = w.output_of.ensures ∙ ap (cond x.sends e) read in
          let subject =
          ap (λ ns. get_or ns w.output_of.result 0) c.requires.numbers
          ∙ subject-of_end acts c.requires.once e x here _ output in
          charted_act acts e c.args.event.now c.requires.own (OfMessage x) _ _ here read
          (w.kind-is ∙ (λ i. (w.kind_of.ensures i, subject i)))
      | in-Action w ↦
          let text = w.in-Action.field-1.bytes.now in
          let mark = marks.Action w.in-Action.field-0 w.in-Action.field-1 in
          let here = mark-at c.args.marks.now e _ mark c.requires.within w.in-Action.is in
          let subject = ap (λ ns. get_or ns e 0) c.requires.numbers ∙ number-of_action acts e text here in
          charted_act acts e c.args.event.now c.requires.own (Action text) _ _ here read
          (w.kind-is ∙ (λ i. (Local, subject i)))
    ]
