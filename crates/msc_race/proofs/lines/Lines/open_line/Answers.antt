use Rattle.std.proofs.Common.{arith, ◌∙◌}
use Rattle.msc_race.proofs.Making.LinkLemmas.{any_default}
use Rattle.msc_race.proofs.Making.StartLemmas.{told_more, told_none}
use Rattle.msc_race.proofs.Shared.{clash}
use Rattle.msc_race.proofs.lines.Lines.open_line.Goals as goal

pub returns-then-not-is_on : goal.returns-then-not-is_on
returns-then-not-is_on c =
    let d = c.args.choice.now.wiring.chart.now in
    let self = c.args.self.now in
    let were = c.requires.lines in
    let number = c.requires.lines.lines in
    let known = c.requires.known in
    let front = c.index-front.ensures ∙ any_default self.fronts.items c.args.i _ 0 (omega (arith, number, known)) in
    told_none d c.requires.settled.accepted.in_text_order self.left.items self.fronts.items self.controlled c.args.i were known
    (λ there here. clash (c.is_on.ensures.1 (rw front (there, here))) c.if-not-is_on.true)

pub returns : goal.returns
returns c =
    let d = c.args.choice.now.wiring.chart.now in
    let self = c.args.self.now in
    let number = c.requires.lines.lines in
    let known = c.requires.known in
    let front = c.index-front.ensures ∙ any_default self.fronts.items c.args.i _ 0 (omega (arith, number, known)) in
    let on = c.is_on.ensures.0 c.if-not-is_on.false in
    told_more d c.requires.settled.accepted.in_text_order self.left.items self.fronts.items self.controlled c.args.i c.requires.lines known
    c.segment_end-end.result c.open_controlled.new.set (rw front at c.segment_end-end.ensures) (rw front at on.1) c.open_controlled.ensures.words
    (rw (front, c.deref.ensures.value) at c.open_controlled.ensures.numbers)
