use Rattle.std.proofs.Common.{length, get_or, ap, ◌∙◌, arith}
use Rattle.std.proofs.lemmas.List.{with_items_is}
use Rattle.msc_race.proofs.Making.LinkLemmas.{any_default}
use Rattle.msc_race.proofs.Making.FrontLemmas.{lines_after}
use Rattle.msc_race.proofs.lines.Lines.occur.Goals as goal

pub returns-clause-kept : goal.returns-clause-kept
returns-clause-kept c =
    let d = c.args.choice.now.wiring.chart.now in
    let self = c.args.self.now in
    let accepted = c.requires.settled.accepted in
    let kept = c.requires.kept in
    let on = accepted.on_lines.on_line c.args.x c.requires.known in
    let left = with_items_is self.left c.clear.new.row (c.clear.auto.row ∙ c.deref_mut.ensures.len) in
    let i = c.instance_of-i.ensures in
    let number = kept.lines in
    let start = c.index-start.ensures ∙ any_default self.fronts.items c.instance_of-i.result _ 0 (omega (arith, i, on, number))
    ∙ ap (λ j. get_or self.fronts.items j 0) i in
    let next = rw (c.deref.ensures.value, left, start, i) at c.next_left-front.ensures in
    let ends = rw (start, i) at c.opened_end-end.ensures.end in
    let added = rw (c.deref-2.ensures.value, left) at c.open_controlled.ensures.numbers in
    let size = c.open_controlled.ensures.words ∙ c.clear-2.ensures.words in
    rw (left, i) (lines_after d.events accepted.in_text_order self.left.items c.clear.new.row c.args.x (rw c.deref_mut.ensures.value at c.clear.ensures)
    (length d.instances) self.fronts.items self.controlled c.clear-2.new.self c.open_controlled.new.set c.next_left-front.result c.opened_end-end.result
    kept on next ends (c.clear.auto.row ∙ ap length c.deref_mut.ensures.value) size c.clear-2.ensures.numbers added)
