use Rattle.std.proofs.Common.{List, ◌∷◌, [], ◌++◌, map, take, ap, sym, ◌∙◌, subst}
use Rattle.std.proofs.lemmas.List.{map_push, take_more}
use Rattle.msc_mark.specs.declared.mark.Mark.{Mark}
use Rattle.msc_shown_chart.specs.Marks.{plain_mark, AreMarkWords}
use Rattle.msc_shown_chart.proofs.MarkLemmas.{marks_more}
use Rattle.msc_shown_chart.proofs.marks.all_words.Goals as goal

pub loop-mark-preserved : goal.loop-mark-preserved
loop-mark-preserved c =
    let file = c.args.file.now in
    let text = c.args.lines.now in
    let ms = c.args.marks.now in
    let i = c.loop-mark.mark-index in
    let m = c.mark-item.result in
    let w = c.in_ok-mark_words.field-0 in
    let more = marks_more file text (take i ms) (map plain_mark c.loop-mark.all.items) m (plain_mark w) c.loop-mark.invariant c.in_ok-mark_words.ensures in
    let next = take_more ms i m c.loop-mark-test.true ∙ ap (λ (y : Mark). take i ms ++ y ∷ []) (sym c.mark-item.is) in
    let words = ap (map plain_mark) c.in_ok-push.ensures.items ∙ map_push plain_mark c.loop-mark.all.items w in
    subst (λ (l : List Mark). AreMarkWords file text l (map plain_mark c.push.new.self.items)) (sym next)
    (subst (AreMarkWords file text (take i ms ++ m ∷ [])) (sym words) more)
