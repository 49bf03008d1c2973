use Rattle.std.proofs.Common.{sym, ◌∙◌}
use Rattle.msc_mark.proofs.Steps.{behind_step, behind_all}
use Rattle.msc_mark.proofs.place.place_behind.Goals as goal

pub loop-word-preserved : goal.loop-word-preserved
loop-word-preserved c =
    sym (behind_step c.loop-word.place c.next-place.result c.args.words.now c.loop-word.word-index c.as_slice.result.now _ c.loop-word-test.true (c.as_slice.ensures ∙ c.word-item.is) c.next-place.ensures)
    ∙ c.loop-word.invariant

pub returns : goal.returns
returns c =
    sym (behind_all c.loop-word.place c.args.words.now c.loop-word.word-index c.loop-word-test.false) ∙ c.loop-word.invariant
