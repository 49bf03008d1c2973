use Rattle.std.proofs.Common.{sym, ap, ◌∙◌}
use Rattle.msc_mark.specs.Places.{next}
use Rattle.msc_mark.specs.Accepting.{is_queues}
use Rattle.msc_mark.proofs.Hearing.{word_found, word_passed, word_none}
use Rattle.msc_mark.proofs.mark.names_queues.Goals as goal

pub returns-then-is_queues : goal.returns-then-is_queues
returns-then-is_queues c =
    sym (word_found (is_queues c.args.queues) next c.loop-word.place c.args.words.now c.loop-word.word-index c.as_slice.result.now _ c.loop-word-test.true (c.as_slice.ensures ∙ c.word-item.is) (sym c.is_queues.ensures ∙ c.if-is_queues.true)) ∙ c.loop-word.invariant

pub loop-word-preserved : goal.loop-word-preserved
loop-word-preserved c =
    let at = c.loop-word.word-index in let ws = c.args.words.now in
    let word = c.as_slice.ensures ∙ c.word-item.is in
    let again = c.as_slice-in-loop-word.ensures ∙ sym c.as_slice.ensures in
    word_passed (is_queues c.args.queues) next c.loop-word.place c.next-place.result ws at c.as_slice.result.now _ c.loop-word-test.true word (sym c.is_queues.ensures ∙ c.if-is_queues.false) (c.next-place.ensures ∙ ap (next c.loop-word.place) again)
    ∙ c.loop-word.invariant

pub returns : goal.returns
returns c =
    sym (word_none (is_queues c.args.queues) next c.loop-word.place c.args.words.now c.loop-word.word-index c.loop-word-test.false) ∙ c.loop-word.invariant
