use Rattle.std.proofs.Common.{sym, ◌∙◌}
use Rattle.msc_mark.specs.Places.{next}
use Rattle.msc_mark.specs.Accepting.{is_event_place}
use Rattle.msc_mark.proofs.Hearing.{word_found, word_passed, word_none}
use Rattle.msc_mark.proofs.mark.has_events.Goals as goal

pub returns-then-is_event : goal.returns-then-is_event
returns-then-is_event c =
    sym (word_found (λ place w. is_event_place place) next c.loop-word.place c.args.words.now c.loop-word.word-index c.word-item.result _ c.loop-word-test.true c.word-item.is (sym c.is_event.ensures ∙ c.if-is_event.true)) ∙ c.loop-word.invariant

pub loop-word-preserved : goal.loop-word-preserved
loop-word-preserved c =
    word_passed (λ place w. is_event_place place) next c.loop-word.place c.next-place.result c.args.words.now c.loop-word.word-index c.as_slice.result.now _ c.loop-word-test.true (c.as_slice.ensures ∙ c.word-item.is) (sym c.is_event.ensures ∙ c.if-is_event.false) c.next-place.ensures
    ∙ c.loop-word.invariant

pub returns : goal.returns
returns c =
    sym (word_none (λ place w. is_event_place place) next c.loop-word.place c.args.words.now c.loop-word.word-index c.loop-word-test.false) ∙ c.loop-word.invariant
