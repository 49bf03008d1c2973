use Rattle.std.proofs.Common.{sym, ◌∙◌}
use Rattle.msc_mark.specs.Places.{next}
use Rattle.msc_mark.specs.Accepting.{is_architecture_place}
use Rattle.msc_mark.proofs.Hearing.{word_found, word_passed, word_none}
use Rattle.msc_mark.proofs.mark.has_architectures.Goals as goal

pub returns-then-is_architecture : goal.returns-then-is_architecture
returns-then-is_architecture c =
    sym (word_found (λ place w. is_architecture_place place) next c.loop-word.place c.args.words.now c.loop-word.word-index c.word-item.result _ c.loop-word-test.true c.word-item.is (sym c.is_architecture.ensures ∙ c.if-is_architecture.true)) ∙ c.loop-word.invariant

pub loop-word-preserved : goal.loop-word-preserved
loop-word-preserved c =
    word_passed (λ place w. is_architecture_place place) next c.loop-word.place c.next-place.result c.args.words.now c.loop-word.word-index c.as_slice.result.now _ c.loop-word-test.true (c.as_slice.ensures ∙ c.word-item.is) (sym c.is_architecture.ensures ∙ c.if-is_architecture.false) c.next-place.ensures
    ∙ c.loop-word.invariant

pub returns : goal.returns
returns c =
    sym (word_none (λ place w. is_architecture_place place) next c.loop-word.place c.args.words.now c.loop-word.word-index c.loop-word-test.false) ∙ c.loop-word.invariant
