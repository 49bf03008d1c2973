use Rattle.std.proofs.Common.{◌≡◌, ◌++◌, take, sym, ap, ◌∙◌}
use Rattle.std.specs.Prelude.{codes}
use Rattle.std.proofs.lemmas.Result.{IfOk-weaker}
use Rattle.msc_spoken.specs.Speaking.{before_blanks}
use Rattle.msc_spoken.specs.Cutting.{cut_text}
use Rattle.msc_spoken.proofs.CuttingLemmas.{cut_none, cut_some}
use Rattle.msc_spoken.proofs.cutting.cut_characters.Goals as goal

pub returns-then-count-characters : goal.returns-then-count-characters
returns-then-count-characters c =
    let cs = c.args.characters.now in
    let all = sym c.fitting-count.ensures.value ∙ c.if-count-characters.true in
    IfOk-weaker c.from_slice.result (λ cut. cut.items ≡ cs) (λ cut. cut.items ≡ cut_text cs) (λ cut same. same ∙ sym (cut_none cs all)) c.from_slice.ensures.items

pub returns : goal.returns
returns c =
    let cs = c.args.characters.now in
    let count = c.fitting-count.ensures.value in
    let front = c.in_ok-cut.ensures.items ∙ c.before_blanks.ensures ∙ ap (λ n. before_blanks (take n cs)) count in
    c.in_ok-extend_from_slice.ensures.items ∙ ap (λ x. x ++ codes "...") front ∙ sym (cut_some cs (λ all. c.if-count-characters.false (count ∙ all)))
