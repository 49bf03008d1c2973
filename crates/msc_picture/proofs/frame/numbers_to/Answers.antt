use Rattle.std.proofs.Common.{List, ℕ, [], ◌∷◌, ◌++◌, ap, sym, ◌∙◌, arith}
use Rattle.msc_picture.proofs.Ranges.{range_more}
use Rattle.msc_picture.proofs.frame.numbers_to.Goals as goal

pub loop-e-preserved : goal.loop-e-preserved
loop-e-preserved c =
    c.in_ok-push.ensures.items ∙ ap (λ (l : List ℕ). l ++ c.loop-e.e ∷ []) c.loop-e.invariant
    ∙ sym (range_more 0 c.loop-e.e c.loop-e.e (omega arith))
