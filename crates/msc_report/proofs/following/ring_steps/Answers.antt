use Rattle.std.proofs.Common.{◌≡◌, ◌<◌, ◌+◌, ◌∷◌, ◌++◌, [], ℕ, List, drop, get_or, length, ap, sym, ◌∙◌, append_assoc, arith}
use Rattle.std.proofs.lemmas.List.{drop_more}
use Rattle.msc_report.specs.Following.{steps_from}
use Rattle.msc_report.proofs.following.ring_steps.Goals as goal

pub loop-to-preserved : goal.loop-to-preserved
loop-to-preserved c =
    let others = c.in-Some.others.now in
    let first : ℕ = c.in-Some.first.now in
    let at : ℕ = c.loop-to.to-index in
    let to : ℕ = get_or others at 0 in
    let within : at < length others = omega (arith, c.loop-to-test.true) in
    let pushed = c.in_ok-push.ensures.items in
    c.loop-to.invariant
    ∙ ap (λ (rest : List ℕ). c.loop-to.steps.items ++ steps_from c.loop-to.from (rest ++ first ∷ [])) (drop_more others at 0 within)
    ∙ sym (append_assoc c.loop-to.steps.items ((c.loop-to.from, to) ∷ []) (steps_from to (drop (at + 1) others ++ first ∷ [])))
    ∙ ap (λ (l : List (ℕ × ℕ)). l ++ steps_from to (drop (at + 1) others ++ first ∷ [])) (sym pushed)
