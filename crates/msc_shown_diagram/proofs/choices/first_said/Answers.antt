use Rattle.std.proofs.Common.{ℕ, ◌<◌, List, ◌∷◌, [], ◌++◌, length, map, take, ap, ap₂, sym, ◌∙◌, arith}
use Rattle.std.proofs.lemmas.List.{map_push}
use Rattle.msc_shown_chart.proofs.WordLemmas.{one_more}
use Rattle.msc_shown_diagram.specs.Choices.{choice_said, plain_choice, PlainChoice}
use Rattle.msc_shown_diagram.proofs.choices.first_said.Goals as goal

pub loop-k-preserved : goal.loop-k-preserved
loop-k-preserved c =
    let d = c.args.diagram.now in
    let text = c.args.text.now in
    let cs = c.args.choices.now in
    let k = c.loop-k.k in
    let within : k < length cs = let less = c.loop-k-test.true in let most = c.min-k-end.ensures in omega (arith, less, most) in
    let f : ℕ × ℕ → PlainChoice = λ at. choice_said d text (take at.0 cs) at.1 in
    ap (map plain_choice) c.in_ok-push.ensures.items
    ∙ map_push plain_choice c.loop-k.said.items c.in_ok-words.words
    ∙ ap₂ (λ (l : List PlainChoice) (x : PlainChoice). l ++ x ∷ []) c.loop-k.invariant c.in_ok-words.ensures
    ∙ sym (one_more f cs k 0 within)
