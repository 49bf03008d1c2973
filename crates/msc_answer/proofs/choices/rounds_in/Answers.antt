use Rattle.std.proofs.Common.{◌≡◌, ℕ, List, ◌+◌, ◌++◌, ◌∷◌, [], Bool, cond, sym, ◌∙◌, ap}
use Rattle.std.proofs.lemmas.List.{append-nil}
use Rattle.msc_answer.specs.Importing.{rounds_below}
use Rattle.msc_answer.proofs.ChoiceNumbers.{next_rounds}
use Rattle.msc_answer.proofs.choices.rounds_in.Goals as goal
use Rattle.msc_answer.proofs.choices.rounds_in.Goals.{then-gives_round+in_ok-push, else-gives_round}

pub loop-number-preserved : goal.loop-number-preserved
loop-number-preserved c =
    let n = c.loop-number.number in
    let below = rounds_below c.args.bytes.now n in
    let made : (b : Bool) → c.gives_round.result ≡ b → below ++ cond b (n ∷ []) [] ≡ rounds_below c.args.bytes.now (n + 1) =
    λ b is. sym (next_rounds c.args.bytes.now n ∙ ap (λ (b : Bool). below ++ cond b (n ∷ []) []) (sym c.gives_round.ensures ∙ is)) in
    elim c.if-gives_round.branch [
      | then-gives_round+in_ok-push w ↦ rw w.rounds-is (w.in_ok-push.ensures.items ∙ (ap (λ (below : List ℕ). below ++ n ∷ []) c.loop-number.invariant ∙ made _ w.if-gives_round.true))
      | else-gives_round w ↦ rw w.rounds-is (c.loop-number.invariant ∙ (sym (append-nil below) ∙ made _ w.if-gives_round.false))
    ]
