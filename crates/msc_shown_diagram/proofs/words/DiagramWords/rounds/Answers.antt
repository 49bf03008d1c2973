use Rattle.std.proofs.Common.{◌≡◌, ℕ, List, ◌∷◌, [], ◌++◌, length, map, ap, ap₂, sym, ◌∙◌, arith}
use Rattle.std.specs.List.{range_with_len}
use Rattle.std.proofs.lemmas.List.FromFn.{map-range_with_len_more}
use Rattle.msc_findings.specs.declared.scenario.LoopRound.{LoopRound}
use Rattle.msc_shown_diagram.specs.Shown.{rounds_at}
use Rattle.msc_shown_diagram.proofs.words.DiagramWords.rounds.Goals as goal

pub loop-e-preserved : goal.loop-e-preserved
loop-e-preserved c =
    let e = c.loop-e.e in
    let f : ℕ → List LoopRound = rounds_at c.as_slice-loops.result.now c.args.arrows.now c.args.rounds.now in
    c.in_ok-push.ensures.items
    ∙ ap₂ (λ (l : List (List LoopRound)) (x : List LoopRound). l ++ x ∷ []) c.loop-e.invariant c.in_ok-rounds_at.ensures
    ∙ sym (map-range_with_len_more f 0 e e (omega arith))

pub returns : goal.returns
returns c =
    let d = c.args.chart.now in
    let f : List (List ℕ) → ℕ → List LoopRound = λ loops. rounds_at loops c.args.arrows.now c.args.rounds.now in
    let all : c.loop-e.e ≡ length d.events =
    let past = c.loop-e-test.false in let most = c.loop-e.auto.e-end in let number = c.events-e-end.ensures.number in omega (arith, past, most, number) in
    c.loop-e.invariant
    ∙ ap (λ n. map (f c.as_slice-loops.result.now) (range_with_len 0 n)) all
    ∙ ap (λ (loops : List (List ℕ)). map (f loops) (range_with_len 0 (length d.events))) c.as_slice-loops.ensures.value
