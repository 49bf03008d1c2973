use Rattle.std.proofs.Common.{List, ℕ, ◌∷◌, [], ◌++◌, map, take, ap, sym, ◌∙◌}
use Rattle.std.proofs.lemmas.List.{map-append}
use Rattle.std.specs.List.{enumerate_from}
use Rattle.std.specs.String.{string_bytes}
use Rattle.msc_wording.specs.declared.run.SpokenStep.{SpokenStep}
use Rattle.msc_wording.specs.Runs.{run_row}
use Rattle.msc_wording.proofs.RunLemmas.{one_more_row}
use Rattle.msc_wording.proofs.run.run_rows.Goals as goal

pub loop-index-preserved : goal.loop-index-preserved
loop-index-preserved c =
    let l = c.loop-index in
    let row = λ (at : ℕ × SpokenStep). run_row (map (λ name. name.now) c.args.names.now) c.in_ok-width.width at.0 at.1 in
    let before = map row (enumerate_from 1 (take l.index c.args.steps.now)) in
    let new = c.in_ok-run_row.field-0 in
    ap (map string_bytes) c.in_ok-push.ensures.items
    ∙ map-append string_bytes l.rows.items (new ∷ [])
    ∙ ap (λ (rows : List (List ℕ)). rows ++ string_bytes new ∷ []) l.invariant
    ∙ ap (λ (text : List ℕ). before ++ text ∷ []) c.in_ok-run_row.ensures
    ∙ sym (one_more_row row c.args.steps.now l.index _ c.loop-index-test.true)
