use Rattle.std.proofs.Common.{List, ℕ, ◌∷◌, [], ◌++◌, map, ap, sym, ◌∙◌}
use Rattle.std.specs.Borrow.{Bor}
use Rattle.std.proofs.lemmas.List.{map-append}
use Rattle.msc_chart.proofs.NumberingLemmas.{take-next}
use Rattle.msc_links.proofs.said.instance_names.Goals as goal

pub loop-i-preserved : goal.loop-i-preserved
loop-i-preserved c =
    let now = λ (name : Bor (List ℕ)). name.now in
    let name = c.instance_name.result in
    ap (map now) c.in_ok-push.ensures.items
    ∙ map-append now c.loop-i.names.items (name ∷ [])
    ∙ ap (λ (l : List (List ℕ)). l ++ name.now ∷ []) c.loop-i.invariant
    ∙ sym (take-next c.args.chart.now.instances c.loop-i.i name.now c.instance_name.ensures)
