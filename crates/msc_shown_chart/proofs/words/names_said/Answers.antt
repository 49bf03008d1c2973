use Rattle.std.proofs.Common.{List, ℕ, ◌∷◌, [], ◌++◌, map, take, ap, ap₂, sym, ◌∙◌}
use Rattle.std.specs.String.{string_bytes}
use Rattle.std.proofs.lemmas.List.{map_push}
use Rattle.msc_chart.proofs.NumberingLemmas.{take-next}
use Rattle.msc_shown_chart.specs.Words.{name_said}
use Rattle.msc_shown_chart.proofs.words.names_said.Goals as goal

pub loop-i-preserved : goal.loop-i-preserved
loop-i-preserved c =
    let all = c.args.chart.now.instances in
    let name = c.instance_name.result.now in
    ap (map string_bytes) c.in_ok-push.ensures.items
    ∙ map_push string_bytes c.loop-i.names.items c.in_ok-shown.field-0
    ∙ ap₂ (λ (l : List (List ℕ)) (x : List ℕ). l ++ x ∷ []) c.loop-i.invariant c.in_ok-shown.ensures.bytes
    ∙ sym (map_push name_said (take c.loop-i.i all) name)
    ∙ ap (map name_said) (sym (take-next all c.loop-i.i name c.instance_name.ensures))
