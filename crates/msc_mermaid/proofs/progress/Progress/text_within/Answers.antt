use Rattle.std.proofs.Common.{drop, map, ap, ◌∙◌, length-drop, arith}
use Rattle.std.proofs.lemmas.List.{take_rest}
use Rattle.msc_mermaid.specs.Cutting.{cut, room}
use Rattle.msc_mermaid.proofs.CuttingLemmas.{room_cut}
use Rattle.msc_mermaid.proofs.progress.Progress.text_within.Goals as goal

pub ended_on-requires : goal.ended_on-requires
ended_on-requires c =
    let bytes = c.args.bytes.now in let at = c.before-at.result in
    let pieces = ap (λ v. room (map (λ x. x.now) v)) c.as_slice.ensures.value ∙ ap room c.in_ok-pieces.ensures ∙ ap (λ b. room (cut b)) (take_rest bytes at) in
    omega (arith, pieces, room_cut (drop at bytes), length-drop at bytes, c.before-at.ensures.within)
