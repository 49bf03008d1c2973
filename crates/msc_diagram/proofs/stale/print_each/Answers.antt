use Rattle.std.proofs.Common.{◌<◌, ℕ, List, [], ◌++◌, length, get_or, take, ap, sym, ◌∙◌, append_assoc, arith}
use Rattle.std.specs.List.{flat_map}
use Rattle.std.proofs.lemmas.List.{flat_map_more, take_more}
use Rattle.msc_diagram.specs.Stale.{stale_by}
use Rattle.msc_diagram.proofs.stale.print_each.Goals as goal

pub loop-mark-preserved : goal.loop-mark-preserved
loop-mark-preserved c =
    let stale = c.args.stale.now in
    let i : ℕ = c.loop-mark.mark-index in
    let one : ℕ → List ℕ = stale_by c.args.format c.args.marks.used in
    let page : List ℕ = c.args.page.now.bytes.items in
    let within : i < length stale = omega (arith, c.loop-mark-test.true) in
    let more = flat_map_more one [] (take i stale) (get_or stale i 0) ∙ ap (flat_map one) (sym (take_more stale i 0 within)) in
    c.in_ok-print_one.ensures ∙ ap (λ (t : List ℕ). t ++ one (get_or stale i 0)) c.loop-mark.invariant
    ∙ append_assoc page (flat_map one (take i stale)) (one (get_or stale i 0)) ∙ ap (λ (t : List ℕ). page ++ t) more
