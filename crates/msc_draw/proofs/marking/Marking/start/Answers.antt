use Rattle.std.proofs.Common.{◌≡◌, ℕ, false, length, None, [], refl, ap, ◌∙◌, arith}
use Rattle.std.specs.Prelude.{replicate}
use Rattle.msc_draw.proofs.MarkingLemmas.{nothing_marked, same_marking}
use Rattle.msc_draw.proofs.marking.Marking.start.Goals as goal

pub returns : goal.returns
returns c =
    let events = c.args.chart.now.events in
    let n = length events in
    let many : c.events-many.result ≡ n = omega (arith, c.events-many.ensures.number) in
    let blank = ap (λ (k : ℕ). replicate k false) many in
    same_marking events 0 [] [] c.new.result.items (replicate n false) _ (replicate n false) _ 0 0
    None None 0 0 c.new.ensures.items (c.in_ok-none.ensures ∙ blank) (c.in_ok-none-2.ensures ∙ blank)
    refl refl refl (nothing_marked events)
