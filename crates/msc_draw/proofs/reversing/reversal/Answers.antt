use Rattle.std.proofs.Common.{◌≡◌, ℕ, List, ◌++◌, codes, ap, ◌∙◌}
use Rattle.std.specs.Fmt.{decimal}
use Rattle.msc_links.specs.Said.{queues_said}
use Rattle.msc_svg.proofs.Chains.{add}
use Rattle.msc_draw.proofs.reversing.reversal.Goals as goal

pub returns : goal.returns
returns c =
    let said = queues_said c.args.chart.now c.args.queues in
    let p = c.print_queues.new.text.items in
    let q = c.extend_from_slice.new.self.items in
    let r = c.extend_from_slice-2.new.self.items in
    let s = c.extend_from_slice-3.new.self.items in
    let next = c.extend_from_slice-4.new.self.items in
    let first : p ≡ said = c.in_ok-print_queues.ensures
    ∙ ap (λ (l : List ℕ). l ++ said) c.new-text.ensures.items in
    let second = add p q said (codes ": a run with ") first c.in_ok-extend_from_slice.ensures.items in
    let third = add q r (said ++ codes ": a run with ") (decimal c.args.f) second
    (c.in_ok-extend_from_slice-2.ensures.items
    ∙ ap (λ (l : List ℕ). q ++ l) (c.as_bytes.ensures.value ∙ c.format.ensures.text)) in
    let fourth = add r s ((said ++ codes ": a run with ") ++ decimal c.args.f) (codes " before ") third
    c.in_ok-extend_from_slice-3.ensures.items in
    add s next (((said ++ codes ": a run with ") ++ decimal c.args.f) ++ codes " before ")
    (decimal c.args.e) fourth
    (c.in_ok-extend_from_slice-4.ensures.items
    ∙ ap (λ (l : List ℕ). s ++ l) (c.as_bytes-2.ensures.value ∙ c.format-2.ensures.text))
