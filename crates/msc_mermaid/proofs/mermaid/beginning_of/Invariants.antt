use Rattle.std.proofs.Common.{◌≡◌, ◌+◌, drop, map}
use Rattle.msc_mermaid.specs.Mermaid.{end_of, first_line_place}
use Rattle.msc_mermaid.proofs.mermaid.beginning_of.Given as goal

abbrev pub invariant-loop-i : goal.invariant-loop-i
invariant-loop-i l =
    first_line_place (l.i + 1) (map (λ x. x.now) (drop l.i l.lines)) (end_of (map (λ x. x.now) l.lines)) ≡ first_line_place 1 (map (λ x. x.now) l.lines) (end_of (map (λ x. x.now) l.lines))
