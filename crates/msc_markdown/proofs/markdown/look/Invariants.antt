use Rattle.std.proofs.Common.{◌≡◌, drop, map}
use Rattle.msc_mermaid.specs.declared.ahead.Ahead.TheVariants.{Start}
use Rattle.msc_markdown.specs.Markdowns.{look}
use Rattle.msc_markdown.proofs.markdown.look.Given as goal

abbrev pub invariant-loop-line : goal.invariant-loop-line
invariant-loop-line l =
    look l.ahead (map (λ x. x.now) (drop l.line-index l.lines)) ≡ look Start (map (λ x. x.now) l.lines)
