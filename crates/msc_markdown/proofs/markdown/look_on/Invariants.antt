use Rattle.std.proofs.Common.{◌≡◌, drop, map}
use Rattle.msc_mermaid.specs.declared.ahead.Ahead.TheVariants.{Start}
use Rattle.msc_markdown.specs.Markdowns.{look}
use Rattle.msc_markdown.proofs.markdown.look_on.Given as goal

abbrev pub invariant-loop-part : goal.invariant-loop-part
invariant-loop-part l =
    look l.ahead (map (λ p. p.bytes.now) (drop l.part-index l.parts)) ≡ look Start (map (λ p. p.bytes.now) l.parts)
