use Rattle.std.proofs.Common.{◌≡◌, ◌++◌, ◌+◌, None, drop, map}
use Rattle.msc_mermaid.specs.Parts.{stretch}
use Rattle.msc_markdown.specs.Markdowns.{ends_in, parts_from, starts_from}
use Rattle.msc_markdown.proofs.markdown.pass.Given as goal

abbrev pub invariant-loop-i : goal.invariant-loop-i
invariant-loop-i l = record {
  ends : l.ends ≡ ends_in (map (λ x. x.now) (drop l.i l.lines));
  parts : map stretch l.parts.items ++ parts_from (l.i + 1) l.around (map (λ x. x.now) (drop l.i l.lines)) ≡ parts_from 1 None (map (λ x. x.now) l.lines);
  starts : l.starts.items ++ starts_from (l.i + 1) l.around (map (λ x. x.now) (drop l.i l.lines)) ≡ starts_from 1 None (map (λ x. x.now) l.lines);
}
