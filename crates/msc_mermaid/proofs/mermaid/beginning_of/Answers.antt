use Rattle.std.proofs.Common.{◌+◌, map, sym, ap, ◌∙◌}
use Rattle.msc_mermaid.specs.Lines.{position_of}
use Rattle.msc_mermaid.specs.Mermaid.{end_of}
use Rattle.msc_mermaid.proofs.PlaceLemmas.{line_here, line_later, line_nowhere}
use Rattle.msc_mermaid.proofs.mermaid.beginning_of.Goals as goal

pub returns-then-not-is_white : goal.returns-then-not-is_white
returns-then-not-is_white c =
    let lines = c.args.lines.now in
    let end = end_of (map (λ x. x.now) lines) in
    let is = sym c.is_white.ensures ∙ c.if-not-is_white.true in
    c.position_of.ensures ∙ ap (position_of (c.loop-i.i + 1) _) c.behind_white.ensures
    ∙ sym (line_here (λ x. x.now) lines c.loop-i.i end _ c.loop-i-test.true is) ∙ c.loop-i.invariant

pub loop-i-preserved : goal.loop-i-preserved
loop-i-preserved c =
    let lines = c.args.lines.now in
    let end = end_of (map (λ x. x.now) lines) in
    let is = sym c.is_white.ensures ∙ c.if-not-is_white.false in
    sym (line_later (λ x. x.now) lines c.loop-i.i end _ c.loop-i-test.true is) ∙ c.loop-i.invariant

pub returns : goal.returns
returns c =
    let lines = c.args.lines.now in
    c.end_of.ensures ∙ sym (line_nowhere (λ x. x.now) lines c.loop-i.i (end_of (map (λ x. x.now) lines)) c.loop-i-test.false) ∙ c.loop-i.invariant
