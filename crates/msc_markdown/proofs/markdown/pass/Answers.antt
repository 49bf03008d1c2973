use Rattle.std.proofs.Common.{◌≡◌, ◌++◌, ◌+◌, ◌∷◌, [], None, drop, map, refl, sym, ap, ◌∙◌}
use Rattle.std.proofs.lemmas.List.{map-append}
use Rattle.msc_mermaid.specs.Parts.{stretch}
use Rattle.msc_markdown.proofs.PassLemmas.{ends_next, parts_more, parts_end, starts_more, starts_end}
use Rattle.msc_markdown.proofs.markdown.pass.Goals as goal

pub loop-i-preserved : goal.loop-i-preserved
loop-i-preserved c =
    let l = c.loop-i in let lines = c.args.lines.now in
    let ends = ends_next (λ x. x.now) lines l.i _ c.loop-i-test.true l.ends c.behind-ends.result l.invariant.ends c.behind-ends.ensures.angle c.behind-ends.ensures.percent in
    let more = ap (map stretch) c.in_ok-push.ensures.items ∙ map-append stretch l.parts.items (c.left_by-left.result.part ∷ []) in
    record {
      ends = ends;
      parts = parts_more (λ x. x.now) lines l.i _ c.loop-i-test.true (l.i + 1) l.around c.behind-ends.result ends _ c.left_by-left.ensures.after (map stretch l.parts.items) _ (stretch c.left_by-left.result.part) more c.left_by-left.ensures.part ∙ l.invariant.parts;
      starts = starts_more (λ x. x.now) lines l.i _ c.loop-i-test.true (l.i + 1) l.around c.behind-ends.result ends _ c.left_by-left.ensures.after l.starts.items _ c.left_by-left.result.start c.in_ok-put_start.ensures c.left_by-left.ensures.start ∙ l.invariant.starts;
    }

pub returns-clause-parts : goal.returns-clause-parts
returns-clause-parts c =
    let l = c.loop-i in
    sym (parts_end (λ x. x.now) c.args.lines.now l.i (l.i + 1) l.around (map stretch l.parts.items) c.loop-i-test.false) ∙ l.invariant.parts

pub returns-clause-starts : goal.returns-clause-starts
returns-clause-starts c =
    let l = c.loop-i in
    sym (starts_end (λ x. x.now) c.args.lines.now l.i (l.i + 1) l.around l.starts.items c.loop-i-test.false) ∙ l.invariant.starts
