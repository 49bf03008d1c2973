use Rattle.std.proofs.Common.{◌+◌, ◌-◌, ◌==◌, cond, drop, sym, ap, ◌∙◌}
use Rattle.std.proofs.lemmas.List.{take_rest}
use Rattle.msc_mermaid.specs.White.{ahead, body}
use Rattle.msc_mermaid.proofs.WhiteLemmas.{body_next, body_end, ends, ends_on, ends_within}
use Rattle.msc_mermaid.proofs.white.body.Goals as goal

pub loop-i-preserved : goal.loop-i-preserved
loop-i-preserved c =
    let l = c.loop-i in let bytes = c.args.bytes.now in let next = c.ahead-here.result in
    let here = sym (ap (ahead l.left) (take_rest bytes l.i)) ∙ sym c.ahead-here.ensures in
    let rest = drop (l.i + 1) bytes in
    let more = body (next - 1) rest in (
      ap (λ e. ends (l.i + 1) e (body c.after-left.result rest)) c.end_at-end.ensures ∙ ap (λ n. ends (l.i + 1) (cond (next == 0) (l.i + 1) l.end) (body n rest)) c.after-left.ensures ∙ sym (ends_on l.i l.end (next == 0) more) ∙ sym (ap (ends l.i l.end) (body_next bytes l.i l.left c.loop-i-test.true next here)) ∙ l.invariant.0,
      ends_within l.i l.end next c.end_at-end.result c.end_at-end.ensures l.invariant.1,
    )

pub returns-clause-length : goal.returns-clause-length
returns-clause-length c =
    let l = c.loop-i in
    sym (ap (ends l.i l.end) (body_end c.args.bytes.now l.i l.left c.loop-i-test.false)) ∙ l.invariant.0
