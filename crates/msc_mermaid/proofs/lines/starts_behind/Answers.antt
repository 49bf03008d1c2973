use Rattle.std.proofs.Common.{◌≡◌, ◌⊎◌, false, get_or, ◌∙◌, inl, inr}
use Rattle.std.proofs.lemmas.Bool.{ne_eqb}
use Rattle.msc_mermaid.proofs.StartLemmas.{started_none, started_on, started_past, started_end, started_all}
use Rattle.msc_mermaid.proofs.lines.starts_behind.Goals as goal
use Rattle.msc_mermaid.proofs.lines.starts_behind.Goals.{then-byte-eq10+then-cr, else-byte-eq10+then-byte-eq10-2+in_ok-push, else-byte-eq10-via-then-byte-eq10+else-cr, else-byte-eq10-via-else-byte-eq10, then-byte-eq10-2-via-then-byte-eq10-2, then-byte-eq10-2-via-else-byte-eq10-2+then-byte-eq13, else-byte-eq10+else-byte-eq10-2+else-byte-eq13}

pub loop-i-init : goal.loop-i-init
loop-i-init c = rw c.new-starts.ensures.items (started_none c.args.before c.args.text.now)

pub loop-i-preserved : goal.loop-i-preserved
loop-i-preserved c =
    let text = c.args.text.now in let l = c.loop-i in let before = c.args.before in
    let starts = l.starts.items in let inside = c.loop-i-test.true in
    elim c.if-byte-eq10.branch [
      | then-byte-eq10+then-cr w ↦ rw (w.starts-is, w.start-is) (started_past before text starts l.start l.cr l.i l.invariant inside w.if-byte-eq10.true w.if-cr.true)
      | else-byte-eq10+then-byte-eq10-2+in_ok-push w ↦
          let ends : (get_or text l.i 0 ≡ 13) ⊎ ((get_or text l.i 0 ≡ 10) × (l.cr ≡ false)) = elim w.then-byte-eq10-2.branch [
            | then-byte-eq10-2-via-then-byte-eq10-2 lf ↦ inr (
              lf.if-byte-eq10-2.true,
              elim w.else-byte-eq10.branch [
                | else-byte-eq10-via-then-byte-eq10+else-cr other ↦ other.if-cr.false
                | else-byte-eq10-via-else-byte-eq10 other ↦ absurd (other.if-byte-eq10.false lf.if-byte-eq10-2.true)
              ],
            )
            | then-byte-eq10-2-via-else-byte-eq10-2+then-byte-eq13 return ↦ inl return.if-byte-eq13.true
          ] in
          rw (w.starts-is, w.start-is) (rw w.in_ok-push.ensures.items (started_end before text starts l.start l.cr l.i l.invariant inside ends))
      | else-byte-eq10+else-byte-eq10-2+else-byte-eq13 w ↦ rw (w.starts-is, w.start-is) (started_on before text starts l.start l.cr l.i l.invariant inside (ne_eqb _ _ w.if-byte-eq10-2.false) (ne_eqb _ _ w.if-byte-eq13.false))
    ]

pub returns : goal.returns
returns c =
    let l = c.loop-i in
    c.in_ok-push-2.ensures.items ∙ started_all c.args.before c.args.text.now l.starts.items l.start l.cr l.i l.invariant c.loop-i-test.false
