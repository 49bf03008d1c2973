use Rattle.std.proofs.Common.{◌≡◌, ◌⊎◌, false, ◌++◌, ◌∷◌, [], get_or, map, ap, ◌∙◌, inl, inr}
use Rattle.std.proofs.lemmas.List.{map-append}
use Rattle.std.proofs.lemmas.Bool.{ne_eqb}
use Rattle.msc_mermaid.proofs.LineLemmas.{cut_none, cut_on, cut_past, cut_end, cut_all, part}
use Rattle.msc_mermaid.proofs.lines.lines_behind.Goals as goal
use Rattle.msc_mermaid.proofs.lines.lines_behind.Goals.{then-byte-eq10+then-cr, else-byte-eq10+then-byte-eq10-2+in_ok-push, else-byte-eq10-via-then-byte-eq10+else-cr, else-byte-eq10-via-else-byte-eq10, then-byte-eq10-2-via-then-byte-eq10-2, then-byte-eq10-2-via-else-byte-eq10-2+then-byte-eq13, else-byte-eq10+else-byte-eq10-2+else-byte-eq13}

pub loop-i-init : goal.loop-i-init
loop-i-init c = rw c.new-lines.ensures.items (cut_none c.args.text.now)

pub loop-i-preserved : goal.loop-i-preserved
loop-i-preserved c =
    let text = c.args.text.now in let l = c.loop-i in
    let lines = map (λ x. x.now) l.lines.items in let inside = c.loop-i-test.true in
    elim c.if-byte-eq10.branch [
      | then-byte-eq10+then-cr w ↦ rw (w.lines-is, w.start-is) (cut_past text lines l.start l.cr l.i l.invariant inside w.if-byte-eq10.true w.if-cr.true)
      | else-byte-eq10+then-byte-eq10-2+in_ok-push w ↦
          let more : map (λ x. x.now) w.push.new.self.items ≡ lines ++ part text l.start l.i ∷ [] = ap (map (λ x. x.now)) w.in_ok-push.ensures.items ∙ map-append (λ x. x.now) l.lines.items _ in
          let ends : (get_or text l.i 0 ≡ 13) ⊎ ((get_or text l.i 0 ≡ 10) × (l.cr ≡ false)) = elim w.then-byte-eq10-2.branch [
            | then-byte-eq10-2-via-then-byte-eq10-2 lf ↦ inr (
              lf.if-byte-eq10-2.true,
              elim w.else-byte-eq10.branch [
                | else-byte-eq10-via-then-byte-eq10+else-cr other ↦ other.if-cr.false
                | else-byte-eq10-via-else-byte-eq10 other ↦ absurd (other.if-byte-eq10.false lf.if-byte-eq10-2.true)
              ],
            )
            | then-byte-eq10-2-via-else-byte-eq10-2+then-byte-eq13 return ↦ inl return.if-byte-eq13.true
          ] in
          rw (w.lines-is, w.start-is) (rw more (cut_end text lines l.start l.cr l.i l.invariant inside ends))
      | else-byte-eq10+else-byte-eq10-2+else-byte-eq13 w ↦ rw (w.lines-is, w.start-is) (cut_on text lines l.start l.cr l.i l.invariant inside (ne_eqb _ _ w.if-byte-eq10-2.false) (ne_eqb _ _ w.if-byte-eq13.false))
    ]

pub returns : goal.returns
returns c =
    let l = c.loop-i in let lines = map (λ x. x.now) l.lines.items in
    ap (map (λ x. x.now)) c.in_ok-push-2.ensures.items ∙ map-append (λ x. x.now) l.lines.items _ ∙ cut_all c.args.text.now lines l.start l.cr l.i l.invariant c.loop-i-test.false l.auto.i-end
