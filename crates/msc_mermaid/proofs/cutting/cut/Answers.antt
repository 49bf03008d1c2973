use Rattle.std.proofs.Common.{◌+◌, get_or, map, sym, ap, ◌∙◌}
use Rattle.std.proofs.lemmas.List.{map-append, take_rest}
use Rattle.msc_mermaid.specs.Cutting.{turn_at}
use Rattle.msc_mermaid.proofs.CuttingLemmas.{cut_start, cut_ends, cut_here, cut_past, cut_whole}
use Rattle.msc_mermaid.proofs.cutting.cut.Goals as goal
use Rattle.msc_mermaid.proofs.cutting.cut.Goals.{in-Cut+in_ok-push-in-Cut, in-On}

pub loop-i-init : goal.loop-i-init
loop-i-init c = rw c.new-pieces.ensures.items (cut_start c.args.bytes.now)

pub returns-in-End : goal.returns-in-End
returns-in-End c =
    let l = c.loop-i in let bytes = c.args.bytes.now in let pieces = map (λ x. x.now) l.pieces.items in
    let turn = sym (ap (turn_at l.within (get_or bytes l.i 0)) (take_rest bytes (l.i + 1))) ∙ sym c.turn_at.ensures in
    ap (map (λ x. x.now)) c.in_ok-push-in-End.ensures.items ∙ map-append (λ x. x.now) l.pieces.items _ ∙ cut_ends bytes pieces l.start l.within l.i l.invariant c.loop-i-test.true _ turn c.in-End.is

pub loop-i-preserved : goal.loop-i-preserved
loop-i-preserved c =
    let l = c.loop-i in let bytes = c.args.bytes.now in let pieces = map (λ x. x.now) l.pieces.items in
    let turn = sym (ap (turn_at l.within (get_or bytes l.i 0)) (take_rest bytes (l.i + 1))) ∙ sym c.turn_at.ensures in
    elim c.match-turn_at.branch [
      | in-Cut+in_ok-push-in-Cut w ↦
          let more = ap (map (λ x. x.now)) w.in_ok-push-in-Cut.ensures.items ∙ map-append (λ x. x.now) l.pieces.items _ in
          rw (w.pieces-is, w.start-is, w.within-is) (rw more (cut_here bytes pieces l.start l.within l.i l.invariant c.loop-i-test.true _ turn w.in-Cut.is))
      | in-On w ↦ rw (w.pieces-is, w.start-is, w.within-is) (cut_past bytes pieces l.start l.within l.i l.invariant c.loop-i-test.true _ turn _ w.in-On.is)
    ]

pub returns : goal.returns
returns c =
    let l = c.loop-i in let pieces = map (λ x. x.now) l.pieces.items in
    ap (map (λ x. x.now)) c.in_ok-push.ensures.items ∙ map-append (λ x. x.now) l.pieces.items _ ∙ cut_whole c.args.bytes.now pieces l.start l.within l.i l.invariant c.loop-i-test.false l.auto.i-end
