use Rattle.std.proofs.Common.{arith, ap, ◌∙◌}
use Rattle.msc_spoken.specs.Markup.{markup_front}
use Rattle.msc_spoken.specs.Replacing.{replaced}
use Rattle.msc_spoken.proofs.ReplacingLemmas.{keeps_left_out, keeps_replaced, keeps_all}
use Rattle.msc_spoken.proofs.markup.Markup.replaced.Goals as goal
use Rattle.msc_spoken.proofs.markup.Markup.replaced.Goals.{then-more-gt0, else-more-gt0+in_ok-push}

pub loop-i-preserved : goal.loop-i-preserved
loop-i-preserved c =
    let l = c.loop-i in let bytes = c.args.bytes.now in let rule = markup_front c.args.self in let all = replaced rule 0 bytes in
    let now = c.if-more-gt0 in
    elim now.branch [
      | then-more-gt0 w ↦
          keeps_left_out rule bytes l.i l.left.items l.more all l.invariant now.left.items now.more c.loop-i-test.true w.if-more-gt0.true (ap (λ v. v.items) w.left-is) w.more-is
      | else-more-gt0+in_ok-push w ↦
          keeps_replaced rule bytes l.i l.left.items l.more all l.invariant now.left.items now.more w.front-front.result c.loop-i-test.true (omega (arith, w.if-more-gt0.false)) w.front-front.ensures (ap (λ v. v.items) w.left-is ∙ w.in_ok-push.ensures.items) w.more-is
    ]

pub returns : goal.returns
returns c =
    let l = c.loop-i in let bytes = c.args.bytes.now in let rule = markup_front c.args.self in
    keeps_all rule bytes l.i l.left.items l.more (replaced rule 0 bytes) l.invariant c.loop-i-test.false
