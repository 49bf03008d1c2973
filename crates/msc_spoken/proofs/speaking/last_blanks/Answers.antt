use Rattle.std.proofs.Common.{ap, ◌∙◌}
use Rattle.msc_spoken.specs.Speaking.{last_blanks}
use Rattle.msc_spoken.proofs.SpeakingLemmas.{keeps_left_out, keeps_put, keeps_all}
use Rattle.msc_spoken.proofs.speaking.last_blanks.Goals as goal
use Rattle.msc_spoken.proofs.speaking.last_blanks.Goals.{then-not-is_left_out+in_ok-push, else-not-is_left_out}

pub loop-i-preserved : goal.loop-i-preserved
loop-i-preserved c =
    let l = c.loop-i in let cs = c.args.characters.now in let all = last_blanks cs in
    let left' = c.if-not-is_left_out.left.items in
    elim c.if-not-is_left_out.branch [
      | then-not-is_left_out+in_ok-push w ↦
          keeps_put cs l.i l.left.items all l.invariant left' w.index-characters-i.result c.loop-i-test.true w.index-characters-i.is w.if-not-is_left_out.ensures (ap (λ v. v.items) w.left-is ∙ w.in_ok-push.ensures.items)
      | else-not-is_left_out w ↦
          keeps_left_out cs l.i l.left.items all l.invariant left' c.loop-i-test.true w.if-not-is_left_out.ensures (ap (λ v. v.items) w.left-is)
    ]

pub returns : goal.returns
returns c =
    let l = c.loop-i in
    keeps_all c.args.characters.now l.i l.left.items (last_blanks c.args.characters.now) l.invariant c.loop-i-test.false
