use Rattle.std.proofs.Common.{◌+◌, ◌++◌, ◌∷◌, [], drop, sym, ap, ◌∙◌, append_assoc}
use Rattle.std.proofs.lemmas.List.{append-nil}
use Rattle.msc_scenarios.specs.Naming.{passed, put_first}
use Rattle.msc_scenarios.proofs.NamingLemmas.{pass_more, pass_end}
use Rattle.msc_scenarios.proofs.naming.Pass.over.Goals as goal
use Rattle.msc_scenarios.proofs.naming.Pass.over.Goals.{in-Some+in_ok-push, in_default}

pub loop-i-preserved : goal.loop-i-preserved
loop-i-preserved c =
    let l = c.loop-i in let bytes = c.args.bytes.now in let p = c.args.self in
    let next = c.step-put.result.1 in let rest = passed p next (drop (l.i + 1) bytes) in
    let one = pass_more p l.state bytes l.i c.step-put.result.0 next c.loop-i-test.true c.step-put.ensures in
    elim c.match-put.branch [
      | in-Some+in_ok-push w ↦
          let more = one ∙ ap (λ o. put_first o rest) w.in-Some.is in
          ap (λ v. v.items ++ rest) w.left-is ∙ ap (λ x. x ++ rest) w.in_ok-push.ensures.items ∙ append_assoc l.left.items (w.in-Some.byte ∷ []) rest ∙ ap (λ x. l.left.items ++ x) (sym more) ∙ l.invariant
      | in_default w ↦
          let more = one ∙ ap (λ o. put_first o rest) w.in_default.is in
          ap (λ v. v.items ++ rest) w.left-is ∙ ap (λ x. l.left.items ++ x) (sym more) ∙ l.invariant
    ]

pub returns : goal.returns
returns c =
    let l = c.loop-i in
    sym (append-nil l.left.items) ∙ ap (λ x. l.left.items ++ x) (sym (pass_end c.args.self l.state c.args.bytes.now l.i c.loop-i-test.false)) ∙ l.invariant
