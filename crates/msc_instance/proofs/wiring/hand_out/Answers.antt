use Rattle.std.proofs.Common.{◌≡◌, ◌<◌, length, arith, ◌∙◌, refl, ap, reverse, vec_len}
use Rattle.std.proofs.lemmas.Bool.{false≢true}
use Rattle.std.proofs.lemmas.List.{reverse-reverse, length-reverse}
use Rattle.msc_instance.proofs.Handed.{passed, gave, popped_first, some_left, ended, nothing_given}
use Rattle.msc_instance.proofs.wiring.hand_out.Goals.{then-quotas-i-gt0+in-Some+in_ok-push, else-quotas-i-gt0}
use Rattle.msc_instance.proofs.wiring.hand_out.Goals as goal

pub loop-i-init : goal.loop-i-init
loop-i-init c = nothing_given (ap reverse c.reverse.ensures.items
    ∙ reverse-reverse c.args.outlets.items ∙ c.requires.outlets)

pub unreachable-requires : goal.unreachable-requires
unreachable-requires c =
    let some = some_left _ _ _ _ _ _ _ c.loop-i-test.true c.if-quotas-i-gt0.true
    c.loop-i.invariant in
    let long : 0 < vec_len c.loop-i.outlets = omega (
      arith,
      some,
      length-reverse c.loop-i.outlets.items,
    ) in
    false≢true (c.in_default.ensures.variant.1 long)

pub loop-i-preserved : goal.loop-i-preserved
loop-i-preserved c =
    let long : length c.args.quotas.now ≡ length c.loop-i.all = omega arith in
    elim c.if-quotas-i-gt0.branch [
      | then-quotas-i-gt0+in-Some+in_ok-push w ↦
          rw (w.all-is, w.outlets-is)
          (gave c.loop-i-test.true long _ w.in-Some.outlet _ w.index-all-i.result
          w.if-quotas-i-gt0.true
          (popped_first _ _ _ w.in-Some.ensures.items) w.in_ok-push.ensures.items refl refl
          c.loop-i.invariant)
      | else-quotas-i-gt0 w ↦ rw (w.all-is, w.outlets-is)
          (passed c.loop-i-test.true long (omega (arith, w.if-quotas-i-gt0.false))
          c.loop-i.invariant)
    ]

pub returns : goal.returns
returns c =
    ended (omega arith) c.requires.each (omega arith) c.requires.receiver _
    c.index-all-receiver.result c.args.inlet c.requires.some c.requires.inlet
    c.in_ok-push-2.ensures.items refl refl c.loop-i.invariant
