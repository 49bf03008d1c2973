use Rattle.std.proofs.Common.{◌≡◌, ◌<◌, None, Some, length, sym, ◌∙◌, arith, rules, tests}
use Rattle.msc_answer.proofs.ChoiceNumbers.{number_empty, number_end, number_more, number_some}
use Rattle.msc_answer.proofs.choices.number_of.Goals as goal

pub returns-then-is_empty : goal.returns-then-is_empty
returns-then-is_empty c =
    let none : length c.args.bytes.now ≡ 0 = search (rules, tests, arith) in
    sym (number_empty c.args.bytes.now none)

pub returns-in_err-number : goal.returns-in_err-number
returns-in_err-number c =
    let l = c.loop-byte in
    let bs = c.args.bytes.now in
    let inside = c.loop-byte-test.true in
    let some : 0 < length bs = omega (arith, inside) in
    c.from_residual.ensures ∙ sym (number_some bs some ∙ sym l.invariant.behind ∙ number_more bs l.byte-index l.number None inside (sym c.in_err-number.ensures.value))

pub loop-byte-preserved : goal.loop-byte-preserved
loop-byte-preserved c =
    let l = c.loop-byte in
    let more = number_more c.args.bytes.now l.byte-index l.number (Some c.in_ok-number.number) c.loop-byte-test.true (sym c.in_ok-number.ensures.value) in
    record { within = c.in_ok-number.ensures.within; behind = sym more ∙ l.invariant.behind }

pub returns : goal.returns
returns c =
    let l = c.loop-byte in
    let bs = c.args.bytes.now in
    let some : 0 < length bs = search (rules, tests, arith) in
    sym (number_some bs some ∙ sym l.invariant.behind ∙ number_end bs l.byte-index l.number c.loop-byte-test.false)
