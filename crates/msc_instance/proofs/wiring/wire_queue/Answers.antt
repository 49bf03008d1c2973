use Rattle.std.proofs.Common.{◌≡◌, length, arith, ◌∙◌, sym, ap, vec_len, nat_lt, Err}
use Rattle.std.proofs.lemmas.Bool.{eqb-true, eqb-false}
use Rattle.std.proofs.lemmas.List.{nil_from_length}
use Rattle.std.proofs.lemmas.List.Sums.{length-filter}
use Rattle.msc_fifo.proofs.NoQueue.{no_queue}
use Rattle.msc_instance.specs.Handing.{senders_among}
use Rattle.msc_fifo.specs.Ends.{new_inlet}
use Rattle.msc_instance.proofs.Senders.{none_handed, not_large}
use Rattle.msc_instance.proofs.wiring.wire_queue.Goals as goal

pub returns-then-is_empty : goal.returns-then-is_empty
returns-then-is_empty c =
    let none : vec_len c.in_ok-own.own ≡ 0 = eqb-true _ _ (sym c.is_empty.ensures
    ∙ c.if-is_empty.true) in
    none_handed no_queue _ _ _ _ (sym c.in_ok-own.ensures
    ∙ nil_from_length c.in_ok-own.own.items (omega arith))

pub hand_out-requires-clause-some : goal.hand_out-requires-clause-some
hand_out-requires-clause-some c =
    let apart = eqb-false (vec_len c.in_ok-own.own) 0 (sym c.is_empty.ensures
    ∙ c.if-is_empty.false) in
    let long : length c.in_ok-own.own.items ≡ senders_among c.args.quotas.now =
    ap length c.in_ok-own.ensures ∙ length-filter (nat_lt 0) c.args.quotas.now in
    omega (arith, apart, long)

pub hand_out-requires-clause-receiver : goal.hand_out-requires-clause-receiver
hand_out-requires-clause-receiver c = c.requires.receiver (hand_out-requires-clause-some c)

pub hand_out-requires-clause-inlet : goal.hand_out-requires-clause-inlet
hand_out-requires-clause-inlet c =
    let long : length c.as_slice.result.now ≡ senders_among c.args.quotas.now =
    ap length (c.as_slice.ensures.value ∙ c.in_ok-own.ensures)
    ∙ length-filter (nat_lt 0) c.args.quotas.now in
    c.in-Ok.ensures.inlet ∙ ap (λ n. new_inlet c.in-Ok.inlet.queue n) long

pub unreachable-requires-in-Err-TooLarge : goal.unreachable-requires-in-Err-TooLarge
unreachable-requires-in-Err-TooLarge c =
    not_large c.as_slice.result.now c.args.quotas.now (c.as_slice.ensures.value
    ∙ c.in_ok-own.ensures) c.requires.few c.requires.sum
    (c.queue.ensures.too_large.0 (c.in-Err-TooLarge.is ∙ ap Err c.in-Err-TooLarge.field-0-is))
