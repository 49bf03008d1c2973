use Rattle.std.proofs.Common.{ℕ, length, ap, sym, ◌∙◌, arith}
use Rattle.std.proofs.lemmas.Bool.{false_from_ne_true}
use Rattle.msc_chart.specs.Lists.{pairs_to}
use Rattle.msc_race.proofs.Listing.Pairs.{pairs_none}
use Rattle.msc_ready.proofs.Left.{left_more, left_same}
use Rattle.msc_ready.proofs.Shared.{clash}
use Rattle.msc_ready.proofs.ready.Ready.count_left_from.Goals as goal
use Rattle.msc_ready.proofs.ready.Ready.count_left_from.Goals.{then-is_race_left, else-is_race_left}

pub loop-f-init : goal.loop-f-init
loop-f-init c = record { few = omega arith; number = λ left told. sym (ap length (pairs_none left c.args.e)) }

pub loop-f-preserved : goal.loop-f-preserved
loop-f-preserved c =
    let e : ℕ = c.args.e in
    let f : ℕ = c.loop-f.f in
    let few = c.loop-f.invariant.few in
    elim c.if-is_race_left.branch [
      | then-is_race_left w ↦ rw w.count-is (record {
        few = omega (arith, few);
        number = λ left told. left_more left e f c.loop-f.count ((told e f).1 (c.is_race_left.ensures.0 w.if-is_race_left.true)) (c.loop-f.invariant.number left told);
      })
      | else-is_race_left w ↦ rw w.count-is (record {
        few = omega (arith, few);
        number = λ left told. left_same left e f c.loop-f.count
            (false_from_ne_true _ (λ h. clash (c.is_race_left.ensures.1 ((told e f).0 h)) w.if-is_race_left.false)) (c.loop-f.invariant.number left told);
      })
    ]

pub overflow_add-count : goal.overflow_add-count
overflow_add-count c =
    let few = c.loop-f.invariant.few in
    let less = c.loop-f-test.true in
    let fits = c.events-f-end.type_inv in
    omega (arith, few, less, fits)

pub returns : goal.returns
returns c =
    let last = c.loop-f-test.false in
    let auto = c.loop-f.auto in
    let all = c.events-f-end.ensures in
    let few = c.loop-f.invariant.few in
    record {
      few = omega (arith, few, auto, all);
      number = λ left told. c.loop-f.invariant.number left told ∙ ap (λ (n : ℕ). length (pairs_to left c.args.e n)) (omega arith);
    }
