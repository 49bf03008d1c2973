use Rattle.std.proofs.Common.{inl, inr, sym}
use Rattle.msc_chart.specs.Witness.{IsFree}
use Rattle.msc_chart.specs.Orders.{Enforced}
use Rattle.msc_race.specs.Views.{wiring_of}
use Rattle.msc_race.proofs.Shared.{clash}
use Rattle.msc_race.proofs.enforced.Enforced.reversing_run.Goals as goal

pub returns : goal.returns
returns c =
    let self = c.args.self.now in
    let chart = wiring_of self in
    let laws = c.the_witness_reverses.ensures in
    let run = c.in_ok-witness_run.field-0.items in
    let witness = c.in_ok-witness_run.ensures in
    let apart = λ (after : Enforced chart c.args.e c.args.f). clash (c.holds.ensures.exact.1 after) c.if-holds.false in
    let free : IsFree chart c.args.e c.args.f = (c.requires.f_known, λ same. c.if-e-f.false (sym same), apart) in
    let whole = laws.whole self.queues self.chart c.args.e run witness in
    let reverses = laws.reverses self.queues self.chart c.args.e run witness c.args.f free in
    record {
      witness = witness;
      run = whole.0;
      whole = whole.1;
      reverses = reverses.0;
      apart = λ first. elim first [ inl same ↦ c.if-e-f.false same | inr after ↦ apart after ];
      before = reverses.1;
    }
