use Rattle.std.proofs.Common.{inl, inr}
use Rattle.msc_race.specs.Reversals.{ComesFirst}
use Rattle.msc_race.specs.Short.{HasNoNeededRun, IsWitnessUpTo, IsNeededRun, IsShortWitness}
use Rattle.msc_race.specs.Views.{wiring_of}
use Rattle.msc_race.proofs.Shared.{clash}
use Rattle.msc_race.proofs.enforced.Enforced.short_witness.Goals as goal

pub returns-in-Some : goal.returns-in-Some
returns-in-Some c =
    let self = c.args.self.now in
    let chart = wiring_of self in
    let e = c.args.e in
    let f = c.args.f in
    let run = c.in-Some.run'.items in
    let accepted = c.facts.ensures.chart in
    let needed : IsNeededRun chart f run = rw c.in-Some.is at c.in_ok-run.ensures in
    let apart : ComesFirst chart e f → ⊥ = λ first. elim first [
      | inl same ↦ c.if-e-f.false same
      | inr after ↦ clash (c.holds.ensures.exact.1 after) c.if-holds.false
    ] in
    record {
      short = inl needed;
      shows = c.short_witnesses_show.ensures.shows self.queues self.chart accepted e f c.requires.f_known apart run (inl needed);
      least = inl (c.short_witnesses_show.ensures.least self.queues self.chart accepted f run needed);
      apart = apart;
    }

pub returns-in_ok-witness_run-in-None : goal.returns-in_ok-witness_run-in-None
returns-in_ok-witness_run-in-None c =
    let self = c.args.self.now in
    let chart = wiring_of self in
    let e = c.args.e in
    let f = c.args.f in
    let run = c.up_to.result.items in
    let none : HasNoNeededRun chart f = rw c.in-None.is at c.in_ok-run.ensures in
    let upto : IsWitnessUpTo chart e f run = (c.in_ok-witness_run-in-None.field-0.items, c.in_ok-witness_run-in-None.ensures, c.up_to.ensures) in
    let short : IsShortWitness chart e f run = inr (none, upto) in
    let apart : ComesFirst chart e f → ⊥ = λ first. elim first [
      | inl same ↦ c.if-e-f.false same
      | inr after ↦ clash (c.holds.ensures.exact.1 after) c.if-holds.false
    ] in
    record {
      short = short;
      shows = c.short_witnesses_show.ensures.shows self.queues self.chart c.facts.ensures.chart e f c.requires.f_known apart run short;
      least = inr upto;
      apart = apart;
    }
