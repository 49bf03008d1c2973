use Rattle.std.proofs.Common.{◌∙◌, sym, ap}
use Rattle.std.proofs.lemmas.Bool.{false≢true}
use Rattle.msc_chart.proofs.ListLemmas.{clash}
use Rattle.msc_execution.specs.Roles.{role}
use Rattle.msc_instance.specs.Fitting.{numbers_of_ends}
use Rattle.msc_instance.specs.Views.{ends_of}
use Rattle.msc_instance.proofs.TableLemmas.{outlet_room, fitting}
use Rattle.msc_instance.proofs.fitting.fit_counted.Goals as goal

pub returns-then-not-are_numbered : goal.returns-then-not-are_numbered
returns-then-not-are_numbered c = (
  λ wrong. absurd (false≢true wrong),
  λ fit.
      let numbers = ap numbers_of_ends c.as_slice.ensures.value ∙ fit.outlets
      ∙ sym c.count_own.ensures.sent in
      clash (c.are_numbered.ensures.1 numbers) c.if-not-are_numbered.true,
)

pub returns-then-not-are_numbered-2 : goal.returns-then-not-are_numbered-2
returns-then-not-are_numbered-2 c = (
  λ wrong. absurd (false≢true wrong),
  λ fit.
      let numbers = ap numbers_of_ends c.as_slice-2.ensures.value ∙ fit.inlets
      ∙ sym c.count_own.ensures.taken in
      clash (c.are_numbered-2.ensures.1 numbers) c.if-not-are_numbered-2.true,
)

pub returns : goal.returns
returns c =
    let r = role c.args.ends.now.queues c.args.chart.now c.args.i in
    let ends = ends_of c.args.ends.now in
    let sent = ap numbers_of_ends (sym c.as_slice.ensures.value)
    ∙ c.are_numbered.ensures.0 c.if-not-are_numbered.false ∙ c.count_own.ensures.sent in
    let taken = ap numbers_of_ends (sym c.as_slice-2.ensures.value)
    ∙ c.are_numbered-2.ensures.0 c.if-not-are_numbered-2.false ∙ c.count_own.ensures.taken in
    let quotas = c.count_own.ensures.quotas in (
      λ room. fitting r c.count_own.new.sent ends quotas sent taken
          (rw c.as_slice-3.ensures.value at (c.have_room.ensures.0 room)),
      λ fit. c.have_room.ensures.1 (rw c.as_slice-3.ensures.value
          (outlet_room r c.count_own.new.sent ends quotas fit)),
    )
