-- The numbers of the queues of an instance's ends, and the room of its outlets.
use Rattle.std.proofs.Common.{◌≡◌, ℕ, zero, suc, ◌+◌, ◌<◌, true, List, [], ◌∷◌, ◌++◌, map, length, get_or, ap, ◌∙◌, arith, length-append}
use Rattle.std.specs.List.{AllZip, range_with_len}
use Rattle.std.proofs.lemmas.List.Elements.{AllZip-get_or, length_all_zip}
use Rattle.msc_chart.specs.Lists.{occurs}
use Rattle.msc_chart.specs.Charts.{message, is_output}
use Rattle.msc_chart.specs.Drawings.{IsAccepted}
use Rattle.msc_chart.specs.Orders.{queue_of, queue_bound}
use Rattle.msc_chart.proofs.ListLemmas.{occurs-head, occurs-tail, IsDistinct}
use Rattle.msc_fifo.specs.Ends.{HasRoom}
use Rattle.msc_execution.specs.Roles.{Role, EndLists, NumberedOutlet, NumberedInlet, IsFit, sent_queues, taken_queues, queues_below}
use Rattle.msc_execution.specs.Logs.{Reading, IsLogOf, sent, outputs_at}
use Rattle.msc_execution.specs.Fits.{LogsKeepQuotas}
use Rattle.msc_execution.proofs.Lists.Words.{once_filter, fails}
use Rattle.msc_execution.proofs.Lists.Ranges.{in_range}
use Rattle.msc_instance.specs.Steps.{IsPutBy, IsGotBy}
use Rattle.msc_instance.proofs.Growing.{outputs_more, map_push}
use Rattle.msc_instance.proofs.Zipped.{zip_numbers}

-- the number of an outlet's queue
abbrev pub outlet_number : NumberedOutlet → ℕ
outlet_number o = o.0

-- and of an inlet's
abbrev pub inlet_number : NumberedInlet → ℕ
inlet_number n = n.0

-- the numbers of queues below n ascend, so none stands twice
range_once : (a n : ℕ) → IsDistinct (range_with_len a n)
range_once a zero = tt
range_once a (suc n) = (
  fails (occurs (range_with_len (a + 1) n) a) (λ there. let r = in_range (a + 1) n a there in
      absurd (omega (arith, r.0))),
  range_once (a + 1) n,
)

-- an instance sends to each of its queues by one outlet
pub sent_once : (r : Role) → IsDistinct (sent_queues r)
unfolding sent_queues queues_below
sent_once r = once_filter _ _
    (once_filter _ (range_with_len 0 (queue_bound r.queues r.chart))
    (range_once 0 (queue_bound r.queues r.chart)))

-- and takes from each by one inlet
pub taken_once : (r : Role) → IsDistinct (taken_queues r)
unfolding taken_queues queues_below
taken_once r = once_filter _ _
    (once_filter _ (range_with_len 0 (queue_bound r.queues r.chart))
    (range_once 0 (queue_bound r.queues r.chart)))

module _ (r : Role) (first : EndLists) (fit : IsFit r first) where
  -- the numbers of the ends stay
  pub outlet_numbers : (log : List ℕ) (reading : Reading) (outs : List NumberedOutlet)
      → AllZip (IsPutBy r log reading) first.outlets outs
      → map outlet_number outs ≡ sent_queues r
  outlet_numbers log reading outs put =
      zip_numbers (IsPutBy r log reading) outlet_number first.outlets outs (λ x y own. own.number) put
      ∙ fit.outlets

  -- also those of the inlets
  pub inlet_numbers : (log : List ℕ) (reading : Reading) (ins : List NumberedInlet)
      → AllZip (IsGotBy r log reading) first.inlets ins
      → map inlet_number ins ≡ taken_queues r
  inlet_numbers log reading ins got =
      zip_numbers (IsGotBy r log reading) inlet_number first.inlets ins (λ x y own. own.number) got
      ∙ fit.inlets

  -- an outlet has room for one output more of the log
  pub has_room : (log : List ℕ) (reading : Reading) (outs : List NumberedOutlet) (k : ℕ)
      (o : NumberedOutlet) (e : ℕ)
      → LogsKeepQuotas → IsAccepted r.chart → IsLogOf r.chart r.number (log ++ e ∷ [])
      → is_output r.chart.events e ≡ true
      → k < length outs → queue_of r.queues r.chart (message r.chart.events e) ≡ (get_or outs k o).0
      → AllZip (IsPutBy r log reading) first.outlets outs → HasRoom (get_or outs k o).1
  has_room log reading outs k o e quotas accepted is output lt here put =
      let same = length_all_zip (IsPutBy r log reading) first.outlets outs put in
      let inside : k < length first.outlets = omega (arith, same) in
      let own = AllZip-get_or (IsPutBy r log reading) first.outlets outs k o o put inside in
      let room = fit.room k o inside in
      let q : ℕ = (get_or first.outlets k o).0 in
      let few = quotas r.queues r.chart q r.number (log ++ e ∷ []) accepted is in
      let more : sent r.queues r.chart q (log ++ e ∷ []) ≡ sent r.queues r.chart q log
      ++ message r.chart.events e ∷ [] =
      ap (map (message r.chart.events)) (outputs_more r log e q output (here ∙ own.number))
      ∙ map_push (message r.chart.events) (outputs_at r.queues r.chart q log) e in
      let long = ap length more
      ∙ length-append (sent r.queues r.chart q log) (message r.chart.events e ∷ []) in
      let put_long = ap length own.put
      ∙ length-append (get_or first.outlets k o).1.put (sent r.queues r.chart q log) in
      (own.opened, omega (arith, room.1, few, long, put_long, own.same.2))

-- the number at a place is one of the numbers
pub number_there : (ins : List NumberedInlet) (k : ℕ) (n : NumberedInlet) → k < length ins
    → occurs (map inlet_number ins) (get_or ins k n).0 ≡ true
number_there [] k n lt = absurd (omega arith)
number_there (x ∷ ins) zero n lt = occurs-head x.0 (map inlet_number ins)
number_there (x ∷ ins) (suc k) n lt = occurs-tail x.0 (map inlet_number ins) (get_or ins k n).0
    (number_there ins k n (omega arith))
