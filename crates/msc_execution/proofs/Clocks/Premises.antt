-- All that the laws of clocks ask of an execution.
use Rattle.std.proofs.Common.{◌≡◌, ℕ, ◌<◌, ◌≤◌, max, Bool, true, List, [], length, refl, sym, ap, ◌∙◌, subst, arith}
use Rattle.msc_chart.specs.declared.queue.Queues.{Queues}
use Rattle.msc_chart.specs.Lists.{occurs, until}
use Rattle.msc_chart.specs.Charts.{line, partner, is_output, is_input}
use Rattle.msc_chart.specs.Drawings.{Drawing}
use Rattle.msc_chart.specs.Orders.{wired, queue}
use Rattle.msc_chart.proofs.ListLemmas.{by_test, step_at, until-within, Steps-map}
use Rattle.msc_fifo.specs.declared.claim.Claim.{Claim}
use Rattle.msc_gather.specs.Schedule.{IsSeated}
use Rattle.msc_gather.proofs.Once.{IsNew}
use Rattle.msc_execution.specs.Logs.{MayBeLogged, clock_next, clock_along}
use Rattle.msc_execution.specs.Executions.{Outcome, log_at}
use Rattle.msc_execution.specs.Clocks.{messages, place_clock, greatest_offer, clock_step, clock_after, offer_of}
use Rattle.msc_execution.specs.Timed.{IsTimed}
use Rattle.msc_execution.specs.Shown.{shown_places}
use Rattle.msc_execution.proofs.Clocks.Along.{along_places}
use Rattle.msc_execution.proofs.Clocks.Standing.{message_at, offers_below}
use Rattle.msc_execution.proofs.Clocks.Sources.{IsRead, Source, settled, queue_out, source}
use Rattle.msc_execution.proofs.Clocks.Puts.{has_places, stands, place_read, put, was_put}
use Rattle.msc_execution.proofs.Clocks.Takes.{taken, input_read}

module _ {queues : Queues} {d : Drawing} {open' : Bool} {patience : ℕ} {o : Outcome}
    (told : IsRead queues d open' patience o)
    (seated : IsSeated (wired queues d) (length d.instances)) where
  -- each event of a log moves the recorded clock as the places do
  step_is : (e : ℕ) → e < length d.events → occurs (log_at o (line d.events e)) e ≡ true → (c : ℕ)
      → clock_next d (told.read (line d.events e)).read_at c e
      ≡ clock_step (wired queues d) (shown_places d o) c e
  unfolding clock_next clock_step
  step_is e below logged c =
      by_test (is_output d.events e)
      (λ output. rw output (sym
      (place_read told (queue (wired queues d) e) e (put told e below logged output))))
      (λ other. rw other (by_test (is_input d.events e)
      (λ input. rw input (ap (max c) (input_read told seated e below logged input
      ∙ ap (λ (q : ℕ). place_clock (shown_places d o q) (partner d.events e))
      (sym (seated.is_wired.one_queue e below)))))
      (λ none. rw none refl)))

  -- along a beginning of a log the clock is that of the laws
  pub along_is : (i : ℕ) (past : List ℕ) → i < length d.instances
      → ((e : ℕ) → occurs past e ≡ true → occurs (log_at o i) e ≡ true)
      → clock_along d (told.read i).read_at past ≡ clock_after (wired queues d) (shown_places d o) past
  along_is i past i_below inside =
      along_places (wired queues d) d (shown_places d o) (told.read i).read_at 0 past (λ e there c.
      let known = (told.runs i i_below).log.on_line e (inside e there) in
      subst (λ (j : ℕ). clock_next d (told.read j).read_at c e
      ≡ clock_step (wired queues d) (shown_places d o) c e) known.1
      (step_is e known.0 (subst (λ (j : ℕ). occurs (log_at o j) e ≡ true) (sym known.1)
      (inside e there)) c))

  -- the offer that was recorded is that of the laws
  offer_is : (q : ℕ) (c : Claim) (src : Source queues d o told.read q c)
      → c.offer ≡ offer_of (wired queues d) o.logs (shown_places d o) src.s
  offer_is q c src =
      let same =
      along_is (line d.events src.s) (until (log_at o (line d.events src.s)) src.s)
      (told.accepted.on_lines.on_line src.s src.below)
      (λ e there. until-within (log_at o (line d.events src.s)) src.s e there) in
      let offer = src.offer in
      omega arith

  -- the clock of a place is at least each offer up to it
  reaches : (q s : ℕ) → occurs (messages (shown_places d o q)) s ≡ true
      → greatest_offer (offer_of (wired queues d) o.logs (shown_places d o))
      (shown_places d o q) s ≤ place_clock (shown_places d o q) s
  reaches q s h =
      let there = has_places told q s h in
      let is_log = (settled told q there).is_settled.is_log in
      offers_below (offer_of (wired queues d) o.logs (shown_places d o))
      (place_clock (shown_places d o q) s) (shown_places d o q) s
      (λ j k i x n a m le at_j at_k.
      let e = stands told q there j i x n at_j in
      let c = stands told q there k a s m at_k in
      let e_src : Source queues d o told.read q e.0 = e.4.0 in
      let c_src : Source queues d o told.read q c.0 = c.4.0 in
      let e_place : e.0.place ≡ j = is_log.numbered j e.0 e.1 in
      let c_place : c.0.place ≡ k = is_log.numbered k c.0 c.1 in
      let covered : e.0.offer ≤ c.0.clock =
      is_log.covers c.0 e.0 (k, c.1) c.2 (j, e.1) (omega arith) in
      let offer : e.0.offer ≡ offer_of (wired queues d) o.logs (shown_places d o) x =
      offer_is q e.0 e_src ∙ ap (offer_of (wired queues d) o.logs (shown_places d o)) e.4.1 in
      let clock : c.0.clock ≡ place_clock (shown_places d o q) s =
      c_src.clock ∙ ap (λ (z : ℕ). (told.read (line d.events z)).read_at z) c.4.1
      ∙ sym (place_read told q s h) in
      omega arith) h

  -- and it is an offer
  offered : (q s : ℕ) → occurs (messages (shown_places d o q)) s ≡ true
      → (t : ℕ) × (occurs (messages (shown_places d o q)) t ≡ true)
      × (place_clock (shown_places d o q) s ≡ offer_of (wired queues d) o.logs (shown_places d o) t)
  offered q s h =
      let there = has_places told q s h in
      let is_log = (settled told q there).is_settled.is_log in
      let at = message_at (shown_places d o q) s h in
      let c = stands told q there at.0 at.1 s at.2 at.3 in
      let c_src : Source queues d o told.read q c.0 = c.4.0 in
      let clock : c.0.clock ≡ place_clock (shown_places d o q) s =
      c_src.clock ∙ ap (λ (z : ℕ). (told.read (line d.events z)).read_at z) c.4.1
      ∙ sym (place_read told q s h) in
      let e = is_log.offered c.0 (at.0, c.1) c.2 in
      let src : Source queues d o told.read q e.0 = source told q there e.0 e.1.0 e.1.1 e.2 in (
        src.s,
        subst (λ (z : ℕ). occurs (messages (shown_places d o z)) src.s ≡ true)
            (queue_out told src.s src.below src.output ∙ src.queue_is)
            (put told src.s src.below src.logged src.output),
        sym clock ∙ sym e.3 ∙ offer_is q e.0 src,
      )

  -- all premises of the laws on clocks
  pub is_timed : IsTimed (wired queues d) (length d.instances) o.logs (shown_places d o)
  is_timed = record {
    lines = record {
      as_many = told.exec.logs;
      known = λ i e below h. (told.runs i below).log.on_line e h;
      once =
          λ i below. Steps-map (MayBeLogged d) IsNew (λ past x may. may.new) [] (log_at o i)
          (told.runs i below).log.steps;
      drawn = λ s x below logged controlled b.
          let at =
          step_at (MayBeLogged d) (log_at o (line d.events s)) s
          (told.runs (line d.events s) (told.accepted.on_lines.on_line s below)).log.steps
          logged in
          at.1.drawn controlled x b;
    };
    put = put told;
    was_put = was_put told;
    taken = taken told seated;
    reaches = reaches;
    offered = offered;
  }
