-- The messages at the places of an execution, and the clocks of these places.
use Rattle.std.proofs.Common.{◌≡◌, ℕ, ◌<◌, Bool, true, List, [], ◌∷◌, map, length, Some, slice_get, sym, ap, ◌∙◌, subst, refl}
use Rattle.msc_chart.specs.declared.queue.Queues.{Queues}
use Rattle.msc_chart.specs.Lists.{occurs}
use Rattle.msc_chart.specs.Charts.{line, message, is_output}
use Rattle.msc_chart.specs.Drawings.{Drawing, output_of}
use Rattle.msc_chart.specs.Orders.{wired, queue, queue_of}
use Rattle.msc_chart.proofs.ListLemmas.{clash, by_test}
use Rattle.msc_fifo.specs.declared.claim.Claim.{Claim}
use Rattle.msc_fifo.specs.declared.entry.Entry.TheVariants.{Message as Sent, Ended}
use Rattle.msc_fifo.specs.Claims.{claim, is_message}
use Rattle.msc_fifo.specs.Ends.{OutletState}
use Rattle.msc_fifo.proofs.PlaceLemmas.{own_among}
use Rattle.msc_execution.specs.Roles.{role, queues_in}
use Rattle.msc_execution.specs.Logs.{outputs_at}
use Rattle.msc_execution.specs.Growth.{claim_at}
use Rattle.msc_execution.specs.Executions.{Outcome, IsSettledFrom, log_at}
use Rattle.msc_execution.specs.Clocks.{QueuePlace, messages, place_clock}
use Rattle.msc_execution.specs.Clocks.QueuePlace.{Message}
use Rattle.msc_execution.specs.Shown.{as_place, places_at, shown_places}
use Rattle.msc_execution.proofs.Lists.Among.{among_front, map_at, at_map, occurs_among}
use Rattle.msc_execution.proofs.Wiring.Receivers.{queues_have}
use Rattle.msc_execution.proofs.Wiring.Logged.{output_there}
use Rattle.msc_execution.proofs.Clocks.Standing.{message_at, at_message, place_clock_is}
use Rattle.msc_execution.proofs.Clocks.Shown.{queue_place_of, places_are, place_entry}
use Rattle.msc_execution.proofs.Clocks.Sources.{IsRead, Source, settled, nothing, known_out, queue_out, outlet_at, claims_are, source}

module _ {queues : Queues} {d : Drawing} {open' : Bool} {patience : ℕ} {o : Outcome}
    (told : IsRead queues d open' patience o) where
  -- the places of a queue that has messages
  pub shown : (q : ℕ) (there : occurs (queues_in queues d) q ≡ true)
      → shown_places d o q ≡ map (queue_place_of d) (settled told q there).is_settled.log
  shown q there =
      let st : IsSettledFrom (length d.instances) told.exec.back q (places_at o.settled q) =
      settled told q there in
      ap (λ l. map (as_place d) l) st.is_settled.places_are ∙ places_are d st.is_settled.log

  -- a queue at whose places a message stands is one of the chart's
  pub has_places : (q s : ℕ) → occurs (messages (shown_places d o q)) s ≡ true
      → occurs (queues_in queues d) q ≡ true
  unfolding occurs messages
  has_places q s h =
      by_test (occurs (queues_in queues d) q) (λ there. there)
      (λ none. clash (subst (λ (l : List ℕ). occurs l s ≡ true)
      (ap (λ l. messages (map (as_place d) l)) (nothing told q none)) h) refl)

  -- a message at a place is that of a claim, and so of a logged output
  pub stands : (q : ℕ) (there : occurs (queues_in queues d) q ≡ true) (k i s n : ℕ)
      → slice_get (shown_places d o q) k ≡ Some (Message i s n)
      → (c : Claim) × (slice_get (settled told q there).is_settled.log k ≡ Some c)
      × (is_message c.entry ≡ true) × (c.clock ≡ n)
      × ((src : Source queues d o told.read q c) × (src.s ≡ s))
  stands q there k i s n at =
      let log : List Claim = (settled told q there).is_settled.log in
      let here =
      map_at (queue_place_of d) log (Message i s n) k
      (subst (λ (l : List QueuePlace). slice_get l k ≡ Some (Message i s n)) (shown q there) at) in
      let c : Claim = here.0 in
      let entry = place_entry d c.entry c.clock i s n here.2 in
      let m : ℕ = entry.0 in
      let is_sent : c.entry ≡ Sent i m = entry.1 in
      let is : is_message c.entry ≡ true = ap is_message is_sent in
      let src : Source queues d o told.read q c = source told q there c k here.1 is in
      let both : Sent i m ≡ Sent src.sender (message d.events src.s) = sym is_sent ∙ src.entry in
      let same : m ≡ message d.events src.s = cc in (
        c,
        here.1,
        is,
        entry.3,
        (
          src,
          sym (told.accepted.has_messages.back src.s src.output) ∙ ap (output_of d) (sym same)
              ∙ entry.2,
        ),
      )

  -- the clock of a message's place is the one that was read at its output
  pub place_read : (q s : ℕ) → occurs (messages (shown_places d o q)) s ≡ true
      → place_clock (shown_places d o q) s ≡ (told.read (line d.events s)).read_at s
  place_read q s h =
      let there = has_places q s h in
      place_clock_is (shown_places d o q) s ((told.read (line d.events s)).read_at s)
      (λ k i n at.
      let c = stands q there k i s n at in
      let src : Source queues d o told.read q c.0 = c.4.0 in
      sym c.3 ∙ src.clock ∙ ap (λ (x : ℕ). (told.read (line d.events x)).read_at x) c.4.1) h

  -- a logged output's message is put
  pub put : (s : ℕ) → s < length d.events → occurs (log_at o (line d.events s)) s ≡ true
      → is_output d.events s ≡ true
      → occurs (messages (shown_places d o (queue (wired queues d) s))) s ≡ true
  put s below logged output =
      let i : ℕ = line d.events s in
      let q : ℕ = queue_of queues d (message d.events s) in
      let i_below = told.accepted.on_lines.on_line s below in
      let there =
      queues_have queues d q (message d.events s) told.accepted
      (known_out told s below output) refl in
      let st : IsSettledFrom (length d.instances) told.exec.back q (places_at o.settled q) =
      settled told q there in
      let log : List Claim = st.is_settled.log in
      let found = outlet_at told s below output in
      let out : OutletState = found.0 in
      let claims = claims_are told i q out found.1.0 i_below found.1.1 in
      let c : Claim = claim_at (role queues d i) (log_at o i) (told.read i) out.sender s in
      let at =
      occurs_among (outputs_at queues d q (log_at o i)) s
      (output_there queues d q (log_at o i) s logged output refl) in
      let front : slice_get out.claims at.0 ≡ Some c =
      ap (λ (l : List Claim). slice_get l at.0) claims.1
      ∙ among_front (map (claim_at (role queues d i) (log_at o i) (told.read i) out.sender)
      (outputs_at queues d q (log_at o i))) (claim claims.0 (Ended out.sender) 0 0 ∷ []) c at.0
      (at_map (claim_at (role queues d i) (log_at o i) (told.read i) out.sender)
      (outputs_at queues d q (log_at o i)) s at.0 at.1) in
      let own = st.is_settled.is_log.claims out (st.all_there i out i_below found.1) in
      let among =
      (own_among out.sender at.0 log c
      (ap (λ (l : List Claim). slice_get l at.0) (sym own) ∙ front)).0 in
      let here = at_map (queue_place_of d) log c among.0 among.1 in
      let message_there : occurs (messages (map (queue_place_of d) log))
      (output_of d (message d.events s)) ≡ true =
      at_message (map (queue_place_of d) log)
      (output_of d (message d.events s)) out.sender c.clock among.0 here in
      let back : occurs (messages (shown_places d o q)) s ≡ true =
      ap (λ (l : List QueuePlace). occurs (messages l) s) (shown q there)
      ∙ subst (λ (z : ℕ). occurs (messages (map (queue_place_of d) log)) z ≡ true)
      (told.accepted.has_messages.back s output) message_there in
      subst (λ (z : ℕ). occurs (messages (shown_places d o z)) s ≡ true)
      (sym (queue_out told s below output)) back

  -- and a message at a place was put by a logged output
  pub was_put : (q s : ℕ) → occurs (messages (shown_places d o q)) s ≡ true
      → (s < length d.events) × (is_output d.events s ≡ true)
      × (occurs (log_at o (line d.events s)) s ≡ true) × (queue (wired queues d) s ≡ q)
  was_put q s h =
      let there = has_places q s h in
      let at = message_at (shown_places d o q) s h in
      let c = stands q there at.0 at.1 s at.2 at.3 in
      let src : Source queues d o told.read q c.0 = c.4.0 in
      subst (λ (z : ℕ). (z < length d.events) × (is_output d.events z ≡ true)
      × (occurs (log_at o (line d.events z)) z ≡ true) × (queue (wired queues d) z ≡ q)) c.4.1
      (src.below, src.output, src.logged, queue_out told src.s src.below src.output ∙ src.queue_is)
