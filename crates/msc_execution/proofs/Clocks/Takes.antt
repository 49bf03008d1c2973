-- What the inlets of an execution took, and the clocks that were read there.
use Rattle.std.proofs.Common.{◌≡◌, ℕ, ◌<◌, Bool, true, ◌&&◌, List, ◌++◌, map, length, inl, inr, refl, sym, ap, ◌∙◌, subst, append_assoc}
use Rattle.std.specs.Prelude.{nat_eq}
use Rattle.std.proofs.lemmas.Bool.{eqb-true, and_parts}
use Rattle.msc_chart.specs.declared.queue.Queues.{Queues}
use Rattle.msc_chart.specs.Lists.{occurs}
use Rattle.msc_chart.specs.Charts.{line, message, partner, is_input}
use Rattle.msc_chart.specs.Drawings.{Drawing, output_of}
use Rattle.msc_chart.specs.Orders.{wired, queue, queue_of}
use Rattle.msc_chart.proofs.Drawn.{input_not_local}
use Rattle.msc_chart.proofs.QueueLemmas.{event_queue}
use Rattle.msc_fifo.specs.declared.claim.Claim.{Claim}
use Rattle.msc_fifo.specs.declared.entry.Entry.TheVariants.{Message as Sent}
use Rattle.msc_fifo.specs.Claims.{is_message}
use Rattle.msc_fifo.specs.Settlement.{entries_at}
use Rattle.msc_gather.specs.Schedule.{IsSeated}
use Rattle.msc_execution.specs.Roles.{NumberedInlet, role, fresh_inlet, taken_queues, queues_in}
use Rattle.msc_execution.specs.Logs.{Begins, inputs_at}
use Rattle.msc_execution.specs.Growth.{HasTaken, all_messages, clocks_at}
use Rattle.msc_execution.specs.Executions.{Outcome, IsSettledFrom, log_at}
use Rattle.msc_execution.specs.Clocks.{messages, place_clock}
use Rattle.msc_execution.specs.Timed.{taken_from}
use Rattle.msc_execution.specs.Shown.{places_at, shown_places}
use Rattle.msc_execution.proofs.Lists.Among.{map_at, zip_right, among_occurs, none_or_some}
use Rattle.msc_execution.proofs.Wiring.Receivers.{queues_have}
use Rattle.msc_execution.proofs.Wiring.Logged.{input_there}
use Rattle.msc_execution.proofs.Settling.Placed.{all_messages-append}
use Rattle.msc_execution.proofs.Clocks.Standing.{taken_claims}
use Rattle.msc_execution.proofs.Clocks.Shown.{messages_are, map-join, taken_has_input, output_of_input, taken_is}
use Rattle.msc_execution.proofs.Clocks.Sources.{IsRead, Source, settled, queue_out, source}
use Rattle.msc_execution.proofs.Clocks.Puts.{shown, place_read, put}

module _ {queues : Queues} {d : Drawing} {open' : Bool} {patience : ℕ} {o : Outcome}
    (told : IsRead queues d open' patience o)
    (seated : IsSeated (wired queues d) (length d.instances)) where
  -- the message of an input is a message of the chart
  known_in : (r : ℕ) → r < length d.events → is_input d.events r ≡ true
      → message d.events r < length d.messages
  known_in r below input =
      told.accepted.has_messages.known r below (input_not_local d.events r input)

  -- and its queue is that of the input
  queue_in : (r : ℕ) → r < length d.events → is_input d.events r ≡ true
      → queue (wired queues d) r ≡ queue_of queues d (message d.events r)
  queue_in r below input =
      event_queue queues d told.accepted r below (input_not_local d.events r input)

  -- what the inlet of a queue took
  pub inlet_took : (q : ℕ) (there : occurs (queues_in queues d) q ≡ true)
      → (occurs (taken_queues (role queues d (settled told q there).receiver)) q ≡ true)
      × ((ms : List ℕ) × (all_messages (settled told q there).inlet.got
      ≡ map (message d.events) (inputs_at queues d q (log_at o (settled told q there).receiver))
      ++ ms))
      × ((ns : List ℕ) × (clocks_at (settled told q there).inlet.got
      (settled told q there).inlet.clocks
      ≡ map (told.read (settled told q there).receiver).read_at
      (inputs_at queues d q (log_at o (settled told q there).receiver)) ++ ns))
  inlet_took q there =
      let st : IsSettledFrom (length d.instances) told.exec.back q (places_at o.settled q) =
      settled told q there in
      let j : ℕ = st.receiver in
      let run = told.runs j st.is_instance in
      let log : List ℕ = log_at o j in
      let found =
      zip_right (HasTaken (role queues d j) log (told.read j) run.strange)
      (map (fresh_inlet told.exec.id (role queues d j)) (taken_queues (role queues d j)))
      (told.exec.back j).inlets (q, st.inlet) st.own.0 run.got st.own.1 in
      let fresh =
      map_at (fresh_inlet told.exec.id (role queues d j))
      (taken_queues (role queues d j)) found.0 found.1.0 found.1.1 in
      let p : ℕ = fresh.0 in
      let left : HasTaken (role queues d j) log (told.read j) run.strange
      (fresh_inlet told.exec.id (role queues d j) p) (q, st.inlet) =
      subst (λ (z : NumberedInlet).
      HasTaken (role queues d j) log (told.read j) run.strange z (q, st.inlet))
      (sym fresh.2) found.2 in
      let number : q ≡ p = left.number in
      let clocks = left.clocks in (
        subst (λ (z : ℕ). occurs (taken_queues (role queues d j)) z ≡ true) (sym number)
            (among_occurs (taken_queues (role queues d j)) p found.1.0 fresh.1),
        (
          run.strange p,
          subst (λ (z : ℕ). all_messages st.inlet.got
              ≡ map (message d.events) (inputs_at queues d z log) ++ run.strange p)
              (sym number) left.got,
        ),
        (
          clocks.0,
          subst (λ (z : ℕ). clocks_at st.inlet.got st.inlet.clocks
              ≡ map (told.read j).read_at (inputs_at queues d z log) ++ clocks.0)
              (sym number) clocks.1,
        ),
      )

  -- it is on the line of the inputs of the queue
  pub receiver_is : (q : ℕ) (there : occurs (queues_in queues d) q ≡ true) (r : ℕ)
      → is_input d.events r ≡ true → queue (wired queues d) r ≡ q
      → line d.events r ≡ (settled told q there).receiver
  receiver_is q there r input same =
      let took = inlet_took q there in
      let u = taken_has_input queues d told.accepted (settled told q there).receiver q took.0 in
      seated.one_receiver r u.0 input u.1 (same ∙ sym u.3) ∙ u.2

  -- what a log took from a queue are the messages of its first places
  pub taken : (i q : ℕ) → i < length d.instances
      → Begins (taken_from (wired queues d) q (log_at o i)) (messages (shown_places d o q))
  unfolding taken_from
  taken i q below =
      let log : List ℕ = log_at o i in
      elim (none_or_some (λ e. is_input d.events e && nat_eq (queue (wired queues d) e) q) log) [
        | inl none ↦ (
          messages (shown_places d o q),
          ap
              (λ (l : List ℕ). map (partner d.events) l ++ messages (shown_places d o q)) (sym none),
        )
        | inr some ↦
            let r : ℕ = some.0 in
            let passes = and_parts _ _ some.2 in
            let r_queue : queue (wired queues d) r ≡ q = eqb-true _ _ passes.1 in
            let r_known = (told.runs i below).log.on_line r some.1 in
            let there =
            queues_have queues d q (message d.events r) told.accepted
            (known_in r r_known.0 passes.0) (sym (queue_in r r_known.0 passes.0) ∙ r_queue) in
            let st : IsSettledFrom (length d.instances) told.exec.back q (places_at o.settled q) =
            settled told q there in
            let took = inlet_took q there in
            let is_receiver : st.receiver ≡ i =
            sym (receiver_is q there r passes.0 r_queue) ∙ r_known.1 in
            let got : all_messages st.inlet.got
            ≡ map (message d.events) (inputs_at queues d q log) ++ took.1.0 =
            subst (λ (z : ℕ). all_messages st.inlet.got
            ≡ map (message d.events) (inputs_at queues d q (log_at o z))
            ++ took.1.0) is_receiver took.1.1 in
            let claimed = st.is_settled.is_log.got in
            let more : List ℕ = all_messages claimed.0 in
            let ms : List ℕ = map (message d.events) (inputs_at queues d q log) in
            let all : all_messages (entries_at st.is_settled.log) ≡ ms ++ (took.1.0 ++ more) =
            ap all_messages claimed.1 ∙ all_messages-append st.inlet.got claimed.0
            ∙ ap (λ l. l ++ more) got ∙ append_assoc ms took.1.0 more in (
              map (output_of d) (took.1.0 ++ more),
              ap messages (shown told q there) ∙ messages_are d st.is_settled.log
                  ∙ ap (map (output_of d)) all ∙ map-join (output_of d) ms (took.1.0 ++ more)
                  ∙ ap (λ l. l ++ map (output_of d) (took.1.0 ++ more))
                  (sym (taken_is queues d told.accepted q log
                  (λ e e_there. ((told.runs i below).log.on_line e e_there).0))),
            )
      ]

  -- the clock that was read at an input is that of the place of its message
  pub input_read : (r : ℕ) → r < length d.events → occurs (log_at o (line d.events r)) r ≡ true
      → is_input d.events r ≡ true
      → (told.read (line d.events r)).read_at r
      ≡ place_clock (shown_places d o (queue (wired queues d) r)) (partner d.events r)
  input_read r below logged input =
      let q : ℕ = queue (wired queues d) r in
      let i : ℕ = line d.events r in
      let log : List ℕ = log_at o i in
      let q_is : queue_of queues d (message d.events r) ≡ q = sym (queue_in r below input) in
      let there =
      queues_have queues d q (message d.events r) told.accepted (known_in r below input) q_is in
      let st : IsSettledFrom (length d.instances) told.exec.back q (places_at o.settled q) =
      settled told q there in
      let took = inlet_took q there in
      let is_receiver : st.receiver ≡ i = sym (receiver_is q there r input refl) in
      let got : all_messages st.inlet.got
      ≡ map (message d.events) (inputs_at queues d q log) ++ took.1.0 =
      subst (λ (z : ℕ). all_messages st.inlet.got
      ≡ map (message d.events) (inputs_at queues d q (log_at o z))
      ++ took.1.0) is_receiver took.1.1 in
      let clocks : clocks_at st.inlet.got st.inlet.clocks
      ≡ map (told.read i).read_at (inputs_at queues d q log) ++ took.2.0 =
      subst (λ (z : ℕ). clocks_at st.inlet.got st.inlet.clocks
      ≡ map (told.read z).read_at (inputs_at queues d q (log_at o z))
      ++ took.2.0) is_receiver took.2.1 in
      let claimed =
      taken_claims st.is_settled.log st.inlet.got st.inlet.clocks st.is_settled.is_log.got.0
      (inputs_at queues d q log) (message d.events) (told.read i).read_at took.1.0 took.2.0
      st.is_settled.is_log.got.1 st.is_settled.is_log.clocks got clocks r
      (input_there queues d q log r logged input q_is) in
      let c : Claim = claimed.0 in
      let is_sent : c.entry ≡ Sent claimed.2.0 (message d.events r) = claimed.2.1 in
      let src : Source queues d o told.read q c =
      source told q there c claimed.1.0 claimed.1.1 (ap is_message is_sent) in
      let both : Sent claimed.2.0 (message d.events r) ≡ Sent src.sender (message d.events src.s) =
      sym is_sent ∙ src.entry in
      let same : message d.events r ≡ message d.events src.s = cc in
      let s_is : src.s ≡ partner d.events r =
      sym (told.accepted.has_messages.back src.s src.output) ∙ ap (output_of d) (sym same)
      ∙ output_of_input queues d told.accepted r input in
      let s_there : occurs (messages (shown_places d o q)) src.s ≡ true =
      subst (λ (z : ℕ). occurs (messages (shown_places d o z)) src.s ≡ true)
      (queue_out told src.s src.below src.output ∙ src.queue_is)
      (put told src.s src.below src.logged src.output) in
      sym claimed.3 ∙ src.clock ∙ sym (place_read told q src.s s_there)
      ∙ ap (place_clock (shown_places d o q)) s_is
