-- From the clauses of calls to logged outputs: each message at a place was put by one.
use Rattle.std.proofs.Common.{◌≡◌, ℕ, zero, suc, ◌+◌, ◌<◌, Bool, true, false, List, [], ◌∷◌, ◌++◌, map, length, Some, slice_get, inl, inr, sym, ap, ◌∙◌, subst, refl}
use Rattle.msc_chart.specs.declared.queue.Queues.{Queues}
use Rattle.msc_chart.specs.Lists.{occurs, until, Occurs}
use Rattle.msc_chart.specs.Charts.{line, message, is_output}
use Rattle.msc_chart.specs.Drawings.{Drawing, IsAccepted}
use Rattle.msc_chart.specs.Orders.{wired, queue, queue_of}
use Rattle.msc_chart.proofs.ListLemmas.{clash}
use Rattle.msc_chart.proofs.Drawn.{output_not_local}
use Rattle.msc_chart.proofs.QueueLemmas.{event_queue}
use Rattle.msc_fifo.specs.declared.claim.Claim.{Claim}
use Rattle.msc_fifo.specs.declared.entry.Entry.TheVariants.{Message as Sent, Ended}
use Rattle.msc_fifo.specs.declared.places.Place.{Place}
use Rattle.msc_fifo.specs.Claims.{claim, is_message}
use Rattle.msc_fifo.specs.Ends.{OutletState}
use Rattle.msc_fifo.specs.Entries.{sender_of as from_of, IsOrderly}
use Rattle.msc_fifo.specs.Settlement.{claims_of, entries_at}
use Rattle.msc_fifo.proofs.PlaceLemmas.{among_own, outlet_of}
use Rattle.msc_execution.specs.Roles.{NumberedOutlet, role, wired_ends, fresh_outlet, sent_queues, queues_in}
use Rattle.msc_execution.specs.Logs.{Reading, outputs_at, clock_along}
use Rattle.msc_execution.specs.Growth.{IsLeftBy, claim_at}
use Rattle.msc_execution.specs.Running.{IsRunBy}
use Rattle.msc_execution.specs.Executions.{Outcome, IsSettledFrom, IsExecution, log_at, end_at}
use Rattle.msc_execution.specs.Shown.{places_at}
use Rattle.msc_execution.proofs.Lists.Among.{among_cases, among_single, map_at, at_map, zip_right, zip_left, among_occurs, occurs_among}
use Rattle.msc_execution.proofs.Wiring.Logged.{output_at}
use Rattle.msc_execution.proofs.Wiring.Fitted.{have_outlets}
use Rattle.msc_execution.proofs.Clocks.Shown.{looked_up, none_up}

-- a claim is of one of the senders
sender_small : (n : ℕ) (log : List Claim) (c : Claim) (k : ℕ) → IsOrderly n (entries_at log)
    → slice_get log k ≡ Some c → from_of c.entry < n
sender_small n [] c k h at = cc
sender_small n (e ∷ log) c zero h at = let same : e ≡ c = cc in
    subst (λ (x : Claim). from_of x.entry < n) same h.0
sender_small n (e ∷ log) c (suc k) h at = sender_small n log c k h.2 at

-- an execution of an accepted chart, with what each instance read
pub record IsRead (queues : Queues) (d : Drawing) (open' : Bool) (patience : ℕ)
    (o : Outcome) : Type 0 where
  pub accepted : IsAccepted d
  pub exec : IsExecution queues d open' patience o
  pub read : ℕ → Reading
  pub runs : (i : ℕ) → i < length d.instances
      → IsRunBy (role queues d i) open' patience (read i) (wired_ends exec.id (role queues d i))
      (record { log = log_at o i; ends = exec.back i; end = end_at o i })

-- the output that a claim is of: it is logged, and the claim has its message, its offer and the
-- clock that was read there
pub record Source (queues : Queues) (d : Drawing) (o : Outcome) (read : ℕ → Reading) (q : ℕ)
    (c : Claim) : Type 0 where
  pub s : ℕ
  pub below : s < length d.events
  pub output : is_output d.events s ≡ true
  pub logged : occurs (log_at o (line d.events s)) s ≡ true
  pub queue_is : queue_of queues d (message d.events s) ≡ q
  pub sender : ℕ
  pub entry : c.entry ≡ Sent sender (message d.events s)
  pub offer : c.offer ≡ clock_along d (read (line d.events s)).read_at
      (until (log_at o (line d.events s)) s) + 1
  pub clock : c.clock ≡ (read (line d.events s)).read_at s

module _ {queues : Queues} {d : Drawing} {open' : Bool} {patience : ℕ} {o : Outcome}
    (told : IsRead queues d open' patience o) where
  -- a queue with a message was settled from the ends that came back
  pub settled : (q : ℕ) → occurs (queues_in queues d) q ≡ true
      → IsSettledFrom (length d.instances) told.exec.back q (places_at o.settled q)
  settled q there =
      let found =
      looked_up o.settled q (ap (λ (l : List ℕ). occurs l q) told.exec.numbers ∙ there) in
      subst (λ (l : List Place). IsSettledFrom (length d.instances) told.exec.back q l)
      (sym found.2)
      (told.exec.places q found.0 found.1)

  -- the others have no places
  pub nothing : (q : ℕ) → occurs (queues_in queues d) q ≡ false → places_at o.settled q ≡ []
  nothing q none = none_up o.settled q (ap (λ (l : List ℕ). occurs l q) told.exec.numbers ∙ none)

  -- the message of an output is a message of the chart
  pub known_out : (s : ℕ) → s < length d.events → is_output d.events s ≡ true
      → message d.events s < length d.messages
  known_out s below output =
      told.accepted.has_messages.known s below (output_not_local d.events s output)

  -- and its queue is that of the output
  pub queue_out : (s : ℕ) → s < length d.events → is_output d.events s ≡ true
      → queue (wired queues d) s ≡ queue_of queues d (message d.events s)
  queue_out s below output =
      event_queue queues d told.accepted s below (output_not_local d.events s output)

  -- a logged output has its outlet
  pub outlet_at : (s : ℕ) → s < length d.events → is_output d.events s ≡ true
      → (out : OutletState) × Occurs (told.exec.back (line d.events s)).outlets
      (queue_of queues d (message d.events s), out)
  outlet_at s below output =
      let i : ℕ = line d.events s in
      let q : ℕ = queue_of queues d (message d.events s) in
      let run = told.runs i (told.accepted.on_lines.on_line s below) in
      let there =
      occurs_among (sent_queues (role queues d i)) q
      (have_outlets queues d i s told.accepted output refl) in
      let found =
      zip_left (IsLeftBy (role queues d i) (log_at o i) (told.read i))
      (map (fresh_outlet told.exec.id (role queues d i)) (sent_queues (role queues d i)))
      (told.exec.back i).outlets
      (fresh_outlet told.exec.id (role queues d i) q) there.0 run.put
      (at_map (fresh_outlet told.exec.id (role queues d i))
      (sent_queues (role queues d i)) q there.0 there.1) in
      let new : NumberedOutlet = found.0 in
      let number : new.0 ≡ q = found.2.number in
      let same : new ≡ (q, new.1) = (λ j. (number j, new.1)) in
      (new.1, (found.1.0, found.1.1 ∙ (λ j. Some (same j))))

  -- the claims of an outlet that came back
  pub claims_are : (i q : ℕ) (out : OutletState) (k : ℕ) → i < length d.instances
      → slice_get (told.exec.back i).outlets k ≡ Some (q, out)
      → (place : ℕ) × (out.claims
      ≡ map (claim_at (role queues d i) (log_at o i) (told.read i) out.sender)
      (outputs_at queues d q (log_at o i)) ++ claim place (Ended out.sender) 0 0 ∷ [])
  claims_are i q out k below at =
      let run = told.runs i below in
      let log : List ℕ = log_at o i in
      let found =
      zip_right (IsLeftBy (role queues d i) log (told.read i))
      (map (fresh_outlet told.exec.id (role queues d i)) (sent_queues (role queues d i)))
      (told.exec.back i).outlets (q, out) k run.put at in
      let fresh =
      map_at (fresh_outlet told.exec.id (role queues d i))
      (sent_queues (role queues d i)) found.0 found.1.0 found.1.1 in
      let p : ℕ = fresh.0 in
      let left : IsLeftBy (role queues d i) log (told.read i)
      (fresh_outlet told.exec.id (role queues d i) p) (q, out) =
      subst (λ (z : NumberedOutlet). IsLeftBy (role queues d i) log (told.read i) z (q, out))
      (sym fresh.2) found.2 in
      let number : q ≡ p = left.number in
      let sender : out.sender ≡ (fresh_outlet told.exec.id (role queues d i) p).1.sender =
      left.same.1 in
      let c = left.claims refl in (
        c.0,
        subst (λ (z : ℕ). out.claims
            ≡ map (claim_at (role queues d i) log (told.read i) z) (outputs_at queues d q log)
            ++ claim c.0 (Ended z) 0 0 ∷ []) (sym sender)
            (subst (λ (z : ℕ). out.claims
            ≡ map (claim_at (role queues d i) log (told.read i)
            (fresh_outlet told.exec.id (role queues d i) p).1.sender)
            (outputs_at queues d z log)
            ++ claim c.0 (Ended (fresh_outlet told.exec.id (role queues d i) p).1.sender) 0 0 ∷
            []) (sym number) c.1),
      )

  -- a message's claim at a place is that of a logged output
  pub source : (q : ℕ) (there : occurs (queues_in queues d) q ≡ true) (c : Claim) (k : ℕ)
      → slice_get (settled q there).is_settled.log k ≡ Some c → is_message c.entry ≡ true
      → Source queues d o told.read q c
  source q there c k at is =
      let st : IsSettledFrom (length d.instances) told.exec.back q (places_at o.settled q) =
      settled q there in
      let log : List Claim = st.is_settled.log in
      let out =
      outlet_of (from_of c.entry) st.outlets
      (st.are_outlets.once (from_of c.entry)
      (sender_small st.inlet.senders log c k st.is_settled.is_log.orderly at)) in
      let own : OutletState = out.0 in
      let among : Occurs (claims_of own.sender log) c =
      among_own own.sender k log c at (sym out.2) in
      let mine : Occurs own.claims c =
      subst (λ (l : List Claim). Occurs l c)
      (sym (st.is_settled.is_log.claims own out.1)) among in
      let from = st.no_others own out.1 in
      let i : ℕ = from.0 in
      let claims = claims_are i q own from.2.0 from.1 from.2.1 in
      let here : Occurs (map (claim_at (role queues d i) (log_at o i) (told.read i) own.sender)
      (outputs_at queues d q (log_at o i)) ++ claim claims.0 (Ended own.sender) 0 0 ∷ []) c =
      subst (λ (l : List Claim). Occurs l c) claims.1 mine in
      elim (among_cases (map (claim_at (role queues d i) (log_at o i) (told.read i) own.sender)
      (outputs_at queues d q (log_at o i)))
      (claim claims.0 (Ended own.sender) 0 0 ∷ []) c here.0 here.1) [
        | inl front ↦
            let found =
            map_at (claim_at (role queues d i) (log_at o i) (told.read i) own.sender)
            (outputs_at queues d q (log_at o i)) c front.0 front.1 in
            let s : ℕ = found.0 in
            let parts =
            output_at queues d q (log_at o i) s
            (among_occurs (outputs_at queues d q (log_at o i)) s front.0 found.1) in
            let known = (told.runs i from.1).log.on_line s parts.0 in
            let is_line : line d.events s ≡ i = known.1 in
            record {
              s = s;
              below = known.0;
              output = parts.1;
              logged = subst (λ (j : ℕ). occurs (log_at o j) s ≡ true) (sym is_line) parts.0;
              queue_is = parts.2;
              sender = own.sender;
              entry = ap (λ (x : Claim). x.entry) (sym found.2);
              offer =
                  ap (λ (x : Claim). x.offer) (sym found.2)
                  ∙ ap (λ (j : ℕ). clock_along d (told.read j).read_at (until (log_at o j) s) + 1)
                  (sym is_line);
              clock =
                  ap (λ (x : Claim). x.clock) (sym found.2)
                  ∙ ap (λ (j : ℕ). (told.read j).read_at s) (sym is_line);
            }
        | inr back ↦
            let mark : claim claims.0 (Ended own.sender) 0 0 ≡ c =
            among_single (claim claims.0 (Ended own.sender) 0 0) c back.0 back.1 in
            clash is (ap (λ (x : Claim). is_message x.entry) (sym mark))
      ]
