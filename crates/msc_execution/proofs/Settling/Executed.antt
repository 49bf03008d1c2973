-- An execution is what its instances logged, and a finished one leaves nothing.
use Rattle.std.proofs.Common.{◌≡◌, ◌≢◌, ℕ, ◌<◌, true, eqb, List, [], ◌∷◌, ◌++◌, length, get_or, refl, sym, ap, ◌∙◌, inl, inr, arith, subst}
use Rattle.std.specs.Prelude.{Bool, Some, slice_get}
use Rattle.std.proofs.lemmas.Bool.{eq-eqb, eqb-true, cases_lt}
use Rattle.std.proofs.lemmas.List.{get_or_past}
use Rattle.std.proofs.lemmas.Option.{slice_get-get_or, slice_get_within}
use Rattle.msc_chart.specs.declared.queue.Queues.{Queues}
use Rattle.msc_chart.specs.Lists.{occurs, Occurs}
use Rattle.msc_chart.specs.Charts.{line}
use Rattle.msc_chart.specs.Drawings.{Drawing, IsAccepted, input_of, sender_of, receiver_of}
use Rattle.msc_chart.specs.Laws.{senders_in}
use Rattle.msc_chart.proofs.ListLemmas.{occurs_at, occurs-head, occurs-right, IsDistinct}
use Rattle.msc_chart.proofs.Readers.{input_in}
use Rattle.msc_fifo.specs.Identity.{QueueId}
use Rattle.msc_fifo.specs.declared.accounts.Account.{Account}
use Rattle.msc_fifo.specs.declared.accounts.Settled.{Settled}
use Rattle.msc_fifo.specs.Ends.{OutletState, InletState}
use Rattle.msc_ending.specs.declared.end.End.{End}
use Rattle.msc_ending.specs.declared.end.End.TheVariants.{Finished, Foreign}
use Rattle.msc_execution.specs.Roles.{EndLists, role, queues_in}
use Rattle.msc_execution.specs.Logs.{Begins, IsWholeLog, sent, received, received_from}
use Rattle.msc_execution.specs.Running.{EndsAs}
use Rattle.msc_execution.specs.Executions.{Outcome, log_at, end_at, placed_messages, AreAccounts, IsSettledFrom, IsExecution, AreFinished, IsFinished}
use Rattle.msc_execution.specs.Settling.{of_queue, FinishedExecutionsLeaveNothing}
use Rattle.msc_execution.proofs.Lists.Words.{kept, once_apart}
use Rattle.msc_execution.proofs.Wiring.Receivers.{the_receiver}
use Rattle.msc_execution.proofs.Wiring.Logged.{sent_is, sent_once, taken_by}
use Rattle.msc_execution.proofs.Settling.Came.{came_of, all_outlets, all_inlets, HaveRunFresh, HaveEnded, AreSettled}
use Rattle.msc_execution.proofs.Settling.FlatLists.{flat_lists}
use Rattle.msc_execution.proofs.Settling.Accounts.{accounts}
use Rattle.msc_execution.proofs.Settling.Ended.{runs_ended}
use Rattle.msc_execution.proofs.Settling.Told.{in_senders, same_inlet, nobody, told}
use Rattle.msc_execution.proofs.Settling.Backs.{bucket_has, bucket_of, numbered}
use Rattle.msc_execution.proofs.Settling.Placed.{got_first}

module _ {queues : Queues} {d : Drawing} {open' : Bool} {patience : ℕ} {id : ℕ → QueueId}
    (o : Outcome) (back : ℕ → EndLists)
    (accepted : IsAccepted d) (ended : HaveEnded queues d open' patience id (came_of o back))
    (all : AreSettled queues d (came_of o back) o.settled) where
  -- the outlets of a queue
  abbrev bucket : ℕ → List OutletState
  bucket q = of_queue q (all_outlets (came_of o back) (length d.instances))

  -- a settled queue has a message
  in_use : (q : ℕ) (s : Settled) → Occurs o.settled (q, s) → occurs (queues_in queues d) q ≡ true
  in_use q s there =
      ap (λ (l : List ℕ). occurs l q) (sym all.numbers) ∙ numbered q s o.settled there.0 there.1

  -- it was settled from the ends that came back
  settled_from : (q : ℕ) (s : Settled) → Occurs o.settled (q, s)
      → IsSettledFrom (length d.instances) back q s.places.items
  settled_from q s there =
      let ends =
      flat_lists q accepted ended.grown (in_use q s there) in
      let is =
      same_inlet ends
      (all.each q s there) in
      let among : Occurs (of_queue q (all_inlets (came_of o back) (length d.instances)))
      ends.inlet =
      subst (λ (l : List InletState). Occurs l ends.inlet) (sym ends.alone) (0, refl) in
      let (r, within, own) =
      bucket_of (λ i. (back i).inlets) (length d.instances) q ends.inlet among in
      record {
        inlet = ends.inlet;
        outlets = bucket q;
        receiver = r;
        is_instance = within;
        own = own;
        all_there = λ i x lt h. bucket_has (λ i. (back i).outlets) (length d.instances) q i x lt h;
        no_others = λ x h. bucket_of (λ i. (back i).outlets) (length d.instances) q x h;
        are_outlets = ends.whole;
        is_settled = is.places;
      }

  -- its accounts are what its senders and its receiver logged
  accounts_of : (q : ℕ) (s : Settled) → Occurs o.settled (q, s) → AreAccounts queues d o q s
  accounts_of q s there =
      let here = in_use q s there in
      let ends = flat_lists q accepted ended.grown here in
      let a =
      accounts ends
      (same_inlet ends
      (all.each q s there)) in
      let t =
      told accepted ended all q ends here in
      record {
        many = a.many;
        each = λ k i at.
            let (account, stands, is) = a.each k i at in
            let w = in_senders queues d q i (sender_occurs q k i at) in (
              account,
              stands,
              record {
                put = is.put;
                taken = λ r takes.
                    let same : r ≡ ends.receiver =
                    eqb-true r ends.receiver (sym (ends.takes r) ∙ takes) in
                    is.taken ∙ t.each i w.0 w.1
                    ∙ ap (λ (x : ℕ). received_from queues d q i (log_at o x)) (sym same);
                left = is.left;
                closed = is.closed;
              },
            );
        first = λ r takes.
            let same : r ≡ ends.receiver = eqb-true r ends.receiver (sym (ends.takes r) ∙ takes) in
            let is =
            same_inlet ends
            (all.each q s there) in
            subst (λ (l : List ℕ). Begins l (placed_messages s.places.items))
            (t.all ∙ ap (λ (x : ℕ). received queues d q (log_at o x)) (sym same))
            (got_first ends.inlet (bucket q) s.places.items is.places);
      }
    where
      -- sender k of a queue is one of its senders
      sender_occurs : (q k i : ℕ) → slice_get (senders_in queues d q) k ≡ Some i
          → occurs (senders_in queues d q) i ≡ true
      sender_occurs q k i at =
          let lt = slice_get_within (senders_in queues d q) k i at in
          let same : get_or (senders_in queues d q) k 0 ≡ i =
          (let e = slice_get-get_or (senders_in queues d q) k 0 lt in cc) in
          subst (λ (x : ℕ). occurs (senders_in queues d q) x ≡ true) same
          (occurs_at (senders_in queues d q) k lt)

  -- and got nothing strange
  own : length o.ends ≡ length d.instances → (i m : ℕ) → end_at o i ≢ Foreign m
  own many i m is = elim (cases_lt i (length d.instances)) [
    | inl lt ↦ nobody accepted ended all i m lt is
    | inr ge ↦ (let e : get_or o.ends i Finished ≡ Finished =
        get_or_past o.ends i Finished (omega arith) in absurd (cc))
  ]

-- runs of all instances from fresh ends, and settled queues, are an execution
pub executed : (queues : Queues) (d : Drawing) (open' : Bool) (patience : ℕ) (id : ℕ → QueueId)
    (o : Outcome) (back : ℕ → EndLists)
    → IsAccepted d → length o.logs ≡ length d.instances → length o.ends ≡ length d.instances
    → HaveRunFresh queues d open' patience id (came_of o back)
    → AreSettled queues d (came_of o back) o.settled
    → IsExecution queues d open' patience o
executed queues d open' patience id o back accepted logs ends runs all =
    let ended = runs_ended queues d open' patience id (came_of o back) runs in
    record {
      logs = logs;
      ends = ends;
      id = id;
      back = back;
      runs = runs;
      numbers = all.numbers;
      accounts = accounts_of o back accepted ended all;
      places = settled_from o back accepted ended all;
      own = own o back accepted ended all ends;
    }

-- a list in which nothing occurs is empty
no_member : (xs : List ℕ) → ((m : ℕ) → occurs xs m ≡ true → ⊥) → xs ≡ []
no_member [] f = refl
no_member (x ∷ xs) f = absurd (f x (occurs-head x xs))

module _ {queues : Queues} {d : Drawing} {open' : Bool} {patience : ℕ} {o : Outcome}
    (accepted : IsAccepted d) (x : IsExecution queues d open' patience o)
    (finished : AreFinished o.ends) where
  -- the log of an instance that has finished is whole
  whole_log : (i : ℕ) → i < length d.instances → IsWholeLog d i (log_at o i)
  whole_log i lt =
      let run = x.runs i lt in
      let is : get_or o.ends i Finished ≡ Finished = finished i (let e = x.ends in omega arith) in
      let r =
      subst (λ (e : End). EndsAs (role queues d i) open' patience run.reading
      (record { log = log_at o i; ends = x.back i; end = end_at o i }) run.run.strange e) is
      run.run.ended in
      r.1

  -- so each event is logged
  whole : (e : ℕ) → e < length d.events → occurs (log_at o (line d.events e)) e ≡ true
  whole e below = whole_log (line d.events e) (accepted.on_lines.on_line e below) e below refl

  -- the input of a message is in its receiver's log
  input_logged : (m : ℕ) → m < length d.messages
      → occurs (log_at o (receiver_of d m)) (input_of d m) ≡ true
  unfolding receiver_of
  input_logged m below = whole (input_of d m) (input_in d accepted m below)

  -- a message that is left was sent and, as its input is logged, taken: it would stand twice
  nothing_left : (q : ℕ) (s : Settled) (k : ℕ) (a : Account) → Occurs o.settled (q, s)
      → slice_get s.senders.items k ≡ Some a → a.left ≡ []
  nothing_left q s k a there at =
      let here : occurs (queues_in queues d) q ≡ true =
      ap (λ (l : List ℕ). occurs l q) (sym x.numbers)
      ∙ numbered q s o.settled there.0 there.1 in
      let told = x.accounts q s there in
      let lt : k < length (senders_in queues d q) =
      (let w = slice_get_within s.senders.items k a at in let e = told.many in omega arith) in
      let i : ℕ = get_or (senders_in queues d q) k 0 in
      let (b, stands, traffic) = told.each k i (slice_get-get_or (senders_in queues d q) k 0 lt) in
      let same : b ≡ a = (let e : Some b ≡ Some a = sym stands ∙ at in cc) in
      let i_in = in_senders queues d q i (occurs_at (senders_in queues d q) k lt) in
      let log = (x.runs i i_in.0).run.log in
      let (r, receiver) = the_receiver queues d q accepted here in
      let parts : sent queues d q (log_at o i) ≡ b.taken ++ b.left =
      sym traffic.put ∙ traffic.left in
      let once : IsDistinct (b.taken ++ b.left) =
      subst IsDistinct parts (sent_once queues d accepted q i (log_at o i) log) in
      let none : b.left ≡ [] = no_member b.left (λ m m_left.
      let m_sent : occurs (sent queues d q (log_at o i)) m ≡ true =
      ap (λ (l : List ℕ). occurs l m) parts ∙ occurs-right b.taken b.left m m_left in
      let m_is = sent_is queues d accepted q i (log_at o i) m log m_sent in
      let m_received : occurs (received queues d q (log_at o r)) m ≡ true =
      taken_by queues d accepted q (log_at o r) m m_is.known m_is.queue
      (ap (λ (j : ℕ). occurs (log_at o j) (input_of d m))
      (sym (receiver.all m m_is.known m_is.queue)) ∙ input_logged m m_is.known) in
      let m_from : occurs (received_from queues d q i (log_at o r)) m ≡ true =
      kept (λ j. eqb (sender_of d j) i) (received queues d q (log_at o r)) m m_received
      (eq-eqb (sender_of d m) i m_is.sender) in
      let m_taken : occurs b.taken m ≡ true =
      ap (λ (l : List ℕ). occurs l m) (traffic.taken r (receiver.takes r ∙ eq-eqb r r refl))
      ∙ m_from in
      once_apart b.taken b.left m once m_taken m_left) in
      ap (λ (y : Account). y.left) (sym same) ∙ none

  -- so nothing is left
  pub is_finished : IsFinished d o
  is_finished = record { whole = whole; empty = nothing_left }

-- a finished execution leaves nothing
pub finished_empty : FinishedExecutionsLeaveNothing
finished_empty queues d open' patience o accepted x finished =
    is_finished accepted x finished
