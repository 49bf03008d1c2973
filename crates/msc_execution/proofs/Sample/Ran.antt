-- Both instances of the sample ran.
use Rattle.std.proofs.Common.{◌≡◌, ℕ, zero, suc, ◌<◌, true, List, [], ◌∷◌, map, refl, sym, subst, arith}
use Rattle.std.specs.List.{AllZip}
use Rattle.msc_chart.specs.declared.queue.LinkKind.TheVariants.{Mailbox}
use Rattle.msc_chart.specs.declared.queue.Queues.TheVariants.{Uniform}
use Rattle.msc_chart.specs.Lists.{occurs, until}
use Rattle.msc_chart.specs.Charts.{line, segment, kind, message, partner, is_output, is_input, is_controlled, before}
use Rattle.msc_chart.specs.Drawings.{output_of, input_of, sender_of, receiver_of}
use Rattle.msc_chart.specs.Orders.{queue_of, queue_number, queue_bound}
use Rattle.msc_chart.specs.Laws.{messages_in, sends_to, senders_in}
use Rattle.msc_chart.proofs.ListLemmas.{clash}
use Rattle.msc_chart.proofs.Drawn.{before_parts}
use Rattle.msc_fifo.specs.Ends.{OutletState}
use Rattle.msc_fifo.specs.Identity.{QueueId}
use Rattle.msc_fifo.specs.declared.accounts.Settled.{Settled}
use Rattle.msc_execution.specs.Roles.{role, wired_ends, fresh_outlet, fresh_inlet, queues_in, queues_below, takes_from, quota_of, rank_of, sent_queues, taken_queues}
use Rattle.msc_execution.specs.Logs.{IsLogOf, IsWholeLog, Reading, line_events, along_from, clock_next}
use Rattle.msc_execution.specs.Growth.{IsLeftBy, HasTaken}
use Rattle.msc_execution.specs.Running.{HasRun}
use Rattle.msc_execution.specs.Executions.{log_at, end_at}
use Rattle.msc_execution.specs.Samples.{own_chart, sample}
use Rattle.msc_execution.proofs.Lists.Among.{each_occurs}
use Rattle.msc_execution.proofs.Sample.Accepted.{five}
use Rattle.msc_execution.proofs.Sample.Back.{own_outlet, other_outlet, mailbox, both_back}

-- the one queue, to which both send and from which instance 0 takes
pub queues_are : queues_in (Uniform Mailbox) own_chart ≡ 0 ∷ []
unfolding queues_below queue_bound messages_in queue_of queue_number sender_of receiver_of output_of
    input_of line partner
queues_are = refl

-- instance 0 sends to it
pub own_sends : sent_queues (role (Uniform Mailbox) own_chart 0) ≡ 0 ∷ []
unfolding sent_queues queues_below queue_bound messages_in sends_to queue_of queue_number sender_of
    receiver_of output_of input_of line partner
own_sends = refl

-- and so does instance 1
pub other_sends : sent_queues (role (Uniform Mailbox) own_chart 1) ≡ 0 ∷ []
unfolding sent_queues queues_below queue_bound messages_in sends_to queue_of queue_number sender_of
    receiver_of output_of input_of line partner
other_sends = refl

-- instance 0 takes from it
pub own_takes : taken_queues (role (Uniform Mailbox) own_chart 0) ≡ 0 ∷ []
unfolding taken_queues queues_below queue_bound messages_in takes_from queue_of queue_number
    sender_of receiver_of output_of input_of line partner
own_takes = refl

-- instance 1 takes from none
pub other_takes : taken_queues (role (Uniform Mailbox) own_chart 1) ≡ []
unfolding taken_queues queues_below queue_bound messages_in takes_from queue_of queue_number
    sender_of receiver_of output_of input_of line partner
other_takes = refl

-- its senders
pub both_send : senders_in (Uniform Mailbox) own_chart 0 ≡ 0 ∷ 1 ∷ []
unfolding senders_in sends_to messages_in queue_of queue_number sender_of receiver_of output_of
    input_of line partner
both_send = refl

-- nothing is drawn before the first event of a line
first_event : (past : List ℕ) (x e : ℕ) → segment own_chart.events e ≡ 0 → before own_chart.events x e ≡ true
    → occurs past x ≡ true
first_event past x e first b = let p = before_parts own_chart.events x e b in
    absurd (omega (arith, p.3, first))

-- of instance 1's two events the action alone is drawn before the output
above_output : (x : ℕ) → before own_chart.events x 4 ≡ true → occurs (3 ∷ []) x ≡ true
unfolding line segment occurs
above_output x b =
    let p = before_parts own_chart.events x 4 b in
    five (λ y. line own_chart.events y ≡ line own_chart.events 4 → segment own_chart.events y < segment own_chart.events 4
    → occurs (3 ∷ []) y ≡ true)
    (λ l s. absurd (omega arith)) (λ l s. absurd (omega arith)) (λ l s. absurd (omega arith))
    (λ l s. refl) (λ l s. absurd (omega arith))
    x p.0 p.2 p.3

-- the log of instance 0
own_log : IsLogOf own_chart 0 (0 ∷ 2 ∷ 1 ∷ [])
unfolding occurs line kind segment is_controlled line_events
own_log = record {
  on_line =
      λ e there. each_occurs (λ (x : ℕ). (x < 5) × (line own_chart.events x ≡ 0)) (0 ∷ 2 ∷ 1 ∷ []) e
      ((omega arith, refl), ((omega arith, refl), ((omega arith, refl), tt))) there;
  steps = (
    record { new = refl; drawn = λ o x b. first_event [] x 0 refl b },
    (
      record { new = refl; drawn = λ o x b. clash o refl },
      (record { new = refl; drawn = λ o x b. clash o refl }, tt),
    ),
  );
  controlled = ([], refl);
}

-- the log of instance 1
other_log : IsLogOf own_chart 1 (3 ∷ 4 ∷ [])
unfolding occurs line kind segment is_controlled line_events
other_log = record {
  on_line =
      λ e there. each_occurs (λ (x : ℕ). (x < 5) × (line own_chart.events x ≡ 1)) (3 ∷ 4 ∷ []) e
      ((omega arith, refl), ((omega arith, refl), tt)) there;
  steps = (
    record { new = refl; drawn = λ o x b. first_event [] x 3 refl b },
    (record { new = refl; drawn = λ o x b. above_output x b }, tt),
  );
  controlled = ([], refl);
}

-- it is whole
own_whole : IsWholeLog own_chart 0 (0 ∷ 2 ∷ 1 ∷ [])
unfolding occurs line
own_whole = five (λ e. line own_chart.events e ≡ 0 → occurs (0 ∷ 2 ∷ 1 ∷ []) e ≡ true)
    (λ l. refl) (λ l. refl) (λ l. refl) (λ l. absurd (omega arith)) (λ l. absurd (omega arith))

-- and so is the other
other_whole : IsWholeLog own_chart 1 (3 ∷ 4 ∷ [])
unfolding occurs line
other_whole = five (λ e. line own_chart.events e ≡ 1 → occurs (3 ∷ 4 ∷ []) e ≡ true)
    (λ l. absurd (omega arith)) (λ l. absurd (omega arith)) (λ l. absurd (omega arith)) (λ l. refl)
    (λ l. refl)

-- every clock that was read is 1, at place k
abbrev read_at_place : ℕ → Reading
read_at_place k = record { read_at = λ e. 1; place_at = λ e. k }

module _ (id : QueueId) where
  -- the one queue
  abbrev pub ids : ℕ → QueueId
  ids q = id

  -- what an instance put that sends to the one queue
  put_by : (i : ℕ) (log : List ℕ) (reading : Reading) (o : OutletState)
      → sent_queues (role (Uniform Mailbox) own_chart i) ≡ 0 ∷ []
      → IsLeftBy (role (Uniform Mailbox) own_chart i) log reading (fresh_outlet ids (role (Uniform Mailbox) own_chart i) 0) (0, o)
      → AllZip (IsLeftBy (role (Uniform Mailbox) own_chart i) log reading)
      (wired_ends ids (role (Uniform Mailbox) own_chart i)).outlets ((0, o) ∷ [])
  put_by i log reading o sends left =
      subst (λ (l : List ℕ). AllZip (IsLeftBy (role (Uniform Mailbox) own_chart i) log reading)
      (map (fresh_outlet ids (role (Uniform Mailbox) own_chart i)) l) ((0, o) ∷ [])) (sym sends) (left, tt)

  -- what instance 0 put
  own_put : AllZip (IsLeftBy (role (Uniform Mailbox) own_chart 0) (0 ∷ 2 ∷ 1 ∷ []) (read_at_place 1))
      (wired_ends ids (role (Uniform Mailbox) own_chart 0)).outlets ((0, own_outlet id) ∷ [])
  unfolding rank_of quota_of messages_in sends_to queue_of queue_number sender_of receiver_of
      output_of input_of line partner message kind is_output is_input along_from clock_next until
  own_put = put_by 0 (0 ∷ 2 ∷ 1 ∷ []) (read_at_place 1) (own_outlet id) own_sends
      (record { number = refl; same = (refl, refl, refl); put = refl; closed = refl; claims = λ open'. (3, refl) })

  -- what instance 1 put
  other_put : AllZip (IsLeftBy (role (Uniform Mailbox) own_chart 1) (3 ∷ 4 ∷ []) (read_at_place 0))
      (wired_ends ids (role (Uniform Mailbox) own_chart 1)).outlets ((0, other_outlet id) ∷ [])
  unfolding rank_of quota_of messages_in sends_to queue_of queue_number sender_of receiver_of
      output_of input_of line partner message kind is_output is_input along_from clock_next until
  other_put = put_by 1 (3 ∷ 4 ∷ []) (read_at_place 0) (other_outlet id) other_sends
      (record { number = refl; same = (refl, refl, refl); put = refl; closed = refl; claims = λ open'. (2, refl) })

  -- what instance 0 got
  own_got : AllZip (HasTaken (role (Uniform Mailbox) own_chart 0) (0 ∷ 2 ∷ 1 ∷ []) (read_at_place 1) (λ q. []))
      (wired_ends ids (role (Uniform Mailbox) own_chart 0)).inlets ((0, mailbox id) ∷ [])
  unfolding senders_in messages_in sends_to queue_of queue_number sender_of receiver_of output_of
      input_of line partner message kind is_input
  own_got =
      subst (λ (l : List ℕ). AllZip
      (HasTaken (role (Uniform Mailbox) own_chart 0) (0 ∷ 2 ∷ 1 ∷ []) (read_at_place 1) (λ q. []))
      (map (fresh_inlet ids (role (Uniform Mailbox) own_chart 0)) l) ((0, mailbox id) ∷ []))
      (sym own_takes) (
        record {
          number = refl;
          same = (refl, refl);
          got = refl;
          clocks =
              ([], refl);
        },
        tt,
      )

  -- instance 1 got nothing
  other_got : AllZip (HasTaken (role (Uniform Mailbox) own_chart 1) (3 ∷ 4 ∷ []) (read_at_place 0) (λ q. []))
      (wired_ends ids (role (Uniform Mailbox) own_chart 1)).inlets []
  other_got =
      subst (λ (l : List ℕ). AllZip
      (HasTaken (role (Uniform Mailbox) own_chart 1) (3 ∷ 4 ∷ []) (read_at_place 0) (λ q. []))
      (map (fresh_inlet ids (role (Uniform Mailbox) own_chart 1)) l) [])
      (sym other_takes) tt

  -- both ran
  pub runs : (s : Settled) (i : ℕ) → i < 2
      → HasRun (role (Uniform Mailbox) own_chart i) true 1 (wired_ends ids (role (Uniform Mailbox) own_chart i))
      (record { log = log_at (sample s) i; ends = both_back id i; end = end_at (sample s) i })
  runs s zero below = record {
    reading = read_at_place 1;
    run = record {
      log = own_log;
      put = own_put;
      strange = λ q. [];
      got = own_got;
      ended =
          (λ q. refl, own_whole);
      in_time = λ late. absurd cc;
      untaken = λ zero. absurd cc;
    };
  }
  runs s (suc zero) below = record {
    reading = read_at_place 0;
    run = record {
      log = other_log;
      put = other_put;
      strange = λ q. [];
      got = other_got;
      ended =
          (λ q. refl, other_whole);
      in_time = λ late. absurd cc;
      untaken = λ zero. absurd cc;
    };
  }
  runs s (suc (suc i)) below = absurd (omega arith)
