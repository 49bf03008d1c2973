-- The sample is an execution.
use Rattle.std.proofs.Common.{◌≡◌, ◌≢◌, ℕ, zero, suc, ◌<◌, true, cond, List, [], ◌∷◌, map, length, Some, slice_get, refl, sym, ap, ◌∙◌, subst, arith}
use Rattle.std.specs.Prelude.{nat_eq}
use Rattle.std.proofs.lemmas.Bool.{eqb-true}
use Rattle.msc_chart.specs.declared.queue.LinkKind.TheVariants.{Mailbox}
use Rattle.msc_chart.specs.declared.queue.Queues.TheVariants.{Uniform}
use Rattle.msc_chart.specs.Lists.{occurs, until, Occurs}
use Rattle.msc_chart.specs.Charts.{line, kind, message, partner, is_output, is_input}
use Rattle.msc_chart.specs.Drawings.{output_of, input_of, sender_of, receiver_of}
use Rattle.msc_chart.specs.Orders.{queue_of, queue_number, wired, queue, sender_at, receiver_at}
use Rattle.msc_chart.specs.Laws.{messages_in}
use Rattle.msc_fifo.specs.Identity.{QueueId}
use Rattle.msc_fifo.specs.declared.accounts.Account.{Account}
use Rattle.msc_fifo.specs.declared.accounts.Settled.{Settled}
use Rattle.msc_fifo.specs.declared.places.Place.{Place}
use Rattle.msc_fifo.specs.Ends.{OutletState}
use Rattle.msc_ending.specs.declared.end.End.TheVariants.{Foreign}
use Rattle.msc_execution.specs.Roles.{takes_from}
use Rattle.msc_execution.specs.Logs.{Begins, received, received_from}
use Rattle.msc_execution.specs.Executions.{log_at, end_at, placed_messages, AreAccounts, IsTrafficOf, IsSettledFrom, IsExecution}
use Rattle.msc_execution.specs.Clocks.{trace_of, sorted, put_in, is_below, key_of, clock_step, clock_from, greatest_offer, place_clock, place_number, messages}
use Rattle.msc_execution.specs.Shown.{trace_in, as_place}
use Rattle.msc_execution.specs.Samples.{own_chart, all_claims, account_of, IsSampled, sample}
use Rattle.msc_execution.proofs.Lists.Among.{any_parts, each_at, each_occurs, among_single}
use Rattle.msc_execution.proofs.Sample.Ran.{queues_are, both_send, ids, runs}
use Rattle.msc_execution.proofs.Sample.Placed.{is_placed, are_outlets}
use Rattle.msc_execution.proofs.Sample.Back.{own_outlet, other_outlet, mailbox, both_back}

module _ (id : QueueId) where
  module _ (s : Settled) (sampled : IsSampled s) where
    -- the queue was settled from these ends
    from_ends : IsSettledFrom 2 (both_back id) 0 s.places.items
    from_ends = record {
      inlet = mailbox id;
      outlets = own_outlet id ∷ other_outlet id ∷ [];
      receiver = 0;
      is_instance = omega arith;
      own = (0, refl);
      all_there = there;
      no_others =
          λ o among. each_at (λ (o : OutletState). (i : ℕ) × (i < 2)
          × Occurs (both_back id i).outlets (0, o))
          (own_outlet id ∷ other_outlet id ∷ []) o among.0
          ((0, omega arith, (0, refl)), ((1, omega arith, (0, refl)), tt)) among.1;
      are_outlets = are_outlets id;
      is_settled = record { log = all_claims; is_log = is_placed id; places_are = sampled.places };
    }
      where
        -- an outlet of the queue that an instance gave back is one of the two
        there : (i : ℕ) (o : OutletState) → i < 2 → Occurs (both_back id i).outlets (0, o)
            → Occurs (own_outlet id ∷ other_outlet id ∷ []) o
        there zero o below among = (
          0,
          ap (λ (p : ℕ × OutletState). Some p.1)
              (among_single (0, own_outlet id) (0, o) among.0 among.1),
        )
        there (suc i) o below among = (
          1,
          ap (λ (p : ℕ × OutletState). Some p.1)
              (among_single (0, other_outlet id) (0, o) among.0 among.1),
        )

    -- instance 0 alone takes from it
    taker : (r : ℕ) → takes_from (Uniform Mailbox) own_chart 0 r ≡ true → 0 ≡ r
    unfolding takes_from messages_in queue_of queue_number receiver_of sender_of input_of output_of
        line partner
    taker r h =
        let (m, m_in, is) = any_parts (λ m. nat_eq (receiver_of own_chart m) r) (0 ∷ 1 ∷ []) h in
        sym (each_occurs (λ (k : ℕ). receiver_of own_chart k ≡ 0) (0 ∷ 1 ∷ []) m (refl, (refl, tt)) m_in)
        ∙ eqb-true (receiver_of own_chart m) r is

    -- what it took of instance i
    taken_by : (i r : ℕ) → takes_from (Uniform Mailbox) own_chart 0 r ≡ true
        → i ∷ [] ≡ received_from (Uniform Mailbox) own_chart 0 i (0 ∷ 2 ∷ 1 ∷ [])
        → i ∷ [] ≡ received_from (Uniform Mailbox) own_chart 0 i (log_at (sample s) r)
    taken_by i r takes here =
        subst (λ (j : ℕ). i ∷ [] ≡ received_from (Uniform Mailbox) own_chart 0 i (log_at (sample s) j))
        (taker r takes) here

    -- the account of each is its traffic
    abbrev HasTraffic : ℕ → ℕ → Type 0
    HasTraffic k i =
        (a : Account) × (slice_get s.senders.items k ≡ Some a)
        × IsTrafficOf (Uniform Mailbox) own_chart (sample s) 0 i a

    -- so it does for each sender
    traffic : (k i : ℕ) → slice_get (0 ∷ 1 ∷ []) k ≡ Some i → HasTraffic k i
    unfolding queue_of queue_number receiver_of sender_of input_of output_of line partner message
        kind is_output is_input
    traffic zero i at =
        let same : 0 ≡ i = cc in
        subst (λ (j : ℕ). HasTraffic 0 j) same (
          account_of 0,
          ap (λ (l : List Account). slice_get l 0) sampled.senders,
          record {
            put = refl;
            taken = λ r takes. taken_by 0 r takes refl;
            left = refl;
            closed =
                refl;
          },
        )
    traffic (suc zero) i at =
        let same : 1 ≡ i = cc in
        subst (λ (j : ℕ). HasTraffic 1 j) same (
          account_of 1,
          ap (λ (l : List Account). slice_get l 1) sampled.senders,
          record {
            put = refl;
            taken = λ r takes. taken_by 1 r takes refl;
            left = refl;
            closed =
                refl;
          },
        )
    traffic (suc (suc k)) i at = cc

    -- so they are the accounts of both
    accounts : AreAccounts (Uniform Mailbox) own_chart (sample s) 0 s
    unfolding queue_of queue_number receiver_of sender_of input_of output_of line partner message
        kind is_output is_input
    accounts = record {
      many =
          s.senders.ok.0 ∙ ap (λ (l : List Account). length l) sampled.senders
          ∙ ap (λ (l : List ℕ). length l) (sym both_send);
      each = λ k i at. traffic k i (ap (λ (l : List ℕ). slice_get l k) (sym both_send) ∙ at);
      first = λ r takes.
          subst (λ (j : ℕ). Begins (received (Uniform Mailbox) own_chart 0 (log_at (sample s) j))
          (placed_messages s.places.items)) (taker r takes)
          ([], ap (λ (l : List Place). placed_messages l) sampled.places);
    }

    -- a settled queue with its number
    abbrev pair : ℕ → Settled → ℕ × Settled
    pair q t = (q, t)

    -- the one settled queue
    the_one : (q : ℕ) (t : Settled) → Occurs {T = ℕ × Settled} ((0, s) ∷ []) (q, t)
        → pair 0 s ≡ pair q t
    the_one q t there = among_single (pair 0 s) (pair q t) there.0 there.1

    -- so the sample is an execution
    pub is_execution : IsExecution (Uniform Mailbox) own_chart true 1 (sample s)
    is_execution = record {
      logs = refl;
      ends = refl;
      id = ids id;
      back = both_back id;
      runs = runs id s;
      numbers = sym queues_are;
      accounts =
          λ q t there. subst (λ (p : ℕ × Settled). AreAccounts (Uniform Mailbox) own_chart (sample s) p.0 p.1)
          (the_one q t there) accounts;
      places =
          λ q t there. subst (λ (p : ℕ × Settled).
          IsSettledFrom 2 (both_back id) p.0 p.1.places.items) (the_one q t there) from_ends;
      own = own;
    }
      where
        -- neither instance ended at a strange message
        own : (i m : ℕ) → end_at (sample s) i ≢ Foreign m
        own zero m h = cc
        own (suc zero) m h = cc
        own (suc (suc i)) m h = cc

-- sorted, its events begin with the action, and the second message is put first
pub trace_is : (s : Settled) → IsSampled s
    → trace_in (Uniform Mailbox) own_chart (sample s) ≡ 3 ∷ 4 ∷ 0 ∷ 2 ∷ 1 ∷ []
unfolding trace_of sorted put_in is_below key_of clock_step clock_from greatest_offer place_clock
    place_number messages queue queue_number sender_at receiver_at output_of line partner message
    is_output is_input kind until occurs
trace_is s sampled =
    ap (λ (l : List Place).
    trace_of (wired (Uniform Mailbox) own_chart) (sample s).logs
    (λ q. map (as_place own_chart) (cond (nat_eq 0 q) l []))) sampled.places
