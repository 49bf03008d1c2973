-- Calls on the ends of an instance keep what is known of them.
use Rattle.std.proofs.Common.{◌≡◌, ℕ, ◌+◌, true, false, List, [], ◌∷◌, ◌++◌, map, length, refl, sym, ap, ◌∙◌, append_assoc}
use Rattle.std.proofs.lemmas.List.{append-nil}
use Rattle.msc_chart.specs.Lists.{occurs}
use Rattle.msc_chart.specs.Charts.{message, is_output, is_input}
use Rattle.msc_chart.specs.Orders.{queue_of}
use Rattle.msc_fifo.specs.declared.claim.Claim.{Claim}
use Rattle.msc_fifo.specs.declared.entry.Entry.TheVariants.{Message, Ended}
use Rattle.msc_fifo.specs.Claims.{claim}
use Rattle.msc_fifo.specs.Ends.{OutletState, InletState, IsSameOutlet, IsSameInlet}
use Rattle.msc_execution.specs.Roles.{Role, NumberedOutlet, NumberedInlet}
use Rattle.msc_execution.specs.Logs.{Reading, clock_along, outputs_at, inputs_at}
use Rattle.msc_execution.specs.Growth.{all_messages, clocks_at, claim_at, IsLeftBy, HasTaken}
use Rattle.msc_instance.specs.Steps.{IsPutBy, IsGotBy}
use Rattle.msc_execution.proofs.Settling.Placed.{all_messages-append}
use Rattle.msc_instance.proofs.Growing.{sent_more, sent_same, read_more, read_same, outputs_more, outputs_same, inputs_more, inputs_same, map_push, clocks_message, clocks_ended, with_event}

module _ (r : Role) (log : List ℕ) (reading : Reading) (old new : NumberedOutlet) where
  -- an open outlet, before anything is logged
  pub begun : (reading : Reading) → old.1.closed ≡ false → IsPutBy r [] reading old old
  begun reading open' = record {
    number = refl;
    same = (refl, refl, refl);
    put =
        sym (append-nil old.1.put);
    opened = open';
    claims = sym (append-nil old.1.claims);
  }

  module _ (h : IsPutBy r log reading old new) (e k n : ℕ) (is_new : occurs log e ≡ false) where
    -- a send whose clock is the one along the log
    pub sent : is_output r.chart.events e ≡ true
        → queue_of r.queues r.chart (message r.chart.events e) ≡ old.0
        → (after : OutletState) → IsSameOutlet new.1 after
        → after.put ≡ new.1.put ++ message r.chart.events e ∷ [] → after.closed ≡ false
        → after.claims ≡ new.1.claims ++ claim k (Message new.1.sender (message r.chart.events e))
        (clock_along r.chart reading.read_at log + 1) n ∷ []
        → IsPutBy r (log ++ e ∷ []) (with_event e k n reading) old (new.0, after)
    sent output here after same put open' claims =
        let sender : new.1.sender ≡ old.1.sender = h.same.1 in
        let c : Claim = claim k (Message old.1.sender (message r.chart.events e))
        (clock_along r.chart reading.read_at log + 1) n in
        let cs : List Claim = map (claim_at r log reading old.1.sender)
        (outputs_at r.queues r.chart old.0 log) in
        let ms : List ℕ = map (message r.chart.events) (outputs_at r.queues r.chart old.0 log) in
        let own : after.claims ≡ new.1.claims ++ c ∷ [] =
        claims ∙ ap (λ (i : ℕ). new.1.claims ++ claim k (Message i (message r.chart.events e))
        (clock_along r.chart reading.read_at log + 1) n ∷ []) sender in
        record {
          number = h.number;
          same = (same.0 ∙ h.same.0, same.1 ∙ h.same.1, same.2 ∙ h.same.2);
          put = put ∙ ap (λ l. l ++ message r.chart.events e ∷ []) h.put
              ∙ append_assoc old.1.put ms (message r.chart.events e ∷ [])
              ∙ ap (λ l. old.1.put ++ l)
              (sym (ap (map (message r.chart.events)) (outputs_more r log e old.0 output here)
              ∙ map_push (message r.chart.events) (outputs_at r.queues r.chart old.0 log) e));
          opened = open';
          claims = own ∙ ap (λ l. l ++ c ∷ []) h.claims ∙ append_assoc old.1.claims cs (c ∷ [])
              ∙ ap (λ l. old.1.claims ++ l)
              (sym (sent_more r reading log e k n is_new old.1.sender old.0 output here));
        }

    -- any other event
    pub stayed : (is_output r.chart.events e ≡ true
        → queue_of r.queues r.chart (message r.chart.events e) ≡ old.0 → ⊥)
        → IsPutBy r (log ++ e ∷ []) (with_event e k n reading) old new
    stayed other = record {
      number = h.number;
      same = h.same;
      put = h.put ∙ ap (λ l. old.1.put ++ map (message r.chart.events) l)
          (sym (outputs_same r log e old.0 other));
      opened = h.opened;
      claims = h.claims ∙ ap (λ l. old.1.claims ++ l)
          (sym (sent_same r reading log e k n is_new old.1.sender old.0 other));
    }

  -- a close
  pub closed : IsPutBy r log reading old new → (after : OutletState) (place : ℕ)
      → IsSameOutlet new.1 after → after.put ≡ new.1.put → after.closed ≡ true
      → after.claims ≡ new.1.claims ++ claim place (Ended new.1.sender) 0 0 ∷ []
      → IsLeftBy r log reading old (new.0, after)
  closed h after place same put is claims =
      let sender : new.1.sender ≡ old.1.sender = h.same.1 in
      let cs : List Claim = map (claim_at r log reading old.1.sender)
      (outputs_at r.queues r.chart old.0 log) in
      let own : after.claims ≡ new.1.claims ++ claim place (Ended old.1.sender) 0 0 ∷ [] = claims
      ∙ ap (λ (i : ℕ). new.1.claims ++ claim place (Ended i) 0 0 ∷ []) sender in
      record {
        number = h.number;
        same = (same.0 ∙ h.same.0, same.1 ∙ h.same.1, same.2 ∙ h.same.2);
        put = put ∙ h.put;
        closed = is;
        claims = λ open'. (
          place,
          own
              ∙ ap (λ l. l ++ claim place (Ended old.1.sender) 0 0 ∷ []) h.claims
              ∙ append_assoc old.1.claims cs (claim place (Ended old.1.sender) 0 0 ∷ []),
        );
      }

  -- an event that is no output of this queue, when it is closed
  pub left_stayed : IsLeftBy r log reading old new → (e k n : ℕ) → occurs log e ≡ false
      → (is_output r.chart.events e ≡ true → queue_of r.queues r.chart (message r.chart.events e) ≡ old.0 → ⊥)
      → IsLeftBy r (log ++ e ∷ []) (with_event e k n reading) old new
  left_stayed h e k n is_new other = record {
    number = h.number;
    same = h.same;
    put = h.put ∙ ap (λ l. old.1.put ++ map (message r.chart.events) l)
        (sym (outputs_same r log e old.0 other));
    closed = h.closed;
    claims = λ open'. let was = h.claims open' in (
      was.0,
      was.1 ∙ ap (λ l. old.1.claims ++ (l ++ claim was.0 (Ended old.1.sender) 0 0 ∷ []))
          (sym (sent_same r reading log e k n is_new old.1.sender old.0 other)),
    );
  }

module _ (r : Role) (log : List ℕ) (reading : Reading) (old new : NumberedInlet) where
  -- an inlet, before anything is logged
  pub begun_in : (reading : Reading) → IsGotBy r [] reading old old
  begun_in reading = record {
    number = refl;
    same = (refl, refl);
    got =
        sym (append-nil (all_messages old.1.got));
    clocks =
        sym (append-nil (clocks_at old.1.got old.1.clocks));
  }

  module _ (h : IsGotBy r log reading old new) where
    -- a take of the message of an input, which is logged
    pub took : length new.1.clocks ≡ length new.1.got → (e k n i : ℕ) → occurs log e ≡ false
        → is_input r.chart.events e ≡ true
        → queue_of r.queues r.chart (message r.chart.events e) ≡ old.0
        → (after : InletState) → IsSameInlet new.1 after
        → after.got ≡ new.1.got ++ Message i (message r.chart.events e) ∷ []
        → after.clocks ≡ new.1.clocks ++ n ∷ []
        → IsGotBy r (log ++ e ∷ []) (with_event e k n reading) old (new.0, after)
    took even e k n i is_new input here after same got clocks =
        let ms : List ℕ = map (message r.chart.events) (inputs_at r.queues r.chart old.0 log) in
        let ns : List ℕ = map reading.read_at (inputs_at r.queues r.chart old.0 log) in
        record {
          number = h.number;
          same = (same.0 ∙ h.same.0, same.1 ∙ h.same.1);
          got = ap all_messages got
              ∙ all_messages-append new.1.got (Message i (message r.chart.events e) ∷ [])
              ∙ ap (λ l. l ++ message r.chart.events e ∷ []) h.got
              ∙ append_assoc (all_messages old.1.got) ms (message r.chart.events e ∷ [])
              ∙ ap (λ l. all_messages old.1.got ++ l)
              (sym (ap (map (message r.chart.events)) (inputs_more r log e old.0 input here)
              ∙ map_push (message r.chart.events) (inputs_at r.queues r.chart old.0 log) e));
          clocks = (λ j. clocks_at (got j) (clocks j))
              ∙ clocks_message new.1.got new.1.clocks i (message r.chart.events e) n even
              ∙ ap (λ l. l ++ n ∷ []) h.clocks
              ∙ append_assoc (clocks_at old.1.got old.1.clocks) ns (n ∷ [])
              ∙ ap (λ l. clocks_at old.1.got old.1.clocks ++ l)
              (sym (read_more r reading log e k n is_new 0 old.0 input here));
        }

    -- a take of an end mark
    pub ended : length new.1.clocks ≡ length new.1.got → (i n : ℕ) (after : InletState)
        → IsSameInlet new.1 after → after.got ≡ new.1.got ++ Ended i ∷ []
        → after.clocks ≡ new.1.clocks ++ n ∷ [] → IsGotBy r log reading old (new.0, after)
    ended even i n after same got clocks =
        record {
          number = h.number;
          same = (same.0 ∙ h.same.0, same.1 ∙ h.same.1);
          got = ap all_messages got ∙ all_messages-append new.1.got (Ended i ∷ [])
              ∙ append-nil (all_messages new.1.got) ∙ h.got;
          clocks = (λ j. clocks_at (got j) (clocks j)) ∙ clocks_ended new.1.got new.1.clocks i n even
              ∙ h.clocks;
        }

    -- any other event
    pub stayed_in : (e k n : ℕ) → occurs log e ≡ false
        → (is_input r.chart.events e ≡ true
        → queue_of r.queues r.chart (message r.chart.events e) ≡ old.0 → ⊥)
        → IsGotBy r (log ++ e ∷ []) (with_event e k n reading) old new
    stayed_in e k n is_new other = record {
      number = h.number;
      same = h.same;
      got = h.got ∙ ap (λ l. all_messages old.1.got ++ map (message r.chart.events) l)
          (sym (inputs_same r log e old.0 other));
      clocks = h.clocks ∙ ap (λ l. clocks_at old.1.got old.1.clocks ++ l)
          (sym (read_same r reading log e k n is_new 0 old.0 other));
    }

    -- the end, with nothing strange in the queue
    pub done : (strange : ℕ → List ℕ) → strange old.0 ≡ [] → HasTaken r log reading strange old new
    done strange none =
        let ms : List ℕ = map (message r.chart.events) (inputs_at r.queues r.chart old.0 log) in
        let ns : List ℕ = map reading.read_at (inputs_at r.queues r.chart old.0 log) in
        record {
          number = h.number;
          same = h.same;
          got = h.got ∙ ap (λ l. all_messages old.1.got ++ l) (sym (ap (λ l. ms ++ l) none ∙ append-nil ms));
          clocks = ([], h.clocks ∙ ap (λ l. clocks_at old.1.got old.1.clocks ++ l) (sym (append-nil ns)));
        }

    -- the end, with a strange message in the queue
    pub done_strange : length new.1.clocks ≡ length new.1.got
        → (strange : ℕ → List ℕ) (i m n : ℕ) (after : InletState) → IsSameInlet new.1 after
        → after.got ≡ new.1.got ++ Message i m ∷ [] → after.clocks ≡ new.1.clocks ++ n ∷ []
        → strange old.0 ≡ m ∷ [] → HasTaken r log reading strange old (new.0, after)
    done_strange even strange i m n after same got clocks one =
        let ms : List ℕ = map (message r.chart.events) (inputs_at r.queues r.chart old.0 log) in
        let ns : List ℕ = map reading.read_at (inputs_at r.queues r.chart old.0 log) in
        record {
          number = h.number;
          same = (same.0 ∙ h.same.0, same.1 ∙ h.same.1);
          got = ap all_messages got ∙ all_messages-append new.1.got (Message i m ∷ [])
              ∙ ap (λ l. l ++ m ∷ []) h.got ∙ append_assoc (all_messages old.1.got) ms (m ∷ [])
              ∙ ap (λ l. all_messages old.1.got ++ (ms ++ l)) (sym one);
          clocks = (
            n ∷ [],
            (λ j. clocks_at (got j) (clocks j))
                ∙ clocks_message new.1.got new.1.clocks i m n even ∙ ap (λ l. l ++ n ∷ []) h.clocks
                ∙ append_assoc (clocks_at old.1.got old.1.clocks) ns (n ∷ []),
          );
        }
