-- Each step of an instance keeps it sound.
use Rattle.std.proofs.Common.{◌≡◌, ℕ, List, ◌+◌, ◌<◌, ◌≤◌, true, false, [], ◌∷◌, ◌++◌, map, length, set, get_or, sym, subst, arith, inl, inr, vec_capacity, Vec, Global}
use Rattle.std.proofs.lemmas.Bool.{cases_lt}
use Rattle.std.proofs.lemmas.List.Elements.{All-cons}
use Rattle.std.specs.List.{AllZip}
use Rattle.std.specs.Vec.{with_item}
use Rattle.msc_chart.specs.Lists.{occurs}
use Rattle.msc_chart.specs.Charts.{message, before, is_output, is_local, is_controlled}
use Rattle.msc_chart.specs.Drawings.{Drawing}
use Rattle.msc_chart.specs.Orders.{queue_of}
use Rattle.msc_chart.proofs.ListLemmas.{clash, by_test}
use Rattle.msc_chart.proofs.Drawn.{local_parts, controlled_or_input, input_not_local, output_or_input, controlled_parts, controlled_no_input}
use Rattle.msc_fifo.specs.Ends.{HasRoom}
use Rattle.msc_execution.specs.Growth.{IsLeftBy}
use Rattle.msc_execution.specs.Roles.{NumberedOutlet, Role}
use Rattle.msc_execution.specs.Logs.{IsLogOf, Reading}
use Rattle.msc_instance.specs.declared.active.Active.{Active}
use Rattle.msc_instance.specs.declared.active.Post.{Post}
use Rattle.msc_instance.specs.declared.journal.Journal.{Journal}
use Rattle.msc_instance.specs.Steps.{ArePutBy, HasBegun}
use Rattle.msc_instance.specs.Active.{IsSound, IsNext, HasPut, IsAscending, IsClosedFrom, AreClosed, logged_by, post_role, first_ends}
use Rattle.msc_instance.proofs.Finding.{sent_ascends}
use Rattle.msc_instance.proofs.Logs.{on_post, not_logged, next_moves, log_due, log_shorter, upto_push}
use Rattle.msc_instance.proofs.Numbered.{outlet_number, outlet_numbers, has_room}
use Rattle.msc_instance.proofs.Begun.{state_with, begun_sent, begun_acted}
use Rattle.msc_instance.proofs.Kept.{begun_closed}

module _ (d : Drawing) (p : Post) (a : Active) (s : IsSound d p a) where
  -- a look goes on along the line
  pub looked : (next first : ℕ) → a.next ≤ next → next ≤ p.end
      → ((e : ℕ) → a.next ≤ e → e < next → is_controlled d.events e ≡ false)
      → a.first ≤ first → first ≤ p.end → ((e : ℕ) → a.first ≤ e → e < first → occurs (logged_by a) e ≡ true)
      → IsSound d p (record a { next = next; first = first })
  looked next first ahead to none from first_to there = record {
    post = s.post;
    begun = s.begun;
    next = next_moves d p s.post (logged_by a) a.next s.next next ahead to none;
    first = record {
      from = omega (arith, s.first.from, from);
      to = first_to;
      there = λ e low lt. elim (cases_lt e a.first) [
        | inl early ↦ s.first.there e low early
        | inr late ↦ there e late lt
      ];
    };
    closed = λ shut. omega (arith, s.closed shut);
    room = s.room;
  }

  -- the next output or local event, where all that is drawn before it is logged
  module _ (within : a.next < p.end) (due : is_controlled d.events a.next ≡ true)
      (ready : (x : ℕ) → before d.events x a.next ≡ true → occurs (logged_by a) x ≡ true) where
    -- it may be logged, and then what is next comes behind it
    pub due_log : IsLogOf d p.instance (logged_by a ++ a.next ∷ []) × IsNext d p (logged_by a ++ a.next ∷ [])
        (a.next + 1)
    due_log = log_due d p s.post (logged_by a) a.next s.next within due s.begun.kept.log ready

    -- it was not logged before
    pub due_new : occurs (logged_by a) a.next ≡ false
    due_new = not_logged d p s.post (logged_by a) a.next s.next a.next (omega arith) due

    -- the log has room for it
    pub due_fits : length (logged_by a) < vec_capacity a.journal.log
    due_fits = omega (arith, log_shorter d p.instance (logged_by a) a.next due_log.0, s.room)

    -- the outlets are not closed yet
    not_shut : a.shut ≡ false
    not_shut = by_test a.shut (λ shut. absurd (omega (arith, s.closed shut))) (λ no'. no')

    -- a local event is logged, and the instance is still sound
    pub acted : is_local d.events a.next ≡ true → (journal : Journal)
        → journal.log.items ≡ logged_by a ++ a.next ∷ []
        → vec_capacity journal.log ≡ vec_capacity a.journal.log
        → IsSound d p (record a { journal = journal; next = a.next + 1 })
    acted local journal noted room = record {
      post = s.post;
      begun = rw noted (begun_acted s.begun a.next local due_new due_log.0);
      next = rw noted due_log.1;
      first = rw noted (upto_push p (logged_by a) a.first a.next s.first);
      closed = λ shut. clash shut not_shut;
      room = omega (arith, room, s.room);
    }

    -- where it is an output, it has an outlet with room
    module _ (output : is_output d.events a.next ≡ true) where
      -- one of the outlets is to the queue of its message
      pub its_outlet : occurs (map outlet_number a.outlets.items)
          (queue_of p.queues d (message d.events a.next)) ≡ true
      its_outlet =
          let on = on_post d p s.post (logged_by a) a.next s.next a.next s.next.from within in
          let put = subst (λ b. ArePutBy b (post_role d p) (logged_by a) s.begun.reading
          (first_ends p).outlets a.outlets.items) not_shut s.begun.kept.put in
          subst (λ l. occurs l (queue_of p.queues d (message d.events a.next)) ≡ true)
          (sym (outlet_numbers (post_role d p) (first_ends p) s.post.fit (logged_by a) s.begun.reading
          a.outlets.items put))
          (s.post.laws.outlets p.queues d p.instance a.next s.post.accepted output on.1)

      -- the numbers of the outlets ascend
      pub its_outlets : IsAscending (map outlet_number a.outlets.items)
      its_outlets =
          let put = subst (λ b. ArePutBy b (post_role d p) (logged_by a) s.begun.reading
          (first_ends p).outlets a.outlets.items)
          not_shut s.begun.kept.put in
          subst IsAscending
          (sym (outlet_numbers (post_role d p) (first_ends p) s.post.fit (logged_by a) s.begun.reading
          a.outlets.items put))
          (sent_ascends (post_role d p))

      module _ (k : ℕ) (o : NumberedOutlet) (lt : k < length a.outlets.items)
          (here : (get_or a.outlets.items k o).0 ≡ queue_of p.queues d (message d.events a.next)) where
        -- the outlet to its queue has room
        pub its_room : HasRoom (get_or a.outlets.items k o).1
        its_room =
            let put = subst (λ b. ArePutBy b (post_role d p) (logged_by a) s.begun.reading
            (first_ends p).outlets a.outlets.items) not_shut s.begun.kept.put in
            has_room (post_role d p) (first_ends p) s.post.fit (logged_by a) s.begun.reading
            a.outlets.items k o a.next s.post.laws.quotas s.post.accepted
            due_log.0 output lt (sym here) put

        -- a send, which is logged, keeps the instance sound
        pub has_sent : (new : NumberedOutlet) (now : ℕ) (journal : Journal)
            → HasPut (message d.events a.next) a.clock now (get_or a.outlets.items k o) new
            → journal.log.items ≡ logged_by a ++ a.next ∷ []
            → vec_capacity journal.log ≡ vec_capacity a.journal.log
            → IsSound d p (record a {
              outlets = with_item a.outlets k new;
              journal = journal;
              clock =
                  now;
              next = a.next + 1;
            })
        has_sent new now journal put noted room = record {
          post = s.post;
          begun = rw noted (begun_out put);
          next = rw noted due_log.1;
          first = rw noted (upto_push p (logged_by a) a.first a.next s.first);
          closed = λ shut. clash shut not_shut;
          room = omega (arith, room, s.room);
        }
          where
            -- after the send the ends are as they are after the longer log
            begun_out : HasPut (message d.events a.next) a.clock now (get_or a.outlets.items k o) new
                → HasBegun (post_role d p) (first_ends p)
                (state_with a.shut (set a.outlets.items k new) a.inlets.items (logged_by a ++ a.next ∷ [])
                now)
            begun_out put =
                subst (λ b. HasBegun (post_role d p) (first_ends p)
                (state_with b (set a.outlets.items k new) a.inlets.items (logged_by a ++ a.next ∷ []) now))
                (sym not_shut)
                (begun_sent (subst (λ b. HasBegun (post_role d p) (first_ends p)
                (state_with b a.outlets.items a.inlets.items (logged_by a) a.clock)) not_shut s.begun)
                k now a.next o new s.post.fit output due_new due_log.0 lt (sym here) put)

-- a local event is controlled
pub local_due : (d : Drawing) (e : ℕ) → is_local d.events e ≡ true → is_controlled d.events e ≡ true
local_due d e local =
    let parts = local_parts d.events e local in
    elim (controlled_or_input d.events e parts.0) [
      | inl yes' ↦ yes'
      | inr input ↦ clash local (input_not_local d.events e input)
    ]

-- a controlled event is an output or a local event
pub due_local : (d : Drawing) (e : ℕ) → is_controlled d.events e ≡ true → is_output d.events e ≡ false
    → is_local d.events e ≡ true
due_local d e due none =
    by_test (is_local d.events e)
    (λ local. local)
    (λ other. elim (output_or_input d.events e (controlled_parts d.events e due).0 other) [
      | inl output ↦ clash output none
      | inr input ↦ absurd (controlled_no_input d.events e due input)
    ])

-- the outlets are closed once all is done
pub has_closed : (d : Drawing) (p : Post) (a : Active) (outs : Vec NumberedOutlet Global)
    → IsSound d p a → a.shut ≡ false → a.next ≡ p.end
    → AllZip IsClosedFrom a.outlets.items outs.items → IsSound d p (record a { outlets = outs; shut = true })
has_closed d p a outs s opened done closed = record {
  post = s.post;
  begun = begun_closed (subst (λ b. HasBegun (post_role d p) (first_ends p)
      (state_with b a.outlets.items a.inlets.items (logged_by a) a.clock)) opened s.begun) outs.items closed;
  next = s.next;
  first = s.first;
  closed = λ _. done;
  room = s.room;
}

-- what stands beside an outlet that is left is closed
left_closed : (r : Role) (log : List ℕ) (reading : Reading) (olds news : List NumberedOutlet)
    → AllZip (IsLeftBy r log reading) olds news → AreClosed news
left_closed r log reading [] [] h = λ k x lt. absurd (omega arith)
left_closed r log reading [] (y ∷ news) h = absurd h
left_closed r log reading (x ∷ olds) [] h = absurd h
left_closed r log reading (x ∷ olds) (y ∷ news) h =
    All-cons (λ (o : NumberedOutlet). o.1.closed ≡ true) y news h.0.closed
    (left_closed r log reading olds news h.1)

-- the outlets of an instance that is shut are closed
pub are_closed : (d : Drawing) (p : Post) (a : Active) → IsSound d p a → a.shut ≡ true
    → AreClosed a.outlets.items
are_closed d p a s shut =
    let put = subst (λ b. ArePutBy b (post_role d p) (logged_by a) s.begun.reading
    (first_ends p).outlets a.outlets.items) shut s.begun.kept.put in
    left_closed (post_role d p) (logged_by a) s.begun.reading (first_ends p).outlets a.outlets.items put
