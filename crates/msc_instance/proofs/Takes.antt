-- Each take of an instance keeps it sound, or ends its run.
use Rattle.std.proofs.Common.{◌≡◌, ℕ, ◌+◌, ◌-◌, ◌<◌, min, Bool, true, false, List, [], ◌∷◌, ◌++◌, length, set, get_or, refl, sym, ap, ◌∙◌, subst, arith, vec_capacity, length-append, get_or-set_other, get_or-set_same}
use Rattle.std.specs.List.{sum_by}
use Rattle.std.specs.Vec.{with_item}
use Rattle.std.proofs.lemmas.List.{get_or_default}
use Rattle.std.proofs.lemmas.List.Sums.{sum_by-set}
use Rattle.msc_chart.specs.declared.TheConstants.{EVENT_LIMIT}
use Rattle.msc_chart.specs.Lists.{occurs}
use Rattle.msc_chart.specs.Charts.{line, message, is_controlled, is_input}
use Rattle.msc_chart.specs.Drawings.{Drawing, input_of, receiver_of}
use Rattle.msc_chart.specs.Orders.{queue_of}
use Rattle.msc_chart.proofs.Drawn.{input_parts, controlled_no_input}
use Rattle.msc_fifo.specs.Entries.{greatest_idle}
use Rattle.msc_fifo.specs.declared.entry.Taken.TheVariants as took
use Rattle.msc_fifo.specs.Ends.{unended_in}
use Rattle.msc_ending.specs.declared.end.End.TheVariants as end
use Rattle.msc_execution.specs.Roles.{NumberedInlet}
use Rattle.msc_execution.specs.Logs.{IsLogOf, line_events}
use Rattle.msc_execution.specs.Growth.{IsStrange}
use Rattle.msc_execution.proofs.Lists.Words.{fails}
use Rattle.msc_execution.proofs.Wiring.Logged.{input_is}
use Rattle.msc_instance.specs.declared.active.Active.{Active}
use Rattle.msc_instance.specs.declared.active.Post.{Post}
use Rattle.msc_instance.specs.declared.journal.Journal.{Journal}
use Rattle.msc_instance.specs.Active.{IsSound, IsNext, EndsSo, HasGot, logged_by, post_role, first_ends, weight}
use Rattle.msc_instance.specs.Taking.{IsQuiet, IsFound}
use Rattle.msc_instance.proofs.Logs.{log_input, log_shorter, upto_push}
use Rattle.msc_instance.proofs.Numbered.{inlet_number, inlet_numbers, number_there}
use Rattle.msc_instance.proofs.Begun.{begun_took, begun_ended, begun_nothing}
use Rattle.msc_instance.proofs.Kept.{comes_strange}

-- the events of the line that are not logged become fewer
left_fewer : (d : Drawing) (i : ℕ) (log after : List ℕ) (e : ℕ) → IsLogOf d i (log ++ e ∷ [])
    → after ≡ log ++ e ∷ []
    → (length (line_events d i) - length after) + 1 ≡ length (line_events d i) - length log
left_fewer d i log after e is same =
    let short = log_shorter d i log e is in
    let long = ap length same ∙ length-append log (e ∷ []) in
    omega (arith, short, long)

module _ (d : Drawing) (p : Post) (a : Active) (s : IsSound d p a) (k : ℕ) (n new : NumberedInlet)
    (lt : k < length a.inlets.items) where
  -- what has not ended changes in the one inlet alone
  sums : sum_by (λ (x : NumberedInlet). unended_in x.1) (set a.inlets.items k new) + unended_in
      (get_or a.inlets.items k n).1
      ≡ sum_by (λ (x : NumberedInlet). unended_in x.1) a.inlets.items + unended_in new.1
  sums = sum_by-set (λ (x : NumberedInlet). unended_in x.1) a.inlets.items k new n lt

  -- the take found something, and leaves the other inlets as they are
  found : new.1.idle ≡ 0 → IsFound k a (record a { inlets = with_item a.inlets k new })
  found none = record {
    idle = λ m. ap (λ (x : NumberedInlet). x.1.idle) (get_or-set_same a.inlets.items k new m lt) ∙ none;
    others = λ j m other. get_or-set_other a.inlets.items k j new m other;
  }

  -- nothing
  pub took_nothing : HasGot a.clock took.Nothing (get_or a.inlets.items k n) new
      → IsSound d p (record a { inlets = with_item a.inlets k new })
      × IsQuiet k a (record a { inlets = with_item a.inlets k new })
      × (weight d p (record a { inlets = with_item a.inlets k new }) ≡ weight d p a)
  took_nothing got = (
    record {
      post = s.post;
      begun = begun_nothing s.begun k n new lt got;
      next = s.next;
      first = s.first;
      closed = s.closed;
      room = s.room;
    },
    record {
      kept = refl;
      idle = λ m. ap (λ (x : NumberedInlet). x.1.idle) (get_or-set_same a.inlets.items k new m lt) ∙ got.idle
          ∙ ap (λ (x : NumberedInlet). min (x.1.idle + 1) greatest_idle)
          (get_or_default a.inlets.items k n m lt);
      others = λ j m other. get_or-set_other a.inlets.items k j new m other;
    },
    omega (arith, sums, got.unended),
  )

  -- an end mark
  pub took_ended : (i : ℕ) → HasGot a.clock (took.Ended i) (get_or a.inlets.items k n) new
      → IsSound d p (record a { inlets = with_item a.inlets k new })
      × (weight d p (record a { inlets = with_item a.inlets k new }) < weight d p a)
      × IsFound k a (record a { inlets = with_item a.inlets k new })
  took_ended i got = (
    record {
      post = s.post;
      begun = begun_ended s.begun k i n new lt got;
      next = s.next;
      first = s.first;
      closed = s.closed;
      room = s.room;
    },
    omega (arith, sums, got.unended),
    found got.idle,
  )

  -- a message that is strange
  pub took_strange : (i m place now : ℕ)
      → HasGot a.clock (took.Message i m place now) (get_or a.inlets.items k n) new
      → IsStrange (post_role d p) (get_or a.inlets.items k n).0 (logged_by a) m
      → (open' : Bool) (patience : ℕ)
      → EndsSo d p open' patience (record a { inlets = with_item a.inlets k new }) (end.Foreign m)
  took_strange i m place now got odd open' patience =
      comes_strange s.begun open' patience k i m place now n new s.post.fit lt got odd

  -- a message of the chart in the queue whose input is not logged
  module _ (m : ℕ) (known : m < length d.messages)
      (here : queue_of p.queues d m ≡ (get_or a.inlets.items k n).0)
      (fresh : occurs (logged_by a) (input_of d m) ≡ false) where
    -- the input is on the line of the instance
    its_line : line d.events (input_of d m) ≡ p.instance
    unfolding receiver_of
    its_line =
        let numbers = inlet_numbers (post_role d p) (first_ends p) s.post.fit
        (logged_by a) s.begun.reading a.inlets.items s.begun.kept.got in
        let there = subst (λ l. occurs l (get_or a.inlets.items k n).0 ≡ true) numbers
        (number_there a.inlets.items k n lt) in
        s.post.laws.own p.queues d (get_or a.inlets.items k n).0 p.instance m s.post.accepted there known here

    -- and it is an event of the chart
    pub its_event : input_of d m < length d.events
    its_event = (input_parts d.events (input_of d m) (input_is p.queues d s.post.accepted m known).0).0

    -- so it may be logged, and what is next stays next
    input_log : IsLogOf d p.instance (logged_by a ++ input_of d m ∷ [])
        × IsNext d p (logged_by a ++ input_of d m ∷ []) a.next
    input_log =
        let input = (input_is p.queues d s.post.accepted m known).0 in
        log_input d p (logged_by a) a.next (input_of d m) s.post s.next s.begun.kept.log its_event its_line
        (fails (is_controlled d.events (input_of d m))
        (λ c. controlled_no_input d.events (input_of d m) c input)) fresh

    -- and the log has room for it
    pub input_fits : length (logged_by a) < vec_capacity a.journal.log
    input_fits = omega (arith, log_shorter d p.instance (logged_by a) (input_of d m) input_log.0, s.room)

    -- once it is logged, the instance is still sound, and less can still come
    pub took_input : (i place now : ℕ) (journal : Journal)
        → HasGot a.clock (took.Message i m place now) (get_or a.inlets.items k n) new
        → journal.log.items ≡ logged_by a ++ input_of d m ∷ []
        → vec_capacity journal.log ≡ vec_capacity a.journal.log
        → IsSound d p (record a { inlets = with_item a.inlets k new; journal = journal; clock = now })
        × (weight d p (record a { inlets = with_item a.inlets k new; journal = journal; clock = now })
        < weight d p a)
        × IsFound k a (record a { inlets = with_item a.inlets k new; journal = journal; clock = now })
    took_input i place now journal got noted room =
        let is = input_is p.queues d s.post.accepted m known in
        let at : queue_of p.queues d (message d.events (input_of d m))
        ≡ (get_or a.inlets.items k n).0 = ap (queue_of p.queues d) is.1 ∙ here in
        let got2 = subst (λ (x : ℕ).
        HasGot a.clock (took.Message i x place now) (get_or a.inlets.items k n) new)
        (sym is.1) got in (
          record {
            post = s.post;
            begun = rw noted (begun_took s.begun k (input_of d m) i place now n new
                s.post.fit is.0 fresh input_log.0 lt at got2);
            next = rw noted input_log.1;
            first = rw noted (upto_push p (logged_by a) a.first (input_of d m) s.first);
            closed = s.closed;
            room = omega (arith, room, s.room);
          },
          omega (
            arith,
            sums,
            got.unended,
            left_fewer d p.instance (logged_by a) journal.log.items
                (input_of d m) input_log.0 noted,
          ),
          record {
            idle = (found got.idle).idle;
            others = (found got.idle).others;
          },
        )

-- inlet k has one number, whatever stands for what is not there
pub queue_here : (ins : List NumberedInlet) (k : ℕ) (x n : NumberedInlet) → k < length ins
    → x ≡ get_or ins k x → x.0 ≡ (get_or ins k n).0
queue_here ins k x n lt is = ap inlet_number (is ∙ get_or_default ins k x n lt)

-- inputs are events of the chart, of which there are few
pub event_in : (d : Drawing) (p : Post) (a : Active) → IsSound d p a → (m : ℕ) → m < length d.messages
    → input_of d m < EVENT_LIMIT
event_in d p a s m known =
    let below = (input_parts d.events (input_of d m) (input_is p.queues d s.post.accepted m known).0).0 in
    omega (arith, below, s.post.accepted.few_events)

-- and they are inputs
pub input_here : (d : Drawing) (p : Post) (a : Active) → IsSound d p a → (m : ℕ) → m < length d.messages
    → is_input d.events (input_of d m) ≡ true
input_here d p a s m known = (input_is p.queues d s.post.accepted m known).0
