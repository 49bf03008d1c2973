-- The races of the small charts and runs that reverse them, by computing.
use Rattle.std.proofs.Common.{[], ◌∷◌, refl}
use Rattle.std.proofs.lemmas.Bool.{eqb-false}
use Rattle.msc_chart.specs.declared.queue.LinkKind.{LinkKind}
use Rattle.msc_chart.specs.declared.queue.LinkKind.TheVariants.{Pair, Mailbox, Single}
use Rattle.msc_chart.specs.Lists.{occurs, until}
use Rattle.msc_chart.specs.Events.{events_of, acts_of, instances_of}
use Rattle.msc_chart.specs.Charts.{line, segment, kind, partner, message, is_output, is_input, is_local, is_controlled, before}
use Rattle.msc_chart.specs.Drawings.{chart_events}
use Rattle.msc_chart.specs.Orders.{queue_number, sender_at, receiver_at, queue, Enforced}
use Rattle.msc_chart.specs.Orders.Enforced.{drawn, sent, joined, queued}
use Rattle.msc_chart.specs.Runs.{Run, is_waiting}
use Rattle.msc_race.specs.Samples.{senders, unordered, relayed, overtaken, crossed, mailboxes, IsReversal}
use Rattle.msc_race.specs.Races.{AreRaces}
use Rattle.msc_race.proofs.Worked.RunTests.{reversal_from, wired_from}
use Rattle.msc_race.proofs.Worked.RaceLists.{races_from}

-- the race of two_senders under Pair is shown by the textual order with one message overtaking
pub two_senders_pair_run : IsReversal (senders Pair) (0 ∷ 3 ∷ 2 ∷ 1 ∷ []) 1 2
unfolding occurs until is_waiting is_output is_input is_local is_controlled before line segment kind partner message queue queue_number sender_at receiver_at chart_events events_of acts_of instances_of
two_senders_pair_run = reversal_from _ _ 1 2 refl refl refl refl

-- and it is the only one
pub two_senders_pair : AreRaces (senders Pair) ((1, 2) ∷ [])
unfolding occurs until is_waiting is_output is_input is_local is_controlled before line segment kind partner message queue queue_number sender_at receiver_at chart_events events_of acts_of instances_of
two_senders_pair =
    races_from _ (wired_from _ refl) ((1, 2) ∷ []) [] ((refl, (_, two_senders_pair_run)), tt) tt refl

-- under Mailbox the second message has to be sent first
pub two_senders_mailbox_run : IsReversal (senders Mailbox) (3 ∷ 0 ∷ 2 ∷ 1 ∷ []) 1 2
unfolding occurs until is_waiting is_output is_input is_local is_controlled before line segment kind partner message queue queue_number sender_at receiver_at chart_events events_of acts_of instances_of
two_senders_mailbox_run = reversal_from _ _ 1 2 refl refl refl refl

-- and it is the only race
pub two_senders_mailbox : AreRaces (senders Mailbox) ((1, 2) ∷ [])
unfolding occurs until is_waiting is_output is_input is_local is_controlled before line segment kind partner message queue queue_number sender_at receiver_at chart_events events_of acts_of instances_of
two_senders_mailbox =
    races_from _ (wired_from _ refl) ((1, 2) ∷ []) [] ((refl, (_, two_senders_mailbox_run)), tt) tt refl

-- the run of Pair is none of Mailbox: 0 is the first of the queue, not 3
pub two_senders_no_run : Run (senders Mailbox) (0 ∷ 3 ∷ 2 ∷ 1 ∷ []) → ⊥
unfolding occurs until is_waiting is_output is_input is_local is_controlled before line segment kind partner message queue queue_number sender_at receiver_at chart_events events_of acts_of instances_of
two_senders_no_run run = eqb-false 0 3 refl (run.1.1.0.input refl)

-- a coregion has no race, since its events are not drawn in an order
pub coregion_none : (kind : LinkKind) → AreRaces (unordered kind) []
unfolding occurs until is_waiting is_output is_input is_local is_controlled before line segment kind partner message queue queue_number sender_at receiver_at chart_events events_of acts_of instances_of
coregion_none Pair = races_from _ (wired_from _ refl) [] [] tt tt refl
coregion_none Mailbox = races_from _ (wired_from _ refl) [] [] tt tt refl
coregion_none Single = races_from _ (wired_from _ refl) [] [] tt tt refl

-- under Pair the message through a third instance may overtake
pub relay_pair_run : IsReversal (relayed Pair) (0 ∷ 1 ∷ 4 ∷ 5 ∷ 3 ∷ 2 ∷ []) 2 3
unfolding occurs until is_waiting is_output is_input is_local is_controlled before line segment kind partner message queue queue_number sender_at receiver_at chart_events events_of acts_of instances_of
relay_pair_run = reversal_from _ _ 2 3 refl refl refl refl

-- and there is no other race
pub relay_pair : AreRaces (relayed Pair) ((2, 3) ∷ [])
unfolding occurs until is_waiting is_output is_input is_local is_controlled before line segment kind partner message queue queue_number sender_at receiver_at chart_events events_of acts_of instances_of
relay_pair =
    races_from _ (wired_from _ refl) ((2, 3) ∷ []) ((0, 1) ∷ (4, 5) ∷ [])
    ((refl, (_, relay_pair_run)), tt) (drawn refl refl, (drawn refl refl, tt)) refl

-- so it is under Single, where messages of one sender and receiver may overtake too
pub relay_single : AreRaces (relayed Single) ((2, 3) ∷ [])
unfolding occurs until is_waiting is_output is_input is_local is_controlled before line segment kind partner message queue queue_number sender_at receiver_at chart_events events_of acts_of instances_of
relay_single =
    races_from _ (wired_from _ refl) ((2, 3) ∷ []) ((0, 1) ∷ (4, 5) ∷ [])
    ((refl, (_, reversal_from _ (0 ∷ 1 ∷ 4 ∷ 5 ∷ 3 ∷ 2 ∷ []) 2 3 refl refl refl refl)), tt)
    (drawn refl refl, (drawn refl refl, tt)) refl

-- under Mailbox it may not: the outputs to b come in an order, through the third instance
pub relay_enforced : Enforced (relayed Mailbox) 2 3
unfolding occurs until is_waiting is_output is_input is_local is_controlled before line segment kind partner message queue queue_number sender_at receiver_at chart_events events_of acts_of instances_of
relay_enforced =
    queued {s = 0} {t = 5} refl refl refl
    (joined {y = 4} (joined {y = 1} (drawn refl refl) (sent refl refl)) (drawn refl refl)) refl refl

-- so there is no race
pub relay_mailbox : AreRaces (relayed Mailbox) []
unfolding occurs until is_waiting is_output is_input is_local is_controlled before line segment kind partner message queue queue_number sender_at receiver_at chart_events events_of acts_of instances_of
relay_mailbox =
    races_from _ (wired_from _ refl) [] ((0, 1) ∷ (4, 5) ∷ (2, 3) ∷ [])
    tt (drawn refl refl, (drawn refl refl, (relay_enforced, tt))) refl

-- messages of one sender and receiver do not overtake: the inputs come in the order of their outputs
pub overtaking_enforced : Enforced (overtaken Pair) 3 2 × Enforced (overtaken Mailbox) 3 2
unfolding occurs until is_waiting is_output is_input is_local is_controlled before line segment kind partner message queue queue_number sender_at receiver_at chart_events events_of acts_of instances_of
overtaking_enforced = (
  queued {s = 0} {t = 1} refl refl refl (drawn refl refl) refl refl,
  queued {s = 0} {t = 1} refl refl refl (drawn refl refl) refl refl,
)

-- so a run has them against the drawn order
pub overtaking_run : (kind : LinkKind) → IsReversal (overtaken kind) (0 ∷ 1 ∷ 3 ∷ 2 ∷ []) 2 3
unfolding occurs until is_waiting is_output is_input is_local is_controlled before line segment kind partner message queue queue_number sender_at receiver_at chart_events events_of acts_of instances_of
overtaking_run Pair = reversal_from _ _ 2 3 refl refl refl refl
overtaking_run Mailbox = reversal_from _ _ 2 3 refl refl refl refl
overtaking_run Single = reversal_from _ _ 2 3 refl refl refl refl

-- and this is the only race
pub overtaking_races : (kind : LinkKind) → AreRaces (overtaken kind) ((2, 3) ∷ [])
unfolding occurs until is_waiting is_output is_input is_local is_controlled before line segment kind partner message queue queue_number sender_at receiver_at chart_events events_of acts_of instances_of
overtaking_races Pair =
    races_from _ (wired_from _ refl) ((2, 3) ∷ []) ((0, 1) ∷ [])
    ((refl, (_, overtaking_run Pair)), tt) (drawn refl refl, tt) refl
overtaking_races Mailbox =
    races_from _ (wired_from _ refl) ((2, 3) ∷ []) ((0, 1) ∷ [])
    ((refl, (_, overtaking_run Mailbox)), tt) (drawn refl refl, tt) refl
overtaking_races Single =
    races_from _ (wired_from _ refl) ((2, 3) ∷ []) ((0, 1) ∷ [])
    ((refl, (_, overtaking_run Single)), tt) (drawn refl refl, tt) refl

-- of two messages that cross, the first may be taken before the other is sent
pub crossing_a : (kind : LinkKind) → IsReversal (crossed kind) (2 ∷ 1 ∷ 0 ∷ 3 ∷ []) 0 1
unfolding occurs until is_waiting is_output is_input is_local is_controlled before line segment kind partner message queue queue_number sender_at receiver_at chart_events events_of acts_of instances_of
crossing_a Pair = reversal_from _ _ 0 1 refl refl refl refl
crossing_a Mailbox = reversal_from _ _ 0 1 refl refl refl refl
crossing_a Single = reversal_from _ _ 0 1 refl refl refl refl

-- and the other way round
pub crossing_b : (kind : LinkKind) → IsReversal (crossed kind) (0 ∷ 3 ∷ 2 ∷ 1 ∷ []) 2 3
unfolding occurs until is_waiting is_output is_input is_local is_controlled before line segment kind partner message queue queue_number sender_at receiver_at chart_events events_of acts_of instances_of
crossing_b Pair = reversal_from _ _ 2 3 refl refl refl refl
crossing_b Mailbox = reversal_from _ _ 2 3 refl refl refl refl
crossing_b Single = reversal_from _ _ 2 3 refl refl refl refl

-- there is no third race
pub crossing_races : (kind : LinkKind) → AreRaces (crossed kind) ((0, 1) ∷ (2, 3) ∷ [])
unfolding occurs until is_waiting is_output is_input is_local is_controlled before line segment kind partner message queue queue_number sender_at receiver_at chart_events events_of acts_of instances_of
crossing_races Pair =
    races_from _ (wired_from _ refl) ((0, 1) ∷ (2, 3) ∷ []) []
    ((refl, (_, crossing_a Pair)), ((refl, (_, crossing_b Pair)), tt)) tt refl
crossing_races Mailbox =
    races_from _ (wired_from _ refl) ((0, 1) ∷ (2, 3) ∷ []) []
    ((refl, (_, crossing_a Mailbox)), ((refl, (_, crossing_b Mailbox)), tt)) tt refl
crossing_races Single =
    races_from _ (wired_from _ refl) ((0, 1) ∷ (2, 3) ∷ []) []
    ((refl, (_, crossing_a Single)), ((refl, (_, crossing_b Single)), tt)) tt refl

-- the messages of one mailbox may come in the other order
pub mailboxes_q : IsReversal mailboxes (2 ∷ 3 ∷ 0 ∷ 1 ∷ 5 ∷ 6 ∷ 7 ∷ 4 ∷ []) 4 5
unfolding occurs until is_waiting is_output is_input is_local is_controlled before line segment kind partner message queue queue_number sender_at receiver_at chart_events events_of acts_of instances_of
mailboxes_q = reversal_from _ _ 4 5 refl refl refl refl

-- and so may those of the other
pub mailboxes_z : IsReversal mailboxes (0 ∷ 1 ∷ 2 ∷ 3 ∷ 4 ∷ 5 ∷ 7 ∷ 6 ∷ []) 6 7
unfolding occurs until is_waiting is_output is_input is_local is_controlled before line segment kind partner message queue queue_number sender_at receiver_at chart_events events_of acts_of instances_of
mailboxes_z = reversal_from _ _ 6 7 refl refl refl refl

-- there is no third race
pub mailboxes_races : AreRaces mailboxes ((4, 5) ∷ (6, 7) ∷ [])
unfolding occurs until is_waiting is_output is_input is_local is_controlled before line segment kind partner message queue queue_number sender_at receiver_at chart_events events_of acts_of instances_of
mailboxes_races =
    races_from _ (wired_from _ refl) ((4, 5) ∷ (6, 7) ∷ []) ((0, 1) ∷ (2, 3) ∷ [])
    ((refl, (_, mailboxes_q)), ((refl, (_, mailboxes_z)), tt)) (drawn refl refl, (drawn refl refl, tt)) refl
