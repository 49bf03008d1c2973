-- What the definitions say of the small charts, by computing.
use Rattle.std.proofs.Common.{◌≡◌, [], ◌∷◌, refl}
use Rattle.msc_chart.specs.declared.event.EventKind.TheVariants as kinds
use Rattle.msc_chart.specs.declared.queue.Queues.TheVariants.{Uniform}
use Rattle.msc_chart.specs.declared.queue.LinkKind.TheVariants.{Pair, Mailbox, Single}
use Rattle.msc_chart.specs.Events.{events_of, acts_of, instances_of}
use Rattle.msc_chart.specs.Charts.{line, segment, partner, before}
use Rattle.msc_chart.specs.Drawings.{chart_events, chart_of, output_of, input_of, sender_of, receiver_of}
use Rattle.msc_chart.specs.Orders.{queue_number, queue_of}
use Rattle.msc_chart.specs.Lists.{pairs_of, pairs_to}
use Rattle.msc_chart.specs.Samples.{actions, go, done, below_coregion, two_senders, coregion, relay, empty_coregion, event, drawn_pairs, queue_numbers}

-- an empty coregion takes no segment
pub empty_coregion_events : chart_events empty_coregion ≡ event 0 0 kinds.Output 1 0 ∷ event 0 1 kinds.Input 0 0 ∷ []
unfolding chart_events events_of acts_of
empty_coregion_events = refl

-- each action is a local event and its own partner, and they are numbered on their own
pub actions_events : chart_events actions ≡ event 0 0 kinds.Local 0 0 ∷ event 0 1 kinds.Output 2 0 ∷ event 1 0 kinds.Input 1 0 ∷ event 1 1 kinds.Local 3 1 ∷ []
unfolding chart_events events_of acts_of
actions_events = refl

-- with their texts
pub actions_texts : (chart_of actions).actions ≡ go ∷ done ∷ []
unfolding events_of acts_of
actions_texts = refl

-- an action is drawn before what stands below it, as any event
pub actions_drawn : drawn_pairs (chart_of actions) ≡ (0, 1) ∷ (2, 3) ∷ []
unfolding chart_events events_of acts_of before line segment pairs_of pairs_to
actions_drawn = refl

-- the two inputs are drawn one after the other
pub two_senders_drawn : drawn_pairs (chart_of two_senders) ≡ (1, 2) ∷ []
unfolding chart_events events_of acts_of before line segment pairs_of pairs_to
two_senders_drawn = refl

-- in a coregion they are not
pub coregion_drawn : drawn_pairs (chart_of coregion) ≡ []
unfolding chart_events events_of acts_of before line segment pairs_of pairs_to
coregion_drawn = refl

-- what stands above a coregion is drawn before its events, and these before what stands below
pub below_coregion_drawn : drawn_pairs (chart_of below_coregion) ≡ (1, 2) ∷ (1, 3) ∷ (1, 4) ∷ (2, 4) ∷ (3, 4) ∷ (5, 6) ∷ []
unfolding chart_events events_of acts_of before line segment pairs_of pairs_to
below_coregion_drawn = refl

-- three lines with two events each
pub relay_drawn : drawn_pairs (chart_of relay) ≡ (0, 1) ∷ (2, 3) ∷ (4, 5) ∷ []
unfolding chart_events events_of acts_of before line segment pairs_of pairs_to
relay_drawn = refl

-- under Pair, from instances 0 and 2 to instance 1 of 3: 0 * 3 + 1, and 2 * 3 + 1
pub two_senders_pair : queue_numbers (Uniform Pair) (chart_of two_senders) ≡ 1 ∷ 7 ∷ []
unfolding chart_events events_of acts_of instances_of line partner output_of input_of sender_of receiver_of queue_number queue_of
two_senders_pair = refl

-- under Mailbox both messages go to the queue of instance 1
pub coregion_mailbox : queue_numbers (Uniform Mailbox) (chart_of coregion) ≡ 1 ∷ 1 ∷ []
unfolding chart_events events_of acts_of instances_of line partner output_of input_of sender_of receiver_of queue_number queue_of
coregion_mailbox = refl

-- under Pair: 0 to 1, 0 to 2, and 2 to 1, of 3 instances
pub relay_pair : queue_numbers (Uniform Pair) (chart_of relay) ≡ 1 ∷ 2 ∷ 7 ∷ []
unfolding chart_events events_of acts_of instances_of line partner output_of input_of sender_of receiver_of queue_number queue_of
relay_pair = refl

-- under Mailbox: the queues of instances 1, 2 and 1
pub relay_mailbox : queue_numbers (Uniform Mailbox) (chart_of relay) ≡ 1 ∷ 2 ∷ 1 ∷ []
unfolding chart_events events_of acts_of instances_of line partner output_of input_of sender_of receiver_of queue_number queue_of
relay_mailbox = refl

-- under Single: the queue of each message
pub relay_single : queue_numbers (Uniform Single) (chart_of relay) ≡ 0 ∷ 1 ∷ 2 ∷ []
unfolding chart_events events_of acts_of instances_of line partner output_of input_of sender_of receiver_of queue_number queue_of
relay_single = refl
