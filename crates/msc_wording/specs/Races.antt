-- Races in words.
use Rattle.std.specs.Prelude.{ℕ, Bool, true, false, cond, not, ◌&&◌, ◌==◌, List, ◌++◌, codes}
use Rattle.std.specs.Str.{bytes_eq}
use Rattle.msc_reason.specs.declared.cause.RaceKind.{RaceKind}
use Rattle.msc_reason.specs.declared.cause.RaceKind.TheVariants.{Early, Overtaken, Queues, Unordered}
use Rattle.msc_wording.specs.declared.event.Act.{Act}
use Rattle.msc_wording.specs.declared.event.Act.TheVariants.{Receives}
use Rattle.msc_wording.specs.declared.race.SpokenRace.{SpokenRace}
use Rattle.msc_wording.specs.Events.{does_text, name_at, peer_text, with_line}
use Rattle.msc_wording.specs.Pairs.{second_text}
use Rattle.msc_wording.specs.Ways.{way_text}

abbrev pub verb : Bool → List ℕ
verb is_always = cond is_always (codes "always receives") (codes "can receive")

-- how each sentence begins: `X can receive M2`
unfoldable pub receives_text : List (List ℕ) → SpokenRace → List ℕ
receives_text names race =
    name_at names race.pair.second.owner ++ (codes " " ++ (verb race.is_always ++ (codes " " ++ second_text race.pair)))

-- `X can receive M2 from Y2 before it sends M1 to Y1`
abbrev pub before_act_sentence : List (List ℕ) → SpokenRace → List ℕ
before_act_sentence names race =
    receives_text names race ++ (codes " from " ++ (peer_text names race.pair.second
    ++ (codes " before it " ++ does_text names race.pair.first race.pair.first.act)))

-- `X can receive M2 from Y2 before M1 from Y1`
abbrev pub two_senders_sentence : List (List ℕ) → SpokenRace → List ℕ
two_senders_sentence names race =
    receives_text names race ++ (codes " from " ++ (peer_text names race.pair.second
    ++ (codes " before " ++ (race.pair.first.message.now ++ (codes " from " ++ peer_text names race.pair.first)))))

-- `X can receive M2 before M1, both from Y`, of these parts
unfoldable pub both_from : List ℕ → List ℕ → List ℕ → List ℕ
both_from receives first sender = receives ++ (codes " before " ++ (first ++ (codes ", both from " ++ sender)))

abbrev pub one_sender_sentence : List (List ℕ) → SpokenRace → List ℕ
one_sender_sentence names race =
    both_from (receives_text names race) race.pair.first.message.now (peer_text names race.pair.second)

-- the same with lines
abbrev pub alike_sentence : List (List ℕ) → SpokenRace → List ℕ
alike_sentence names race =
    both_from (with_line (receives_text names race) race.pair.second.line)
    (with_line race.pair.first.message.now race.pair.first.line) (peer_text names race.pair.second)

-- the two messages have one name, and are on two lines
abbrev pub are_alike : SpokenRace → Bool
are_alike race =
    bytes_eq race.pair.first.message.now race.pair.second.message.now
    && not (race.pair.first.line == race.pair.second.line)

-- the sentence on two inputs
abbrev pub senders_sentence : List (List ℕ) → SpokenRace → List ℕ
senders_sentence names race =
    cond (not (race.pair.first.peer == race.pair.second.peer)) (two_senders_sentence names race)
    (cond (are_alike race) (alike_sentence names race) (one_sender_sentence names race))

-- the sentence, by what the first event does
abbrev pub race_sentence : List (List ℕ) → SpokenRace → Act → List ℕ
race_sentence names race Receives = senders_sentence names race
race_sentence names race act = before_act_sentence names race

-- the labels of the marks: of both events, and of the one mark if they are in one statement
abbrev pub first_label : Bool → List ℕ
first_label is_next = cond is_next (codes "drawn first, in one round") (codes "drawn first")

abbrev pub second_label : Bool → Bool → List ℕ
second_label false false = codes "can happen first"
second_label false true = codes "can happen first, in the next round"
second_label true false = codes "always happens first"
second_label true true = codes "always happens first, in the next round"

abbrev pub shared_label : Bool → List ℕ
shared_label is_always =
    cond is_always (codes "drawn first, but a later round always happens first") (codes "drawn first, but a later round can happen first")

-- why an input can come before an output or an action
abbrev pub early_reason : List (List ℕ) → SpokenRace → List ℕ
early_reason names race =
    cond race.is_always (codes "no run has the drawn order") (
    cond (race.pair.second.peer == race.pair.second.owner) (codes "nothing orders the two")
    (codes "nothing makes " ++ (name_at names race.pair.second.peer ++ codes " wait for that"))
    )

-- why two inputs can come in the other order: what does not order them, unless no run has the drawn order
abbrev pub two_reason : SpokenRace → List ℕ → List ℕ
two_reason race nothing =
    way_text race.way ++ (codes ", and " ++ cond race.is_always (codes "no run has the drawn order") nothing)

-- why two inputs come in the order of their outputs
abbrev pub overtaken_reason : SpokenRace → List ℕ
overtaken_reason race = way_text race.way ++ (codes ", and " ++ (second_text race.pair ++ codes " is sent first"))

-- why it is a race, by its kind
abbrev pub race_reason : List (List ℕ) → SpokenRace → RaceKind → List ℕ
race_reason names race Early = early_reason names race
race_reason names race Queues = two_reason race (codes "nothing orders them")
race_reason names race Unordered = two_reason race (codes "nothing orders the two sends")
race_reason names race Overtaken = overtaken_reason race
