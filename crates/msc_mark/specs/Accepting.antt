-- Which races marks accept.
use Rattle.std.specs.Prelude.{ℕ, Bool, true, false, ◌&&◌, ◌||◌, not, cond, nat_eq, List, [], ◌∷◌, length, filter, find, is_some, Option, None, Some, codes}
use Rattle.std.specs.List.{list_any, range_with_len}
use Rattle.std.specs.Option.{option_map_or}
use Rattle.std.specs.Str.{bytes_eq}
use Rattle.msc_chart.specs.declared.queue.Queues.{Queues}
use Rattle.msc_chart.specs.Architectures.{queues_word}
use Rattle.msc_chart.specs.Charts.{is_local, message}
use Rattle.msc_chart.specs.Drawings.{Drawing, message_at}
use Rattle.msc_mark.specs.declared.mark.Mark.{Mark}
use Rattle.msc_mark.specs.declared.place.MarkPlace.{MarkPlace}
use Rattle.msc_mark.specs.declared.place.MarkPlace.TheVariants.{Race, Architecture, Event, Number}
use Rattle.msc_mark.specs.declared.word.Closing.{Closing}
use Rattle.msc_mark.specs.declared.word.Closing.TheVariants.{Bare, Comma, Semicolon, Other}
use Rattle.msc_mark.specs.Places.{next}
use Rattle.msc_mark.specs.Words.{name_of, closing_of}

-- the place is behind `in` or the comma of an architecture
abbrev pub is_architecture_place : MarkPlace → Bool
is_architecture_place Architecture = true
is_architecture_place place = false

-- it is behind `with` or the semicolon of an event
abbrev pub is_event_place : MarkPlace → Bool
is_event_place Event = true
is_event_place place = false

-- it is behind the comma of a message's name
abbrev pub is_number_place : MarkPlace → Bool
is_number_place Number = true
is_number_place place = false

-- the word ends with a comma
abbrev pub ends_half : Closing → Bool
ends_half Bare = false
ends_half Comma = true
ends_half Semicolon = false
ends_half Other = false

-- some word passes a test in the state that those before it lead to
unfoldable pub some_word : {S : Type 0} → (S → List ℕ → Bool) → (S → List ℕ → S) → S → List (List ℕ) → Bool
some_word test step s [] = false
some_word test step s (w ∷ ws) = test s w || some_word test step (step s w) ws

-- some word stands at a place that passes the test
abbrev pub has_part : (MarkPlace → Bool) → List (List ℕ) → Bool
has_part test words = some_word (λ place w. test place) next Race words

-- the word at a place is the one for this architecture
abbrev pub is_queues : Queues → MarkPlace → List ℕ → Bool
is_queues queues place w =
    is_architecture_place place && bytes_eq (name_of w) (queues_word queues)

-- the architecture is among those that are named
abbrev pub names_queues : Queues → List (List ℕ) → Bool
names_queues queues words = some_word (is_queues queues) next Race words

-- the word at a place is this name of a message, and a number follows
abbrev pub is_half : List ℕ → MarkPlace → List ℕ → Bool
is_half name place w =
    (is_event_place place && bytes_eq (name_of w) name) && ends_half (closing_of w)

-- the word at a place is this name of a message, and no number follows; or it is this number, and `half`
-- says that the name stands before it
abbrev pub is_named : List ℕ → Option (List ℕ) → Bool → MarkPlace → List ℕ → Bool
is_named name None half place w =
    (is_event_place place && bytes_eq (name_of w) name) && not (ends_half (closing_of w))
is_named name (Some number) half place w =
    (half && is_number_place place) && bytes_eq (name_of w) number

-- a place, and whether the name of an event's message stands before it, with a comma
pub record Heard : Type 0 where
  pub half : Bool
  pub place : MarkPlace

-- behind one more word
abbrev pub heard : List ℕ → Heard → List ℕ → Heard
heard name h w = record { half = is_half name h.place w; place = next h.place w }

-- the event is among those that are named
abbrev pub names_ident : List ℕ → Option (List ℕ) → List (List ℕ) → Bool
names_ident name number words =
    some_word (λ h w. is_named name number h.half h.place w) (heard name) (record { half = false; place = Race }) words

-- the mark is for the architecture: it names this one, or none
abbrev pub is_for_queues : Queues → Mark → Bool
is_for_queues queues m =
    not (has_part is_architecture_place m.words) || names_queues queues m.words

-- it is for races with an event that is called so: it names this one, or none
abbrev pub names_event : List ℕ → Option (List ℕ) → Mark → Bool
names_event name number m =
    not (has_part is_event_place m.words) || names_ident name number m.words

-- what a mark calls event e: the name of its message, or the word `action`
abbrev pub name_at : Drawing → ℕ → List ℕ
name_at d e = cond (is_local d.events e) (codes "action") (message_at d (message d.events e)).name

-- and its message instance name, if it has one
abbrev pub number_at : Drawing → ℕ → Option (List ℕ)
number_at d e = cond (is_local d.events e) None (message_at d (message d.events e)).number

-- the mark is of event e, and for the architecture
abbrev pub is_mark_for : Queues → ℕ → Mark → Bool
is_mark_for queues e m = nat_eq m.event e && is_for_queues queues m

-- the mark of event e that is for the architecture, if there is one; an event has one comment at most
unfoldable pub mark_for : List Mark → Queues → ℕ → Option Mark
mark_for marks queues e = find (is_mark_for queues e) marks

-- event e has a mark that is for the architecture and for event f
unfoldable pub accepts_from : List Mark → Drawing → Queues → ℕ → ℕ → Bool
accepts_from marks d queues e f =
    option_map_or (names_event (name_at d f) (number_at d f)) (mark_for marks queues e) false

-- the race (e, f) is accepted: one of its events has a mark that is for the architecture and for the
-- other one
abbrev pub is_accepted : List Mark → Drawing → Queues → ℕ → ℕ → Bool
is_accepted marks d queues e f =
    accepts_from marks d queues e f || accepts_from marks d queues f e

-- what contracts see of what is accepted: marks, a chart and an architecture
pub record Acceptance : Type 0 where
  pub marks : List Mark
  pub chart : Drawing
  pub queues : Queues

-- these three
abbrev pub acceptance : List Mark → Drawing → Queues → Acceptance
acceptance marks chart queues = record { marks = marks; chart = chart; queues = queues }

-- the race is accepted
abbrev pub accepts_race : Acceptance → ℕ × ℕ → Bool
accepts_race a p = is_accepted a.marks a.chart a.queues p.0 p.1

-- the mark of event x fits this race
abbrev pub fits_race : Acceptance → ℕ → ℕ × ℕ → Bool
fits_race a x p =
    (nat_eq p.0 x && accepts_from a.marks a.chart a.queues p.0 p.1) || (nat_eq p.1 x && accepts_from a.marks a.chart a.queues p.1 p.0)

-- it fits one of these races
unfoldable pub fits_some : Acceptance → List (ℕ × ℕ) → ℕ → Bool
fits_some a races x = list_any (fits_race a x) races

-- event x has a mark that is for the architecture, and it fits none of these races
abbrev pub is_stale : Acceptance → List (ℕ × ℕ) → ℕ → Bool
is_stale a races x = is_some (mark_for a.marks a.queues x) && not (fits_some a races x)

-- the events with such marks, ascending
abbrev pub stale_events : Acceptance → List (ℕ × ℕ) → List ℕ
stale_events a races = filter (is_stale a races) (range_with_len 0 (length a.chart.events))
