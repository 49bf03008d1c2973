-- What the code keeps of the events that marks name.
use Rattle.std.specs.Prelude.{◌≡◌, ℕ, ◌<◌, ◌≤◌, ◌*◌, Bool, false, ◌&&◌, List, [], length, get_or, slice_get, Option, None, Some}
use Rattle.std.specs.Option.{option_copied}
use Rattle.std.specs.Str.{bytes_eq}
use Rattle.bit_rows.specs.Rows.{has}
use Rattle.msc_chart.specs.Drawings.{Drawing}
use Rattle.msc_chart.specs.Events.{same_number}
use Rattle.msc_mark.specs.declared.ident.Ident as code
use Rattle.msc_mark.specs.declared.mark.Mark.{Mark}
use Rattle.msc_mark.specs.declared.place.MarkPlace.{MarkPlace}
use Rattle.msc_mark.specs.Accepting.{is_number_place, name_at, names_event, number_at}

-- the event has this name and this number, or none
abbrev pub hears : Option code.Ident → List ℕ → Option (List ℕ) → Bool
hears None name number = false
hears (Some k) name number = bytes_eq k.name.now name && same_number (option_copied k.number) number

-- a number is next, and follows this name: `before` is the name in the word before the place
abbrev pub follows : MarkPlace → List ℕ → List ℕ → Bool
follows place before name = is_number_place place && bytes_eq before name

-- no two keys have one name and one number
pub record AreApart (keys : List code.Ident) : Type 0 where
  pub one : (p q : ℕ) (a b : code.Ident) → slice_get keys p ≡ Some a → slice_get keys q ≡ Some b
      → a.name.now ≡ b.name.now → option_copied a.number ≡ option_copied b.number → p ≡ q

-- the row has the numbers of the keys that the mark is for
abbrev pub HasNamed : List code.Ident → Mark → List ℕ → Type 0
HasNamed keys m row =
    (q : ℕ) (k : code.Ident) → slice_get keys q ≡ Some k → has row q ≡ names_event k.name.now (option_copied k.number) m

-- what marks call event f has this number among the keys
pub record IsNumbered (d : Drawing) (keys : List code.Ident) (f : ℕ) (at : ℕ) : Type 0 where
  pub key : code.Ident
  pub there : slice_get keys at ≡ Some key
  pub name : key.name.now ≡ name_at d f
  pub number : option_copied key.number ≡ number_at d f

-- the keys are numbered, and each event has the number of its key
pub record AreNumbered (d : Drawing) (keys : List code.Ident) (numbers : List ℕ) : Type 0 where
  pub few : length keys ≤ length numbers
  pub apart : AreApart keys
  pub all : length numbers ≡ length d.events
  pub each : (f : ℕ) → f < length numbers → IsNumbered d keys f (get_or numbers f 0)

-- each mark has its row
pub record AreRows (keys : List code.Ident) (marks : List Mark) (rows : List (List ℕ)) : Type 0 where
  pub all : length rows ≡ length marks
  pub room : (i : ℕ) → i < length rows → length keys ≤ 64 * length (get_or rows i [])
  pub each : (i : ℕ) (m : Mark) → slice_get marks i ≡ Some m → HasNamed keys m (get_or rows i [])

-- mark m, which has this row, is for event f exactly if the row has the event's number
pub record IsKept (d : Drawing) (m : Mark) (row : List ℕ) (numbers : List ℕ) (f : ℕ) : Type 0 where
  pub known : f < length numbers
  pub within : get_or numbers f 0 < 64 * length row
  pub named : has row (get_or numbers f 0) ≡ names_event (name_at d f) (number_at d f) m

-- so it is with each mark and each event
pub record AreKept (marks : List Mark) (d : Drawing) (numbers : List ℕ) (rows : List (List ℕ)) : Type 0 where
  pub all : length rows ≡ length marks
  pub each : (i f : ℕ) (m : Mark) → slice_get marks i ≡ Some m → f < length d.events → IsKept d m (get_or rows i []) numbers f

-- marks, and a chart
pub record MarkedChart : Type 0 where
  pub marks : List Mark
  pub chart : Drawing

-- these two
abbrev pub marked_chart : List Mark → Drawing → MarkedChart
marked_chart marks chart = record { marks = marks; chart = chart }
