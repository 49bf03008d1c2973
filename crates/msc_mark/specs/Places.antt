-- What may stand at each place of a mark: `race ok`, then `in` and architectures behind commas, then
-- `with` and events behind semicolons, an event being a name or a name, a comma and a number.
use Rattle.std.specs.Prelude.{ℕ, Bool, true, false, cond, List, [], ◌∷◌, codes}
use Rattle.std.specs.Str.{bytes_eq}
use Rattle.msc_mark.specs.declared.word.Closing.{Closing}
use Rattle.msc_mark.specs.declared.word.Closing.TheVariants.{Bare, Comma, Semicolon, Other}
use Rattle.msc_mark.specs.declared.place.MarkPlace.{MarkPlace}
use Rattle.msc_mark.specs.declared.place.MarkPlace.TheVariants.{Race, Ok, Parts, Architecture, Events, Event, Number, Done, Wrong}
use Rattle.msc_mark.specs.Words.{name_of, closing_of, is_architecture}

-- the place behind the word for an architecture, which ends so
abbrev pub closed_architecture : Closing → MarkPlace
closed_architecture Bare = Events
closed_architecture Comma = Architecture
closed_architecture Semicolon = Wrong
closed_architecture Other = Wrong

-- the place behind a word that is to be an architecture, with a comma where another one follows
abbrev pub behind_architecture : List ℕ → MarkPlace
behind_architecture word =
    cond (is_architecture (name_of word)) (closed_architecture (closing_of word)) Wrong

-- the place behind a name that ends so
abbrev pub closed_event : Closing → MarkPlace
closed_event Bare = Done
closed_event Comma = Number
closed_event Semicolon = Event
closed_event Other = Wrong

-- the place behind a word that is to be a name, with a comma where a number follows, and a semicolon
-- where another event does
abbrev pub behind_event : List ℕ → MarkPlace
behind_event word = closed_event (closing_of word)

-- the place behind a number that ends so
abbrev pub closed_number : Closing → MarkPlace
closed_number Bare = Done
closed_number Comma = Wrong
closed_number Semicolon = Event
closed_number Other = Wrong

-- the place behind a word that is to be a number, with a semicolon where another event follows
abbrev pub behind_number : List ℕ → MarkPlace
behind_number word = closed_number (closing_of word)

-- the place behind a word
abbrev pub next : MarkPlace → List ℕ → MarkPlace
next Race word = cond (bytes_eq word (codes "race")) Ok Wrong
next Ok word = cond (bytes_eq word (codes "ok")) Parts Wrong
next Parts word =
    cond (bytes_eq word (codes "in")) Architecture (cond (bytes_eq word (codes "with")) Event Wrong)
next Architecture word = behind_architecture word
next Events word = cond (bytes_eq word (codes "with")) Event Wrong
next Event word = behind_event word
next Number word = behind_number word
next Done word = Wrong
next Wrong word = Wrong

-- the place behind words
unfoldable pub behind : MarkPlace → List (List ℕ) → MarkPlace
behind place [] = place
behind place (w ∷ ws) = behind (next place w) ws

-- a reason may follow
abbrev pub is_complete : MarkPlace → Bool
is_complete Race = false
is_complete Ok = false
is_complete Parts = true
is_complete Architecture = false
is_complete Events = true
is_complete Event = false
is_complete Number = false
is_complete Done = true
is_complete Wrong = false
