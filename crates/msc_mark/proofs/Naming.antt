-- The events that the words of a mark name, word by word.
use Rattle.std.proofs.Common.{◌≡◌, ℕ, ◌+◌, ◌<◌, ◌≤◌, Bool, true, false, ◌&&◌, ◌||◌, cond, List, Option, Some, length, get_or, slice_get, drop, codes, refl, sym, ap, ◌∙◌}
use Rattle.std.specs.Option.{option_copied}
use Rattle.std.specs.Str.{bytes_eq}
use Rattle.bit_rows.specs.Rows.{has}
use Rattle.msc_mark.specs.declared.ident.Ident as code
use Rattle.msc_mark.specs.declared.place.MarkPlace.{MarkPlace}
use Rattle.msc_mark.specs.declared.place.MarkPlace.TheVariants.{Race, Ok, Parts, Architecture, Events, Event, Number, Done, Wrong}
use Rattle.msc_mark.specs.declared.word.Closing.{Closing}
use Rattle.msc_mark.specs.declared.word.Closing.TheVariants.{Bare, Comma, Semicolon, Other}
use Rattle.msc_mark.specs.Places.{next, closed_architecture, closed_event, closed_number}
use Rattle.msc_mark.specs.Words.{name_of, closing_of}
use Rattle.msc_mark.specs.Accepting.{Heard, heard, ends_half, is_event_place, is_half, is_named, is_number_place, names_ident, some_word}
use Rattle.msc_mark.specs.Named.{follows, hears}
use Rattle.msc_mark.proofs.Hearing.{heard_as, word_at, word_none}
use Rattle.msc_mark.proofs.Noting.{or_joined, or_none}

and_none : (a : Bool) → (a && false) ≡ false
and_none true = refl
and_none false = refl

and_all : (a : Bool) → (a && true) ≡ a
and_all true = refl
and_all false = refl

-- of three it is one which two are joined first
and_swapped : (a b c : Bool) → ((a && b) && c) ≡ ((a && c) && b)
and_swapped false b c = refl
and_swapped true true c = sym (and_all c)
and_swapped true false c = sym (and_none c)

-- no number is next at either of two places
neither_number : (b : Bool) (p r : MarkPlace) → is_number_place p ≡ false → is_number_place r ≡ false
    → is_number_place (cond b p r) ≡ false
neither_number true p r h k = h
neither_number false p r h k = k

closed_architecture_goes : (c : Closing) → is_number_place (closed_architecture c) ≡ false
closed_architecture_goes Bare = refl
closed_architecture_goes Comma = refl
closed_architecture_goes Semicolon = refl
closed_architecture_goes Other = refl

closed_number_goes : (c : Closing) → is_number_place (closed_number c) ≡ false
closed_number_goes Bare = refl
closed_number_goes Comma = refl
closed_number_goes Semicolon = refl
closed_number_goes Other = refl

closed_event_is : (c : Closing) → is_number_place (closed_event c) ≡ ends_half c
closed_event_is Bare = refl
closed_event_is Comma = refl
closed_event_is Semicolon = refl
closed_event_is Other = refl

-- a number is next exactly after the name of an event that ends with a comma
number_next : (place : MarkPlace) (w : List ℕ)
    → is_number_place (next place w) ≡ (is_event_place place && ends_half (closing_of w))
number_next Race w = neither_number _ Ok Wrong refl refl
number_next Ok w = neither_number _ Parts Wrong refl refl
number_next Parts w =
    let other : MarkPlace = cond (bytes_eq w (codes "with")) Event Wrong in
    neither_number (bytes_eq w (codes "in")) Architecture other refl (neither_number (bytes_eq w (codes "with")) Event Wrong refl refl)
number_next Architecture w = neither_number _ _ Wrong (closed_architecture_goes (closing_of w)) refl
number_next Events w = neither_number _ Event Wrong refl refl
number_next Event w = closed_event_is (closing_of w)
number_next Number w = closed_number_goes (closing_of w)
number_next Done w = refl
number_next Wrong w = refl

-- the first half of a name is heard exactly where a number follows that name
half_next : (x : List ℕ) (place : MarkPlace) (w : List ℕ) → is_half x place w ≡ follows (next place w) (name_of w) x
half_next x place w =
    and_swapped (is_event_place place) (bytes_eq (name_of w) x) (ends_half (closing_of w))
    ∙ ap (λ b. b && bytes_eq (name_of w) x) (sym (number_next place w))

-- what was heard at a place, where `before` is the name in the word before it
abbrev pub heard_at : List ℕ → MarkPlace → List ℕ → Heard
heard_at x place before = record { half = follows place before x; place = place }

-- and with one word more
heard_next : (x : List ℕ) (place : MarkPlace) (before w : List ℕ)
    → heard_at x (next place w) (name_of w) ≡ heard x (heard_at x place before) w
heard_next x place before w =
    heard_as x (heard_at x place before) w (follows (next place w) (name_of w) x) (next place w) (sym (half_next x place w)) refl

-- the event is named in the words from a place on
abbrev pub named_from : List ℕ → Option (List ℕ) → MarkPlace → List ℕ → List (List ℕ) → Bool
named_from x number place before ws =
    some_word (λ (h : Heard) w. is_named x number h.half h.place w) (heard x) (heard_at x place before) ws

module _ (keys : List code.Ident) (old : List ℕ) (words : List (List ℕ)) where
  -- the row, and what the words from i on name, are what all words name
  abbrev pub IsPutTo : ℕ → MarkPlace → List ℕ → List ℕ → Type 0
  IsPutTo i place before now =
      (q : ℕ) (k : code.Ident) → slice_get keys q ≡ Some k
      → (has now q || named_from k.name.now (option_copied k.number) place before (drop i words))
      ≡ (has old q || names_ident k.name.now (option_copied k.number) words)

  -- one word more
  pub put_next : (i : ℕ) (place there : MarkPlace) (before name w d : List ℕ) (now more : List ℕ)
      (ident : Option code.Ident) → i < length words → w ≡ get_or words i d
      → ((x : List ℕ) (number : Option (List ℕ)) → hears ident x number ≡ is_named x number (follows place before x) place w)
      → ((q : ℕ) (k : code.Ident) → slice_get keys q ≡ Some k → has more q ≡ (has now q || hears ident k.name.now (option_copied k.number)))
      → there ≡ next place w → name ≡ name_of w
      → IsPutTo i place before now → IsPutTo (i + 1) there name more
  put_next i place there before name w d now more ident inside is tells puts place_is name_is so_far q k at =
      let x = k.name.now in
      let number = option_copied k.number in
      let rest = drop (i + 1) words in
      let here = is_named x number (follows place before x) place w in
      let behind = named_from x number (next place w) (name_of w) rest in
      let test = λ (h : Heard) (v : List ℕ). is_named x number h.half h.place v in
      let walked : named_from x number place before (drop i words) ≡ (here || behind) =
      word_at test (heard x) (heard_at x place before) words i w d inside is
      ∙ ap (λ h. here || some_word test (heard x) h rest) (sym (heard_next x place before w)) in
      let moved : named_from x number there name rest ≡ behind =
      ap (λ p. named_from x number p name rest) place_is ∙ ap (λ n. named_from x number (next place w) n rest) name_is in
      ap (λ b. b || named_from x number there name rest) (puts q k at ∙ ap (λ b. has now q || b) (tells x number))
      ∙ ap (λ b. (has now q || here) || b) moved
      ∙ or_joined (has now q) here behind
      ∙ ap (λ b. has now q || b) (sym walked)
      ∙ so_far q k at

  -- no word is left
  pub put_last : (i : ℕ) (place : MarkPlace) (before now : List ℕ) → length words ≤ i → IsPutTo i place before now
      → (q : ℕ) (k : code.Ident) → slice_get keys q ≡ Some k
      → has now q ≡ (has old q || names_ident k.name.now (option_copied k.number) words)
  put_last i place before now past so_far q k at =
      let x = k.name.now in
      let number = option_copied k.number in
      sym (ap (λ b. has now q || b) (word_none (λ (h : Heard) (v : List ℕ). is_named x number h.half h.place v) (heard x) (heard_at x place before) words i past)
      ∙ or_none (has now q))
      ∙ so_far q k at
