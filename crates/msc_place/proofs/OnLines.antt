-- The first event of a line.
use Rattle.std.proofs.Common.{◌≡◌, ◌≢◌, ℕ, ◌+◌, ◌<◌, ◌≤◌, inl, inr, List, length, get_or, take, count_by, Option, MatchOption, sym, ap, subst, ◌∙◌, arith}
use Rattle.std.proofs.lemmas.Option.{slice_get_cases, slice_get_within, get_or_from_slice_get}
use Rattle.msc_parser.specs.Drafts.{statements_of}
use Rattle.msc_parser.specs.Grammar.{Tree}
use Rattle.msc_place.specs.declared.places.EventPlace.{EventPlace}
use Rattle.msc_place.specs.Positions.{is_line_end, IsPosition}
use Rattle.msc_place.specs.Standing.{BeginsEvent, IsEventPlace, HasPlaces, Stand, EachEventBeginsOnce, BeginsOnLine, IsFirstOnLine, HasNoneOnLine}
use Rattle.msc_place.specs.Collecting.{no_place}
use Rattle.msc_place.proofs.PositionLemmas.{line_told}

-- the line of a place
abbrev pub line_at : List ℕ → ℕ → ℕ
line_at text at = count_by is_line_end (take at text) + 1

-- none of the first events begins on the line
abbrev pub NoneBefore : List ℕ → List EventPlace → ℕ → ℕ → Type 0
NoneBefore text events line e =
    (k : ℕ) → k < e → line_at text (get_or events k no_place).start ≢ line

module _ (once : EachEventBeginsOnce) (text : List ℕ) (t : Tree) (p : Stand) (h : HasPlaces text t p) where
  -- an event is among the places, with its own
  listed_at : (f at : ℕ) → BeginsEvent text t f at
      → (f < length p.events) × (at ≡ (get_or p.events f no_place).start)
  listed_at f at b =
      let Here : Option EventPlace → Type 0 = λ o. MatchOption o (length (statements_of t.sections) ≤ f) (IsEventPlace text t f) in
      elim ((slice_get_cases p.events f).1) [
        | inl (x, lt, is, same) ↦
            let own : IsEventPlace text t f x = subst Here is (h.events f) in
            (lt, once text t f at x.start b own.start ∙ ap (λ (q : EventPlace). q.start) (sym (get_or_from_slice_get p.events f x no_place is)))
        | inr (le, none) ↦
            let past : length (statements_of t.sections) ≤ f = subst Here none (h.events f) in
            absurd (omega (arith, past, slice_get_within (statements_of t.sections) f b.event b.statement.listed))
      ]

  -- an event that begins on a line is on it
  listed_on : (line f : ℕ) → BeginsOnLine text t line f
      → (f < length p.events) × (line_at text (get_or p.events f no_place).start ≡ line)
  listed_on line f b =
      let l = listed_at f b.at b.begins in
      (l.0, ap (line_at text) (sym l.1) ∙ sym (line_told b.position))

  -- none of all
  pub none_found : (line : ℕ) → NoneBefore text p.events line (length p.events)
      → HasNoneOnLine text t line
  none_found line none = λ e b. let l = listed_on line e b in none e l.0 l.1

  -- the first one
  pub first_found : (line column e : ℕ) → e < length p.events
      → IsPosition text (get_or p.events e no_place).start line column
      → NoneBefore text p.events line e → IsFirstOnLine text t line e
  first_found line column e lt is none =
      let Here : Option EventPlace → Type 0 = λ o. MatchOption o (length (statements_of t.sections) ≤ e) (IsEventPlace text t e) in
      let begins : BeginsEvent text t e (get_or p.events e no_place).start =
      elim ((slice_get_cases p.events e).1) [
        | inl (x, lt', some, same) ↦
            let own : IsEventPlace text t e x = subst Here some (h.events e) in
            subst (BeginsEvent text t e) (ap (λ (q : EventPlace). q.start) (sym (get_or_from_slice_get p.events e x no_place some))) own.start
        | inr (le, past) ↦ absurd (omega arith)
      ] in
      record {
        begins = record { at = (get_or p.events e no_place).start; column = column; begins = begins; position = is };
        first = λ f lf b. none f lf (listed_on line f b).1;
      }
