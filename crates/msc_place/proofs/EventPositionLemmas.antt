-- The positions of all events.
use Rattle.std.proofs.Common.{◌≡◌, ℕ, ◌+◌, ◌<◌, ◌≤◌, inl, inr, List, [], ◌∷◌, ◌++◌, length, get_or, Option, MatchOption, sym, ap, subst, arith, below_more}
use Rattle.std.proofs.lemmas.List.{get_or_append_left}
use Rattle.std.proofs.lemmas.Option.{slice_get_cases, slice_get_past, slice_get_within, get_or_from_slice_get}
use Rattle.std.proofs.Math.Seq.{get_or-append_seam}
use Rattle.msc_parser.specs.Drafts.{statements_of}
use Rattle.msc_parser.specs.Grammar.{Tree}
use Rattle.msc_place.specs.declared.places.EventPlace.{EventPlace}
use Rattle.msc_place.specs.declared.position.Position.{Position}
use Rattle.msc_place.specs.Positions.{IsPosition}
use Rattle.msc_place.specs.EventPositions.{beginning, AreEventPositions}
use Rattle.msc_place.specs.Standing.{BeginsEvent, IsEventPlace, HasPlaces, Stand}
use Rattle.msc_place.specs.Collecting.{no_place}

-- position p is that of the k-th place
abbrev pub IsOf : List ℕ → List EventPlace → Position → ℕ → Type 0
IsOf text events p k = IsPosition text (get_or events k no_place).start p.line p.column

-- these are the positions of the first places
abbrev pub AreOf : List ℕ → List EventPlace → List Position → Type 0
AreOf text events ps = (k : ℕ) → k < length ps → IsOf text events (get_or ps k beginning) k

-- one position more
pub event_positions_more : (text : List ℕ) (events : List EventPlace) (ps : List Position) (p : Position)
    → AreOf text events ps → IsOf text events p (length ps)
    → (k : ℕ) → k < length ps + 1 → IsOf text events (get_or (ps ++ p ∷ []) k beginning) k
event_positions_more text events ps p known new =
    let Here : ℕ → Type 0 = λ k. IsOf text events (get_or (ps ++ p ∷ []) k beginning) k in
    below_more Here (length ps)
    (λ k lt. subst (λ q. IsOf text events q k) (sym (get_or_append_left ps (p ∷ []) beginning k lt)) (known k lt))
    (subst (λ q. IsOf text events q (length ps)) (sym (get_or-append_seam ps p [] beginning)) new)

module _ (text : List ℕ) (t : Tree) (p : Stand) (h : HasPlaces text t p) where
  -- what is said of the place of event e, by what stands there
  abbrev Here : ℕ → Option EventPlace → Type 0
  Here e o = MatchOption o (length (statements_of t.sections) ≤ e) (IsEventPlace text t e)

  -- there are as many places as events, at least
  enough : length (statements_of t.sections) ≤ length p.events
  enough =
      subst (Here (length p.events)) (slice_get_past p.events (length p.events) (omega arith)) (h.events (length p.events))

  -- the statement of an event begins at its place
  own : (e : ℕ) → e < length p.events → BeginsEvent text t e (get_or p.events e no_place).start
  own e lt = elim ((slice_get_cases p.events e).1) [
    | inl (x, lt', some, same) ↦
        let is : IsEventPlace text t e x = subst (Here e) some (h.events e) in
        subst (BeginsEvent text t e) (ap (λ (q : EventPlace). q.start) (sym (get_or_from_slice_get p.events e x no_place some))) is.start
    | inr (le, past) ↦ absurd (omega (arith, lt, le))
  ]

  -- and no more
  most : length p.events ≤ length (statements_of t.sections)
  most = elim ((slice_get_cases p.events (length (statements_of t.sections))).1) [
    | inl (x, lt, some, same) ↦
        let b = own (length (statements_of t.sections)) lt in
        let within = slice_get_within (statements_of t.sections) (length (statements_of t.sections)) b.event b.statement.listed in
        absurd (omega (arith, within))
    | inr (le, past) ↦ le
  ]

  -- the positions of all places are those of the events
  pub event_positions_all : (ps : List Position) → length ps ≡ length p.events → AreOf text p.events ps
      → AreEventPositions text t ps
  event_positions_all ps size known = record {
    size = omega (arith, size, enough, most);
    each = λ e lt. record {
      at = (get_or p.events e no_place).start;
      begins = own e (omega (arith, lt, size));
      position = known e lt;
    };
  }
