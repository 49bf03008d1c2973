-- The parts of a text that are marked, event by event and note by note.
use Rattle.std.proofs.Common.{◌≡◌, ℕ, ◌+◌, ◌<◌, ◌==◌, Bool, true, false, cond, List, [], ◌∷◌, ◌++◌, Option, None, Some, length, slice_get, take, drop, get_or, inl, inr, refl, sym, ap, ◌∙◌, arith}
use Rattle.std.specs.List.{flat_map}
use Rattle.std.proofs.lemmas.Grind.{flat_map-append}
use Rattle.std.proofs.lemmas.List.{append-nil, append_assoc, at_drop_all, at_drop_more, get_or-take, length-take}
use Rattle.std.proofs.lemmas.Option.{slice_get_cases}
use Rattle.msc_notes.specs.declared.note.Note.{Note}
use Rattle.msc_place.specs.declared.places.EventPlace.{EventPlace}
use Rattle.msc_refusals.specs.Parts.{begun, first_at, one_place, places_of}

module _ (at n : ℕ) (xs : List EventPlace) (e : ℕ) (same : first_at (drop e (take n xs)) at ≡ first_at (take n xs) at) where
  module _ (x : EventPlace) (below : e < n) (inside : e < length xs) (here : get_or xs e x ≡ x) where
    -- what begins what is left
    next : first_at (drop e (take n xs)) at ≡ first_at (x ∷ drop (e + 1) (take n xs)) at
    next =
        let long = length-take n xs in
        at_drop_more (λ events. first_at events at) (take n xs) e x (omega (arith, below, inside, long))
        ∙ ap (λ y. first_at (y ∷ drop (e + 1) (take n xs)) at) (get_or-take n xs e x below ∙ here)

    found : (y : EventPlace) (b : Bool) → (x.start == at) ≡ b → cond b (Some x) None ≡ Some y → Some y ≡ first_at (take n xs) at
    found y true begins is = sym is ∙ sym (next ∙ rw begins refl) ∙ same
    found y false begins is = absurd cc

    passed : (b : Bool) → (x.start == at) ≡ b → cond b (Some x) None ≡ None → first_at (drop (e + 1) (take n xs)) at ≡ first_at (take n xs) at
    passed true begins is = absurd cc
    passed false begins is = sym (next ∙ rw begins refl) ∙ same

  -- the event that begins there is found
  pub hit : (y : EventPlace) → e < n → begun at (slice_get xs e) ≡ Some y → Some y ≡ first_at (take n xs) at
  hit y below is = elim (slice_get_cases xs e).1 [
    | inl (x, inside, listed, here) ↦ found x below inside here y (x.start == at) refl (ap (begun at) (sym listed) ∙ is)
    | inr (past, none) ↦ let no : None ≡ Some y = ap (begun at) (sym none) ∙ is in absurd cc
  ]

  -- or passed over
  pub missed : e < n → begun at (slice_get xs e) ≡ None → first_at (drop (e + 1) (take n xs)) at ≡ first_at (take n xs) at
  missed below is = elim (slice_get_cases xs e).1 [
    | inl (x, inside, listed, here) ↦ passed x below inside here (x.start == at) refl (ap (begun at) (sym listed) ∙ is)
    | inr (past, none) ↦
        let long = length-take n xs in
        at_drop_all (λ events. first_at events at) (take n xs) (e + 1) (omega (arith, past, long))
        ∙ sym (at_drop_all (λ events. first_at events at) (take n xs) e (omega (arith, past, long)))
        ∙ same
  ]

-- the places of one note more
pub places_more : (place : Option ℕ) (ns : List Note) (n : Note) → places_of place (ns ++ n ∷ []) ≡ places_of place ns ++ one_place n.place
places_more place ns n =
    let each : Note → List ℕ = λ note. one_place note.place in
    ap (λ l. one_place place ++ l) (flat_map-append each ns (n ∷ []) ∙ ap (λ l. flat_map each ns ++ l) (append-nil (one_place n.place)))
    ∙ sym (append_assoc (one_place place) (flat_map each ns) (one_place n.place))
