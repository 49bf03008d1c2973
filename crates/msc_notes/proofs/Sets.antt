-- Sets of names and of ends of messages, seen through what their items show.
use Rattle.std.proofs.Common.{◌≡◌, ◌⊎◌, ◌↔◌, ℕ, ◌+◌, ◌<◌, ◌≤◌, Bool, true, false, if◌then◌else◌, List, [], ◌∷◌, ◌++◌, length, map, inl, inr, refl, sym, ap, subst, arith, Some}
use Rattle.indexmap.specs.IndexSet.{insert_key}
use Rattle.std.specs.List.{list_any}
use Rattle.std.proofs.lemmas.Bool.{cases_lt}
use Rattle.std.proofs.lemmas.List.{map-append}
use Rattle.std.proofs.lemmas.Option.{slice_get_within}
use Rattle.msc_chart.specs.Events.{Act}
use Rattle.msc_chart.specs.Events.Act.{OfMessage, Action}
use Rattle.msc_chart.specs.Faults.{HoldsAt, IsTwice, OfEnd}
use Rattle.msc_chart.specs.Lists.{StandsAt, Occurs}
use Rattle.msc_chart.proofs.Places.{any_from, occurs_from, one_at}
use Rattle.msc_notes.proofs.Ordered.{in_back, in_either, in_front, one_alone}

module _ {T : Type 0} (xs : List T) where
  -- x stands before place k
  abbrev pub Earlier : ℕ → T → Type 0
  Earlier k x = (j : ℕ) × (j < k) × StandsAt xs j x

  -- before the next place stands what stood before, and what stands at this one
  pub earlier_more : (k : ℕ) (y : T) → StandsAt xs k y
      → (x : T) → Earlier (k + 1) x ↔ (Earlier k x ⊎ (y ≡ x))
  earlier_more k y here x = (
    λ h. elim (cases_lt h.0 k) [
      | inl lt ↦ inl (h.0, lt, h.2)
      | inr ge ↦
          let same : h.0 ≡ k = omega (arith, h.1, ge) in
          inr (one_at xs k y x here (subst (λ (j : ℕ). StandsAt xs j x) same h.2))
    ],
    λ a. elim a [
      | inl h ↦ (h.0, omega (arith, h.1), h.2)
      | inr e ↦ (k, omega arith, subst (StandsAt xs k) e here)
    ],
  )

  -- so what shows all that stood before, and with it this, shows all that stands before the next
  pub earlier_grows : (k : ℕ) (y : T) → StandsAt xs k y → (x : T) (Old New : Type 0)
      → Old ↔ Earlier k x → New ↔ (Old ⊎ (y ≡ x)) → New ↔ Earlier (k + 1) x
  earlier_grows k y here x Old New so_far grown =
      let more = earlier_more k y here x in (
        λ n. more.1 (elim (grown.0 n) [ inl o ↦ inl (so_far.0 o) | inr e ↦ inr e ]),
        λ h. grown.1 (elim (more.0 h) [ inl o ↦ inl (so_far.1 o) | inr e ↦ inr e ]),
      )

  -- before the end stands all
  pub earlier_all : (k : ℕ) → length xs ≤ k → (x : T) → Earlier k x ↔ Occurs xs x
  earlier_all k past x = (
    λ h. (h.0, h.2),
    λ o. (o.0, omega (arith, past, slice_get_within xs o.0 x o.1), o.1),
  )

-- no key shows anything where there is none
pub none_there : {T X : Type 0} (view : T → X) (keys : List T) (x : X) → keys ≡ []
    → Occurs (map view keys) x → ⊥
none_there view keys x empty o =
    let h : StandsAt (map view []) o.0 x = subst (λ ks. StandsAt (map view ks) o.0 x) empty o.1 in cc

module _ {T X : Type 0} (view : T → X) (eq : T → T → Bool) (same : (a b : T) → (eq a b ≡ true) ↔ (view a ≡ view b)) where
  -- a key is found exactly where what it shows is there
  pub found : (keys : List T) (v : T) → (list_any (eq v) keys ≡ true) ↔ Occurs (map view keys) (view v)
  found keys v = (
    occurs_from view (eq v) (view v) (λ x e. sym ((same v x).0 e)) keys,
    any_from view (eq v) (view v) (λ x e. (same v x).1 (sym e)) keys,
  )

  inserted_by : (keys : List T) (v : T) (x : X) (b : Bool) → list_any (eq v) keys ≡ b
      → Occurs (map view (if b then keys else keys ++ v ∷ [])) x ↔ (Occurs (map view keys) x ⊎ (view v ≡ x))
  inserted_by keys v x true is = (
    λ o. inl o,
    λ a. elim a [
      | inl o ↦ o
      | inr e ↦ subst (Occurs (map view keys)) e ((found keys v).0 is)
    ],
  )
  inserted_by keys v x false is = rw (map-append view keys (v ∷ [])) (
    λ o. elim (in_either (map view keys) (view v ∷ []) x o) [
      | inl a ↦ inl a
      | inr b ↦ inr (one_alone (view v) x b)
    ],
    λ a. elim a [
      | inl o ↦ (o.0, in_front (map view keys) (view v ∷ []) o.0 x o.1)
      | inr e ↦ in_back (map view keys) (view v ∷ []) x (0, ap Some e)
    ],
  )

  -- the keys with one more show what they showed, and what that one shows
  pub inserted : (keys : List T) (v : T) (x : X)
      → Occurs (map view (insert_key eq keys v)) x ↔ (Occurs (map view keys) x ⊎ (view v ≡ x))
  inserted keys v x = inserted_by keys v x (list_any (eq v) keys) refl

module _ {T : Type 0} (P : T → Type 0) (xs : List T) (k : ℕ) (x : T) (here : StandsAt xs k x) where
  -- a fact of what stands at a place
  pub holds_here : P x → HoldsAt P xs k
  holds_here p = (x, here, p)

  pub holds_not : (P x → ⊥) → HoldsAt P xs k → ⊥
  holds_not none h = none (subst P (one_at xs k h.0 x h.1 here) h.2)

-- an end of a message stands earlier too
abbrev pub StandsEarlier : List Act → ℕ → Act → Type 0
StandsEarlier acts e = OfEnd (λ x. Earlier acts e (OfMessage x))

-- then it is there twice
pub twice_here : (acts : List Act) (e : ℕ) (a : Act) → StandsAt acts e a → StandsEarlier acts e a
    → IsTwice acts e
twice_here acts e (OfMessage x) here h = (x, here, h)
twice_here acts e (Action text) here h = absurd h

pub twice_not : (acts : List Act) (e : ℕ) (a : Act) → StandsAt acts e a
    → (StandsEarlier acts e a → ⊥) → IsTwice acts e → ⊥
twice_not acts e a here none h =
    none (subst (StandsEarlier acts e) (one_at acts e (OfMessage h.0) a h.1 here) h.2)
