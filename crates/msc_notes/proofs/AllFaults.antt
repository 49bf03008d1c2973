-- The faults that are put at the back are those that stand.
use Rattle.std.proofs.Common.{◌≡◌, ◌⊎◌, ◌↔◌, ℕ, ◌<◌, ◌≤◌, true, false, List, [], length, inl, inr, refl, subst, arith}
use Rattle.std.proofs.lemmas.Option.{slice_get_within}
use Rattle.msc_lexer.specs.declared.TheConstants.{TEXT_LIMIT}
use Rattle.msc_parser.specs.Grammar.{Tree}
use Rattle.msc_chart.specs.declared.fault.ChartFault.{ChartFault}
use Rattle.msc_chart.specs.declared.fault.ChartFault.TheVariants.{TooManyInstances, TwiceInstance, HeaderWithoutBody, UnknownAddress, TooManyMessages, TooManyActions, TwiceEvent, UnmatchedOut, UnmatchedIn, Cyclic, Memory}
use Rattle.msc_chart.specs.Events.{acts_of, address_of, header_of, instances_of}
use Rattle.msc_chart.specs.Events.Act.{OfMessage}
use Rattle.msc_chart.specs.Faults.{HoldsAt, IsTwice, IsUnknown, IsUnmatched, OfEnd, Stands}
use Rattle.msc_notes.specs.AllFaults.{AreAllFaults, IsFault}
use Rattle.msc_notes.specs.Putting.{HasNames, HasPut, IsFewRepeats, decl_names, section_names}
use Rattle.msc_notes.proofs.Ends.{end_same_by}
use Rattle.msc_notes.proofs.Putting.{IsMade, Lists, lists_none, put_lists}

-- the names of a draft
pub names_are : (d : Tree) → section_names d.sections ≡ instances_of d
unfolding instances_of
names_are d = refl

pub headers_are : (d : Tree) → decl_names d.header ≡ header_of d
unfolding header_of
headers_are d = refl

-- a name is that of no section by the keys, or by the names
unknown_same : (keys names : List (List ℕ)) → HasNames keys names
    → (name : List ℕ) → IsUnknown keys name ↔ IsUnknown names name
unknown_same keys names h name = (λ u o. u ((h name).1 o), λ u o. u ((h name).0 o))

-- what holds of an element by one fact holds of it by another
holds_same : {T : Type 0} (P Q : T → Type 0) → ((x : T) → P x ↔ Q x) → (xs : List T) (i : ℕ)
    → HoldsAt P xs i ↔ HoldsAt Q xs i
holds_same P Q h xs i =
    (λ a. (a.0, a.1, (h a.0).0 a.2), λ a. (a.0, a.1, (h a.0).1 a.2))

-- the same numbers by another such fact
pub put_same : (make : ℕ → ChartFault) (P Q : ℕ → Type 0) (n : ℕ) (old new : List ChartFault)
    → ((k : ℕ) → k < n → P k ↔ Q k) → HasPut make P n old new → HasPut make Q n old new
put_same make P Q n old new h p = record {
  numbers = p.numbers;
  put = p.put;
  all = λ k. (
    λ o. let r = (p.all k).0 o in (r.0, (h k r.0).0 r.1),
    λ s. (p.all k).1 (s.0, (h k s.0).1 s.1),
  );
  ascending = p.ascending;
}

module _ (d : Tree) where
  -- the fault of a number stands
  abbrev pub StandsOf : (ℕ → ChartFault) → ℕ → Type 0
  StandsOf make k = IsFault d (make k)

  pub of_instances : (k : ℕ) → IsFewRepeats (instances_of d) k ↔ StandsOf TwiceInstance k
  unfolding Stands
  of_instances k =
      (λ s. record { sort = tt; number = s.0; stands = s.1 }, λ s. (s.number, s.stands))

  pub of_headers : (keys : List (List ℕ)) → HasNames keys (instances_of d) → (n : ℕ)
      → n ≤ TEXT_LIMIT → (k : ℕ) → k < n
      → HoldsAt (IsUnknown keys) (header_of d) k ↔ StandsOf HeaderWithoutBody k
  unfolding Stands
  of_headers keys h n few k lt =
      let same = holds_same _ _ (unknown_same keys (instances_of d) h) (header_of d) k in
      (λ s. record { sort = tt; number = omega arith; stands = same.0 s }, λ s. same.1 s.stands)

  pub of_addresses : (keys : List (List ℕ)) → HasNames keys (instances_of d) → (n : ℕ)
      → n ≤ TEXT_LIMIT → (k : ℕ) → k < n
      → HoldsAt (OfEnd (λ x. IsUnknown keys (address_of x))) (acts_of d) k ↔ StandsOf UnknownAddress k
  unfolding Stands
  of_addresses keys h n few k lt =
      let same = holds_same _ _ (end_same_by (λ x. IsUnknown keys (address_of x)) (λ x. IsUnknown (instances_of d) (address_of x)) (λ x. unknown_same keys (instances_of d) h (address_of x))) (acts_of d) k in
      (λ s. record { sort = tt; number = omega arith; stands = same.0 s }, λ s. same.1 s.stands)

  pub of_twice : (n : ℕ) → n ≤ TEXT_LIMIT → (k : ℕ) → k < n
      → IsTwice (acts_of d) k ↔ StandsOf TwiceEvent k
  unfolding Stands
  of_twice n few k lt =
      (λ s. record { sort = tt; number = omega arith; stands = s }, λ s. s.stands)

  pub of_outputs : (n : ℕ) → n ≤ TEXT_LIMIT → (k : ℕ) → k < n
      → HoldsAt (OfEnd (IsUnmatched true (acts_of d))) (acts_of d) k ↔ StandsOf UnmatchedOut k
  unfolding Stands
  of_outputs n few k lt =
      (λ s. record { sort = tt; number = omega arith; stands = s }, λ s. s.stands)

  pub of_inputs : (n : ℕ) → n ≤ TEXT_LIMIT → (k : ℕ) → k < n
      → HoldsAt (OfEnd (IsUnmatched false (acts_of d))) (acts_of d) k ↔ StandsOf UnmatchedIn k
  unfolding Stands
  of_inputs n few k lt =
      (λ s. record { sort = tt; number = omega arith; stands = s }, λ s. s.stands)

  -- the faults of each sort in turn
  abbrev Done : ℕ → ℕ → ℕ → ChartFault → Type 0
  Done i k e f =
      ((((((⊥ ⊎ IsMade TwiceInstance (StandsOf TwiceInstance) i f)
      ⊎ IsMade HeaderWithoutBody (StandsOf HeaderWithoutBody) k f)
      ⊎ IsMade UnknownAddress (StandsOf UnknownAddress) e f)
      ⊎ IsMade TwiceEvent (StandsOf TwiceEvent) e f)
      ⊎ IsMade UnmatchedOut (StandsOf UnmatchedOut) e f)
      ⊎ IsMade UnmatchedIn (StandsOf UnmatchedIn) e f)

  made_stands : (make : ℕ → ChartFault) (n : ℕ) (f : ChartFault) → IsMade make (StandsOf make) n f
      → IsFault d f
  made_stands make n f m = subst (IsFault d) m.3 m.2

  done_stands : (i k e : ℕ) (f : ChartFault) → Done i k e f → IsFault d f
  done_stands i k e f (inr m) = made_stands UnmatchedIn e f m
  done_stands i k e f (inl (inr m)) = made_stands UnmatchedOut e f m
  done_stands i k e f (inl (inl (inr m))) = made_stands TwiceEvent e f m
  done_stands i k e f (inl (inl (inl (inr m)))) = made_stands UnknownAddress e f m
  done_stands i k e f (inl (inl (inl (inl (inr m))))) = made_stands HeaderWithoutBody k f m
  done_stands i k e f (inl (inl (inl (inl (inl (inr m)))))) = made_stands TwiceInstance i f m
  done_stands i k e f (inl (inl (inl (inl (inl (inl m)))))) = absurd m

  stands_done : (i k e : ℕ) → length (instances_of d) ≤ i → length (header_of d) ≤ k
      → length (acts_of d) ≤ e → (f : ChartFault) → IsFault d f → Done i k e f
  unfolding Stands
  stands_done i k e is ks es (TwiceInstance n) h =
      let w = slice_get_within (instances_of d) n h.stands.0 h.stands.1 in
      inl (inl (inl (inl (inl (inr (n, omega (arith, w, is), h, refl))))))
  stands_done i k e is ks es (HeaderWithoutBody n) h =
      let w = slice_get_within (header_of d) n h.stands.0 h.stands.1 in
      inl (inl (inl (inl (inr (n, omega (arith, w, ks), h, refl)))))
  stands_done i k e is ks es (UnknownAddress n) h =
      let w = slice_get_within (acts_of d) n h.stands.0 h.stands.1 in
      inl (inl (inl (inr (n, omega (arith, w, es), h, refl))))
  stands_done i k e is ks es (TwiceEvent n) h =
      let w = slice_get_within (acts_of d) n (OfMessage h.stands.0) h.stands.1 in
      inl (inl (inr (n, omega (arith, w, es), h, refl)))
  stands_done i k e is ks es (UnmatchedOut n) h =
      let w = slice_get_within (acts_of d) n h.stands.0 h.stands.1 in
      inl (inr (n, omega (arith, w, es), h, refl))
  stands_done i k e is ks es (UnmatchedIn n) h =
      let w = slice_get_within (acts_of d) n h.stands.0 h.stands.1 in
      inr (n, omega (arith, w, es), h, refl)
  stands_done i k e is ks es TooManyInstances h = absurd h.sort
  stands_done i k e is ks es TooManyMessages h = absurd h.sort
  stands_done i k e is ks es TooManyActions h = absurd h.sort
  stands_done i k e is ks es (Cyclic n) h = absurd h.sort
  stands_done i k e is ks es Memory h = absurd h.sort

  -- what each sort in turn puts
  pub record ArePut (i k e : ℕ) (twice headers addresses ends outputs inputs : List ChartFault) : Type 0 where
    pub instances_put : HasPut TwiceInstance (StandsOf TwiceInstance) i [] twice
    pub headers_put : HasPut HeaderWithoutBody (StandsOf HeaderWithoutBody) k twice headers
    pub addresses_put : HasPut UnknownAddress (StandsOf UnknownAddress) e headers addresses
    pub ends_put : HasPut TwiceEvent (StandsOf TwiceEvent) e addresses ends
    pub outputs_put : HasPut UnmatchedOut (StandsOf UnmatchedOut) e ends outputs
    pub inputs_put : HasPut UnmatchedIn (StandsOf UnmatchedIn) e outputs inputs

  done_lists : (i k e : ℕ) (a b c x y z : List ChartFault) → ArePut i k e a b c x y z
      → Lists (Done i k e) 9 z
  done_lists i k e a b c x y z p =
      let t = put_lists TwiceInstance _ i [] a p.instances_put 2 (λ k. refl) (λ k. refl) _ 0 lists_none (omega arith) in
      let h = put_lists HeaderWithoutBody _ k a b p.headers_put 3 (λ k. refl) (λ k. refl) _ 2 t (omega arith) in
      let u = put_lists UnknownAddress _ e b c p.addresses_put 4 (λ k. refl) (λ k. refl) _ 3 h (omega arith) in
      let v = put_lists TwiceEvent _ e c x p.ends_put 7 (λ k. refl) (λ k. refl) _ 4 u (omega arith) in
      let w = put_lists UnmatchedOut _ e x y p.outputs_put 8 (λ k. refl) (λ k. refl) _ 7 v (omega arith) in
      put_lists UnmatchedIn _ e y z p.inputs_put 9 (λ k. refl) (λ k. refl) _ 8 w (omega arith)

  -- all that stand are put, and no other
  pub all_put : (i k e : ℕ) (a b c x y z : List ChartFault) → length (instances_of d) ≤ i
      → length (header_of d) ≤ k → length (acts_of d) ≤ e → ArePut i k e a b c x y z
      → AreAllFaults d z
  all_put i k e a b c x y z is ks es p =
      let l = done_lists i k e a b c x y z p in
      record {
        all = λ f. (
          λ o. done_stands i k e f ((l.all f).0 o),
          λ s. (l.all f).1 (stands_done i k e is ks es f s),
        );
        ascending = l.ascending;
      }
