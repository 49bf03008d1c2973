-- Lists of claims: what one claim more changes.
use Rattle.std.proofs.Common.{◌≡◌, ◌≢◌, ◌⊎◌, inl, inr, ⊎_elim, map, ℕ, zero, suc, ◌+◌, ◌<◌, ◌==◌, Bool, true, false, cond, true≢false, List, [], ◌∷◌, ◌++◌, length, Some, slice_get, sym, refl, ap, ◌∙◌, subst, arith, eq-eqb, ne_eqb, append-nil}
use Rattle.msc_fifo.specs.declared.claim.Claim.{Claim}
use Rattle.msc_fifo.specs.Entries.{sender_of, HasNothingOf}
use Rattle.msc_fifo.specs.World.{Slot, Spot, slot, spot, spot_of, entries, own, Covers}
use Rattle.msc_fifo.specs.Lists.{Each}

-- the entries of two lists, one after the other
pub entries-append : (log more : List Slot) → entries (log ++ more) ≡ entries log ++ entries more
entries-append [] more = refl
entries-append (y ∷ log) more = ap (λ l. y.entry ∷ l) (entries-append log more)

module _ {A : Type 0} where
  -- a choice that is true
  pub cond-true : (b : Bool) (x y : A) → b ≡ true → cond b x y ≡ x
  cond-true true x y e = refl
  cond-true false x y e = absurd (true≢false (sym e))

  -- a choice that is false
  pub cond-false : (b : Bool) (x y : A) → b ≡ false → cond b x y ≡ y
  cond-false true x y e = absurd (true≢false e)
  cond-false false x y e = refl

  -- a choice in front of an append is one in front of its first part
  pub cond-append : (b : Bool) (x : A) (xs ys zs : List A) → zs ≡ xs ++ ys → cond b (x ∷ zs) zs ≡ cond b (x ∷ xs) xs ++ ys
  cond-append true x xs ys zs e = ap (λ l. x ∷ l) e
  cond-append false x xs ys zs e = e

  -- what stands in the first list stands in both
  pub get_front : (xs ys : List A) (k : ℕ) (e : A) → slice_get xs k ≡ Some e → slice_get (xs ++ ys) k ≡ Some e
  get_front [] ys k e h = cc
  get_front (x ∷ xs) ys zero e h = h
  get_front (x ∷ xs) ys (suc k) e h = get_front xs ys k e h

  -- what stands in both before the end of the first stands in the first
  pub get_back : (xs ys : List A) (k : ℕ) (e : A) → k < length xs → slice_get (xs ++ ys) k ≡ Some e → slice_get xs k ≡ Some e
  get_back [] ys k e lt h = absurd (omega arith)
  get_back (x ∷ xs) ys zero e lt h = h
  get_back (x ∷ xs) ys (suc k) e lt h = get_back xs ys k e (omega arith) h

  -- what stands in both stands in the first or in the second
  pub get_either : (xs ys : List A) (k : ℕ) (e : A) → slice_get (xs ++ ys) k ≡ Some e → (slice_get xs k ≡ Some e) ⊎ ((j : ℕ) × (slice_get ys j ≡ Some e))
  get_either [] ys k e h = inr (k, h)
  get_either (x ∷ xs) ys zero e h = inl h
  get_either (x ∷ xs) ys (suc k) e h = get_either xs ys k e h

  -- the last member
  pub get_last : (xs : List A) (e : A) (k : ℕ) → k ≡ length xs → slice_get (xs ++ e ∷ []) k ≡ Some e
  get_last [] e zero h = refl
  get_last [] e (suc k) h = absurd (omega arith)
  get_last (x ∷ xs) e zero h = absurd (omega arith)
  get_last (x ∷ xs) e (suc k) h = get_last xs e k (omega arith)

  -- what stands at a place is inside
  pub get_inside : (xs : List A) (k : ℕ) (e : A) → slice_get xs k ≡ Some e → k < length xs
  get_inside [] k e h = cc
  get_inside (x ∷ xs) zero e h = omega arith
  get_inside (x ∷ xs) (suc k) e h = let r = get_inside xs k e h in omega arith

  -- what holds of all holds of one among them
  pub member : (P : A → Type 0) (xs : List A) (k : ℕ) (x : A) → slice_get xs k ≡ Some x → Each P xs → P x
  member P [] k x at h = cc
  member P (y ∷ xs) zero x at h = let is : y ≡ x = cc in subst P is h.0
  member P (y ∷ xs) (suc k) x at h = member P xs k x at h.1

  -- all members of two lists
  pub each-append : (P : A → Type 0) (xs ys : List A) → Each P xs → Each P ys → Each P (xs ++ ys)
  each-append P [] ys a b = b
  each-append P (x ∷ xs) ys a b = (a.0, each-append P xs ys a.1 b)

  -- what follows for each member follows for all
  pub each-map : (P Q : A → Type 0) (xs : List A) → ((x : A) → P x → Q x) → Each P xs → Each Q xs
  each-map P Q [] f h = tt
  each-map P Q (x ∷ xs) f h = (f x h.0, each-map P Q xs f h.1)

-- a claim more is the last of its sender
pub own-mine : (i k n : ℕ) (log : List Slot) (x : Slot) → sender_of x.entry ≡ i → n ≡ k + length log → own i k (log ++ x ∷ []) ≡ own i k log ++ spot n x ∷ []
own-mine i k n [] x same at = let here : k ≡ n = omega arith in cond-true (sender_of x.entry == i) (spot k x ∷ []) [] (eq-eqb (sender_of x.entry) i same) ∙ ap (λ (j : ℕ). spot j x ∷ []) here
own-mine i k n (y ∷ log) x same at = cond-append (sender_of y.entry == i) (spot k y) (own i (k + 1) log) (spot n x ∷ []) (own i (k + 1) (log ++ x ∷ [])) (own-mine i (k + 1) n log x same (omega arith))

-- a claim of another sender is none of this one
pub own-other : (i k : ℕ) (log : List Slot) (x : Slot) → sender_of x.entry ≢ i → own i k (log ++ x ∷ []) ≡ own i k log
own-other i k [] x other = cond-false (sender_of x.entry == i) (spot k x ∷ []) [] (ne_eqb (sender_of x.entry) i other)
own-other i k (y ∷ log) x other = cond-append (sender_of y.entry == i) (spot k y) (own i (k + 1) log) [] (own i (k + 1) (log ++ x ∷ [])) (own-other i (k + 1) log x other ∙ sym (append-nil (own i (k + 1) log))) ∙ append-nil (own i k (y ∷ log))

-- where nothing of a sender stands, it claimed nothing
pub own-nothing : (i k : ℕ) (log : List Slot) → HasNothingOf i (entries log) → own i k log ≡ []
own-nothing i k [] h = refl
own-nothing i k (y ∷ log) h = cond-false (sender_of y.entry == i) (spot k y ∷ own i (k + 1) log) (own i (k + 1) log) (ne_eqb (sender_of y.entry) i h.0) ∙ own-nothing i (k + 1) log h.1

-- a clock still covers the places up to its own after more claims
pub covers_longer : (log more : List Slot) (k n : ℕ) (x : Slot) → slice_get log k ≡ Some x → Covers log k n → Covers (log ++ more) k n
covers_longer log more k n x at covers j y le here = let inside = get_inside log k x at in let lt : j < length log = omega arith in covers j y le (get_back log more j y lt here)

module _ {A : Type 0} where
  -- a member behind a choice is the first or one of the rest
  pub cond-get : (b : Bool) (d c : A) (cs : List A) (k : ℕ) → slice_get (cond b (d ∷ cs) cs) k ≡ Some c → (d ≡ c) ⊎ ((j : ℕ) × (slice_get cs j ≡ Some c))
  cond-get true d c cs zero h = let same : d ≡ c = cc in inl same
  cond-get true d c cs (suc k) h = inr (k, h)
  cond-get false d c cs k h = inr (k, h)

-- what a sender claimed stands at its place
pub own_get : (i k n : ℕ) (log : List Slot) (s : Spot) → slice_get (own i k log) n ≡ Some s → (j : ℕ) × (s.place ≡ k + j) × (slice_get log j ≡ Some s.slot)
own_get i k n [] s h = cc
own_get i k n (x ∷ log) s h = ⊎_elim
    (λ (e : spot k x ≡ s). (0, (let place : k ≡ s.place = ap (λ (t : Spot). t.place) e in omega arith), ap (λ (t : Spot). Some t.slot) e))
    (λ (r : (j : ℕ) × (slice_get (own i (k + 1) log) j ≡ Some s)). let q = own_get i (k + 1) r.0 log s r.1 in (suc q.0, (let place = q.1 in omega arith), q.2))
    (cond-get (sender_of x.entry == i) (spot k x) s (own i (k + 1) log) n h)

-- a claim without its clock stands where the claim does
pub spot_get : (cs ds : List Claim) (k : ℕ) (c : Claim) → slice_get cs k ≡ Some c → slice_get (map spot_of (cs ++ ds)) k ≡ Some (spot_of c)
spot_get [] ds k c h = cc
spot_get (d ∷ cs) ds zero c h = let same : d ≡ c = cc in ap (λ (x : Claim). Some (spot_of x)) same
spot_get (d ∷ cs) ds (suc k) c h = spot_get cs ds k c h

-- so a claim of a sender stands at its place
pub claim_get : (i k : ℕ) (log : List Slot) (cs ds : List Claim) (c : Claim) → map spot_of (cs ++ ds) ≡ own i 0 log → slice_get cs k ≡ Some c → slice_get log c.place ≡ Some (slot c.entry c.offer)
claim_get i k log cs ds c is at = let r = own_get i 0 k log (spot_of c) (ap (λ (l : List Spot). slice_get l k) (sym is) ∙ spot_get cs ds k c at) in
    let place : c.place ≡ r.0 = (let e = r.1 in omega arith) in ap (slice_get log) place ∙ r.2
