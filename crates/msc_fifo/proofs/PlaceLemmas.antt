-- The places of a queue: how they are read, and what the lists of the ends tell of them.
use Rattle.std.proofs.Common.{◌≡◌, ◌⊎◌, ℕ, zero, suc, ◌+◌, ◌<◌, ◌==◌, Bool, true, false, cond, true≢false, List, [], ◌∷◌, ◌++◌, map, length, count_by, Some, slice_get, inl, inr, ⊎_elim, sym, refl, ap, ◌∙◌, subst, arith, length-append, eq-or-lt_of_le, eq-eqb, eqb-true}
use Rattle.std.proofs.lemmas.List.Sums.{sum_by-cons}
use Rattle.msc_fifo.specs.declared.claim.Claim.{Claim}
use Rattle.msc_fifo.specs.declared.places.Place.{Place}
use Rattle.msc_fifo.specs.declared.rule.Sender.{Sender}
use Rattle.msc_fifo.specs.Claims.{claim, is_message}
use Rattle.msc_fifo.specs.Entries.{sender_of}
use Rattle.msc_fifo.specs.Ends.{OutletState}
use Rattle.msc_fifo.specs.Settlement.{entries_at, claims_of, place_of}
use Rattle.msc_fifo.specs.Lists.{Occurs, Each}
use Rattle.msc_fifo.specs.World.{Slot, Spot, spot, spot_of, entries, own}
use Rattle.msc_fifo.specs.Views.{offers_of}
use Rattle.msc_fifo.specs.Moves.{IsClaimOf}
use Rattle.msc_fifo.specs.Settling.{AreShownIn}
use Rattle.msc_fifo.proofs.LogLemmas.{cond-true, get_front, get_last}

-- a place more that was read is that of its claim
pub shown_more : (xs : List Sender) (ps : List Place) (p : Place) (k : ℕ) → k ≡ length ps → AreShownIn xs ps → ((c : Claim) → IsClaimOf c xs → c.place ≡ k → p ≡ place_of c) → AreShownIn xs (ps ++ p ∷ [])
shown_more xs ps p k at was is c of lt = ⊎_elim
    (λ (here : c.place ≡ length ps). get_last ps p c.place here ∙ ap Some (is c of (here ∙ sym at)))
    (λ (before : c.place < length ps). get_front ps (p ∷ []) c.place (place_of c) (was c of before)) (eq-or-lt_of_le (let n = length-append ps (p ∷ []) in omega arith))

-- the claims by places, with the clocks that the words hold
abbrev pub build : ℕ → (ℕ → ℕ) → List Slot → List Claim
build k clk [] = []
build k clk (x ∷ xs) = claim k x.entry x.offer (clk k) ∷ build (k + 1) clk xs

-- a claim with the clock that the words hold
abbrev pub dress : (ℕ → ℕ) → Spot → Claim
dress clk s = claim s.place s.slot.entry s.slot.offer (clk s.place)

-- the claims by places are for the entries
pub entries-build : (k : ℕ) (clk : ℕ → ℕ) (log : List Slot) → entries_at (build k clk log) ≡ entries log
entries-build k clk [] = refl
entries-build k clk (x ∷ log) = ap (λ l. x.entry ∷ l) (entries-build (k + 1) clk log)

-- as many claims as places
pub length-build : (k : ℕ) (clk : ℕ → ℕ) (log : List Slot) → length (build k clk log) ≡ length log
length-build k clk [] = refl
length-build k clk (x ∷ log) = ap suc (length-build (k + 1) clk log)

-- the claim at a place
pub get-build : (k n j : ℕ) (clk : ℕ → ℕ) (log : List Slot) (c : Claim) → n ≡ k + j → slice_get (build k clk log) j ≡ Some c → (x : Slot) × (slice_get log j ≡ Some x) × (claim n x.entry x.offer (clk n) ≡ c)
get-build k n j clk [] c at h = cc
get-build k n zero clk (x ∷ log) c at h = let here : n ≡ k = omega arith in let is : claim k x.entry x.offer (clk k) ≡ c = cc in (x, refl, (λ i. claim (here i) x.entry x.offer (clk (here i))) ∙ is)
get-build k n (suc j) clk (x ∷ log) c at h = get-build (k + 1) n j clk log c (omega arith) h

-- a choice between lists of claims
cond-map : (clk : ℕ → ℕ) (b : Bool) (s : Spot) (cs : List Claim) (bs : List Spot) → cs ≡ map (dress clk) bs → cond b (dress clk s ∷ cs) cs ≡ map (dress clk) (cond b (s ∷ bs) bs)
cond-map clk true s cs bs e = ap (λ l. dress clk s ∷ l) e
cond-map clk false s cs bs e = e

-- a sender's claims by places are its own
pub claims-build : (i k : ℕ) (clk : ℕ → ℕ) (log : List Slot) → claims_of i (build k clk log) ≡ map (dress clk) (own i k log)
claims-build i k clk [] = refl
claims-build i k clk (x ∷ log) = cond-map clk (sender_of x.entry == i) (spot k x) (claims_of i (build (k + 1) clk log)) (own i (k + 1) log) (claims-build i (k + 1) clk log)

-- claims with the clocks that the words hold are the claims
pub dressed : (clk : ℕ → ℕ) (cs : List Claim) → Each (λ (c : Claim). clk c.place ≡ c.clock) cs → map (dress clk) (map spot_of cs) ≡ cs
dressed clk [] h = refl
dressed clk (c ∷ cs) h = λ j. claim c.place c.entry c.offer (h.0 j) ∷ dressed clk cs h.1 j

module _ {A : Type 0} where
  -- what is in a list is in a longer one
  pub among_more : (y x : A) (xs : List A) → Occurs xs x → Occurs (y ∷ xs) x
  among_more y x xs h = (suc h.0, h.1)

  -- the same behind a choice
  cond-among : (b : Bool) (y x : A) (xs : List A) → Occurs xs x → Occurs (cond b (y ∷ xs) xs) x
  cond-among true y x xs h = among_more y x xs h
  cond-among false y x xs h = h

-- a claim stands among its sender's claims
pub among_own : (i k : ℕ) (log : List Claim) (c : Claim) → slice_get log k ≡ Some c → sender_of c.entry ≡ i → Occurs (claims_of i log) c
among_own i k [] c at is = cc
among_own i zero (d ∷ log) c at is = let same : d ≡ c = cc in subst (λ (l : List Claim). Occurs l c) (sym (cond-true (sender_of d.entry == i) (d ∷ claims_of i log) (claims_of i log) (eq-eqb (sender_of d.entry) i (ap (λ (x : Claim). sender_of x.entry) same ∙ is)))) (0, at)
among_own i (suc k) (d ∷ log) c at is = cond-among (sender_of d.entry == i) d c (claims_of i log) (among_own i k log c at is)

-- a member behind a choice is the first or one of the rest
cond-get : (b : Bool) (d c : Claim) (cs : List Claim) (k : ℕ) → slice_get (cond b (d ∷ cs) cs) k ≡ Some c → ((b ≡ true) × (d ≡ c)) ⊎ ((j : ℕ) × (slice_get cs j ≡ Some c))
cond-get true d c cs zero h = let same : d ≡ c = cc in inl (refl, same)
cond-get true d c cs (suc k) h = inr (k, h)
cond-get false d c cs k h = inr (k, h)

-- a sender's claims stand among all, and are its own
pub own_among : (i k : ℕ) (log : List Claim) (c : Claim) → slice_get (claims_of i log) k ≡ Some c → Occurs log c × (sender_of c.entry ≡ i)
own_among i k [] c at = cc
own_among i k (d ∷ log) c at = ⊎_elim
    (λ (h : ((sender_of d.entry == i) ≡ true) × (d ≡ c)). ((0, ap (λ (x : Claim). Some x) h.1), ap (λ (x : Claim). sender_of x.entry) (sym h.1) ∙ eqb-true (sender_of d.entry) i h.0))
    (λ (h : (j : ℕ) × (slice_get (claims_of i log) j ≡ Some c)). let r = own_among i h.0 log c h.1 in (among_more d c log r.0, r.1))
    (cond-get (sender_of d.entry == i) d c (claims_of i log) k at)

-- an offer of a list of claims is that of some message
pub offer_among : (cs : List Claim) (k n : ℕ) → slice_get (offers_of cs) k ≡ Some n → (c : Claim) × Occurs cs c × (is_message c.entry ≡ true) × (c.offer ≡ n)
offer_among [] k n at = cc
offer_among (c ∷ cs) k n at = both (is_message c.entry) refl at (λ j h. let r = offer_among cs j n h in (r.0, among_more c r.0 cs r.1, r.2, r.3))
  where
    -- the first claim has an offer where it is of a message
    both : (b : Bool) → is_message c.entry ≡ b → slice_get (cond b (c.offer ∷ offers_of cs) (offers_of cs)) k ≡ Some n → ((j : ℕ) → slice_get (offers_of cs) j ≡ Some n → (d : Claim) × Occurs (c ∷ cs) d × (is_message d.entry ≡ true) × (d.offer ≡ n))
        → (d : Claim) × Occurs (c ∷ cs) d × (is_message d.entry ≡ true) × (d.offer ≡ n)
    both true e h more = hit k h more
      where
        -- the offer is that one, or one of the other claims
        hit : (k : ℕ) → slice_get (c.offer ∷ offers_of cs) k ≡ Some n → ((j : ℕ) → slice_get (offers_of cs) j ≡ Some n → (d : Claim) × Occurs (c ∷ cs) d × (is_message d.entry ≡ true) × (d.offer ≡ n)) → (d : Claim) × Occurs (c ∷ cs) d × (is_message d.entry ≡ true) × (d.offer ≡ n)
        hit zero h more = let same : c.offer ≡ n = cc in (c, (0, refl), e, same)
        hit (suc k) h more = more k h
    both false e h more = more k h

-- a choice that is false counts nothing
cond-zero : (b : Bool) (n : ℕ) → b ≡ false → cond {A = ℕ} b 1 0 + n ≡ n
cond-zero true n e = absurd (true≢false e)
cond-zero false n e = omega arith

-- each sender has its outlet
pub outlet_of : (i : ℕ) (os : List OutletState) → count_by (λ o. o.sender == i) os ≡ 1 → (o : OutletState) × Occurs os o × (o.sender ≡ i)
outlet_of i [] e = absurd (omega arith)
outlet_of i (o ∷ os) e = both (o.sender == i) refl (λ no. let one = cond-zero (o.sender == i) (count_by (λ (x : OutletState). x.sender == i) os) no in
    let r = outlet_of i os (sym one ∙ sym (sum_by-cons (λ (x : OutletState). cond {A = ℕ} (x.sender == i) 1 0) o os) ∙ e) in (r.0, among_more o r.0 os r.1, r.2))
  where
    -- the first outlet is that sender's, or it is among the others
    both : (b : Bool) → (o.sender == i) ≡ b → ((o.sender == i) ≡ false → (x : OutletState) × Occurs (o ∷ os) x × (x.sender ≡ i)) → (x : OutletState) × Occurs (o ∷ os) x × (x.sender ≡ i)
    both true h more = (o, (0, refl), eqb-true o.sender i h)
    both false h more = more h
