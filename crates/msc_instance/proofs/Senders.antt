-- The quotas of those who send to a queue: none, or few enough.
use Rattle.std.proofs.Common.{◌≡◌, ℕ, zero, suc, ◌≤◌, Bool, false, cond, List, [], ◌∷◌, ◌++◌, length, get_or, filter, take, refl, sym, ap, ◌∙◌, inl, inr, arith, nat_lt, nat_eq}
use Rattle.std.proofs.lemmas.Bool.{le-ltb, and_left}
use Rattle.std.proofs.lemmas.List.{append-nil}
use Rattle.std.proofs.lemmas.List.Sums.{length-filter, sum_by-cons}
use Rattle.std.specs.Prelude.{sum}
use Rattle.msc_chart.proofs.ListLemmas.{by_test}
use Rattle.msc_fifo.specs.declared.TheConstants.{QUOTA_LIMIT, SENDER_LIMIT}
use Rattle.msc_fifo.specs.Identity.{QueueId}
use Rattle.msc_fifo.specs.Ends.{new_outlet, new_inlet, IsTooLarge}
use Rattle.msc_instance.specs.declared.ends.InstanceEnds.{InstanceEnds}
use Rattle.msc_instance.specs.Handing.{AreHandedOut, ends_at, outlet_for, inlet_for, senders_among}

-- what neither the head nor the rest has stands nowhere
at_either : (x : ℕ) (xs : List ℕ) (i : ℕ) → nat_lt 0 x ≡ false
    → ((k : ℕ) → nat_lt 0 (get_or xs k 0) ≡ false) → nat_lt 0 (get_or (x ∷ xs) i 0) ≡ false
at_either x xs zero head rest = head
at_either x xs (suc i) head rest = rest i

-- where nobody sends, nobody has a quota
pub no_quota : (quotas : List ℕ) (i : ℕ) → filter (nat_lt 0) quotas ≡ []
    → nat_lt 0 (get_or quotas i 0) ≡ false
no_quota [] i none = refl
no_quota (x ∷ xs) i none =
    by_test (nat_lt 0 x)
    (λ some. let is = ap (λ b. cond b (x ∷ filter (nat_lt 0) xs) (filter (nat_lt 0) xs)) some in
    let wrong : x ∷ filter (nat_lt 0) xs ≡ [] = sym is ∙ none in cc)
    (λ head.
    let rest : filter (nat_lt 0) xs ≡ [] = let is =
    ap (λ b. cond b (x ∷ filter (nat_lt 0) xs) (filter (nat_lt 0) xs)) head in sym is ∙ none in
    at_either x xs i head (λ k. no_quota xs k rest))

-- and nothing is handed out
pub none_handed : (id : QueueId) (q : ℕ) (quotas : List ℕ) (receiver : ℕ) (all : List InstanceEnds)
    → filter (nat_lt 0) quotas ≡ []
    → AreHandedOut q quotas receiver all all
none_handed id q quotas receiver all none =
    let no_senders : nat_lt 0 (senders_among quotas) ≡ false =
    le-ltb 0 _ (omega (arith, length-filter (nat_lt 0) quotas, ap length none)) in
    record {
      id = id;
      outlets = λ i lt.
          let its : outlet_for id q quotas i ≡ [] =
          ap (λ (b : Bool). cond b ((
            q,
            new_outlet id (senders_among (take i quotas))
                (get_or quotas i 0),
          ) ∷ []) []) (no_quota quotas i none) in
          sym (append-nil (ends_at all i).outlets)
          ∙ ap (λ l. (ends_at all i).outlets ++ l) (sym its);
      inlets = λ i lt.
          let its : inlet_for id q quotas receiver i ≡ [] =
          ap (λ (b : Bool). cond b ((q, new_inlet id (senders_among quotas)) ∷ []) [])
          (and_left (nat_lt 0 (senders_among quotas)) (nat_eq receiver i) no_senders) in
          sym (append-nil (ends_at all i).inlets) ∙ ap (λ l. (ends_at all i).inlets ++ l) (sym its);
      under = λ a h. h;
    }

-- the quotas of those who send are no more, and add up to no more
pub fewer : (quotas : List ℕ) → (length (filter (nat_lt 0) quotas) ≤ length quotas)
    × (sum (filter (nat_lt 0) quotas) ≤ sum quotas)
fewer [] = (omega arith, omega arith)
fewer (x ∷ xs) =
    let r = fewer xs in
    let whole = sum_by-cons (λ y. y) x xs in
    let kept = sum_by-cons (λ y. y) x (filter (nat_lt 0) xs) in
    by_test (nat_lt 0 x)
    (λ some.
    let is : filter (nat_lt 0) (x ∷ xs) ≡ x ∷ filter (nat_lt 0) xs =
    ap (λ b. cond b (x ∷ filter (nat_lt 0) xs) (filter (nat_lt 0) xs)) some in
    rw is (omega (arith, r), omega (arith, r, whole, kept)))
    (λ none.
    let is : filter (nat_lt 0) (x ∷ xs) ≡ filter (nat_lt 0) xs =
    ap (λ b. cond b (x ∷ filter (nat_lt 0) xs) (filter (nat_lt 0) xs)) none in
    rw is (omega (arith, r), omega (arith, r, whole)))

-- so a queue is not too large for them
pub not_large : (own quotas : List ℕ) → own ≡ filter (nat_lt 0) quotas → length quotas ≤ SENDER_LIMIT
    → sum quotas ≤ QUOTA_LIMIT → IsTooLarge own → ⊥
not_large own quotas is few low large =
    let small = fewer quotas in
    let long = ap length is in
    let total = ap sum is in
    elim large [ inl many ↦ omega (arith, small, long) | inr much ↦ omega (arith, small, total) ]
