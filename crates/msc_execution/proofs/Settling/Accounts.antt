-- The accounts of a settled queue are its senders' logs.
use Rattle.std.proofs.Common.{◌≡◌, ℕ, zero, suc, ◌+◌, ◌<◌, ◌≤◌, Bool, false, cond, eqb, List, [], ◌∷◌, length, get_or, refl, sym, ap, ◌∙◌, arith, subst}
use Rattle.std.specs.Prelude.{Some, slice_get}
use Rattle.std.specs.List.{AllZip}
use Rattle.std.proofs.lemmas.Bool.{ne_eqb}
use Rattle.msc_chart.specs.declared.queue.Queues.{Queues}
use Rattle.msc_chart.specs.Drawings.{Drawing}
use Rattle.msc_chart.specs.Laws.{senders_in}
use Rattle.msc_fifo.specs.Identity.{QueueId}
use Rattle.msc_fifo.specs.declared.entry.Entry.{Entry}
use Rattle.msc_fifo.specs.declared.entry.Entry.TheVariants.{Message, Ended}
use Rattle.msc_fifo.specs.declared.accounts.Account.{Account}
use Rattle.msc_fifo.specs.declared.accounts.Settled.{Settled}
use Rattle.msc_fifo.specs.Entries.{messages_of, IsOrderly}
use Rattle.msc_fifo.specs.Ends.{OutletState}
use Rattle.msc_fifo.specs.Laws.{AreNumberedFrom}
use Rattle.msc_fifo.specs.Laws.AreNumberedFrom.{none_left, one_more}
use Rattle.msc_fifo.specs.Settlement.{HasAccount}
use Rattle.msc_execution.specs.Roles.{rank_of}
use Rattle.msc_execution.specs.Settling.{of_queue, IsSettledOf}
use Rattle.msc_execution.proofs.Settling.Came.{Came, all_outlets, IsOutletOf, AreEndsOf, IsAccountOfLog, AreAccountsOfLogs}

-- what stands at a place of a list, and what is beside it
zip_at : {B : Type 0} (T : ℕ → B → Type 0) (xs : List ℕ) (os : List B) (k i : ℕ) → AllZip T xs os
    → slice_get xs k ≡ Some i
    → (o : B) × T i o × (k < length os) × (get_or os k o ≡ o)
zip_at T [] [] k i h at = cc
zip_at T [] (o ∷ os) k i h at = absurd h
zip_at T (x ∷ xs) [] k i h at = absurd h
zip_at T (x ∷ xs) (o ∷ os) zero i h at =
    let same : x ≡ i = cc in
    (o, subst (λ (y : ℕ). T y o) same h.0, omega arith, refl)
zip_at T (x ∷ xs) (o ∷ os) (suc k) i h at =
    let r = zip_at T xs os k i h.1 at in
    (r.0, r.1, omega (arith, r.2), r.3)

-- outlets that are numbered in their order have their places as numbers
sender_at : (j k : ℕ) (os : List OutletState) (d : OutletState) → AreNumberedFrom j os
    → k < length os → (get_or os k d).sender ≡ j + k
sender_at j k os d (none_left _) lt = absurd (omega arith)
sender_at j zero os d (one_more _ o rest is more) lt = omega (arith, is)
sender_at j (suc k) os d (one_more _ o rest is more) lt = let r =
    sender_at (j + 1) k rest d more (omega arith) in omega (arith, r)

-- nothing of a sender past the last one
nothing_past : (n j : ℕ) (es : List Entry) → IsOrderly n es → n ≤ j → messages_of j es ≡ []
nothing_past n j [] h le = refl
nothing_past n j (Message s m ∷ es) h le =
    let other : eqb s j ≡ false = (let lt = h.0 in ne_eqb s j (λ e. omega arith)) in
    ap (λ (b : Bool). cond b (m ∷ messages_of j es) (messages_of j es)) other
    ∙ nothing_past n j es h.2 le
nothing_past n j (Ended s ∷ es) h le = nothing_past n j es h.2 le

module _ {queues : Queues} {d : Drawing} {id : ℕ → QueueId} {c : Came} {strange : ℕ → ℕ → List ℕ}
    {q : ℕ} {s : Settled}
    (ends : AreEndsOf queues d id c strange q)
    (settled : IsSettledOf ends.inlet (of_queue q (all_outlets c (length d.instances))) s) where
  -- the outlets of the queue
  abbrev bucket : List OutletState
  bucket = of_queue q (all_outlets c (length d.instances))

  -- the k-th sender is of rank k
  rank : (k i : ℕ) → slice_get (senders_in queues d q) k ≡ Some i → rank_of queues d q i ≡ k
  rank k i at =
      let z =
      zip_at (IsOutletOf queues d id c q) (senders_in queues d q) bucket k i ends.outlets at in
      let n = sender_at 0 k bucket z.0 ends.numbered z.2 in
      let e = ap (λ (o : OutletState). o.sender) z.3 in
      let f = z.1.sender in
      omega (arith, n, e, f)

  -- its account is the k-th
  each : (k i : ℕ) → slice_get (senders_in queues d q) k ≡ Some i
      → (a : Account) × (slice_get s.senders.items k ≡ Some a)
      × IsAccountOfLog queues d c q ends.inlet.got i a
  each k i at =
      let z =
      zip_at (IsOutletOf queues d id c q) (senders_in queues d q) bucket k i ends.outlets at in
      let (a, there, account) =
      subst (HasAccount s.senders.items ends.inlet.got) z.3 (settled.accounts k z.0 z.2) in
      let number : z.0.sender ≡ k = z.1.sender ∙ rank k i at in (
        a,
        ap (slice_get s.senders.items) (sym number) ∙ there,
        record {
          put = account.put ∙ z.1.put;
          taken = account.taken ∙ ap (λ (j : ℕ). messages_of j ends.inlet.got) z.1.sender;
          left = account.left;
          closed = account.closed ∙ z.1.closed;
        },
      )

  -- all of that together
  told : AreAccountsOfLogs queues d c q ends.inlet.got s
  told = record {
    many = settled.count ∙ ends.is_inlet.senders;
    rank = rank;
    each = each;
    none =
        λ j le. nothing_past ends.inlet.senders j ends.inlet.got settled.orderly
        (let e = ends.is_inlet.senders in omega arith);
  }

-- the accounts of a settled queue are its senders' logs
pub accounts : {queues : Queues} {d : Drawing} {id : ℕ → QueueId} {c : Came}
    {strange : ℕ → ℕ → List ℕ} {q : ℕ} {s : Settled}
    → (ends : AreEndsOf queues d id c strange q)
    → IsSettledOf ends.inlet (of_queue q (all_outlets c (length d.instances))) s
    → AreAccountsOfLogs queues d c q ends.inlet.got s
accounts ends settled = told ends settled
