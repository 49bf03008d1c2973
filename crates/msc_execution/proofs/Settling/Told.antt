-- What a queue's inlet got is what its receiver logged; nobody ended by a strange message.
use Rattle.std.proofs.Common.{◌≡◌, ◌≢◌, ℕ, ◌<◌, Bool, true, eqb, List, [], ◌∷◌, ◌++◌, length, get_or, filter, refl, sym, ap, ◌∙◌, inl, inr, arith, subst}
use Rattle.std.specs.Prelude.{Some, slice_get}
use Rattle.std.specs.List.{range_with_len}
use Rattle.std.proofs.lemmas.Bool.{eq-eqb, eqb-true, cases_lt}
use Rattle.std.proofs.lemmas.List.{append-nil}
use Rattle.std.proofs.lemmas.Option.{slice_get-get_or}
use Rattle.msc_chart.specs.declared.queue.Queues.{Queues}
use Rattle.msc_chart.specs.Lists.{occurs}
use Rattle.msc_chart.specs.Drawings.{Drawing, IsAccepted, input_of, sender_of}
use Rattle.msc_chart.specs.Laws.{senders_in, sends_to}
use Rattle.msc_chart.proofs.ListLemmas.{by_test, clash, occurs-left, occurs-push, occurs_at, occurs-head, IsDistinct}
use Rattle.msc_fifo.specs.Identity.{QueueId}
use Rattle.msc_fifo.specs.declared.entry.Entry.{Entry}
use Rattle.msc_fifo.specs.declared.accounts.Settled.{Settled}
use Rattle.msc_fifo.specs.Entries.{messages_of}
use Rattle.msc_fifo.specs.Ends.{InletState, new_inlet}
use Rattle.msc_ending.specs.declared.end.End.{End}
use Rattle.msc_ending.specs.declared.end.End.TheVariants.{Finished, Starved, Impatient, Stopped, Foreign}
use Rattle.msc_execution.specs.Roles.{Role, role, queues_in, takes_from, taken_queues, rank_of}
use Rattle.msc_execution.specs.Logs.{IsLogOf, Reading, sent, received}
use Rattle.msc_execution.specs.Growth.{HasTaken, all_messages}
use Rattle.msc_execution.specs.Running.{Left, EndsAs, IsNothingStrange, IsStrangeAlone}
use Rattle.msc_execution.specs.Settling.{of_queue, IsSettledOf}
use Rattle.msc_execution.proofs.Lists.Words.{in_none, passes, fails, once_left, once_apart}
use Rattle.msc_execution.proofs.Lists.Ranges.{in_range}
use Rattle.msc_execution.proofs.Wiring.Logged.{IsOf, sent_is, sent_once, taken_by}
use Rattle.msc_execution.proofs.Settling.Came.{Came, left_at, all_outlets, all_inlets, HaveEnded, AreEndsOf, AreAccountsOfLogs, AreSettled, IsTold}
use Rattle.msc_execution.proofs.Settling.Buckets.{numbers_stay}
use Rattle.msc_execution.proofs.Settling.FlatLists.{flat_lists}
use Rattle.msc_execution.proofs.Settling.Accounts.{accounts}
use Rattle.msc_execution.proofs.Settling.Backs.{find}
use Rattle.msc_execution.proofs.Settling.Parts.{in_a_part, once_of_parts, part_is_filter, rank_tells}

-- a sender of a queue is an instance that sends to it
pub in_senders : (queues : Queues) (d : Drawing) (q i : ℕ) → occurs (senders_in queues d q) i ≡ true
    → (i < length d.instances) × (sends_to queues d q i ≡ true)
unfolding senders_in
in_senders queues d q i h =
    let r = passes (sends_to queues d q) (range_with_len 0 (length d.instances)) i h in
    let w = in_range 0 (length d.instances) i r.0 in
    (omega (arith, w.1), r.1)

-- a queue from which an instance takes is one of the chart
in_taken : (queues : Queues) (d : Drawing) (i q : ℕ)
    → occurs (taken_queues (role queues d i)) q ≡ true
    → (occurs (queues_in queues d) q ≡ true) × (takes_from queues d q i ≡ true)
unfolding taken_queues
in_taken queues d i q h = passes (λ k. takes_from queues d k i) (queues_in queues d) q h

-- a message that was got under number j: the instance that sent it
pub record IsPart (queues : Queues) (d : Drawing) (q j m : ℕ) : Type 0 where
  pub from : ℕ
  pub sends : sends_to queues d q from ≡ true
  pub rank : rank_of queues d q from ≡ j
  pub is : IsOf queues d q from m

-- the same settled queue, from the ends that the flat lists hold
pub same_inlet : {queues : Queues} {d : Drawing} {id : ℕ → QueueId} {c : Came}
    {strange : ℕ → ℕ → List ℕ} {q : ℕ} {s : Settled}
    → (ends : AreEndsOf queues d id c strange q)
    → (inlet : InletState) × (of_queue q (all_inlets c (length d.instances)) ≡ inlet ∷ [])
    × IsSettledOf inlet (of_queue q (all_outlets c (length d.instances))) s
    → IsSettledOf ends.inlet (of_queue q (all_outlets c (length d.instances))) s
same_inlet {queues} {d} {id} {c} {strange} {q} {s} ends (inlet, alone, is) =
    let same : inlet ≡ ends.inlet =
    ap (λ (l : List InletState). get_or l 0 ends.inlet) (sym alone ∙ ends.alone) in
    subst (λ (n : InletState). IsSettledOf n (of_queue q (all_outlets c (length d.instances))) s)
    same is

-- one settled queue, whose ends the flat lists hold
module _ {queues : Queues} {d : Drawing} {id : ℕ → QueueId} {c : Came} {strange : ℕ → ℕ → List ℕ}
    {q : ℕ} {s : Settled}
    (accepted : IsAccepted d) (logs : (i : ℕ) → i < length d.instances → IsLogOf d i (c.logs i))
    (ends : AreEndsOf queues d id c strange q)
    (told : AreAccountsOfLogs queues d c q ends.inlet.got s) where
  -- what the inlet got
  abbrev got : List Entry
  got = ends.inlet.got

  -- what was got of a sender is a beginning of what its log sends
  begins : (k i : ℕ) → slice_get (senders_in queues d q) k ≡ Some i
      → (rest : List ℕ) × (sent queues d q (c.logs i) ≡ messages_of k got ++ rest)
  begins k i at =
      let (a, there, account) = told.each k i at in (
        a.left,
        sym account.put ∙ account.left
            ∙ ap (λ (l : List ℕ). l ++ a.left)
            (account.taken ∙ ap (λ (j : ℕ). messages_of j got) (told.rank k i at)),
      )

  -- what was got under a number was sent by the sender of this rank
  pub part : (j m : ℕ) → occurs (messages_of j got) m ≡ true → IsPart queues d q j m
  part j m h = elim (cases_lt j (length (senders_in queues d q))) [
    | inl lt ↦
        let i : ℕ = get_or (senders_in queues d q) j 0 in
        let at = slice_get-get_or (senders_in queues d q) j 0 lt in
        let w = in_senders queues d q i (occurs_at (senders_in queues d q) j lt) in
        let b = begins j i at in
        record {
          from = i;
          sends = w.1;
          rank = told.rank j i at;
          is = sent_is queues d accepted q i (c.logs i) m (logs i w.0)
              (ap (λ (l : List ℕ). occurs l m) b.1 ∙ occurs-left (messages_of j got) b.0 m h);
        }
    | inr le ↦ in_none m (ap (λ (l : List ℕ). occurs l m) (sym (told.none j le)) ∙ h)
  ]

  -- each message once
  part_once : (j : ℕ) → IsDistinct (messages_of j got)
  part_once j = elim (cases_lt j (length (senders_in queues d q))) [
    | inl lt ↦
        let i : ℕ = get_or (senders_in queues d q) j 0 in
        let at = slice_get-get_or (senders_in queues d q) j 0 lt in
        let w = in_senders queues d q i (occurs_at (senders_in queues d q) j lt) in
        let b = begins j i at in
        once_left (messages_of j got) b.0
        (subst IsDistinct b.1 (sent_once queues d accepted q i (c.logs i) (logs i w.0)))
    | inr le ↦ subst IsDistinct (sym (told.none j le)) tt
  ]

  -- so all that was got stands once
  pub got_once : IsDistinct (all_messages got)
  got_once = once_of_parts got part_once (λ m s' t a b.
      let x = part s' m a in
      let y = part t m b in
      sym x.rank ∙ ap (rank_of queues d q) (sym x.is.sender ∙ y.is.sender) ∙ y.rank)

  -- what was got under a sender's number is what of all messages the sender sends
  pub of_sender : (i : ℕ) → sends_to queues d q i ≡ true
      → messages_of (rank_of queues d q i) got
      ≡ filter (λ m. eqb (sender_of d m) i) (all_messages got)
  unfolding rank_of
  of_sender i sends =
      part_is_filter (rank_of queues d q i) (λ m. eqb (sender_of d m) i) got (λ j m h.
      let x = part j m h in
      by_test (eqb j (rank_of queues d q i))
      (λ yes.
      let same : x.from ≡ i =
      rank_tells (sends_to queues d q) x.from i x.sends sends
      (x.rank ∙ eqb-true j (rank_of queues d q i) yes) in
      yes ∙ sym (eq-eqb (sender_of d m) i (x.is.sender ∙ same)))
      (λ no.
      no ∙ sym (fails (eqb (sender_of d m) i) (λ t.
      clash (eq-eqb j (rank_of queues d q i)
      (sym x.rank ∙ ap (rank_of queues d q) (sym x.is.sender ∙ eqb-true (sender_of d m) i t)))
      no))))

-- whoever did not end by a strange message got nothing strange
nothing : (r : Role) (open' : Bool) (patience : ℕ) (reading : Reading) (left : Left)
    (strange : ℕ → List ℕ) (e : End)
    → EndsAs r open' patience reading left strange e → ((m : ℕ) → e ≢ Foreign m)
    → IsNothingStrange strange
nothing r open' patience reading left strange Finished h own = h.0
nothing r open' patience reading left strange Starved h own = h.0
nothing r open' patience reading left strange Impatient h own = h.0
nothing r open' patience reading left strange Stopped h own = h.0
nothing r open' patience reading left strange (Foreign m) h own = absurd (own m refl)

module _ {queues : Queues} {d : Drawing} {open' : Bool} {patience : ℕ} {id : ℕ → QueueId} {c : Came}
    {settled : List (ℕ × Settled)}
    (accepted : IsAccepted d) (ended : HaveEnded queues d open' patience id c)
    (all : AreSettled queues d c settled) where
  -- the accounts of a queue
  told_of : (q : ℕ) → occurs (queues_in queues d) q ≡ true
      → (ends : AreEndsOf queues d id c ended.grown.strange q)
      → (s : Settled) × AreAccountsOfLogs queues d c q ends.inlet.got s
  told_of q here ends =
      let f = find q settled (ap (λ (l : List ℕ). occurs l q) all.numbers ∙ here) in (
        f.0,
        accounts ends
            (same_inlet ends (all.each q f.0 f.1)),
      )

  -- a strange message would be one of the queue whose input is logged: then it was got twice
  alone_is_absurd : (i m : ℕ) → i < length d.instances
      → IsStrangeAlone (role queues d i) (left_at c i) (ended.grown.strange i) m → ⊥
  alone_is_absurd i m lt st =
      let q : ℕ = st.queue in
      let f : ℕ → InletState = λ k. new_inlet (id k) (length (senders_in queues d k)) in
      let stay =
      numbers_stay (HasTaken (role queues d i) (c.logs i) (ended.grown.readings i)
      (ended.grown.strange i)) f (λ x y h. h.number) (taken_queues (role queues d i))
      (c.back i).inlets (ended.grown.got i lt) in
      let taken = in_taken queues d i q (ap (λ (l : List ℕ). occurs l q) (sym stay) ∙ st.own) in
      let ends = flat_lists q accepted ended.grown taken.0 in
      let t = told_of q taken.0 ends in
      let same : i ≡ ends.receiver = eqb-true i ends.receiver (sym (ends.takes i) ∙ taken.1) in
      let mine : List ℕ = received queues d q (c.logs i) in
      let is : all_messages ends.inlet.got ≡ mine ++ m ∷ [] =
      ends.is_inlet.got
      ∙ ap (λ (r : ℕ). received queues d q (c.logs r) ++ ended.grown.strange r q) (sym same)
      ∙ ap (λ (l : List ℕ). mine ++ l) st.last in
      let once : IsDistinct (mine ++ m ∷ []) =
      subst IsDistinct is (got_once accepted ended.logs ends
      t.1) in
      let p =
      in_a_part ends.inlet.got m (ap (λ (l : List ℕ). occurs l m) is ∙ occurs-push mine m) in
      let x = part accepted ended.logs ends t.1 p.0 m p.1 in
      let logged : occurs (c.logs i) (input_of d m) ≡ true =
      st.is_strange (x.is.known, x.is.queue) in
      once_apart mine (m ∷ []) m once
      (taken_by queues d accepted q (c.logs i) m x.is.known x.is.queue logged) (occurs-head m [])

  -- so nobody ended by a strange message
  pub nobody : (i m : ℕ) → i < length d.instances → c.ends i ≢ Foreign m
  nobody i m lt is =
      alone_is_absurd i m lt
      (subst (λ (e : End). EndsAs (role queues d i) open' patience (ended.grown.readings i)
      (left_at c i) (ended.grown.strange i) e) is (ended.ended i lt))

  -- and what a queue's inlet got is what its receiver logged
  pub told : (q : ℕ) (ends : AreEndsOf queues d id c ended.grown.strange q)
      → occurs (queues_in queues d) q ≡ true
      → IsTold queues d c q ends.receiver ends.inlet.got
  told q ends here =
      let r : ℕ = ends.receiver in
      let t = told_of q here ends in
      let none : ended.grown.strange r q ≡ [] =
      nothing (role queues d r) open' patience (ended.grown.readings r) (left_at c r)
      (ended.grown.strange r) (c.ends r) (ended.ended r ends.within)
      (λ m. nobody r m ends.within) q in
      let whole : all_messages ends.inlet.got ≡ received queues d q (c.logs r) =
      ends.is_inlet.got ∙ ap (λ (l : List ℕ). received queues d q (c.logs r) ++ l) none
      ∙ append-nil (received queues d q (c.logs r)) in
      record {
        all = whole;
        each = λ i lt sends.
            of_sender accepted ended.logs ends t.1 i sends
            ∙ ap (filter (λ m. eqb (sender_of d m) i)) whole;
      }
