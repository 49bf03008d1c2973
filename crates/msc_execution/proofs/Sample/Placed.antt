-- The claims of the sample are the places of its queue.
use Rattle.std.proofs.Common.{◌≡◌, ℕ, zero, suc, ◌<◌, ◌≤◌, true, false, [], ◌∷◌, get_or, Some, slice_get, refl, sym, ap, arith}
use Rattle.std.specs.Prelude.{count_by, nat_eq}
use Rattle.msc_chart.proofs.ListLemmas.{clash}
use Rattle.msc_fifo.specs.Identity.{QueueId}
use Rattle.msc_fifo.specs.declared.claim.Claim.{Claim}
use Rattle.msc_fifo.specs.Claims.{is_message}
use Rattle.msc_fifo.specs.Ends.{OutletState, AreOutletsOf}
use Rattle.msc_fifo.specs.Settlement.{IsPlaced, claims_of, entries_at, items_of}
use Rattle.msc_execution.specs.Samples.{all_claims}
use Rattle.msc_execution.proofs.Lists.Among.{each_at, among_single}
use Rattle.msc_execution.proofs.Sample.Back.{own_outlet, other_outlet, mailbox}

module _ (id : QueueId) where
  -- the claims are the places of the queue
  pub is_placed : IsPlaced (mailbox id) (own_outlet id ∷ other_outlet id ∷ []) all_claims
  is_placed = record {
    numbered = numbers;
    orderly = (
      omega arith,
      tt,
      (
        omega arith,
        tt,
        (omega arith, (λ e. omega arith, tt), (omega arith, tt, tt)),
      ),
    );
    claims =
        λ o among. each_at (λ (o : OutletState). o.claims ≡ claims_of o.sender all_claims)
        (own_outlet id ∷ other_outlet id ∷ []) o among.0 (refl, (refl, tt)) among.1;
    items =
        λ o among. each_at (λ (o : OutletState). entries_at o.claims ≡ items_of o)
        (own_outlet id ∷ other_outlet id ∷ []) o among.0 (refl, (refl, tt)) among.1;
    got = ([], refl);
    clocks = clocks;
    covers = λ c e c_in message e_in le.
        let is =
        each_at (λ (c : Claim). is_message c.entry ≡ true
        → c.clock ≡ 1) all_claims c c_in.0
        (λ _. refl, (λ _. refl, (λ h. clash h refl, (λ h. clash h refl, tt)))) c_in.1 message in
        let few =
        each_at (λ (c : Claim). c.offer ≤ 1) all_claims e e_in.0
        (omega arith, (omega arith, (omega arith, (omega arith, tt)))) e_in.1 in
        omega arith;
    offered = λ c c_in message.
        let is =
        each_at (λ (c : Claim). is_message c.entry ≡ true
        → c.clock ≡ 1) all_claims c c_in.0
        (λ _. refl, (λ _. refl, (λ h. clash h refl, (λ h. clash h refl, tt)))) c_in.1 message in
        (get_or all_claims 0 c, (0, refl), refl, sym is);
    marks = λ c c_in mark.
        each_at (λ (c : Claim). is_message c.entry ≡ false
        → c.clock ≡ 0) all_claims c c_in.0
        (λ h. clash refl h, (λ h. clash refl h, (λ _. refl, (λ _. refl, tt)))) c_in.1 mark;
  }
    where
      -- the place of each claim is its number
      numbers : (k : ℕ) (c : Claim) → slice_get all_claims k ≡ Some c → c.place ≡ k
      numbers zero c at = ap (λ (o : Claim). o.place) (sym (among_single (get_or all_claims 0 c) c 0 at))
      numbers (suc zero) c at =
          ap (λ (o : Claim). o.place) (sym (among_single (get_or all_claims 1 c) c 0 at))
      numbers (suc (suc zero)) c at =
          ap (λ (o : Claim). o.place) (sym (among_single (get_or all_claims 2 c) c 0 at))
      numbers (suc (suc (suc zero))) c at =
          ap (λ (o : Claim). o.place) (sym (among_single (get_or all_claims 3 c) c 0 at))
      numbers (suc (suc (suc (suc k)))) c at = cc

      -- the clocks of the messages are 1, and those of the end marks 0
      clocks : (k : ℕ) (c : Claim) → k < 4 → slice_get all_claims k ≡ Some c
          → c.clock ≡ get_or (1 ∷ 1 ∷ 0 ∷ 0 ∷ []) k 0
      clocks zero c lt at =
          ap (λ (o : Claim). o.clock) (sym (among_single (get_or all_claims 0 c) c 0 at))
      clocks (suc zero) c lt at =
          ap (λ (o : Claim). o.clock) (sym (among_single (get_or all_claims 1 c) c 0 at))
      clocks (suc (suc zero)) c lt at =
          ap (λ (o : Claim). o.clock) (sym (among_single (get_or all_claims 2 c) c 0 at))
      clocks (suc (suc (suc zero))) c lt at =
          ap (λ (o : Claim). o.clock) (sym (among_single (get_or all_claims 3 c) c 0 at))
      clocks (suc (suc (suc (suc k)))) c lt at = absurd (omega arith)

  -- the outlets are all of the queue's
  pub are_outlets : AreOutletsOf (mailbox id) (own_outlet id ∷ other_outlet id ∷ [])
  are_outlets = record { queue = same; count = refl; once = ones }
    where
      -- both are outlets of this queue
      same : (k : ℕ) (e : OutletState) → k < 2
          → (get_or (own_outlet id ∷ other_outlet id ∷ []) k e).queue ≡ id
      same zero e below = refl
      same (suc zero) e below = refl
      same (suc (suc k)) e below = absurd (omega arith)

      -- and each sender has one of them
      ones : (i : ℕ) → i < 2 → count_by (λ (x : OutletState). nat_eq x.sender i)
          (own_outlet id ∷ other_outlet id ∷ []) ≡ 1
      ones zero below = refl
      ones (suc zero) below = refl
      ones (suc (suc i)) below = absurd (omega arith)
