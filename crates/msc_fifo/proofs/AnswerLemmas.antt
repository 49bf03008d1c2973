-- What the joined seat tells of the places, and the answers that follow.
use Rattle.std.proofs.Common.{◌≡◌, ℕ, zero, suc, ◌<◌, ◌≤◌, ◌==◌, true, List, [], ◌∷◌, ◌++◌, map, length, set, count_by, All, Some, slice_get, slice_index, ⊎_elim, sym, refl, ap, ◌∙◌, subst, arith, length-set, append-nil, append_assoc}
use Rattle.std.proofs.lemmas.List.Elements.{All-cons, All-nil}
use Rattle.msc_fifo.specs.declared.entry.Entry.{Entry}
use Rattle.msc_fifo.specs.declared.claim.Claim.{Claim}
use Rattle.msc_fifo.specs.declared.rule.Sender.{Sender}
use Rattle.msc_fifo.specs.declared.rule.TicketView.{TicketView}
use Rattle.msc_fifo.specs.declared.accounts.Account.{Account}
use Rattle.msc_fifo.specs.declared.places.Place.{Place}
use Rattle.msc_fifo.specs.declared.parts.Part.{Part}
use Rattle.msc_fifo.specs.Claims.{is_message}
use Rattle.msc_fifo.specs.Entries.{sender_of, messages_of, has_ended, IsOrderly}
use Rattle.msc_fifo.specs.Ends.{OutletState, InletState, AreOutletsOf}
use Rattle.msc_fifo.specs.Settlement.{IsAccountOf, HasAccount, entries_at, claims_of, place_of, IsPlaced}
use Rattle.msc_fifo.specs.Lists.{Occurs, Each}
use Rattle.msc_fifo.specs.World.{Slot, spot_of, entries, own, Covers}
use Rattle.msc_fifo.specs.Views.{offers_of, IsProper}
use Rattle.msc_fifo.specs.Moves.{Told}
use Rattle.msc_fifo.specs.Settling.{AreShownIn, IsSenderOf, AreSendersOf}
use Rattle.msc_fifo.specs.Parts.{IsPartOf, ArePartsOf}
use Rattle.msc_fifo.proofs.LogLemmas.{get_inside, member}
use Rattle.msc_fifo.proofs.PlaceLemmas.{build, dress, entries-build, length-build, get-build, claims-build, dressed, among_own, own_among, offer_among, outlet_of}
use Rattle.msc_fifo.proofs.ItemLemmas.{claimed_items}
use Rattle.msc_fifo.proofs.SettleLemmas.{IsLearned, learned, account_of}
use Rattle.msc_fifo.proofs.FillLemmas.{once_apart, slice_get-set_same, kept_accounts}
use Rattle.msc_fifo.proofs.GatherLemmas.{parts_back}

-- what is known of an outlet, of the whole log
pub record IsKnown (made : ℕ) (log : List Claim) (offered : ℕ → List ℕ) (o : OutletState) : Type 0 where
  pub lt : o.sender < made
  pub put : o.put ≡ messages_of o.sender (entries_at log)
  pub closed : o.closed ≡ has_ended o.sender (entries_at log)
  pub claims : o.claims ≡ claims_of o.sender log
  pub offers : offers_of o.claims ≡ offered o.sender

-- what the claim word tells of a sender
abbrev Tells : ℕ → List Slot → (ℕ → ℕ) → (ℕ → List ℕ) → Sender → Type 0
Tells made log clk offered x = (x.from < made) × (x.put ≡ messages_of x.from (entries log)) × (x.closed ≡ has_ended x.from (entries log)) × (map spot_of (x.claims ++ x.pending) ≡ own x.from 0 log) × (x.offers ≡ offered x.from) × Each (λ (c : Claim). clk c.place ≡ c.clock) x.claims

-- what the claim word told of a sender, said of its outlet
known_one : (made : ℕ) (log : List Slot) (clk : ℕ → ℕ) (offered : ℕ → List ℕ) (o : OutletState) (x : Sender) → IsSenderOf o x → Tells made log clk offered x → IsKnown made (build 0 clk log) offered o
known_one made log clk offered o x is t =
    let es : entries_at (build 0 clk log) ≡ entries log = entries-build 0 clk log in
    let spots : map spot_of o.claims ≡ own o.sender 0 log = ap (map spot_of) (sym (append-nil o.claims)) ∙ (λ j. map spot_of (sym is.claims j ++ sym is.pending j)) ∙ t.3 ∙ (λ j. own (is.from j) 0 log) in
    let clocks : Each (λ (c : Claim). clk c.place ≡ c.clock) o.claims = subst (Each (λ (c : Claim). clk c.place ≡ c.clock)) is.claims t.5 in
    record {
      lt = subst (λ (n : ℕ). n < made) is.from t.0;
      put = sym is.put ∙ t.1 ∙ (λ j. messages_of (is.from j) (sym es j));
      closed = sym is.closed ∙ t.2 ∙ (λ j. has_ended (is.from j) (sym es j));
      claims = sym (dressed clk o.claims clocks) ∙ ap (map (dress clk)) spots ∙ sym (claims-build o.sender 0 clk log);
      offers = sym is.offers ∙ t.4 ∙ ap offered is.from;
    }

-- the same of all outlets
known_each : (made : ℕ) (log : List Slot) (clk : ℕ → ℕ) (offered : ℕ → List ℕ) (os : List OutletState) (xs : List Sender) → AreSendersOf os xs → Each (Tells made log clk offered) xs → Each (IsKnown made (build 0 clk log) offered) os
known_each made log clk offered [] [] are t = tt
known_each made log clk offered [] (x ∷ xs) are t = absurd are
known_each made log clk offered (o ∷ os) [] are t = absurd are
known_each made log clk offered (o ∷ os) (x ∷ xs) are t = (known_one made log clk offered o x are.0 t.0, known_each made log clk offered os xs are.1 t.1)

-- each entry of an orderly list has a sender
sender_within : (n k : ℕ) (es : List Entry) (e : Entry) → IsOrderly n es → slice_get es k ≡ Some e → sender_of e < n
sender_within n k [] e o at = cc
sender_within n zero (d ∷ es) e o at = let same : d ≡ e = cc in subst (λ (x : Entry). sender_of x < n) same o.0
sender_within n (suc k) (d ∷ es) e o at = sender_within n k es e o.2 at

-- the entry of a claim stands where the claim does
entry_at : (log : List Claim) (k : ℕ) (c : Claim) → slice_get log k ≡ Some c → slice_get (entries_at log) k ≡ Some c.entry
entry_at [] k c at = cc
entry_at (d ∷ log) zero c at = let same : d ≡ c = cc in ap (λ (x : Claim). Some x.entry) same
entry_at (d ∷ log) (suc k) c at = entry_at log k c at

-- all that the claim word told
pub record IsAnswered (inlet : InletState) (outlets : List OutletState) (count : ℕ) : Type 0 where
  pub log : List Claim
  pub offered : ℕ → List ℕ
  pub size : count ≡ length log
  pub is_log : IsPlaced inlet outlets log
  pub known : Each (IsKnown inlet.senders log offered) outlets

-- what the claim word told, said of the outlets: the claims by places, with the clocks that the words hold
pub answered : (inlet : InletState) (outlets : List OutletState) (v : TicketView) (n : ℕ) → AreOutletsOf inlet outlets → Told v n → AreSendersOf outlets v.senders → v.made ≡ inlet.senders → v.got ≡ inlet.got → v.clocks ≡ inlet.clocks
    → Each (λ (o : OutletState). Each IsProper o.claims) outlets → IsAnswered inlet outlets n
answered inlet outlets v n are t senders made got clocks proper =
    let log : List Claim = build 0 t.clk t.log in
    let es : entries_at log ≡ entries t.log = entries-build 0 t.clk t.log in
    let known : Each (IsKnown inlet.senders log t.offered) outlets = subst (λ (m : ℕ). Each (IsKnown m log t.offered) outlets) made (known_each v.made t.log t.clk t.offered outlets v.senders senders t.senders) in
    let orderly : IsOrderly inlet.senders (entries_at log) = subst (λ (m : ℕ). IsOrderly m (entries_at log)) made (subst (IsOrderly v.made) (sym es) t.orderly) in
    let mine : (c : Claim) → Occurs log c → (o : OutletState) × Occurs outlets o × (o.sender ≡ sender_of c.entry) =
    λ c a. outlet_of (sender_of c.entry) outlets (are.once (sender_of c.entry) (sender_within inlet.senders a.0 (entries_at log) c.entry orderly (entry_at log a.0 c a.1))) in
    let positive : (c : Claim) → Occurs log c → is_message c.entry ≡ true → 0 < c.clock = λ c a message.
    let o = mine c a in let k = member (IsKnown inlet.senders log t.offered) outlets o.1.0 o.0 o.1.1 known in
    let p = member (λ (x : OutletState). Each IsProper x.claims) outlets o.1.0 o.0 o.1.1 proper in
    let b : Occurs o.0.claims c = subst (λ (l : List Claim). Occurs l c) (sym k.claims) (subst (λ (i : ℕ). Occurs (claims_of i log) c) (sym o.2) (among_own (sender_of c.entry) a.0 log c a.1 refl)) in
    let q = member IsProper o.0.claims b.0 c b.1 p message in omega arith in
    let dated : (c : Claim) → Occurs log c → is_message c.entry ≡ true → (x : Slot) × (slice_get t.log c.place ≡ Some x) × Covers t.log c.place c.clock × ((i : ℕ) × (i < v.made) × ((j : ℕ) × (slice_get (t.offered i) j ≡ Some c.clock))) = λ c a message.
    let g = get-build 0 a.0 a.0 t.clk t.log c (omega arith) a.1 in
    let place : a.0 ≡ c.place = ap (λ (x : Claim). x.place) g.2 in
    let clk : t.clk a.0 ≡ c.clock = ap (λ (x : Claim). x.clock) g.2 in
    let inside = get_inside t.log a.0 g.0 g.1 in
    let count = t.count_is in
    let lt : a.0 < n = omega arith in
    let some = positive c a message in
    ⊎_elim (λ (z : t.clk a.0 ≡ 0). absurd (omega arith))
    (λ d. (g.0, subst (λ (k : ℕ). slice_get t.log k ≡ Some g.0) place g.1, (λ j y le at. subst (λ (m : ℕ). y.offer ≤ m) clk (d.0 j y (subst (λ (k : ℕ). j ≤ k) (sym place) le) at)), (d.1.0, d.1.1, (d.1.2.0, d.1.2.1 ∙ ap Some clk))))
    (t.dated a.0 lt) in
    record {
      log = log;
      offered = t.offered;
      size = t.count_is ∙ sym (length-build 0 t.clk t.log);
      known = known;
      is_log = record {
        numbered = λ k c at. (let g = get-build 0 k k t.clk t.log c (omega arith) at in sym (ap (λ (x : Claim). x.place) g.2));
        orderly = orderly;
        claims = λ o a. (member (IsKnown inlet.senders log t.offered) outlets a.0 o a.1 known).claims;
        items = λ o a. (let k = member (IsKnown inlet.senders log t.offered) outlets a.0 o a.1 known in
            ap entries_at k.claims ∙ claimed_items o.sender inlet.senders log o.put o.closed orderly k.put k.closed);
        got = (t.got.0, es ∙ t.got.1 ∙ ap (λ l. l ++ t.got.0) got);
        clocks = λ k c lt at. (let g = get-build 0 k k t.clk t.log c (omega arith) at in let lt' : k < length v.clocks = subst (λ (l : List ℕ). k < length l) (sym clocks) lt in
            sym (ap (λ (x : Claim). x.clock) g.2) ∙ t.clocks k lt' ∙ ap (λ (l : List ℕ). slice_index l k) clocks);
        covers = λ c d a message b le. (let q = dated c a message in let g = get-build 0 b.0 b.0 t.clk t.log d (omega arith) b.1 in let place : b.0 ≡ d.place = ap (λ (x : Claim). x.place) g.2 in
            subst (λ (m : ℕ). m ≤ c.clock) (ap (λ (x : Claim). x.offer) g.2) (q.2 b.0 g.0 (subst (λ (k : ℕ). k ≤ c.place) (sym place) le) g.1));
        offered = λ c a message. (let q = dated c a message in let i = q.3.0 in
            let o = outlet_of i outlets (are.once i (subst (λ (m : ℕ). i < m) made q.3.1)) in
            let k = member (IsKnown inlet.senders log t.offered) outlets o.1.0 o.0 o.1.1 known in
            let f = offer_among o.0.claims q.3.2.0 c.clock (subst (λ (l : List ℕ). slice_get l q.3.2.0 ≡ Some c.clock) (sym (k.offers ∙ ap t.offered o.2)) q.3.2.1) in
            let w = subst (λ (l : List Claim). Occurs l f.0) k.claims f.1 in
            (f.0, (own_among o.0.sender w.0 log f.0 w.1).0, f.2, f.3));
        marks = λ c a mark. (let g = get-build 0 a.0 a.0 t.clk t.log c (omega arith) a.1 in
            sym (ap (λ (x : Claim). x.clock) g.2) ∙ t.marks a.0 g.0 g.1 (ap (λ (x : Claim). is_message x.entry) g.2 ∙ mark));
      };
    }

-- where each place is that of its claim, the places are those of the claims
same_list : (xs : List Place) (ys : List Claim) → length xs ≡ length ys → ((k : ℕ) (c : Claim) → slice_get ys k ≡ Some c → slice_get xs k ≡ Some (place_of c)) → xs ≡ map place_of ys
same_list [] [] e f = refl
same_list [] (y ∷ ys) e f = absurd (omega arith)
same_list (x ∷ xs) [] e f = absurd (omega arith)
same_list (x ∷ xs) (y ∷ ys) e f = let here : Some x ≡ Some (place_of y) = f zero y refl in let is : x ≡ place_of y = cc in λ j. is j ∷ same_list xs ys (omega arith) (λ k c at. f (suc k) c at) j

-- an outlet among those that were taken in is one of the senders
pub sender_at : (os : List OutletState) (xs : List Sender) (k : ℕ) (o : OutletState) → AreSendersOf os xs → slice_get os k ≡ Some o → (x : Sender) × (slice_get xs k ≡ Some x) × IsSenderOf o x
sender_at [] xs k o are at = cc
sender_at (p ∷ os) [] k o are at = absurd are
sender_at (p ∷ os) (y ∷ xs) zero o are at = let same : p ≡ o = cc in (y, refl, subst (λ (q : OutletState). IsSenderOf q y) same are.0)
sender_at (p ∷ os) (y ∷ xs) (suc k) o are at = sender_at os xs k o are.1 at

-- the places that were read are those of the claims
pub shown : (inlet : InletState) (outlets : List OutletState) (xs : List Sender) (log : List Claim) (ps : List Place) → AreOutletsOf inlet outlets → AreSendersOf outlets xs → IsPlaced inlet outlets log → length ps ≡ length log → AreShownIn xs ps → ps ≡ map place_of log
shown inlet outlets xs log ps are senders is size shows = same_list ps log size (λ k c at.
    let i = sender_of c.entry in
    let o = outlet_of i outlets (are.once i (sender_within inlet.senders k (entries_at log) c.entry is.orderly (entry_at log k c at))) in
    let mine = is.claims o.0 o.1 in
    let b = subst (λ (l : List Claim). Occurs l c) (sym (mine ∙ (λ j. claims_of (o.2 j) log))) (among_own i k log c at refl) in
    let x = sender_at outlets xs o.1.0 o.0 senders o.1.1 in
    let here = is.numbered k c at in
    let inside = get_inside log k c at in
    subst (λ (n : ℕ). slice_get ps n ≡ Some (place_of c)) here (shows c (x.0, (o.1.0, x.1), subst (λ (l : List Claim). Occurs l c) (sym x.2.claims) b) (omega arith)))

-- some of the parts are still there, and the others have their accounts
pub record IsAnswering (inlet : InletState) (outlets : List OutletState) (count : ℕ) (parts : List Part) (senders : List Account) : Type 0 where
  pub outs : List OutletState
  pub done : List OutletState
  pub split : outlets ≡ outs ++ done
  pub parts_are : ArePartsOf outs parts
  pub told : IsAnswered inlet outlets count
  pub size : length senders ≡ inlet.senders
  pub accounts : All (HasAccount senders inlet.got) done

-- at first no part is answered
pub starts : (inlet : InletState) (outlets : List OutletState) (count : ℕ) (parts : List Part) (senders : List Account) → ArePartsOf outlets parts → IsAnswered inlet outlets count → length senders ≡ inlet.senders → IsAnswering inlet outlets count parts senders
starts inlet outlets count parts senders are told size = record {
  outs = outlets;
  done = [];
  split = sym (append-nil outlets);
  parts_are = are;
  told = told;
  size = size;
  accounts = All-nil (HasAccount senders inlet.got);
}

-- what is known of the next part
pub record IsNextPart (inlet : InletState) (p : Part) : Type 0 where
  pub o : OutletState
  pub part : IsPartOf o p
  pub learned_is : IsLearned inlet.senders o.sender inlet.got o.put o.closed

-- what holds of all outlets holds of one in the middle
each_append : (P : OutletState → Type 0) (xs ys : List OutletState) (o : OutletState) → Each P (xs ++ o ∷ ys) → P o
each_append P [] ys o h = h.0
each_append P (x ∷ xs) ys o h = each_append P xs ys o h.1

-- the part that is answered next is that of some outlet, of which all is known
pub next_part : (inlet : InletState) (outlets : List OutletState) (count : ℕ) (parts rest : List Part) (senders : List Account) (p : Part) → IsAnswering inlet outlets count parts senders → parts ≡ rest ++ p ∷ [] → IsNextPart inlet p
next_part inlet outlets count parts rest senders p h popped =
    let b = parts_back h.outs rest p (subst (ArePartsOf h.outs) popped h.parts_are) in
    let o = b.1 in
    let whole : outlets ≡ b.0 ++ o ∷ h.done = h.split ∙ ap (λ l. l ++ h.done) b.2 ∙ append_assoc b.0 (o ∷ []) h.done in
    let k = each_append (IsKnown inlet.senders h.told.log h.told.offered) b.0 h.done o (subst (Each (IsKnown inlet.senders h.told.log h.told.offered)) whole h.told.known) in
    let is = h.told.is_log in
    record {
      o = o;
      part = b.4;
      learned_is = learned inlet.senders o.sender inlet.got is.got.0 (entries_at h.told.log) o.put o.closed k.lt is.orderly is.got.1 k.put k.closed;
    }

-- one part less is left, and one account more is there
pub part_answered : (inlet : InletState) (outlets : List OutletState) (count : ℕ) (parts rest : List Part) (senders : List Account) (p : Part) (a : Account) → AreOutletsOf inlet outlets → (h : IsAnswering inlet outlets count parts senders) → (popped : parts ≡ rest ++ p ∷ [])
    → ((o : OutletState) → IsPartOf o p → IsLearned inlet.senders o.sender inlet.got o.put o.closed → IsAccountOf inlet.got o a) → IsAnswering inlet outlets count rest (set senders p.sender a)
part_answered inlet outlets count parts rest senders p a are h popped account =
    let b = parts_back h.outs rest p (subst (ArePartsOf h.outs) popped h.parts_are) in
    let o = b.1 in let part = b.4 in
    let whole : outlets ≡ b.0 ++ o ∷ h.done = h.split ∙ ap (λ l. l ++ h.done) b.2 ∙ append_assoc b.0 (o ∷ []) h.done in
    let log = h.told.log in let is = h.told.is_log in
    let known = subst (Each (IsKnown inlet.senders log h.told.offered)) whole h.told.known in
    let k = each_append (IsKnown inlet.senders log h.told.offered) b.0 h.done o known in
    let once : count_by (λ x. x.sender == o.sender) (b.0 ++ o ∷ h.done) ≡ 1 = ap (count_by (λ x. x.sender == o.sender)) (sym whole) ∙ are.once o.sender k.lt in
    let fits : o.sender < length senders = subst (λ (n : ℕ). o.sender < n) (sym h.size) k.lt in
    let l = learned inlet.senders o.sender inlet.got is.got.0 (entries_at log) o.put o.closed k.lt is.orderly is.got.1 k.put k.closed in
    let moved : IsAnswering inlet outlets count rest (set senders o.sender a) = record {
      outs = b.0;
      done = o ∷ h.done;
      split = whole;
      parts_are = b.3;
      told = h.told;
      size = length-set senders o.sender a ∙ h.size;
      accounts = All-cons (HasAccount (set senders o.sender a) inlet.got) o h.done (a, slice_get-set_same senders o.sender a fits, account o part l)
          (kept_accounts inlet.got senders o.sender a h.done (once_apart b.0 h.done o once) h.accounts);
    } in
    subst (λ (n : ℕ). IsAnswering inlet outlets count rest (set senders n a)) (sym part.sender) moved

-- where no part is left, no outlet is
outs_none : (os : List OutletState) (ps : List Part) → ArePartsOf os ps → ps ≡ [] → os ≡ []
outs_none [] ps are e = refl
outs_none (o ∷ os) [] are e = absurd are
outs_none (o ∷ os) (p ∷ ps) are e = cc

-- where no part is left, all accounts are there
pub all_answered : (inlet : InletState) (outlets : List OutletState) (count : ℕ) (parts : List Part) (senders : List Account) → IsAnswering inlet outlets count parts senders → parts ≡ [] → All (HasAccount senders inlet.got) outlets
all_answered inlet outlets count parts senders h none =
    subst (All (HasAccount senders inlet.got)) (sym (h.split ∙ ap (λ l. l ++ h.done) (outs_none h.outs parts h.parts_are none))) h.accounts

-- the claims of outlets whose parts are there are proper
pub parts_proper : (os : List OutletState) (ps : List Part) → ArePartsOf os ps → Each (λ (o : OutletState). Each IsProper o.claims) os
parts_proper [] [] h = tt
parts_proper [] (p ∷ ps) h = absurd h
parts_proper (o ∷ os) [] h = absurd h
parts_proper (o ∷ os) (p ∷ ps) h = (h.0.proper, parts_proper os ps h.1)

-- what a part has put begins with what was taken of it
pub part_prefix : (made : ℕ) (got got' : List Entry) (o : OutletState) (p : Part) → IsPartOf o p → IsLearned made o.sender got o.put o.closed → got' ≡ got → (rest : List ℕ) × (p.put.items ≡ messages_of p.sender got' ++ rest)
part_prefix made got got' o p part l same = (l.prefix.0, part.put ∙ l.prefix.1 ∙ (λ j. messages_of (sym part.sender j) (sym same j) ++ l.prefix.0))

-- the account of a part is its outlet's
pub part_account : (made : ℕ) (got got' : List Entry) (o : OutletState) (p : Part) (a : Account) → IsPartOf o p → IsLearned made o.sender got o.put o.closed → got' ≡ got → a.put ≡ p.put.items → a.taken ≡ messages_of p.sender got' → p.put.items ≡ messages_of p.sender got' ++ a.left → a.closed ≡ p.closed
    → IsAccountOf got o a
part_account made got got' o p a part l same put taken left closed =
    account_of made got o a l (put ∙ part.put) (taken ∙ (λ j. messages_of (part.sender j) (same j))) (sym part.put ∙ left ∙ (λ j. messages_of (part.sender j) (same j) ++ a.left)) (closed ∙ part.closed)

-- a list of no parts is empty
pub parts_none : (ps : List Part) → length ps ≡ 0 → ps ≡ []
parts_none [] e = refl
parts_none (p ∷ ps) e = absurd (omega arith)
