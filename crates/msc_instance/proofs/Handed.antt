-- How ends are handed out, instance by instance.
use Rattle.std.proofs.Common.{◌≡◌, ◌≢◌, ℕ, ◌+◌, ◌<◌, ◌&&◌, Bool, true, false, cond, List, [], ◌∷◌, ◌++◌, length, get_or, set, map, filter, take, drop, reverse, refl, sym, ap, ◌∙◌, inl, inr, arith, nat_lt, nat_eq}
use Rattle.std.proofs.lemmas.Bool.{lt-ltb, le-ltb, cases_eq, cases_lt, eq-eqb, ne_eqb, and_right}
use Rattle.std.proofs.lemmas.List.{get_or-set_same, get_or-set_other, map-set, length-map, get_or-map, drop_more, append-nil, reverse-append}
use Rattle.std.proofs.lemmas.List.Elements.{All-set}
use Rattle.std.proofs.lemmas.List.Sums.{count_by_more_yes, count_by_more_no}
use Rattle.msc_chart.specs.declared.queue.Queues.{Queues}
use Rattle.msc_fifo.specs.Identity.{QueueId}
use Rattle.msc_fifo.specs.Ends.{OutletState, InletState, new_outlet, new_outlets, new_inlet}
use Rattle.msc_execution.specs.Fits.{no_ends}
use Rattle.msc_instance.specs.declared.ends.InstanceEnds.{InstanceEnds}
use Rattle.msc_instance.specs.Views.{ends_of}
use Rattle.msc_instance.specs.Handing.{AreUnder, IsHandingOut, AreHandedOut, ends_at, outlet_for, inlet_for, senders_among}

-- what a write of one instance's ends leaves
module _ (all : List InstanceEnds) (i : ℕ) (x : InstanceEnds) where
  -- the instance has the ends that were written
  pub written : i < length all → ends_at (set all i x) i ≡ ends_of x
  written within =
      ap (λ l. get_or l i no_ends) (map-set ends_of all i x)
      ∙ get_or-set_same (map ends_of all) i (ends_of x) no_ends
      (omega (arith, length-map all ends_of))

  -- the others have the ends that they had
  pub others : (j : ℕ) → j ≢ i → ends_at (set all i x) j ≡ ends_at all j
  others j other =
      ap (λ l. get_or l j no_ends) (map-set ends_of all i x)
      ∙ get_or-set_other (map ends_of all) i j (ends_of x) no_ends other

  -- before the write it had those that are read at its place
  pub there : (d : InstanceEnds) → i < length all → ends_at all i ≡ ends_of (get_or all i d)
  there d within = get_or-map ends_of all i d no_ends within

  -- and all are still of one architecture, where the new ends are of that of the old
  pub still_under : (queues : Queues) (d : InstanceEnds) → x.queues ≡ (get_or all i d).queues
      → i < length all → AreUnder queues all → AreUnder queues (set all i x)
  still_under queues d same within under = All-set (λ e. e.queues ≡ queues) all i x (same
      ∙ under i d within) under

-- one outlet is popped for the next instance with a quota
module _ {id : QueueId} {q : ℕ} {quotas : List ℕ} {old new : List InstanceEnds} {n : ℕ}
    (within : n < length quotas) (long : length quotas ≡ length new) where
  -- the instance without a quota is passed over
  pub passed : {left : List OutletState} → get_or quotas n 0 ≡ 0
      → IsHandingOut id q quotas old new left n → IsHandingOut id q quotas old new left (n + 1)
  passed {left} none h =
      let no : nat_lt 0 (get_or quotas n 0) ≡ false = le-ltb 0 _ (omega arith) in
      let ranks : senders_among (take (n + 1) quotas) ≡ senders_among (take n quotas) =
      count_by_more_no (nat_lt 0) quotas n 0 within no in
      let rest : filter (nat_lt 0) (drop n quotas) ≡ filter (nat_lt 0) (drop (n + 1) quotas) =
      ap (filter (nat_lt 0)) (drop_more quotas n 0 within)
      ∙ ap (λ b. cond b (get_or quotas n 0 ∷ filter (nat_lt 0) (drop (n + 1) quotas))
      (filter (nat_lt 0) (drop (n + 1) quotas))) no in
      record {
        next = h.next ∙ ap (λ l. new_outlets id (senders_among (take n quotas)) l) rest
            ∙ ap (λ k. new_outlets id k (filter (nat_lt 0) (drop (n + 1) quotas))) (sym ranks);
        given = λ i lt. elim (cases_lt i n) [
          | inl early ↦ h.given i early
          | inr late ↦
              let here : i ≡ n = omega arith in
              let none_here : outlet_for id q quotas i ≡ [] =
              rw here (ap (λ (b : Bool). cond b
              ((q, new_outlet id (senders_among (take n quotas)) (get_or quotas n 0)) ∷ []) [])
              no) in
              h.waiting i late ∙ sym (append-nil (ends_at old i).outlets)
              ∙ ap (λ l. (ends_at old i).outlets ++ l) (sym none_here)
        ];
        waiting = λ i le. h.waiting i (omega arith);
        inlets = h.inlets;
        under = h.under;
      }

  -- the instance with a quota gets the next outlet
  pub gave : {left : List OutletState} (rest : List OutletState) (o : OutletState)
      (x d : InstanceEnds) → 0 < get_or quotas n 0
      → left ≡ o ∷ rest → x.outlets.items ≡ (get_or new n d).outlets.items ++ (q, o) ∷ []
      → x.inlets ≡ (get_or new n d).inlets
      → x.queues ≡ (get_or new n d).queues
      → IsHandingOut id q quotas old new left n → IsHandingOut id q quotas old (set new n x) rest
      (n + 1)
  gave {left} rest o x d some popped pushed inlets queues h =
      let yes : nat_lt 0 (get_or quotas n 0) ≡ true = lt-ltb 0 _ some in
      let ranks : senders_among (take (n + 1) quotas) ≡ senders_among (take n quotas) + 1 =
      count_by_more_yes (nat_lt 0) quotas n 0 within yes in
      let behind : List ℕ = filter (nat_lt 0) (drop (n + 1) quotas) in
      let rest_is : filter (nat_lt 0) (drop n quotas) ≡ get_or quotas n 0 ∷ behind =
      ap (filter (nat_lt 0)) (drop_more quotas n 0 within)
      ∙ ap (λ b. cond b (get_or quotas n 0 ∷ behind) behind) yes in
      let is : o ∷ rest ≡ new_outlet id (senders_among (take n quotas))
      (get_or quotas n 0) ∷ new_outlets id (senders_among (take n quotas) + 1) behind =
      sym popped ∙ h.next ∙ ap (λ l. new_outlets id (senders_among (take n quotas)) l) rest_is in
      let first : o ≡ new_outlet id (senders_among (take n quotas)) (get_or quotas n 0) = cc in
      let others_left : rest ≡ new_outlets id (senders_among (take n quotas) + 1) behind = cc in
      let inside : n < length new = omega arith in
      record {
        next = others_left ∙ ap (λ k. new_outlets id k behind) (sym ranks);
        given = λ i lt. elim (cases_lt i n) [
          | inl early ↦ ap (λ e. e.outlets) (others new n x i (λ e. omega arith)) ∙ h.given i early
          | inr late ↦
              let here : i ≡ n = omega arith in
              let its : outlet_for id q quotas n ≡ (q, o) ∷ [] =
              ap (λ (b : Bool). cond b ((
                q,
                new_outlet id (senders_among (take n quotas))
                    (get_or quotas n 0),
              ) ∷ []) []) yes ∙ ap (λ p. (q, p) ∷ []) (sym first) in
              rw here (ap (λ e. e.outlets) (written new n x inside) ∙ pushed
              ∙ ap (λ l. l ++ (q, o) ∷ []) (ap (λ e. e.outlets) (sym (there new n x d inside))
              ∙ h.waiting n (omega arith))
              ∙ ap (λ l. (ends_at old n).outlets ++ l) (sym its))
        ];
        waiting = λ i le. ap (λ e. e.outlets) (others new n x i (λ e. omega arith))
            ∙ h.waiting i (omega arith);
        inlets = λ i. elim (cases_eq i n) [
          | inl here ↦ rw here (ap (λ e. e.inlets) (written new n x inside)
              ∙ ap (λ v. v.items) inlets ∙ ap (λ e. e.inlets) (sym (there new n x d inside))
              ∙ h.inlets n)
          | inr other ↦ ap (λ e. e.inlets) (others new n x i other) ∙ h.inlets i
        ];
        under = λ a old_under. still_under new n x a d queues inside (h.under a old_under);
      }

-- what is popped from a turned list was its first
pub popped_first : {A : Type 0} (xs ys : List A) (x : A) → xs ≡ ys ++ x ∷ []
    → reverse xs ≡ x ∷ reverse ys
popped_first xs ys x is = ap reverse is ∙ reverse-append ys (x ∷ [])

-- where an instance with a quota waits, an outlet is left
pub some_left : (id : QueueId) (q : ℕ) (quotas : List ℕ) (old new : List InstanceEnds) (n : ℕ)
    (left : List OutletState)
    → n < length quotas → 0 < get_or quotas n 0 → IsHandingOut id q quotas old new left n
    → 0 < length left
some_left id q quotas old new n left within some h =
    let behind : List ℕ = filter (nat_lt 0) (drop (n + 1) quotas) in
    let rest_is : filter (nat_lt 0) (drop n quotas) ≡ get_or quotas n 0 ∷ behind =
    ap (filter (nat_lt 0)) (drop_more quotas n 0 within)
    ∙ ap (λ b. cond b (get_or quotas n 0 ∷ behind) behind) (lt-ltb 0 _ some) in
    let is : left ≡ new_outlets id (senders_among (take n quotas)) (get_or quotas n 0 ∷ behind) =
    h.next ∙ ap (λ l. new_outlets id (senders_among (take n quotas)) l) rest_is in
    rw is (omega arith)

-- all outlets are handed out, and the inlet goes to the receiver
module _ {id : QueueId} {q : ℕ} {quotas : List ℕ} {receiver : ℕ} {old new : List InstanceEnds}
    {left : List OutletState} {n : ℕ}
    (done : n ≡ length quotas) (long : length quotas ≡ length old) (same : length new ≡ length old)
    (known : receiver < length old) where
  -- so the ends of the queue are handed out
  pub ended : (x d : InstanceEnds) (inlet : InletState) → 0 < senders_among quotas
      → inlet ≡ new_inlet id (senders_among quotas)
      → x.inlets.items ≡ (get_or new receiver d).inlets.items ++ (q, inlet) ∷ []
      → x.outlets ≡ (get_or new receiver d).outlets
      → x.queues ≡ (get_or new receiver d).queues
      → IsHandingOut id q quotas old new left n → AreHandedOut q quotas receiver old
      (set new receiver x)
  ended x d inlet some fresh pushed outlets queues h =
      let inside : receiver < length new = omega arith in
      let yes : nat_lt 0 (senders_among quotas) ≡ true = lt-ltb 0 _ some in
      let here : ends_at new receiver ≡ ends_of (get_or new receiver d) =
      there new receiver x d inside in
      record {
        id = id;
        outlets = λ i lt. elim (cases_eq i receiver) [
          | inl is ↦ rw is (ap (λ e. e.outlets) (written new receiver x inside)
              ∙ ap (λ v. v.items) outlets ∙ ap (λ e. e.outlets) (sym here)
              ∙ h.given receiver (omega arith))
          | inr other ↦ ap (λ e. e.outlets) (others new receiver x i other)
              ∙ h.given i (omega arith)
        ];
        inlets = λ i lt. elim (cases_eq i receiver) [
          | inl is ↦
              let its : inlet_for id q quotas receiver receiver ≡ (q, inlet) ∷ [] =
              ap (λ (b : Bool). cond (b && nat_eq receiver receiver)
              ((q, new_inlet id (senders_among quotas)) ∷ []) []) yes
              ∙ ap (λ (b : Bool). cond b ((q, new_inlet id (senders_among quotas)) ∷ []) [])
              (eq-eqb receiver receiver refl)
              ∙ ap (λ v. (q, v) ∷ []) (sym fresh) in
              rw is (ap (λ e. e.inlets) (written new receiver x inside) ∙ pushed
              ∙ ap (λ l. l ++ (q, inlet) ∷ []) (ap (λ e. e.inlets) (sym here) ∙ h.inlets receiver)
              ∙ ap (λ l. (ends_at old receiver).inlets ++ l) (sym its))
          | inr other ↦
              let none : inlet_for id q quotas receiver i ≡ [] =
              ap (λ (b : Bool). cond b ((q, new_inlet id (senders_among quotas)) ∷ []) [])
              (and_right (nat_lt 0 (senders_among quotas)) (nat_eq receiver i)
              (ne_eqb receiver i (λ e. other (sym e)))) in
              ap (λ e. e.inlets) (others new receiver x i other) ∙ h.inlets i
              ∙ sym (append-nil (ends_at old i).inlets)
              ∙ ap (λ l. (ends_at old i).inlets ++ l) (sym none)
        ];
        under = λ a old_under. still_under new receiver x a d queues inside (h.under a old_under);
      }

-- before anything is handed out
pub nothing_given : {id : QueueId} {q : ℕ} {quotas : List ℕ} {all : List InstanceEnds}
    {left : List OutletState}
    → left ≡ new_outlets id 0 (filter (nat_lt 0) quotas) → IsHandingOut id q quotas all all left 0
nothing_given is = record {
  next = is;
  given = λ i lt. absurd (omega arith);
  waiting = λ i le. refl;
  inlets = λ i. refl;
  under = λ a h. h;
}
