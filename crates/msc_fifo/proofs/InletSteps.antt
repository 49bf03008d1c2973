-- Each step of the inlet keeps the rule of the table, and so do making, splitting and joining the seats.
use Rattle.std.proofs.Common.{◌≡◌, ◌≢◌, ◌⊎◌, ℕ, zero, suc, ◌+◌, ◌-◌, ◌<◌, ◌≤◌, ◌==◌, true, cond, false, true≢false, List, [], ◌∷◌, ◌++◌, length, set, replicate, Some, slice_get, slice_index, sym, refl, ap, ◌∙◌, subst, inl, inr, ⊎_elim, append-nil, append_assoc, arith, length-append, eq-eqb, ne_eqb, eq-or-lt_of_le}
use mathlib.Core.Option.{some, none, some-ne-none, some-injective}
use lib.ListN.{get_elem?}
use Rattle.atomic_table.specs.Table.{State, step, keeps, Allows, Splits, Joins, opening, stepped}
use Rattle.atomic_table.proofs.Lists.{at_set}
use Rattle.msc_fifo.specs.declared.entry.Entry.{Entry}
use Rattle.msc_fifo.specs.declared.entry.Entry.TheVariants.{Message, Ended}
use Rattle.msc_fifo.specs.declared.claim.Claim.{Claim}
use Rattle.msc_fifo.specs.declared.rule.Sender.{Sender}
use Rattle.msc_fifo.specs.declared.rule.TicketView.{TicketView}
use Rattle.msc_fifo.specs.Claims.{is_message}
use Rattle.msc_fifo.specs.Entries.{sender_of, IsOrderly}
use Rattle.msc_fifo.specs.World.{most_places, Slot, entries, code, World, world, Holds, IsDated, IsStored, slot, IsSmall}
use Rattle.msc_fifo.specs.Lists.{Each}
use Rattle.msc_fifo.specs.Views.{IsSender, IsReader, Agrees, Sound, Kept, receives, new_sender, outlet_view, beside, nobody}
use Rattle.msc_fifo.specs.Moves.{Seated, LooksAt, LearnsIt, SettlesIt, Told, clocks_at_once, IsClaimOf, ReadsItsEntry, ReadsItsClock}
use Rattle.msc_fifo.proofs.EntryLemmas.{messages_of-nothing, has_ended-nothing, nothing_past, orderly_wider, orderly-at, code_full}
use Rattle.msc_fifo.proofs.LogLemmas.{cond-true, cond-false, own-nothing, each-map, each-append, get_inside, member, claim_get}
use Rattle.msc_fifo.proofs.Worlds.{Grows, Spares, sound_stays, sender_stays, receiver_stays}
use Rattle.msc_fifo.proofs.Frames.{all_set, rooms_set, rooms_snoc, read_keeps, now}

-- what the log shows at a place, among its entries
get_entry : (log : List Slot) (k : ℕ) (x : Slot) → slice_get log k ≡ Some x → slice_get (entries log) k ≡ Some x.entry
get_entry [] k x h = cc
get_entry (y ∷ log) zero x h = let e : y ≡ x = cc in ap (λ (z : Slot). Some z.entry) e
get_entry (y ∷ log) (suc k) x h = get_entry log k x h

-- behind the first entries stands the next one
rest_first : (xs rest : List Entry) (e : Entry) → slice_get (xs ++ rest) (length xs) ≡ Some e → (more : List Entry) × (rest ≡ e ∷ more)
rest_first [] [] e h = cc
rest_first [] (x ∷ rest) e h = let same : x ≡ e = cc in (rest, λ i. same i ∷ rest)
rest_first (x ∷ xs) rest e h = rest_first xs rest e h

-- a number in front
index_front : (xs ys : List ℕ) (k : ℕ) → k < length xs → slice_index (xs ++ ys) k ≡ slice_index xs k
index_front [] ys k lt = absurd (omega arith)
index_front (x ∷ xs) ys zero lt = refl
index_front (x ∷ xs) ys (suc k) lt = index_front xs ys k (omega arith)

-- the last number
index_last : (xs : List ℕ) (x k : ℕ) → k ≡ length xs → slice_index (xs ++ x ∷ []) k ≡ x
index_last [] x zero h = refl
index_last [] x (suc k) h = absurd (omega arith)
index_last (y ∷ xs) x zero h = absurd (omega arith)
index_last (y ∷ xs) x (suc k) h = index_last xs x k (omega arith)

-- the end mark's place has the clock 0
mark_clock : (w : World) (k i : ℕ) (x : Slot) → slice_get w.log k ≡ Some x → x.entry ≡ Ended i → IsDated w k (w.clk k) → w.clk k ≡ 0
mark_clock w k i x at is (inl z) = z
mark_clock w k i x at is (inr d) = let both : Some x ≡ Some d.0 = sym at ∙ d.1 in let same : x ≡ d.0 = cc in absurd (true≢false (sym d.2 ∙ ap (λ (y : Slot). is_message y.entry) (sym same) ∙ ap is_message is))

-- a place without a message has the clock 0
unmarked_clock : (w : World) (k : ℕ) (x : Slot) → slice_get w.log k ≡ Some x → is_message x.entry ≡ false → IsDated w k (w.clk k) → w.clk k ≡ 0
unmarked_clock w k x at mark (inl z) = z
unmarked_clock w k x at mark (inr d) = let both : Some x ≡ Some d.0 = sym at ∙ d.1 in let same : x ≡ d.0 = cc in absurd (true≢false (sym d.2 ∙ ap (λ (y : Slot). is_message y.entry) (sym same) ∙ mark))

-- what the inlet knows once it has got one entry more
taken : (places id : ℕ) (w : World) (v : TicketView) (e : Entry) (x : Slot) (more : List Entry) → IsReader places w id v → Sound places w → length v.got < places → length v.clocks ≡ length v.got → entries w.log ≡ v.got ++ e ∷ more
    → slice_get w.log (length v.got) ≡ Some x → x.entry ≡ e → w.item (length v.got) ≢ 0 → IsReader places w id (record v { got = v.got ++ e ∷ []; clocks = v.clocks ++ clocks_at_once e })
taken places id w v (Message i m) x more h sound fits even whole at is full = let one : length (v.got ++ Message i m ∷ []) ≡ length v.got + 1 = length-append v.got (Message i m ∷ []) in record {
  reader = h.reader;
  made = h.made;
  places_are = h.places_are;
  got = (more, whole ∙ sym (append_assoc v.got (Message i m ∷ []) more));
  stored = λ k lt. ⊎_elim (λ (here : k ≡ length v.got). λ z. full (ap w.item (sym here) ∙ z)) (λ (before : k < length v.got). h.stored k before) (eq-or-lt_of_le (omega arith));
  few = (let a : v.clocks ++ [] ≡ v.clocks = append-nil v.clocks in let b : length (v.clocks ++ []) ≡ length v.clocks = ap length a in omega arith);
  clocks = λ k lt. (let a : v.clocks ++ [] ≡ v.clocks = append-nil v.clocks in let b : length (v.clocks ++ []) ≡ length v.clocks = ap length a in let lt' : k < length v.clocks = omega arith in h.clocks k lt' ∙ ap (λ (l : List ℕ). slice_index l k) (sym a));
}
taken places id w v (Ended i) x more h sound fits even whole at is full = let one : length (v.got ++ Ended i ∷ []) ≡ length v.got + 1 = length-append v.got (Ended i ∷ []) in
    let two : length (v.clocks ++ 0 ∷ []) ≡ length v.clocks + 1 = length-append v.clocks (0 ∷ []) in record {
      reader = h.reader;
      made = h.made;
      places_are = h.places_are;
      got = (more, whole ∙ sym (append_assoc v.got (Ended i ∷ []) more));
      stored = λ k lt. ⊎_elim (λ (here : k ≡ length v.got). λ z. full (ap w.item (sym here) ∙ z)) (λ (before : k < length v.got). h.stored k before) (eq-or-lt_of_le (omega arith));
      few = omega arith;
      clocks = λ k lt. ⊎_elim (λ (here : k ≡ length v.clocks). ap w.clk (here ∙ even) ∙ mark_clock w (length v.got) i x at is (sound.dated (length v.got) fits) ∙ sym (index_last v.clocks 0 k here))
          (λ (before : k < length v.clocks). h.clocks k before ∙ sym (index_front v.clocks (0 ∷ []) k before)) (eq-or-lt_of_le (omega arith));
    }

-- the two cases of the next place
looks : (places slots id i : ℕ) (me : Seated) → me.0.gets ≡ true → i ≡ length me.0.got + length me.0.got + 2 → length me.0.clocks ≡ length me.0.got → length me.0.got < places → (s : State (Unit {0}) TicketView) (h : Kept places s) (at : get_elem? s.views id ≡ some me.0)
    → Holds h.log (length me.0.got) (slice_index s.words i)
    → (w : TicketView) × Kept places (stepped s i (slice_index s.words i) id me.1 w keeps) × LooksAt (step slots i 0 0 none) me (slice_index s.words i) (w, me.1)
looks places slots id i me gets word even fits s h at (inl z) = (me.0, read_keeps places i id s me.1 me.0 me.0 h at refl (h.each id me.0 at), (inl (z, refl), refl))
looks places slots id i me gets word even fits s h at (inr x) =
    let v : TicketView = me.0 in let e : Entry = x.0.entry in let w : TicketView = record v { got = v.got ++ e ∷ []; clocks = v.clocks ++ clocks_at_once e } in
    let old = now h in
    let mine = (h.each id v at).0 gets in
    let split : entries h.log ≡ v.got ++ mine.got.0 = mine.got.1 in
    let found : slice_get (v.got ++ mine.got.0) (length v.got) ≡ Some e = (λ i. slice_get (sym split i) (length v.got)) ∙ get_entry h.log (length v.got) x.0 x.1 in
    let more = rest_first v.got mine.got.0 e found in
    let whole : entries h.log ≡ v.got ++ e ∷ more.0 = split ∙ ap (λ l. v.got ++ l) more.1 in
    let front = orderly-at h.made v.got e more.0 (subst (IsOrderly h.made) whole h.sound.orderly) in
    let full : old.item (length v.got) ≢ 0 = λ z. code_full e (sym x.2 ∙ ap (λ (j : ℕ). slice_index s.words j) word ∙ z) in (
      w,
      read_keeps places i id s me.1 v w h at refl ((λ _. taken places id old v e x.0 more.0 mine h.sound fits even whole x.1 refl full), (h.each id v at).1),
      (inr (e, x.2, x.3, (refl, subst (λ (n : ℕ). sender_of e < n) (sym mine.made) front.0, front.1)), refl),
    )

-- reading the next place keeps the rule
pub looks_keep : (places slots id i : ℕ) (me : Seated) → me.0.gets ≡ true → i ≡ length me.0.got + length me.0.got + 2 → length me.0.clocks ≡ length me.0.got → length me.0.got < me.0.places
    → Allows (Kept places) slots id me i (λ n. n) (LooksAt (step slots i 0 0 none) me)
looks_keep places slots id i me gets word even fits s h same at lt = let mine = (h.each id me.0 at).0 gets in let fits' : length me.0.got < places = subst (λ (p : ℕ). length me.0.got < p) mine.places_are fits in
    let r = looks places slots id i me gets word even fits' s h at (subst (λ (j : ℕ). Holds h.log (length me.0.got) (slice_index s.words j)) (sym word) (h.sound.cells (length me.0.got) fits')) in (r.0, keeps, tt, r.1, r.2)

-- reading the clock of the place that was taken keeps the rule
pub learns_keep : (places slots id i : ℕ) (me : Seated) → me.0.gets ≡ true → i ≡ length me.0.clocks + length me.0.clocks + 3 → length me.0.clocks < length me.0.got
    → Allows (Kept places) slots id me i (λ n. n) (LearnsIt (step slots i 0 0 none) me)
learns_keep places slots id i me gets word behind s h same at lt =
    let v : TicketView = me.0 in let n = slice_index s.words i in let w : TicketView = record v { clocks = v.clocks ++ n ∷ [] } in
    let old = now h in
    let mine = (h.each id v at).0 gets in
    let two : length (v.clocks ++ n ∷ []) ≡ length v.clocks + 1 = length-append v.clocks (n ∷ []) in
    let here : old.clk (length v.clocks) ≡ n = ap (λ (j : ℕ). slice_index s.words j) (sym word) in
    let known : IsReader places old id w = record {
      reader = mine.reader;
      made = mine.made;
      places_are = mine.places_are;
      got = mine.got;
      stored = mine.stored;
      few = omega arith;
      clocks = λ k lt. ⊎_elim (λ (is : k ≡ length v.clocks). ap old.clk is ∙ here ∙ sym (index_last v.clocks n k is)) (λ (before : k < length v.clocks). mine.clocks k before ∙ sym (index_front v.clocks (n ∷ []) k before)) (eq-or-lt_of_le (omega arith));
    } in
    (w, keeps, tt, read_keeps places i id s me.1 v w h at refl ((λ _. known), (h.each id v at).1), (refl, refl))

-- reading the claim word keeps the rule, and tells all that was claimed
pub settles_keep : (places slots id : ℕ) (me : Seated) → me.0.gets ≡ true → Allows (Kept places) slots id me 0 (λ n. n) (SettlesIt (step slots 0 0 0 none) me)
settles_keep places slots id me gets s h same at lt =
    let v : TicketView = me.0 in let old = now h in
    let mine = (h.each id v at).0 gets in
    let total = h.rooms in
    let told : Told v (slice_index s.words 0) = record {
      log = h.log;
      clk = old.clk;
      offered = h.offered;
      count_is = h.claimed;
      within = (let c = h.claimed in let p = mine.places_are in omega arith);
      orderly = subst (λ (n : ℕ). IsOrderly n (entries h.log)) (sym mine.made) h.sound.orderly;
      got = mine.got;
      clocks = mine.clocks;
      dated = λ k lt. (let c = h.claimed in let lt' : k < places = omega arith in ⊎_elim (λ (z : old.clk k ≡ 0). inl z) (λ d. inr (d.3, (d.4.0, subst (λ (n : ℕ). d.4.0 < n) (sym mine.made) d.4.1, d.4.2))) (h.sound.dated k lt'));
      marks = λ k x at mark. (let inside = get_inside h.log k x at in let below : k < places = omega arith in unmarked_clock old k x at mark (h.sound.dated k below));
      senders = each-map (IsSender places old id) _ v.senders
          (λ x p. (subst (λ (n : ℕ). x.from < n) (sym mine.made) p.made, p.put, p.closed, p.claims, p.offers, each-map (IsStored old) _ x.claims (λ c q. q.1) p.stored)) (h.each id v at).1;
    } in
    (v, keeps, tt, read_keeps places 0 id s me.1 v v h at refl (h.each id v at), (refl, told))

-- what the words of a stored claim are
pub record IsWritten (places : ℕ) (w : World) (c : Claim) : Type 0 where
  pub item : w.item c.place ≡ code c.entry
  pub small : IsSmall c.entry
  pub clk : w.clk c.place ≡ c.clock

-- the words of a claim that is known of some sender
kept_at : (places id k : ℕ) (w : World) (x : Sender) (c : Claim) → Sound places w → length w.log ≤ places → IsSender places w id x → slice_get x.claims k ≡ Some c → IsWritten places w c
kept_at places id k w x c sound few h at =
    let stored = member (IsStored w) x.claims k c at h.stored in
    let here = claim_get x.from k w.log x.claims x.pending c h.claims at in
    let lt = get_inside w.log c.place (slot c.entry c.offer) here in
    ⊎_elim (λ (z : w.item c.place ≡ 0). absurd (stored.0 z))
    (λ (y : (z : Slot) × (slice_get w.log c.place ≡ Some z) × (w.item c.place ≡ code z.entry) × IsSmall z.entry).
    let both : Some y.0 ≡ Some (slot c.entry c.offer) = sym y.1 ∙ here in let same : y.0 ≡ slot c.entry c.offer = cc in
    record { item = y.2 ∙ ap (λ (z : Slot). code z.entry) same; small = subst (λ (z : Slot). IsSmall z.entry) same y.3; clk = stored.1 })
    (sound.cells c.place (omega arith))

-- the words of a claim that the inlet's seat knows
written : (places id : ℕ) (s : State (Unit {0}) TicketView) (h : Kept places s) (v : TicketView) (c : Claim) → get_elem? s.views id ≡ some v → IsClaimOf c v.senders → IsWritten places (now h) c
written places id s h v c at of =
    let total = h.rooms in
    let x = member (IsSender places (now h) id) v.senders of.1.0 of.0 of.1.1 (h.each id v at).1 in
    kept_at places id of.2.0 (now h) of.0 c h.sound (omega arith) x of.2.1

-- reading the entry of a place keeps the rule, and tells that of its claim
pub reads_entry : (places slots id i : ℕ) (me : Seated) → me.0.gets ≡ true → Allows (Kept places) slots id me i (λ n. n) (ReadsItsEntry (step slots i 0 0 none) me)
reads_entry places slots id i me gets s h same at lt = (
  me.0,
  keeps,
  tt,
  read_keeps places i id s me.1 me.0 me.0 h at refl (h.each id me.0 at),
  (
    refl,
    λ c of word.
        let r = written places id s h me.0 c at of in
        (ap (λ (j : ℕ). slice_index s.words j) word ∙ r.item, r.small),
  ),
)

-- reading the clock of a place keeps the rule, and tells that of its claim
pub reads_clock : (places slots id i : ℕ) (me : Seated) → me.0.gets ≡ true → Allows (Kept places) slots id me i (λ n. n) (ReadsItsClock (step slots i 0 0 none) me)
reads_clock places slots id i me gets s h same at lt = (
  me.0,
  keeps,
  tt,
  read_keeps places i id s me.1 me.0 me.0 h at refl (h.each id me.0 at),
  (refl, λ c of word. ap (λ (j : ℕ). slice_index s.words j) word ∙ (written places id s h me.0 c at of).clk),
)

-- what stands in a list that is one longer
snoc_cases : (l : List TicketView) (a b : TicketView) (j : ℕ) → get_elem? (l ++ a ∷ []) j ≡ some b → (get_elem? l j ≡ some b) ⊎ ((j ≡ length l) × (a ≡ b))
snoc_cases [] a b zero e = inr (refl, some-injective a b e)
snoc_cases [] a b (suc j) e = absurd (some-ne-none b (sym e))
snoc_cases (x ∷ xs) a b zero e = inl e
snoc_cases (x ∷ xs) a b (suc j) e = ⊎_elim (λ h. inl h) (λ (h : (j ≡ length xs) × (a ≡ b)). inr (ap suc h.0, h.1)) (snoc_cases xs a b j e)

-- making the next sender keeps the rule: nothing of it stands anywhere
pub splits_keep : (places id room : ℕ) (v : TicketView) → v.gets ≡ true → v.senders ≡ [] → room ≤ v.room → Splits (Kept places) id v (receives v.places (v.room - room) (v.made + 1) v.got v.clocks) (outlet_view room (new_sender v.places v.made))
splits_keep places id room v gets alone enough s h at =
    let x : Sender = new_sender v.places v.made in
    let l : TicketView = receives v.places (v.room - room) (v.made + 1) v.got v.clocks in let r : TicketView = outlet_view room x in let vs : List TicketView = set s.views id l in
    let old = now h in
    let mine = (h.each id v at).0 gets in
    let here : v.made ≡ h.made = mine.made in
    let seat : ℕ → ℕ = λ p. cond (p == h.made) (length vs) (h.seat p) in
    let offered : ℕ → List ℕ = λ p. cond (p == h.made) [] (h.offered p) in
    let new : World = world h.reader (h.made + 1) seat offered h.log s.words in
    let nothing = nothing_past h.made v.made (entries h.log) (omega (arith, here)) h.sound.orderly in
    let grows : Grows old new = record {
      made = omega arith;
      log = ([], sym (append-nil h.log));
      frozen = λ k _. (refl, refl);
      clock = omega arith;
      offered = λ n f. (f.0, (let lt = f.1 in omega arith), (f.2.0, ap (λ (l : List ℕ). slice_get l f.2.0) (cond-false (f.0 == h.made) [] (h.offered f.0) (ne_eqb f.0 h.made (λ e. let lt = f.1 in omega arith))) ∙ f.2.1));
    } in
    let spares : (j : ℕ) → j < h.made → Spares old new j = λ j lt. record {
      put = refl;
      closed = refl;
      claims = refl;
      offers = cond-false (j == h.made) [] (h.offered j) (ne_eqb j h.made (λ e. omega arith));
      places = λ k z at' is. (refl, refl);
    } in
    let kept : (j : ℕ) (u : TicketView) → Each (IsSender places old j) u.senders → Each (IsSender places new j) u.senders = λ j u hs. each-map (IsSender places old j) (IsSender places new j) u.senders
    (λ z hz. sender_stays places old new j j z grows (spares z.from hz.made) (cond-false (z.from == h.made) (length vs) (h.seat z.from) (ne_eqb z.from h.made (λ e. let lt = hz.made in omega arith)) ∙ hz.seat) hz) hs in
    let receiver : IsReader places new id l = record {
      reader = mine.reader;
      made = ap (λ (k : ℕ). k + 1) here;
      places_are = mine.places_are;
      got = mine.got;
      stored = mine.stored;
      few = mine.few;
      clocks = mine.clocks;
    } in
    let F : ℕ → TicketView → Type 0 = Agrees places new in
    let olds : (j : ℕ) (u : TicketView) → get_elem? vs j ≡ some u → F j u =
    all_set F s.views id l ((λ _. receiver), tt)
    (λ j u other e. ((λ g. absurd (other (sym ((h.each j u e).0 g).reader ∙ mine.reader))), kept j u (h.each j u e).1)) in
    let first : (j : ℕ) → j ≡ length vs → IsSender places new j x = λ j is. record {
      seat = cond-true (v.made == h.made) (length vs) (h.seat v.made) (eq-eqb v.made h.made here) ∙ sym is;
      made = omega (arith, here);
      places_are = mine.places_are;
      put = sym (messages_of-nothing v.made (entries h.log) nothing);
      closed = sym (has_ended-nothing v.made (entries h.log) nothing);
      claims = sym (own-nothing v.made 0 h.log nothing);
      offers = sym (cond-true (v.made == h.made) [] (h.offered v.made) (eq-eqb v.made h.made here));
      ready = omega arith;
      stored = tt;
      pending = tt;
    } in
    record {
      reader = h.reader;
      made = h.made + 1;
      seat = seat;
      offered = offered;
      log = h.log;
      wide = h.wide;
      small = h.small;
      claimed = h.claimed;
      rooms = (let a = rooms_set s.views id v l at in let b = rooms_snoc vs r in let t = h.rooms in omega arith);
      sound = sound_stays places old new grows (orderly_wider h.made (entries h.log) h.sound.orderly) (λ k. inl refl) (λ k. inl refl) tt (inl refl) h.sound;
      each = λ j u e. ⊎_elim (λ y. olds j u y) (λ (y : (j ≡ length vs) × (r ≡ u)). subst (F j) y.1 ((λ no. absurd (true≢false (sym no))), (first j y.0, tt))) (snoc_cases vs r u j e);
    }

-- taking in an outlet's ticket keeps the rule: the inlet's seat is now also that of its sender
pub joins_keep : (places id : ℕ) (v : TicketView) (other : ℕ) (w : TicketView) (x : Sender) → v.gets ≡ true → w.senders ≡ x ∷ [] → Joins (Kept places) id v other w (beside v w) nobody
joins_keep places id v other w x gets only s h at two at' =
    let both : TicketView = beside v w in let vs : List TicketView = set s.views id both in
    let old = now h in
    let mine = (h.each id v at).0 gets in
    let was : get_elem? s.views other ≡ some w = ⊎_elim (λ y. absurd (two y.0)) (λ y. y.1) (at_set s.views id other both w at') in
    let theirs = (subst (Each (IsSender places old other)) only (h.each other w was).1).0 in
    let seat : ℕ → ℕ = λ p. cond (p == x.from) id (h.seat p) in
    let new : World = world h.reader h.made seat h.offered h.log s.words in
    let grows : Grows old new = record { made = omega arith; log = ([], sym (append-nil h.log)); frozen = λ k _. (refl, refl); clock = omega arith; offered = λ n f. f } in
    let spares : (j : ℕ) → Spares old new j = λ j. record { put = refl; closed = refl; claims = refl; offers = refl; places = λ k z at' is. (refl, refl) } in
    let moved : (j : ℕ) (z : Sender) → j ≢ other → IsSender places old j z → IsSender places new j z = λ j z away hz.
    sender_stays places old new j j z grows (spares z.from) (cond-false (z.from == x.from) id (h.seat z.from) (ne_eqb z.from x.from (λ e. away (sym hz.seat ∙ ap h.seat e ∙ theirs.seat))) ∙ hz.seat) hz in
    let stays : (j : ℕ) (u : TicketView) → j ≢ other → Agrees places old j u → Agrees places new j u = λ j u away f. (
      (λ g. receiver_stays places old new j u grows refl refl (f.0 g)),
      each-map (IsSender places old j) (IsSender places new j) u.senders (λ z hz. moved j z away hz) f.1,
    ) in
    let joined : Agrees places new id both = let f = stays id v (λ e. two (sym e)) (h.each id v at) in (
      (λ g. let k = f.0 gets in record { reader = k.reader; made = k.made; places_are = k.places_are; got = k.got; stored = k.stored; few = k.few; clocks = k.clocks }),
      each-append (IsSender places new id) v.senders w.senders f.1 (subst (Each (IsSender places new id)) (sym only) (sender_stays places old new other id x grows (spares x.from) (cond-true (x.from == x.from) id (h.seat x.from) (eq-eqb x.from x.from refl)) theirs, tt)),
    ) in
    let F : ℕ → TicketView → Type 0 = Agrees places new in
    let G : ℕ → TicketView → Type 0 = λ j u. j ≢ other → F j u in
    let now' : (j : ℕ) (u : TicketView) → get_elem? vs j ≡ some u → G j u = all_set G s.views id both (λ _. joined) (λ j u _ e away. stays j u away (h.each j u e)) in
    record {
      reader = h.reader;
      made = h.made;
      seat = seat;
      offered = h.offered;
      log = h.log;
      wide = h.wide;
      small = h.small;
      claimed = h.claimed;
      rooms = (let a = rooms_set s.views id v both at in let b = rooms_set vs other w nobody at' in let t = h.rooms in omega arith);
      sound = sound_stays places old new grows h.sound.orderly (λ k. inl refl) (λ k. inl refl) tt (inl refl) h.sound;
      each = all_set F vs other nobody ((λ no. absurd (true≢false (sym no))), tt) (λ j u away e. now' j u e away);
    }

-- each of the first words is 0
zero_at : (n k : ℕ) → slice_index (replicate n 0) k ≡ 0
zero_at zero k = refl
zero_at (suc n) zero = refl
zero_at (suc n) (suc k) = zero_at n k

-- so many words
length_zeros : (n : ℕ) → length (replicate {A = ℕ} n 0) ≡ n
length_zeros zero = refl
length_zeros (suc n) = ap suc (length_zeros n)

-- a new row keeps the rule: nothing is claimed, and the one ticket is the inlet's
pub begins : (places count : ℕ) (words : List ℕ) → places ≤ most_places → count ≡ places + places + 2 → words ≡ replicate count 0 → Kept places (opening words [] (receives places places 0 [] []))
begins places count words small size are =
    let blank : (k : ℕ) → slice_index words k ≡ 0 = λ k. ap (λ (l : List ℕ). slice_index l k) are ∙ zero_at count k in
    let w : World = world 0 0 (λ _. 0) (λ _. []) [] words in
    record {
      reader = 0;
      made = 0;
      seat = λ _. 0;
      offered = λ _. [];
      log = [];
      wide = ap length are ∙ length_zeros count ∙ size;
      small = small;
      claimed = blank 0;
      rooms = omega arith;
      sound = record {
        orderly = tt;
        cells = λ k lt. inl (blank (k + k + 2));
        dated = λ k lt. inl (blank (k + k + 3));
        above = λ k x e. cc;
        clock = inl (blank 1);
      };
      each = λ id v e. first id v e;
    }
  where
    -- what the one seat, the inlet's, knows is so
    first : (id : ℕ) (v : TicketView) → get_elem? (receives places places 0 [] [] ∷ []) id ≡ some v → Agrees places (world 0 0 (λ _. 0) (λ _. []) [] words) id v
    first zero v e = subst (λ (u : TicketView). Agrees places (world 0 0 (λ _. 0) (λ _. []) [] words) 0 u) (some-injective (receives places places 0 [] []) v e)
        ((λ _. record { reader = refl; made = refl; places_are = refl; got = ([], refl); stored = λ k lt. absurd (omega arith); few = omega arith; clocks = λ k lt. absurd (omega arith) }), tt)
    first (suc id) v e = absurd (some-ne-none v (sym e))
