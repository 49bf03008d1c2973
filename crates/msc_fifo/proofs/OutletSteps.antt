-- Each step of an outlet keeps the rule of the table.
use Rattle.std.proofs.Common.{◌≡◌, ◌≢◌, ◌⊎◌, ℕ, ◌+◌, ◌-◌, ◌^◌, ◌%◌, ◌<◌, ◌≤◌, ◌==◌, max, Bool, true, false, true≢false, cond, List, [], ◌∷◌, ◌++◌, map, length, set, Some, slice_get, slice_index, sym, refl, ap, ◌∙◌, subst, inl, inr, ⊎_elim, append-nil, arith, length-append, mod-eq_of_lt, eq-eqb, ne_eqb}
use Rattle.std.proofs.lemmas.Bool.{cases_eq, cases_lt}
use mathlib.Core.Option.{some, none}
use lib.ListN.{get_elem?}
use Rattle.atomic_table.specs.Table.{State, step, stepped, keeps, Allows}
use Rattle.msc_fifo.specs.declared.entry.Entry.{Entry}
use Rattle.msc_fifo.specs.declared.entry.Entry.TheVariants.{Message, Ended}
use Rattle.msc_fifo.specs.declared.claim.Claim.{Claim}
use Rattle.msc_fifo.specs.declared.rule.Sender.{Sender}
use Rattle.msc_fifo.specs.declared.rule.TicketView.{TicketView}
use Rattle.msc_fifo.specs.Claims.{claim, is_message}
use Rattle.msc_fifo.specs.Entries.{sender_of, messages_of, has_ended, IsOrderly}
use Rattle.msc_fifo.specs.World.{Slot, slot, spot_of, entries, own, code, IsSmall, World, Offered, Holds, IsDated, IsStored}
use Rattle.msc_fifo.specs.Lists.{Each}
use Rattle.msc_fifo.specs.Views.{IsPending, IsSender, Sound, Kept}
use Rattle.msc_fifo.specs.Moves.{Seated, OffersIt, ClaimsIt, DatesIt, ShowsIt, StoresIt, with_senders, after_offer, after_claim, after_date, after_show, after_store}
use Rattle.msc_fifo.proofs.EntryLemmas.{orderly-push, has_ended-message, has_ended-ended, messages_of-message, messages_of-ended, untouched, code_full}
use Rattle.msc_fifo.proofs.LogLemmas.{entries-append, cond-true, cond-false, get_front, get_last, get_inside, own-mine, own-other, each-append}
use Rattle.msc_fifo.proofs.Worlds.{Grows, Spares, dated_stays, sound_stays, stored_stay}
use Rattle.msc_fifo.proofs.Frames.{outlet_keeps, read_keeps, room_within, this_word, other_word, now, next_world}

-- what is known of a sender that only a claim of its own changes
abbrev Standing : ℕ → World → ℕ → Sender → Type 0
Standing places w id x = (w.seat x.from ≡ id) × (x.from < w.made) × (x.places ≡ places) × (x.put ≡ messages_of x.from (entries w.log)) × (x.closed ≡ has_ended x.from (entries w.log))

-- that much of all that is known of it
standing : {places id : ℕ} {w : World} {x : Sender} → IsSender places w id x → Standing places w id x
standing h = (h.seat, h.made, h.places_are, h.put, h.closed)

-- and all of it, with what its other steps change
sender_is : {places id : ℕ} {w : World} {x : Sender} → Standing places w id x → map spot_of (x.claims ++ x.pending) ≡ own x.from 0 w.log → x.offers ≡ w.offered x.from → x.ready ≤ w.clock
    → Each (IsStored w) x.claims → Each (IsPending w x) x.pending → IsSender places w id x
sender_is k claims offers ready stored pending = record { seat = k.0; made = k.1; places_are = k.2; put = k.3; closed = k.4; claims = claims; offers = offers; ready = ready; stored = stored; pending = pending }

-- the greater of two is one of them
max_cases : (n o : ℕ) → (max n o ≡ n) ⊎ (max n o ≡ o)
max_cases n o = ⊎_elim (λ (lt : n < o). inr (omega arith)) (λ (le : o ≤ n). inl (omega arith)) (cases_lt n o)

-- the offers of the sender i are one more
abbrev more_offers : (ℕ → List ℕ) → ℕ → ℕ → ℕ → List ℕ
more_offers offered i o p = cond (p == i) (offered p ++ o ∷ []) (offered p)

-- what was offered before is still offered
offered_more : (offered : ℕ → List ℕ) (i o p k n : ℕ) → slice_get (offered p) k ≡ Some n → slice_get (more_offers offered i o p) k ≡ Some n
offered_more offered i o p k n at = both (p == i)
  where
    -- of the sender i, whose offers grow, and of any other
    both : (b : Bool) → slice_get (cond b (offered p ++ o ∷ []) (offered p)) k ≡ Some n
    both true = get_front (offered p) (o ∷ []) k n at
    both false = at

-- an offer keeps the rule: the clock word is as before, or is the offer
pub offers_keep : (places slots id o : ℕ) (me : Seated) (x : Sender) → me.0.gets ≡ false → me.0.senders ≡ x ∷ [] → x.pending ≡ [] → Allows (Kept places) slots id me 1 (λ n. max n o) (OffersIt (step slots 1 o 0 none) me)
offers_keep places slots id o me x quiet only rest s h same at lt =
    let v : TicketView = me.0 in let y : Sender = after_offer o x in let w : TicketView = with_senders (after_offer o) v in
    let n : ℕ = slice_index s.words 1 in let n' : ℕ = max n o in
    let i : ℕ = x.from in
    let offered : ℕ → List ℕ = more_offers h.offered i o in
    let words : List ℕ = set s.words 1 n' in
    let old = now h in let new = next_world h offered h.log words in
    let mine = (subst (Each (IsSender places old id)) only (h.each id v at).1).0 in
    let wide = h.wide in
    let inside : 1 < length s.words = omega arith in
    let clock : new.clock ≡ n' = this_word s.words 1 n' inside in
    let item : (k : ℕ) → new.item k ≡ old.item k = λ k. other_word s.words 1 (k + k + 2) n' (λ e. omega arith) in
    let clk : (k : ℕ) → new.clk k ≡ old.clk k = λ k. other_word s.words 1 (k + k + 3) n' (λ e. omega arith) in
    let here : offered i ≡ h.offered i ++ o ∷ [] = cond-true (i == i) (h.offered i ++ o ∷ []) (h.offered i) (eq-eqb i i refl) in
    let grows : Grows old new = record {
      made = omega arith;
      log = ([], sym (append-nil h.log));
      frozen = λ k _. (item k, clk k);
      clock = omega arith;
      offered = λ m f. (f.0, f.1, (f.2.0, offered_more h.offered i o f.0 f.2.0 m f.2.1));
    } in
    let spares : (j : ℕ) → j ≢ i → Spares old new j = λ j other. record {
      put = refl;
      closed = refl;
      claims = refl;
      offers = cond-false (j == i) (h.offered j ++ o ∷ []) (h.offered j) (ne_eqb j i other);
      places = λ k z at' is. (item k, clk k);
    } in
    let offered_o : Offered new o = (i, mine.made, (length (h.offered i), subst (λ (l : List ℕ). slice_get l (length (h.offered i)) ≡ Some o) (sym here) (get_last (h.offered i) o (length (h.offered i)) refl))) in
    let topped : (new.clock ≡ old.clock) ⊎ Offered new new.clock = ⊎_elim (λ (e : n' ≡ n). inl (clock ∙ e)) (λ (e : n' ≡ o). inr (subst (Offered new) (sym (clock ∙ e)) offered_o)) (max_cases n o) in
    let offers : y.offers ≡ offered i = ap (λ l. l ++ o ∷ []) mine.offers ∙ sym here in
    let sender : IsSender places new id y = sender_is (standing mine) mine.claims offers (omega arith) (stored_stay old new x.claims grows mine.stored) (subst (Each (IsPending new y)) (sym rest) tt) in (
      w,
      keeps,
      tt,
      outlet_keeps places s me.1 v x h
          (record { seat = id; word = 1; value = n'; view = w; sender = y; offered = offered; log = h.log })
          (record {
            at = at;
            only = only;
            quiet = quiet;
            only_then = ap (map (after_offer o)) only;
            grows = grows;
            spares = spares;
            mine = sender;
            sound = sound_stays places old new grows h.sound.orderly (λ k. inl (item k)) (λ k. inl (clk k)) tt topped h.sound;
            claimed = other_word s.words 1 0 n' (λ e. omega arith) ∙ h.claimed;
            rooms = refl;
          }),
      (refl, refl),
    )

-- the offer for an entry
abbrev offer_for : Sender → Entry → ℕ
offer_for x (Message i m) = x.ready
offer_for x (Ended i) = 0

-- a place that was not claimed holds nothing
item_blank : (places : ℕ) (w : World) (k : ℕ) → Sound places w → k < places → k ≡ length w.log → w.item k ≡ 0
item_blank places w k h lt last = blank (h.cells k lt)
  where
    -- else it would hold an entry of the log, and place k is behind the log
    blank : Holds w.log k (w.item k) → w.item k ≡ 0
    blank (inl z) = z
    blank (inr x) = let i = get_inside w.log k x.0 x.1 in absurd (omega arith)

-- a place that was not claimed has no clock
clk_blank : (places : ℕ) (w : World) (k : ℕ) → Sound places w → k < places → k ≡ length w.log → w.clk k ≡ 0
clk_blank places w k h lt last = blank (h.dated k lt)
  where
    -- else it would have the clock of an entry of the log
    blank : IsDated w k (w.clk k) → w.clk k ≡ 0
    blank (inl z) = z
    blank (inr x) = let i = get_inside w.log k x.0 x.1 in absurd (omega arith)

-- one claim more without its clock
map-append : (cs : List Claim) (c : Claim) → map spot_of (cs ++ c ∷ []) ≡ map spot_of cs ++ spot_of c ∷ []
map-append [] c = refl
map-append (d ∷ cs) c = ap (λ l. spot_of d ∷ l) (map-append cs c)

-- one claim more is the sender's last
claims_more : (x : Sender) (c : Claim) (log : List Slot) → x.pending ≡ [] → map spot_of (x.claims ++ x.pending) ≡ own x.from 0 log → sender_of c.entry ≡ x.from → c.place ≡ length log
    → map spot_of (x.claims ++ c ∷ []) ≡ own x.from 0 (log ++ slot c.entry c.offer ∷ [])
claims_more x c log rest was mine at = map-append x.claims c ∙ ap (λ l. l ++ spot_of c ∷ []) (ap (map spot_of) (sym (append-nil x.claims) ∙ ap (λ l. x.claims ++ l) (sym rest)) ∙ was)
    ∙ sym (own-mine x.from 0 c.place log (slot c.entry c.offer) mine (omega arith))

-- place k, the next one, is claimed for the entry of a sender at rest, and nothing stands there yet
record HasClaimed (places k : ℕ) (old new : World) (x : Sender) (e : Entry) : Type 0 where
  rest : x.pending ≡ []
  own : sender_of e ≡ x.from
  last : k ≡ length old.log
  fits : k < places
  log : new.log ≡ old.log ++ slot e (offer_for x e) ∷ []
  item : new.item k ≡ 0
  clk : new.clk k ≡ 0
  seat : new.seat x.from ≡ old.seat x.from
  offered : new.offered x.from ≡ old.offered x.from

-- the claim that was just made is not stored
pending_claim : (places k : ℕ) (old new : World) (x y : Sender) (e : Entry) → HasClaimed places k old new x e → x.places ≡ places → y.places ≡ x.places → y.from ≡ x.from → y.shown ≡ 0
    → IsPending new y (claim k e (offer_for x e) 0)
pending_claim places k old new x y e c places_are same_places same_from shown = record {
  at = subst (λ (l : List Slot). slice_get l k ≡ Some (slot e (offer_for x e))) (sym c.log) (get_last old.log (slot e (offer_for x e)) k c.last);
  mine = c.own ∙ sym same_from;
  inside = (let a : y.places ≡ places = same_places ∙ places_are in let b = c.fits in omega arith);
  empty = c.item;
  shown = c.clk ∙ sym shown;
  dated = inl refl;
}

-- what a sender knows after its claim is so
grown : (places id k : ℕ) (old new : World) (x : Sender) (e : Entry) → HasClaimed places k old new x e → Grows old new
    → IsSender places old id x → IsSender places new id (after_claim k e x)
grown places id k old new x (Message i m) c g h =
    let es : List Entry = entries old.log in
    let more : entries new.log ≡ es ++ Message i m ∷ [] = ap entries c.log ∙ entries-append old.log (slot (Message i m) x.ready ∷ []) in
    record {
      seat = c.seat ∙ h.seat;
      made = (let a = h.made in let b = g.made in omega arith);
      places_are = h.places_are;
      put = ap (λ l. l ++ m ∷ []) h.put ∙ subst (λ (j : ℕ). messages_of x.from es ++ m ∷ [] ≡ messages_of x.from (es ++ Message j m ∷ [])) (sym c.own) (sym (messages_of-message x.from m es)) ∙ ap (messages_of x.from) (sym more);
      closed = h.closed ∙ sym (has_ended-message x.from i m es) ∙ ap (has_ended x.from) (sym more);
      claims = claims_more x (claim k (Message i m) x.ready 0) old.log c.rest h.claims c.own c.last ∙ ap (own x.from 0) (sym c.log);
      offers = h.offers ∙ sym c.offered;
      ready = (let a = h.ready in let b = g.clock in omega arith);
      stored = stored_stay old new x.claims g h.stored;
      pending = (pending_claim places k old new x (after_claim k (Message i m) x) (Message i m) c h.places_are refl refl refl, tt);
    }
grown places id k old new x (Ended i) c g h =
    let es : List Entry = entries old.log in
    let more : entries new.log ≡ es ++ Ended i ∷ [] = ap entries c.log ∙ entries-append old.log (slot (Ended i) 0 ∷ []) in
    record {
      seat = c.seat ∙ h.seat;
      made = (let a = h.made in let b = g.made in omega arith);
      places_are = h.places_are;
      put = h.put ∙ sym (messages_of-ended x.from i es) ∙ ap (messages_of x.from) (sym more);
      closed = subst (λ (j : ℕ). true ≡ has_ended x.from (es ++ Ended j ∷ [])) (sym c.own) (sym (has_ended-ended x.from es)) ∙ ap (has_ended x.from) (sym more);
      claims = claims_more x (claim k (Ended i) 0 0) old.log c.rest h.claims c.own c.last ∙ ap (own x.from 0) (sym c.log);
      offers = h.offers ∙ sym c.offered;
      ready = (let a = h.ready in let b = g.clock in omega arith);
      stored = stored_stay old new x.claims g h.stored;
      pending = (pending_claim places k old new x (after_claim k (Ended i) x) (Ended i) c h.places_are refl refl refl, tt);
    }

-- the offer for an entry is at most the clock word
offer_below : (x : Sender) (e : Entry) (n : ℕ) → x.ready ≤ n → offer_for x e ≤ n
offer_below x (Message i m) n le = le
offer_below x (Ended i) n le = omega arith

-- a claim keeps the rule: the entry is the sender's next one, and nobody else's
pub claims_keep : (places slots id : ℕ) (me : Seated) (x : Sender) (e : Entry) → me.0.gets ≡ false → me.0.senders ≡ x ∷ [] → x.pending ≡ [] → x.closed ≡ false → sender_of e ≡ x.from → 0 < me.0.room
    → Allows (Kept places) slots id me 0 (λ n. (n + 1) % 2 ^ 64) (ClaimsIt e (step slots 0 1 0 none) me)
claims_keep places slots id me x e quiet only rest opened is room s h same at lt =
    let v : TicketView = me.0 in let n : ℕ = slice_index s.words 0 in let n' : ℕ = (n + 1) % 2 ^ 64 in
    let y : Sender = after_claim n e x in let w : TicketView = record (with_senders (after_claim n e) v) { room = v.room - 1 } in
    let o : ℕ = offer_for x e in
    let log : List Slot = h.log ++ slot e o ∷ [] in
    let words : List ℕ = set s.words 0 n' in
    let old = now h in let new = next_world h h.offered log words in
    let mine = (subst (Each (IsSender places old id)) only (h.each id v at).1).0 in
    let count : n ≡ length h.log = h.claimed in
    let within = room_within s.views id v at in
    let total = h.rooms in
    let fits : n < places = omega arith in
    let small = h.small in
    let next_is : n' ≡ n + 1 = let small' : n + 1 < 2 ^ 64 = omega arith in mod-eq_of_lt small' in
    let wide = h.wide in
    let inside : 0 < length s.words = omega arith in
    let one : length log ≡ length h.log + 1 = length-append h.log (slot e o ∷ []) in
    let item : (k : ℕ) → new.item k ≡ old.item k = λ k. other_word s.words 0 (k + k + 2) n' (λ e. omega arith) in
    let clk : (k : ℕ) → new.clk k ≡ old.clk k = λ k. other_word s.words 0 (k + k + 3) n' (λ e. omega arith) in
    let clock : new.clock ≡ old.clock = other_word s.words 0 1 n' (λ e. omega arith) in
    let more : entries log ≡ entries h.log ++ e ∷ [] = entries-append h.log (slot e o ∷ []) in
    let grows : Grows old new = record {
      made = omega arith;
      log = (slot e o ∷ [], refl);
      frozen = λ k _. (item k, clk k);
      clock = omega arith;
      offered = λ m f. f;
    } in
    let spares : (j : ℕ) → j ≢ x.from → Spares old new j = λ j other. let away : sender_of e ≢ j = (λ z. other (sym z ∙ is)) in let u = untouched j e (entries h.log) away in record {
      put = ap (messages_of j) more ∙ u.0;
      closed = ap (has_ended j) more ∙ u.1;
      claims = own-other j 0 h.log (slot e o) away;
      offers = refl;
      places = λ k z at' is'. (item k, clk k);
    } in
    let lt' : sender_of e < h.made = subst (λ (k : ℕ). k < h.made) (sym is) mine.made in
    let going : has_ended (sender_of e) (entries h.log) ≡ false = subst (λ (k : ℕ). has_ended k (entries h.log) ≡ false) (sym is) (sym mine.closed ∙ opened) in
    let low = offer_below x e old.clock mine.ready in
    let orderly = subst (IsOrderly h.made) (sym more) (orderly-push h.made (entries h.log) e h.sound.orderly lt' going) in
    let sound = sound_stays places old new grows orderly (λ k. inl (item k)) (λ k. inl (clk k)) (omega arith, tt) (inl clock) h.sound in
    let blank = item n ∙ item_blank places old n h.sound fits count in
    let blank' = clk n ∙ clk_blank places old n h.sound fits count in (
      w,
      keeps,
      tt,
      outlet_keeps places s me.1 v x h
          (record { seat = id; word = 0; value = n'; view = w; sender = y; offered = h.offered; log = log })
          (record {
            at = at;
            only = only;
            quiet = quiet;
            only_then = ap (map (after_claim n e)) only;
            grows = grows;
            spares = spares;
            mine = grown places id n old new x e (record { rest = rest; own = is; last = count; fits = fits; log = refl; item = blank; clk = blank'; seat = refl; offered = refl }) grows mine;
            sound = sound;
            claimed = this_word s.words 0 n' inside ∙ next_is ∙ ap (λ (k : ℕ). k + 1) count ∙ sym one;
            rooms = omega arith;
          }),
      (refl, refl, subst (Each (λ (z : Sender). n < z.places)) (sym only) ((let p = mine.places_are in omega arith), tt)),
    )

-- reading the clock word keeps the rule: it covers the place that was claimed
pub dates_keep : (places slots id : ℕ) (me : Seated) (x : Sender) (c : Claim) → me.0.gets ≡ false → me.0.senders ≡ x ∷ [] → x.pending ≡ c ∷ [] → is_message c.entry ≡ true
    → Allows (Kept places) slots id me 1 (λ n. n) (DatesIt (step slots 1 0 0 none) me)
dates_keep places slots id me x c quiet only waits message s h same at lt =
    let v : TicketView = me.0 in let n : ℕ = slice_index s.words 1 in
    let y : Sender = after_date n x in let w : TicketView = with_senders (after_date n) v in
    let old = now h in
    let mine = (subst (Each (IsSender places old id)) only (h.each id v at).1).0 in
    let p = (subst (Each (IsPending old x)) waits mine.pending).0 in
    let c' : Claim = claim c.place c.entry c.offer n in
    let pending : IsPending old y c' = record {
      at = p.at;
      mine = p.mine;
      inside = p.inside;
      empty = p.empty;
      shown = p.shown;
      dated = ⊎_elim (λ (z : n ≡ 0). inl z) (λ f. inr (slot c.entry c.offer, p.at, message, (λ j z le at'. h.sound.above j z at'), f)) h.sound.clock;
    } in
    let claims : map spot_of (y.claims ++ y.pending) ≡ own x.from 0 h.log = ap (λ l. map spot_of (x.claims ++ map (λ (d : Claim). claim d.place d.entry d.offer n) l)) waits ∙ map-append x.claims c' ∙ sym (map-append x.claims c) ∙ ap (λ l. map spot_of (x.claims ++ l)) (sym waits) ∙ mine.claims in
    let waiting : Each (IsPending old y) y.pending = subst (λ l. Each (IsPending old y) (map (λ (d : Claim). claim d.place d.entry d.offer n) l)) (sym waits) (pending, tt) in
    let sender : IsSender places old id y = sender_is (standing mine) claims mine.offers mine.ready mine.stored waiting in (
      w,
      keeps,
      tt,
      read_keeps places 1 id s me.1 v w h at refl ((λ g. absurd (true≢false (sym g ∙ quiet))), subst (λ l. Each (IsSender places old id) (map (after_date n) l)) (sym only) (sender, tt)),
      (refl, refl, subst (Each (λ (z : Sender). z.ready ≤ n)) (sym only) (mine.ready, tt)),
    )

-- the place of a claim that isn't stored is no other sender's
apart : (w : World) (x : Sender) (c : Claim) (j k : ℕ) (z : Slot) → IsPending w x c → j ≢ x.from → slice_get w.log k ≡ Some z → sender_of z.entry ≡ j → k ≢ c.place
apart w x c j k z p other at is same = let both : Some z ≡ Some (slot c.entry c.offer) = sym at ∙ ap (slice_get w.log) same ∙ p.at in
    let z_is : z ≡ slot c.entry c.offer = cc in other (sym is ∙ ap (λ (t : Slot). sender_of t.entry) z_is ∙ p.mine)

-- the world after a word is written
abbrev with_word : {places : ℕ} {s : State (Unit {0}) TicketView} → Kept places s → ℕ → ℕ → World
with_word {s = s} h i n = next_world h h.offered h.log (set s.words i n)

-- writing a word of the place of a pending claim keeps the rule where the place is then lawful and has the claim's clock, and what its sender knows fits
writes_keep : (places i n id : ℕ) (s : State (Unit {0}) TicketView) (me : Seated) (f : Sender → Sender) (x : Sender) (c : Claim) (h : Kept places s)
    → get_elem? s.views id ≡ some me.0 → me.0.gets ≡ false → me.0.senders ≡ x ∷ [] → IsPending (now h) x c → c.place + c.place + 2 ≤ i → i ≤ c.place + c.place + 3
    → Holds h.log c.place ((with_word h i n).item c.place) → (with_word h i n).clk c.place ≡ c.clock → (Grows (now h) (with_word h i n) → IsSender places (with_word h i n) id (f x))
    → Kept places (stepped s i n id me.1 (with_senders f me.0) keeps)
writes_keep places i n id s me f x c h at quiet only p low high holds dated fits =
    let old = now h in let new = with_word h i n in
    let others : (k : ℕ) → k ≢ c.place → (new.item k ≡ old.item k) × (new.clk k ≡ old.clk k) = λ k other.
    (other_word s.words i (k + k + 2) n (λ e. other (omega arith)), other_word s.words i (k + k + 3) n (λ e. other (omega arith))) in
    let clock : new.clock ≡ old.clock = other_word s.words i 1 n (λ e. omega arith) in
    let grows : Grows old new = record {
      made = omega arith;
      log = ([], sym (append-nil h.log));
      frozen = λ k full. others k (λ is. full (ap old.item is ∙ p.empty));
      clock = omega arith;
      offered = λ m f. f;
    } in
    let spares : (j : ℕ) → j ≢ x.from → Spares old new j = λ j other. record {
      put = refl;
      closed = refl;
      claims = refl;
      offers = refl;
      places = λ k z at' is. others k (apart old x c j k z p other at' is);
    } in
    let item : (k : ℕ) → (new.item k ≡ old.item k) ⊎ Holds h.log k (new.item k) = λ k.
    ⊎_elim (λ (is : k ≡ c.place). inr (subst (λ (j : ℕ). Holds h.log j (new.item j)) (sym is) holds)) (λ other. inl (others k other).0) (cases_eq k c.place) in
    let here : IsDated new c.place (new.clk c.place) = subst (IsDated new c.place) (sym dated) (dated_stays old new c.place c.clock grows p.dated) in
    let clk : (k : ℕ) → (new.clk k ≡ old.clk k) ⊎ IsDated new k (new.clk k) = λ k.
    ⊎_elim (λ (is : k ≡ c.place). inr (subst (λ (j : ℕ). IsDated new j (new.clk j)) (sym is) here)) (λ other. inl (others k other).1) (cases_eq k c.place) in
    outlet_keeps places s me.1 me.0 x h
    (record { seat = id; word = i; value = n; view = with_senders f me.0; sender = f x; offered = h.offered; log = h.log })
    (record {
      at = at;
      only = only;
      quiet = quiet;
      only_then = ap (map f) only;
      grows = grows;
      spares = spares;
      mine = fits grows;
      sound = sound_stays places old new grows h.sound.orderly item clk tt (inl clock) h.sound;
      claimed = other_word s.words i 0 n (λ e. omega arith) ∙ h.claimed;
      rooms = refl;
    })

-- storing the clock of the place keeps the rule
pub shows_keep : (places slots id i n : ℕ) (me : Seated) (x : Sender) (c : Claim) → me.0.gets ≡ false → me.0.senders ≡ x ∷ [] → x.pending ≡ c ∷ [] → i ≡ c.place + c.place + 3 → n ≡ c.clock
    → Allows (Kept places) slots id me i (λ _. n) (λ _. ShowsIt (step slots i n 0 none) me n)
shows_keep places slots id i n me x c quiet only waits word value s h same at lt =
    let v : TicketView = me.0 in let y : Sender = after_show n x in
    let old = now h in let new = with_word h i n in
    let mine = (subst (Each (IsSender places old id)) only (h.each id v at).1).0 in
    let p = (subst (Each (IsPending old x)) waits mine.pending).0 in
    let wide = h.wide in let fits = p.inside in let are = mine.places_are in
    let inside : i < length s.words = omega arith in
    let item : new.item c.place ≡ old.item c.place = other_word s.words i (c.place + c.place + 2) n (λ e. omega arith) in
    let here : new.clk c.place ≡ n = ap (λ (j : ℕ). slice_index (set s.words i n) j) (sym word) ∙ this_word s.words i n inside in
    let sender : Grows old new → IsSender places new id y = λ grows.
    let pending : IsPending new y c = record {
      at = p.at;
      mine = p.mine;
      inside = p.inside;
      empty = item ∙ p.empty;
      shown = here;
      dated = dated_stays old new c.place c.clock grows p.dated;
    } in
    let ready : y.ready ≤ new.clock = let a = mine.ready in let b = grows.clock in omega arith in
    sender_is (standing mine) mine.claims mine.offers ready (stored_stay old new x.claims grows mine.stored) (subst (Each (IsPending new y)) (sym waits) (pending, tt)) in (
      with_senders (after_show n) v,
      keeps,
      tt,
      writes_keep places i n id s me (after_show n) x c h at quiet only p (omega arith) (omega arith) (inl (item ∙ p.empty)) (here ∙ value) sender,
      (refl, refl),
    )

-- storing the entry of the place keeps the rule: the claim is stored from now on
pub stores_keep : (places slots id i n : ℕ) (me : Seated) (x : Sender) (c : Claim) → me.0.gets ≡ false → me.0.senders ≡ x ∷ [] → x.pending ≡ c ∷ [] → i ≡ c.place + c.place + 2 → n ≡ code c.entry → IsSmall c.entry → x.shown ≡ c.clock
    → Allows (Kept places) slots id me i (λ _. n) (λ _. StoresIt (step slots i n 0 none) me n)
stores_keep places slots id i n me x c quiet only waits word value small shown s h same at lt =
    let v : TicketView = me.0 in let y : Sender = after_store x in
    let old = now h in let new = with_word h i n in
    let mine = (subst (Each (IsSender places old id)) only (h.each id v at).1).0 in
    let p = (subst (Each (IsPending old x)) waits mine.pending).0 in
    let wide = h.wide in let fits = p.inside in let are = mine.places_are in
    let inside : i < length s.words = omega arith in
    let clk : new.clk c.place ≡ c.clock = other_word s.words i (c.place + c.place + 3) n (λ e. omega arith) ∙ p.shown ∙ shown in
    let item : new.item c.place ≡ code c.entry = ap (λ (j : ℕ). slice_index (set s.words i n) j) (sym word) ∙ this_word s.words i n inside ∙ value in
    let last : IsStored new c = ((λ z. code_full c.entry (sym item ∙ z)), clk) in
    let sender : Grows old new → IsSender places new id y = λ grows.
    let stored : Each (IsStored new) y.claims = each-append (IsStored new) x.claims x.pending (stored_stay old new x.claims grows mine.stored) (subst (Each (IsStored new)) (sym waits) (last, tt)) in
    sender_is (standing mine) (ap (map spot_of) (append-nil (x.claims ++ x.pending)) ∙ mine.claims) mine.offers (omega arith) stored tt in (
      with_senders after_store v,
      keeps,
      tt,
      writes_keep places i n id s me after_store x c h at quiet only p (omega arith) (omega arith) (inr (slot c.entry c.offer, p.at, item, small)) clk sender,
      (refl, refl),
    )
