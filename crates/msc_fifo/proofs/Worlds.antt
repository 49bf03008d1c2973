-- What a step leaves of all that the rule speaks of, and what the seats go on to know.
use Rattle.std.proofs.Common.{◌≡◌, ◌≢◌, ◌⊎◌, ℕ, ◌<◌, ◌≤◌, List, ◌++◌, length, Some, slice_get, sym, ap, ◌∙◌, subst, inl, inr, ⊎_elim, append_assoc, arith}
use Rattle.msc_fifo.specs.declared.claim.Claim.{Claim}
use Rattle.msc_fifo.specs.declared.rule.Sender.{Sender}
use Rattle.msc_fifo.specs.declared.rule.TicketView.{TicketView}
use Rattle.msc_fifo.specs.Entries.{sender_of, messages_of, has_ended, IsOrderly}
use Rattle.msc_fifo.specs.World.{Slot, slot, entries, own, World, Covers, Offered, Holds, IsDated, IsStored}
use Rattle.msc_fifo.specs.Lists.{Each}
use Rattle.msc_fifo.specs.Views.{IsPending, IsSender, IsReader, Sound}
use Rattle.msc_fifo.proofs.LogLemmas.{entries-append, get_front, get_either, member, covers_longer, each-map}

-- what a step leaves, whoever makes it: stored places are frozen, and nothing that was claimed or offered goes away
pub record Grows (w w' : World) : Type 0 where
  pub made : w.made ≤ w'.made
  pub log : (more : List Slot) × (w'.log ≡ w.log ++ more)
  pub frozen : (k : ℕ) → w.item k ≢ 0 → (w'.item k ≡ w.item k) × (w'.clk k ≡ w.clk k)
  pub clock : w.clock ≤ w'.clock
  pub offered : (n : ℕ) → Offered w n → Offered w' n

-- the step is none of the sender i
pub record Spares (w w' : World) (i : ℕ) : Type 0 where
  pub put : messages_of i (entries w'.log) ≡ messages_of i (entries w.log)
  pub closed : has_ended i (entries w'.log) ≡ has_ended i (entries w.log)
  pub claims : own i 0 w'.log ≡ own i 0 w.log
  pub offers : w'.offered i ≡ w.offered i
  pub places : (k : ℕ) (x : Slot) → slice_get w.log k ≡ Some x → sender_of x.entry ≡ i → (w'.item k ≡ w.item k) × (w'.clk k ≡ w.clk k)

-- what was claimed stays
pub at_longer : (w w' : World) (k : ℕ) (x : Slot) → Grows w w' → slice_get w.log k ≡ Some x → slice_get w'.log k ≡ Some x
at_longer w w' k x g at = subst (λ (l : List Slot). slice_get l k ≡ Some x) (sym g.log.1) (get_front w.log g.log.0 k x at)

-- a clock still covers its place
pub covers_stay : (w w' : World) (k n : ℕ) (x : Slot) → Grows w w' → slice_get w.log k ≡ Some x → Covers w.log k n → Covers w'.log k n
covers_stay w w' k n x g at c = subst (λ (l : List Slot). Covers l k n) (sym g.log.1) (covers_longer w.log g.log.0 k n x at c)

-- a clock stays lawful
pub dated_stays : (w w' : World) (k n : ℕ) → Grows w w' → IsDated w k n → IsDated w' k n
dated_stays w w' k n g (inl z) = inl z
dated_stays w w' k n g (inr h) = inr (h.0, at_longer w w' k h.0 g h.1, h.2, covers_stay w w' k n h.0 g h.1 h.3, g.offered n h.4)

-- what a place holds stays lawful
holds_stays : (w w' : World) (k n : ℕ) → Grows w w' → Holds w.log k n → Holds w'.log k n
holds_stays w w' k n g (inl z) = inl z
holds_stays w w' k n g (inr h) = inr (h.0, at_longer w w' k h.0 g h.1, h.2, h.3)

-- what holds whatever the seats know stays so where each word is as before or lawful, and the clock word covers the new offers
pub sound_stays : (places : ℕ) (w w' : World) (g : Grows w w') → IsOrderly w'.made (entries w'.log)
    → ((k : ℕ) → (w'.item k ≡ w.item k) ⊎ Holds w'.log k (w'.item k)) → ((k : ℕ) → (w'.clk k ≡ w.clk k) ⊎ IsDated w' k (w'.clk k))
    → Each (λ (x : Slot). x.offer ≤ w'.clock) g.log.0 → (w'.clock ≡ w.clock) ⊎ Offered w' w'.clock → Sound places w → Sound places w'
sound_stays places w w' g orderly item clk above clock h = record {
  orderly = orderly;
  cells = λ k lt. ⊎_elim (λ (same : w'.item k ≡ w.item k). subst (Holds w'.log k) (sym same) (holds_stays w w' k (w.item k) g (h.cells k lt))) (λ new. new) (item k);
  dated = λ k lt. ⊎_elim (λ (same : w'.clk k ≡ w.clk k). subst (IsDated w' k) (sym same) (dated_stays w w' k (w.clk k) g (h.dated k lt))) (λ new. new) (clk k);
  above = λ k x at. ⊎_elim (λ (was : slice_get w.log k ≡ Some x). let a = h.above k x was in let b = g.clock in omega arith)
      (λ (new : (j : ℕ) × (slice_get g.log.0 j ≡ Some x)). member (λ (y : Slot). y.offer ≤ w'.clock) g.log.0 new.0 x new.1 above)
      (get_either w.log g.log.0 k x (subst (λ (l : List Slot). slice_get l k ≡ Some x) g.log.1 at));
  clock = ⊎_elim (λ (same : w'.clock ≡ w.clock). ⊎_elim (λ (z : w.clock ≡ 0). inl (same ∙ z)) (λ f. inr (subst (Offered w') (sym same) (g.offered w.clock f))) h.clock) (λ new. inr new) clock;
}

-- stored claims stay stored
pub stored_stay : (w w' : World) (cs : List Claim) → Grows w w' → Each (IsStored w) cs → Each (IsStored w') cs
stored_stay w w' cs g = each-map (IsStored w) (IsStored w') cs (λ c h. let f = g.frozen c.place h.0 in ((λ z. h.0 (sym f.0 ∙ z)), f.1 ∙ h.1))

-- a claim that is not stored stays so where the step is none of its sender
pending_stays : (w w' : World) (x : Sender) (c : Claim) → Grows w w' → Spares w w' x.from → IsPending w x c → IsPending w' x c
pending_stays w w' x c g s h = let p = s.places c.place (slot c.entry c.offer) h.at h.mine in record {
  at = at_longer w w' c.place (slot c.entry c.offer) g h.at;
  mine = h.mine;
  inside = h.inside;
  empty = p.0 ∙ h.empty;
  shown = p.1 ∙ h.shown;
  dated = dated_stays w w' c.place c.clock g h.dated;
}

-- what is known of a sender stays so where the step is none of its own
pub sender_stays : (places : ℕ) (w w' : World) (id id' : ℕ) (x : Sender) → Grows w w' → Spares w w' x.from → w'.seat x.from ≡ id' → IsSender places w id x → IsSender places w' id' x
sender_stays places w w' id id' x g s seat h = record {
  seat = seat;
  made = (let a = h.made in let b = g.made in omega arith);
  places_are = h.places_are;
  put = h.put ∙ sym s.put;
  closed = h.closed ∙ sym s.closed;
  claims = h.claims ∙ sym s.claims;
  offers = h.offers ∙ sym s.offers;
  ready = (let a = h.ready in let b = g.clock in omega arith);
  stored = stored_stay w w' x.claims g h.stored;
  pending = each-map (IsPending w x) (IsPending w' x) x.pending (λ c. pending_stays w w' x c g s) h.pending;
}

-- the sender's knowledge in a world that differs elsewhere alone
pub receiver_stays : (places : ℕ) (w w' : World) (id : ℕ) (v : TicketView) → Grows w w' → w'.reader ≡ w.reader → w'.made ≡ w.made → IsReader places w id v → IsReader places w' id v
receiver_stays places w w' id v g reader made h = record {
  reader = reader ∙ h.reader;
  made = h.made ∙ sym made;
  places_are = h.places_are;
  got = (
    h.got.0 ++ entries g.log.0,
    ap entries g.log.1 ∙ entries-append w.log g.log.0 ∙ ap (λ l. l ++ entries g.log.0) h.got.1 ∙ append_assoc v.got h.got.0 (entries g.log.0),
  );
  stored = λ k lt z. h.stored k lt (sym (g.frozen k (h.stored k lt)).0 ∙ z);
  few = h.few;
  clocks = λ k lt. (let few = h.few in let lt' : k < length v.got = omega arith in (g.frozen k (h.stored k lt')).1) ∙ h.clocks k lt;
}
