-- The places of a settled queue, with messages as outputs, and what a log took from a queue.
use Rattle.std.proofs.Common.{◌≡◌, ℕ, ◌<◌, true, false, cond, eqb, suc, List, [], ◌∷◌, ◌++◌, map, length, Some, Bool, inl, inr, refl, sym, ap, ◌∙◌}
use Rattle.std.specs.Prelude.{nat_eq}
use Rattle.std.proofs.lemmas.Bool.{eqb-true, or_cases, or_parts}
use Rattle.msc_chart.specs.declared.queue.Queues.{Queues}
use Rattle.msc_chart.specs.Lists.{occurs, Occurs}
use Rattle.msc_chart.specs.Charts.{line, message, partner, is_input}
use Rattle.msc_chart.specs.Drawings.{Drawing, IsAccepted, output_of, input_of, receiver_of}
use Rattle.msc_chart.specs.Orders.{wired, queue, queue_of}
use Rattle.msc_chart.specs.Laws.{messages_in}
use Rattle.msc_chart.proofs.ListLemmas.{by_test, clash, occurs-head, occurs-tail}
use Rattle.msc_chart.proofs.Drawn.{input_parts, input_not_local, partner_of_output, partner_of_input}
use Rattle.msc_chart.proofs.QueueLemmas.{event_queue}
use Rattle.msc_chart.proofs.Readers.{input_in, output_in}
use Rattle.msc_fifo.specs.declared.entry.Entry.{Entry}
use Rattle.msc_fifo.specs.declared.entry.Entry.TheVariants.{Message as Sent, Ended}
use Rattle.msc_fifo.specs.declared.claim.Claim.{Claim}
use Rattle.msc_fifo.specs.declared.accounts.Settled.{Settled}
use Rattle.msc_fifo.specs.Entries.{sender_of as from_of}
use Rattle.msc_fifo.specs.Settlement.{message_of, entries_at, place_of}
use Rattle.msc_execution.specs.Roles.{role, queues_in, taken_queues, takes_from}
use Rattle.msc_execution.specs.Logs.{inputs_at}
use Rattle.msc_execution.specs.Growth.{all_messages}
use Rattle.msc_execution.specs.Clocks.{QueuePlace, messages}
use Rattle.msc_execution.specs.Clocks.QueuePlace.{Message}
use Rattle.msc_execution.specs.Timed.{taken_from}
use Rattle.msc_execution.specs.Shown.{place_as, as_place, places_at}
use Rattle.msc_execution.proofs.Lists.Words.{passes}
use Rattle.msc_execution.proofs.Lists.Among.{any_parts}
use Rattle.msc_execution.proofs.Wiring.Receivers.{in_messages}

-- a claim as a place
abbrev pub queue_place_of : Drawing → Claim → QueuePlace
queue_place_of d c = as_place d (place_of c)

-- the places that are answered, by their outputs
pub places_are : (d : Drawing) (log : List Claim)
    → map (as_place d) (map place_of log) ≡ map (queue_place_of d) log
places_are d [] = refl
places_are d (c ∷ log) = ap (λ l. queue_place_of d c ∷ l) (places_are d log)

-- what stands as a message at a place is a message's entry
pub place_entry : (d : Drawing) (e : Entry) (n i s m : ℕ)
    → place_as d (from_of e) (message_of e) n ≡ Message i s m
    → (k : ℕ) × (e ≡ Sent i k) × (output_of d k ≡ s) × (n ≡ m)
place_entry d (Sent j k) n i s m h =
    let a : j ≡ i = cc in
    let b : output_of d k ≡ s = cc in
    let c : n ≡ m = cc in
    (k, ap (λ z. Sent z k) a, b, c)
place_entry d (Ended j) n i s m h = cc

-- one entry more
messages_more : (d : Drawing) (e : Entry) (n : ℕ) (ps : List QueuePlace) (es : List Entry)
    → messages ps ≡ map (output_of d) (all_messages es)
    → messages (place_as d (from_of e) (message_of e) n ∷ ps)
    ≡ map (output_of d) (all_messages (e ∷ es))
unfolding messages
messages_more d (Sent j k) n ps es h = ap (λ l. output_of d k ∷ l) h
messages_more d (Ended j) n ps es h = h

-- the messages at the places, by their outputs
pub messages_are : (d : Drawing) (log : List Claim)
    → messages (map (queue_place_of d) log) ≡ map (output_of d) (all_messages (entries_at log))
unfolding messages
messages_are d [] = refl
messages_are d (c ∷ log) =
    messages_more d c.entry c.clock (map (queue_place_of d) log) (entries_at log) (messages_are d log)

-- a mapped joined list
pub map-join : (f : ℕ → ℕ) (xs ys : List ℕ) → map f (xs ++ ys) ≡ map f xs ++ map f ys
map-join f [] ys = refl
map-join f (x ∷ xs) ys = ap (λ l. f x ∷ l) (map-join f xs ys)

-- the settled queue with a number has the places that are looked up
pub looked_up : (xs : List (ℕ × Settled)) (q : ℕ)
    → occurs (map (λ (x : ℕ × Settled). x.0) xs) q ≡ true
    → (s : Settled) × Occurs xs (q, s) × (places_at xs q ≡ s.places.items)
unfolding occurs
looked_up [] q h = clash h refl
looked_up (x ∷ xs) q h =
    by_test (eqb x.0 q)
    (λ same.
    let number : x.0 ≡ q = eqb-true x.0 q same in (
      x.1,
      (0, ap (λ (k : ℕ). Some (k, x.1)) number),
      ap
          (λ (b : Bool). cond b x.1.places.items (places_at xs q)) same,
    ))
    (λ other.
    let later : occurs (map (λ (x : ℕ × Settled). x.0) xs) q ≡ true =
    elim (or_cases (eqb x.0 q) (occurs (map (λ (x : ℕ × Settled). x.0) xs) q) h) [
      | inl same ↦ clash same other
      | inr rest ↦ rest
    ] in
    let r = looked_up xs q later in (
      r.0,
      (suc r.1.0, r.1.1),
      ap (λ (b : Bool). cond b x.1.places.items (places_at xs q)) other
          ∙ r.2,
    ))

-- where no settled queue has the number, there are no places
pub none_up : (xs : List (ℕ × Settled)) (q : ℕ)
    → occurs (map (λ (x : ℕ × Settled). x.0) xs) q ≡ false → places_at xs q ≡ []
unfolding occurs
none_up [] q h = refl
none_up (x ∷ xs) q h =
    let both = or_parts (eqb x.0 q) (occurs (map (λ (x : ℕ × Settled). x.0) xs) q) h in
    ap (λ (b : Bool). cond b x.1.places.items (places_at xs q)) both.0 ∙ none_up xs q both.1

module _ (queues : Queues) (d : Drawing) (accepted : IsAccepted d) where
  -- a queue from which an instance takes has an input on its line
  pub taken_has_input : (i q : ℕ) → occurs (taken_queues (role queues d i)) q ≡ true
      → (r : ℕ) × (is_input d.events r ≡ true) × (line d.events r ≡ i)
      × (queue (wired queues d) r ≡ q)
  unfolding taken_queues takes_from receiver_of input_of
  taken_has_input i q h =
      let p = (passes (λ k. takes_from queues d k i) (queues_in queues d) q h).1 in
      let found = any_parts (λ k. nat_eq (receiver_of d k) i) (messages_in queues d q) p in
      let m : ℕ = found.0 in
      let of = in_messages queues d q m found.1 in
      let o = accepted.has_messages.output m of.0 in
      let below = input_in d accepted m of.0 in
      let own : message d.events (input_of d m) ≡ m =
      accepted.has_messages.shared (output_of d m) (output_in d accepted m of.0)
      ∙ accepted.has_messages.own m of.0 in
      let input = partner_of_output d.events accepted.matched (output_of d m) o in (
        input_of d m,
        input,
        eqb-true _ _ found.2,
        event_queue queues d accepted (input_of d m) below
            (input_not_local d.events (input_of d m) input) ∙ ap (queue_of queues d) own ∙ of.1,
      )

  -- the output of an input's message is its partner
  pub output_of_input : (r : ℕ) → is_input d.events r ≡ true
      → output_of d (message d.events r) ≡ partner d.events r
  output_of_input r i =
      let below = (input_parts d.events r i).0 in
      ap (output_of d) (sym (accepted.has_messages.shared r below))
      ∙ accepted.has_messages.back (partner d.events r)
      (partner_of_input d.events accepted.matched r i)

  -- what a log took from a queue, by messages
  pub taken_is : (q : ℕ) (log : List ℕ) → ((e : ℕ) → occurs log e ≡ true → e < length d.events)
      → taken_from (wired queues d) q log
      ≡ map (output_of d) (map (message d.events) (inputs_at queues d q log))
  unfolding taken_from
  taken_is q [] known = refl
  taken_is q (e ∷ log) known =
      let rest = taken_is q log (λ x there. known x (occurs-tail e log x there)) in
      by_test (is_input d.events e)
      (λ input.
      let same =
      event_queue queues d accepted e (known e (occurs-head e log))
      (input_not_local d.events e input) in
      by_test (nat_eq (queue_of queues d (message d.events e)) q)
      (λ here.
      let own : nat_eq (queue (wired queues d) e) q ≡ true =
      ap (λ (z : ℕ). nat_eq z q) same ∙ here in
      rw (input, own, here) (λ j. sym (output_of_input e input) j ∷ rest j))
      (λ other.
      let own : nat_eq (queue (wired queues d) e) q ≡ false =
      ap (λ (z : ℕ). nat_eq z q) same ∙ other in
      rw (input, own, other) rest))
      (λ output. rw output rest)
