-- The queues of an accepted chart.
use Rattle.std.proofs.Common.{◌≡◌, ◌↔◌, ℕ, zero, suc, ◌+◌, ◌*◌, ◌<◌, ◌≤◌, ◌%◌, Bool, true, false, cond, ◌||◌, List, [], ◌∷◌, length, filter, Some, inl, inr, refl, sym, ap, subst, ◌∙◌, arith}
use Rattle.std.specs.Prelude.{nat_eq}
use Rattle.std.specs.List.{list_any, range_with_len}
use Rattle.std.proofs.Math.Nat.{mod-eq_of_lt, mul-add-mod_self_right, mul-le-mul_right}
use Rattle.std.proofs.lemmas.Bool.{eq-eqb}
use Rattle.std.proofs.lemmas.Nat.{mul-add-lt, same_from_place}
use Rattle.std.proofs.lemmas.List.FromFn.{length-range_with_len, get_or-range_with_len}
use Rattle.std.proofs.lemmas.List.Sums.{length-filter, count_by-le-length}
use Rattle.std.proofs.lemmas.Option.{slice_get-get_or}
use Rattle.msc_chart.specs.declared.TheConstants.{INSTANCE_LIMIT, QUEUE_LIMIT}
use Rattle.msc_chart.specs.declared.queue.Queues.{Queues}
use Rattle.msc_chart.specs.declared.queue.Queues.TheVariants.{Uniform, Mixed}
use Rattle.msc_chart.specs.declared.queue.LinkKind.{LinkKind}
use Rattle.msc_chart.specs.declared.queue.LinkKind.TheVariants.{Pair, Mailbox, Single}
use Rattle.msc_chart.specs.declared.queue.Links.{Links}
use Rattle.msc_chart.specs.Architectures.{kind_of, link_kind, AreAllOfKind}
use Rattle.msc_chart.specs.Charts.{line, partner, message, is_output, is_input, is_local, IsMatched}
use Rattle.msc_chart.specs.Drawings.{Drawing, input_of, output_of, sender_of, receiver_of, IsAccepted}
use Rattle.msc_chart.specs.Orders.{bound_alone, number_alone, number_among, queue_bound, queue_number, queue_of, sender_at, receiver_at, wired, queue, IsWired, Enforced}
use Rattle.msc_chart.specs.Orders.Enforced.{drawn, sent, joined, queued}
use Rattle.msc_chart.specs.Laws.{kind_at, messages_in, sends_to, senders_in, HaveInCommon, IsBounded, IsCoarser, Share}
use Rattle.msc_chart.specs.Lists.{StandsAt}
use Rattle.msc_chart.proofs.ListLemmas.{by_test, clash}
use Rattle.msc_chart.proofs.Places.{place-any}
use Rattle.msc_chart.proofs.Drawn.{input_parts, output_parts, output_not_local, output_or_input, input_not_local, not_both, partner_of_output, partner_of_input}
use Rattle.msc_chart.proofs.Readers.{sender_in, receiver_in}

-- the number of a pair has one receiver
one_receiver : (n s r t u : ℕ) → r < n → u < n → s * n + r ≡ t * n + u → r ≡ u
one_receiver n s r t u r_in u_in same =
    sym (mul-add-mod_self_right s n r ∙ mod-eq_of_lt r_in)
    ∙ ap (λ (x : ℕ). x % n) same
    ∙ mul-add-mod_self_right t n u
    ∙ mod-eq_of_lt u_in

-- and one sender
one_sender : (n s r t u : ℕ) → r < n → u < n → s * n + r ≡ t * n + u → s ≡ t
one_sender n s r t u r_in u_in same = (same_from_place s r t u n r_in u_in same).0

-- two messages of a chart, with the queues of their links
module _ (d : Drawing) (accepted : IsAccepted d) (k m : ℕ) (k_in : k < length d.messages) (m_in : m < length d.messages) where
  -- the number of a pair is below the square of the number of instances
  pair_below : (l : ℕ) → l < length d.messages → sender_of d l * length d.instances + receiver_of d l < length d.instances * length d.instances
  pair_below l l_in = mul-add-lt (sender_of d l) (length d.instances) (receiver_of d l) (length d.instances) (sender_in d accepted l l_in) (receiver_in d accepted l l_in)

  -- if all links are of one kind, messages with one number have in common what it asks for
  from_alone : (kind : LinkKind) → number_alone kind (length d.instances) (sender_of d k) (receiver_of d k) k ≡ number_alone kind (length d.instances) (sender_of d m) (receiver_of d m) m → HaveInCommon kind d k m
  from_alone Pair same =
      let k_there = receiver_in d accepted k k_in in
      let m_there = receiver_in d accepted m m_in in (
        one_sender (length d.instances) _ _ _ _ k_there m_there same,
        one_receiver (length d.instances) _ _ _ _ k_there m_there same,
      )
  from_alone Mailbox same = same
  from_alone Single same = same

  -- and the other way round
  to_alone : (kind : LinkKind) → HaveInCommon kind d k m → number_alone kind (length d.instances) (sender_of d k) (receiver_of d k) k ≡ number_alone kind (length d.instances) (sender_of d m) (receiver_of d m) m
  to_alone Pair both = λ i. both.0 i * length d.instances + both.1 i
  to_alone Mailbox same = same
  to_alone Single same = same

  -- if links may differ, messages with one number are of links of one kind too
  from_among : (kind other : LinkKind) → number_among kind (length d.instances) (sender_of d k) (receiver_of d k) k ≡ number_among other (length d.instances) (sender_of d m) (receiver_of d m) m → (kind ≡ other) × HaveInCommon kind d k m
  from_among Pair Pair same = (refl, from_alone Pair same)
  from_among Pair Mailbox same = let below = pair_below k k_in in absurd (omega (arith, below, same))
  from_among Pair Single same = let below = pair_below k k_in in absurd (omega (arith, below, same))
  from_among Mailbox Pair same = let below = pair_below m m_in in absurd (omega (arith, below, same))
  from_among Mailbox Mailbox same = (refl, omega (arith, same))
  from_among Mailbox Single same = let below = receiver_in d accepted k k_in in absurd (omega (arith, below, same))
  from_among Single Pair same = let below = pair_below m m_in in absurd (omega (arith, below, same))
  from_among Single Mailbox same = let below = receiver_in d accepted m m_in in absurd (omega (arith, below, same))
  from_among Single Single same = (refl, omega (arith, same))

  -- and the other way round
  to_among : (kind : LinkKind) → HaveInCommon kind d k m → number_among kind (length d.instances) (sender_of d k) (receiver_of d k) k ≡ number_among kind (length d.instances) (sender_of d m) (receiver_of d m) m
  to_among Pair both = to_alone Pair both
  to_among Mailbox same = ap (λ (x : ℕ). length d.instances * length d.instances + x) same
  to_among Single same = ap (λ (x : ℕ). length d.instances * length d.instances + length d.instances + x) same

  -- messages share a queue if and only if their links are of one kind, and they have in common what it asks for
  pub links_decide : (queues : Queues) → Share queues d k m ↔ ((kind_at queues d k ≡ kind_at queues d m) × HaveInCommon (kind_at queues d k) d k m)
  unfolding queue_of queue_number kind_of
  links_decide (Uniform kind) = (λ same. (refl, from_alone kind same), λ both. to_alone kind both.1)
  links_decide (Mixed links) =
      let of_k : LinkKind = link_kind links (sender_of d k) (receiver_of d k) in
      let of_m : LinkKind = link_kind links (sender_of d m) (receiver_of d m) in (
        λ same. from_among of_k of_m same,
        λ both.
            to_among of_k both.1
            ∙ ap (λ (kind : LinkKind). number_among kind (length d.instances) (sender_of d m) (receiver_of d m) m) both.0,
      )

  -- so messages of one queue have one receiver
  common_receiver : (kind : LinkKind) → HaveInCommon kind d k m → receiver_of d k ≡ receiver_of d m
  common_receiver Pair both = both.1
  common_receiver Mailbox same = same
  common_receiver Single same = ap (receiver_of d) same

  shared : (queues : Queues) → Share queues d k m → receiver_of d k ≡ receiver_of d m
  shared queues same = common_receiver (kind_at queues d k) ((links_decide queues).0 same).1

  -- and if all links are pairs they have one sender too
  pub own_queues : Share (Uniform Pair) d k m → (sender_of d k ≡ sender_of d m) × (receiver_of d k ≡ receiver_of d m)
  unfolding kind_of
  own_queues same = ((links_decide (Uniform Pair)).0 same).1

  -- with one kind for all links, messages share queues as under the architecture that is this kind alone
  pub one_kind : (links : Links) (kind : LinkKind) → AreAllOfKind links kind → Share (Mixed links) d k m ↔ Share (Uniform kind) d k m
  unfolding kind_of
  one_kind links kind all =
      let few = accepted.few_instances in
      let at_k = let s = sender_in d accepted k k_in in let r = receiver_in d accepted k k_in in all (sender_of d k) (receiver_of d k) (omega (arith, s, few)) (omega (arith, r, few)) in
      let at_m = let s = sender_in d accepted m m_in in let r = receiver_in d accepted m m_in in all (sender_of d m) (receiver_of d m) (omega (arith, s, few)) (omega (arith, r, few)) in
      let mixed = links_decide (Mixed links) in
      let alone = links_decide (Uniform kind) in (
        λ same. alone.1 (refl, subst (λ (it : LinkKind). HaveInCommon it d k m) at_k (mixed.0 same).1),
        λ same. mixed.1 (at_k ∙ sym at_m, subst (λ (it : LinkKind). HaveInCommon it d k m) (sym at_k) (alone.0 same).1),
      )

-- a filter keeps what passes it
any_kept : (test p : ℕ → Bool) (xs : List ℕ) (j x : ℕ) → StandsAt xs j x → p x ≡ true → test x ≡ true → list_any test (filter p xs) ≡ true
any_kept test p [] j x h passes found = cc
any_kept test p (y ∷ ys) zero x h passes found =
    let same : y ≡ x = cc in
    ap (λ (b : Bool). list_any test (cond b (y ∷ filter p ys) (filter p ys))) (ap p same ∙ passes)
    ∙ ap (λ (b : Bool). b || list_any test (filter p ys)) (ap test same ∙ found)
any_kept test p (y ∷ ys) (suc j) x h passes found =
    let rest = any_kept test p ys j x h passes found in
    by_test (p y)
    (λ kept. ap (λ (b : Bool). list_any test (cond b (y ∷ filter p ys) (filter p ys))) kept
    ∙ by_test (test y)
    (λ t. ap (λ (b : Bool). b || list_any test (filter p ys)) t)
    (λ f. ap (λ (b : Bool). b || list_any test (filter p ys)) f ∙ rest))
    (λ gone. ap (λ (b : Bool). list_any test (cond b (y ∷ filter p ys) (filter p ys))) gone ∙ rest)

-- where a test finds something, its filter keeps something
some_kept : (p : ℕ → Bool) (xs : List ℕ) → list_any p xs ≡ true → 1 ≤ length (filter p xs)
some_kept p [] h = clash h refl
some_kept p (x ∷ xs) h =
    by_test (p x)
    (λ kept. let e = ap (λ (b : Bool). length (cond b (x ∷ filter p xs) (filter p xs))) kept in omega arith)
    (λ gone.
    let e = ap (λ (b : Bool). length (cond b (x ∷ filter p xs) (filter p xs))) gone in
    let rest = some_kept p xs (sym (ap (λ (b : Bool). b || list_any p xs) gone) ∙ h) in
    omega arith)

-- a number stands at its place of a range
in_range : (n i : ℕ) → i < n → StandsAt (range_with_len 0 n) i i
in_range n i below =
    let len = length-range_with_len 0 n in
    slice_get-get_or (range_with_len 0 n) i 0 (omega arith) ∙ ap Some (get_or-range_with_len 0 n i 0 below ∙ omega arith)

-- a filter of the numbers below n keeps at most n
few_kept : (p : ℕ → Bool) (n : ℕ) → length (filter p (range_with_len 0 n)) ≤ n
few_kept p n = omega (arith, length-filter p (range_with_len 0 n), count_by-le-length p (range_with_len 0 n), length-range_with_len 0 n)

-- both ends of the message of an event are on lines of the chart
pub ends_in : (d : Drawing) → IsAccepted d → (e : ℕ) → e < length d.events → (sender_at d.events e < length d.instances) × (receiver_at d.events e < length d.instances)
unfolding sender_at receiver_at
ends_in d accepted e below =
    let here = accepted.on_lines.on_line e below in
    let there = accepted.on_lines.on_line (partner d.events e) (accepted.matched.in_range e below) in
    by_test (is_output d.events e) (λ h. rw h (here, there)) (λ h. rw h (there, here))

-- so the number of a pair is below the square of the number of instances
pub pair_bounded : (d : Drawing) (e : ℕ) → IsAccepted d → e < length d.events
    → sender_at d.events e * length d.instances + receiver_at d.events e < length d.instances * length d.instances
pair_bounded d e accepted below =
    let both = ends_in d accepted e below in
    mul-add-lt (sender_at d.events e) (length d.instances) (receiver_at d.events e) (length d.instances) both.0 both.1

-- so a queue number is below the bound
alone_bounded : (kind : LinkKind) (d : Drawing) (e : ℕ) → IsAccepted d → e < length d.events → is_local d.events e ≡ false
    → number_alone kind (length d.instances) (sender_at d.events e) (receiver_at d.events e) (message d.events e) < bound_alone kind d
alone_bounded Pair d e accepted below away = pair_bounded d e accepted below
alone_bounded Mailbox d e accepted below away = (ends_in d accepted e below).1
alone_bounded Single d e accepted below away = accepted.has_messages.known e below away

among_bounded : (kind : LinkKind) (d : Drawing) (e : ℕ) → IsAccepted d → e < length d.events → is_local d.events e ≡ false
    → number_among kind (length d.instances) (sender_at d.events e) (receiver_at d.events e) (message d.events e) < length d.instances * length d.instances + length d.instances + length d.messages
among_bounded Pair d e accepted below away = let p = pair_bounded d e accepted below in omega (arith, p)
among_bounded Mailbox d e accepted below away = let p = (ends_in d accepted e below).1 in omega (arith, p)
among_bounded Single d e accepted below away = let p = accepted.has_messages.known e below away in omega (arith, p)

pub number_bounded : (queues : Queues) (d : Drawing) (e : ℕ) → IsAccepted d → e < length d.events → is_local d.events e ≡ false
    → queue (wired queues d) e < queue_bound queues d
unfolding queue queue_number queue_bound
number_bounded (Uniform kind) d e accepted below away = alone_bounded kind d e accepted below away
number_bounded (Mixed links) d e accepted below away = among_bounded (link_kind links (sender_at d.events e) (receiver_at d.events e)) d e accepted below away

-- the square of the number of instances is small
square_small : (d : Drawing) → IsAccepted d → length d.instances * length d.instances ≤ INSTANCE_LIMIT * INSTANCE_LIMIT
square_small d accepted =
    let few = accepted.few_instances in
    let p : length d.instances * length d.instances ≤ INSTANCE_LIMIT * length d.instances = mul-le-mul_right (length d.instances) few in
    omega (arith, p, few)

-- so the bound is small
alone_small : (kind : LinkKind) (d : Drawing) → IsAccepted d → bound_alone kind d ≤ QUEUE_LIMIT
alone_small Pair d accepted = let p = square_small d accepted in omega (arith, p)
alone_small Mailbox d accepted = let few = accepted.few_instances in omega (arith, few)
alone_small Single d accepted = let few = accepted.few_messages in omega (arith, few)

pub bound_small : (queues : Queues) (d : Drawing) → IsAccepted d → queue_bound queues d ≤ QUEUE_LIMIT
unfolding queue_bound
bound_small (Uniform kind) d accepted = alone_small kind d accepted
bound_small (Mixed links) d accepted =
    let p = square_small d accepted in
    let few = accepted.few_instances in
    let some = accepted.few_messages in
    omega (arith, p, few, some)

-- a queue with a message has from 1 to 32 senders, one receiver, and at most 1,024 messages
pub bounded : (queues : Queues) (d : Drawing) (m : ℕ) → IsAccepted d → m < length d.messages → IsBounded queues d (queue_of queues d m)
unfolding messages_in sends_to senders_in
bounded queues d m accepted known =
    let q : ℕ = queue_of queues d m in
    let i : ℕ = sender_of d m in
    let own : sends_to queues d q i ≡ true = any_kept (λ k. nat_eq (sender_of d k) i) (λ k. nat_eq (queue_of queues d k) q) (range_with_len 0 (length d.messages)) m m (in_range _ m known) (eq-eqb q q refl) (eq-eqb i i refl) in
    record {
      some_sender = some_kept (sends_to queues d q) (range_with_len 0 (length d.instances)) (place-any (sends_to queues d q) (range_with_len 0 (length d.instances)) i i (in_range _ i (sender_in d accepted m known)) own);
      few_senders = let few = few_kept (sends_to queues d q) (length d.instances) in let most = accepted.few_instances in omega arith;
      few_messages = let few = few_kept (λ k. nat_eq (queue_of queues d k) q) (length d.messages) in let most = accepted.few_messages in omega arith;
      one_receiver = λ k l k_in l_in of_k of_l. shared d accepted k l k_in l_in queues (of_k ∙ sym of_l);
    }

module _ (queues : Queues) (d : Drawing) where
  -- the sender and the receiver of an output's message
  of_output : (s : ℕ) → is_output d.events s ≡ true → (sender_at d.events s ≡ line d.events s) × (receiver_at d.events s ≡ line d.events (partner d.events s))
  unfolding sender_at receiver_at
  of_output s o = (
    ap (λ (b : Bool). cond b (line d.events s) (line d.events (partner d.events s))) o,
    ap (λ (b : Bool). cond b (line d.events (partner d.events s)) (line d.events s)) o,
  )

  -- an input is no output
  not_output : (r : ℕ) → is_input d.events r ≡ true → is_output d.events r ≡ false
  not_output r i = by_test (is_output d.events r) (λ o. absurd (not_both d.events r o i)) (λ n. n)

  -- and of an input's
  of_input : (r : ℕ) → is_input d.events r ≡ true → (sender_at d.events r ≡ line d.events (partner d.events r)) × (receiver_at d.events r ≡ line d.events r)
  unfolding sender_at receiver_at
  of_input r i = (
    ap (λ (b : Bool). cond b (line d.events r) (line d.events (partner d.events r))) (not_output r i),
    ap (λ (b : Bool). cond b (line d.events (partner d.events r)) (line d.events r)) (not_output r i),
  )

  -- equal senders, receivers and messages have one queue number
  same_number : {s s' r r' m m' : ℕ} → s ≡ s' → r ≡ r' → m ≡ m' → queue_number queues (length d.instances) s r m ≡ queue_number queues (length d.instances) s' r' m'
  same_number p q o = λ k. queue_number queues (length d.instances) (p k) (q k) (o k)

  -- where both ends of a message have its number, they have one queue
  pub wired_from : IsMatched d.events → ((e : ℕ) → e < length d.events → message d.events (partner d.events e) ≡ message d.events e) → IsWired (wired queues d)
  unfolding queue
  wired_from matched shared = record {
    matched = matched;
    one_queue = λ e within.
        let back = matched.to_and_fro e within in
        let one = shared e within in
        by_test (is_local d.events e)
        (λ local. ap (queue (wired queues d)) (matched.own e local))
        (λ away. elim (output_or_input d.events e within away) [
          | inl o ↦
              let here = of_output e o in
              let there = of_input (partner d.events e) (partner_of_output d.events matched e o) in
              same_number (there.0 ∙ ap (line d.events) back ∙ sym here.0) (there.1 ∙ sym here.1) one
          | inr i ↦
              let here = of_input e i in
              let there = of_output (partner d.events e) (partner_of_input d.events matched e i) in
              same_number (there.0 ∙ sym here.0) (there.1 ∙ ap (line d.events) back ∙ sym here.1) one
        ]);
  }

module _ (queues : Queues) (d : Drawing) (accepted : IsAccepted d) where
  -- both ends of a message of an accepted chart have one queue
  pub ends_share : IsWired (wired queues d)
  ends_share = wired_from queues d accepted.matched accepted.has_messages.shared

  -- the queue of an output is that of its message
  output_queue : (s : ℕ) → is_output d.events s ≡ true → queue (wired queues d) s ≡ queue_of queues d (message d.events s)
  unfolding queue queue_of sender_of receiver_of input_of
  output_queue s o =
      let here = of_output queues d s o in
      let back = accepted.has_messages.back s o in
      same_number queues d (here.0 ∙ ap (line d.events) (sym back)) (here.1 ∙ ap (λ (e : ℕ). line d.events (partner d.events e)) (sym back)) refl

  -- and so is that of an input
  pub event_queue : (e : ℕ) → e < length d.events → is_local d.events e ≡ false → queue (wired queues d) e ≡ queue_of queues d (message d.events e)
  event_queue e within away =
      elim (output_or_input d.events e within away) [
        | inl o ↦ output_queue e o
        | inr i ↦
            sym (ends_share.one_queue e within)
            ∙ output_queue (partner d.events e) (partner_of_input d.events accepted.matched e i)
            ∙ ap (queue_of queues d) (accepted.has_messages.shared e within)
      ]

  -- an input is on the line of its message's receiver
  taken_at : (r : ℕ) → is_input d.events r ≡ true → receiver_of d (message d.events r) ≡ line d.events r
  unfolding receiver_of input_of
  taken_at r i =
      let within = (input_parts d.events r i).0 in
      let sent = partner_of_input d.events accepted.matched r i in
      let back = ap (output_of d) (sym (accepted.has_messages.shared r within)) ∙ accepted.has_messages.back (partner d.events r) sent in
      ap (λ (s : ℕ). line d.events (partner d.events s)) back ∙ ap (line d.events) (accepted.matched.to_and_fro r within)

  -- the inputs of a queue are on one line
  pub inputs_share : (r u : ℕ) → is_input d.events r ≡ true → is_input d.events u ≡ true → queue (wired queues d) r ≡ queue (wired queues d) u → line d.events r ≡ line d.events u
  inputs_share r u i j same =
      let r_in = (input_parts d.events r i).0 in
      let u_in = (input_parts d.events u j).0 in
      let r_away = input_not_local d.events r i in
      let u_away = input_not_local d.events u j in
      let one = sym (event_queue r r_in r_away) ∙ same ∙ event_queue u u_in u_away in
      let known = accepted.has_messages.known in
      sym (taken_at r i) ∙ shared d accepted _ _ (known r r_in r_away) (known u u_in u_away) queues one ∙ taken_at u j

-- an architecture in which more messages share queues enforces what another enforces
module _ (fine many : Queues) (d : Drawing) (accepted : IsAccepted d) (coarser : IsCoarser many fine d) where
  -- outputs that share a queue go on to share one
  share_on : (s t : ℕ) → is_output d.events s ≡ true → is_output d.events t ≡ true
      → queue (wired fine d) s ≡ queue (wired fine d) t → queue (wired many d) s ≡ queue (wired many d) t
  share_on s t o u same =
      let s_in = (output_parts d.events s o).0 in
      let t_in = (output_parts d.events t u).0 in
      let s_away = output_not_local d.events s o in
      let t_away = output_not_local d.events t u in
      let known = accepted.has_messages.known in
      let one = sym (event_queue fine d accepted s s_in s_away) ∙ same ∙ event_queue fine d accepted t t_in t_away in
      event_queue many d accepted s s_in s_away
      ∙ coarser _ _ (known s s_in s_away) (known t t_in t_away) one
      ∙ sym (event_queue many d accepted t t_in t_away)

  pub enforced_on : (e f : ℕ) → Enforced (wired fine d) e f → Enforced (wired many d) e f
  enforced_on e f (drawn above controlled) = drawn above controlled
  enforced_on e f (sent o p) = sent o p
  enforced_on e f (joined {y = m} h k) = joined {y = m} (enforced_on e m h) (enforced_on m f k)
  enforced_on e f (queued {s = s} {t = t} o u same h p q) =
      queued {s = s} {t = t} o u (share_on s t o u same) (enforced_on s t h) p q

-- each architecture is coarser than a queue for each message
pub coarsest : (queues : Queues) (d : Drawing) → IsAccepted d → IsCoarser queues (Uniform Single) d
unfolding kind_of
coarsest queues d accepted k m k_in m_in same =
    ap (queue_of queues d) ((links_decide d accepted k m k_in m_in (Uniform Single)).0 same).1
