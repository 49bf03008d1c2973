-- Charts whose events are those of one chart in several rounds.
use Rattle.std.proofs.Common.{◌≡◌, ℕ, ◌+◌, ◌*◌, ◌<◌, ◌≤◌, ◌⊎◌, true, length, inl, inr, refl, sym, ap, subst, ◌∙◌, arith}
use Rattle.msc_chart.specs.declared.queue.Queues.{Queues}
use Rattle.msc_chart.specs.declared.queue.Queues.TheVariants.{Uniform, Mixed}
use Rattle.msc_chart.specs.declared.queue.LinkKind.{LinkKind}
use Rattle.msc_chart.specs.declared.queue.LinkKind.TheVariants.{Pair, Mailbox, Single}
use Rattle.msc_chart.specs.Architectures.{link_kind}
use Rattle.msc_chart.specs.Charts.{line, partner, message, is_output, is_input, is_controlled, before}
use Rattle.msc_chart.specs.Drawings.{Drawing, IsAccepted}
use Rattle.msc_chart.specs.Orders.{WiredChart, IsWired, number_alone, number_among, queue, queue_number, sender_at, receiver_at}
use Rattle.msc_chart.proofs.Drawn.{before_parts, output_parts, output_not_local}
use Rattle.msc_chart.proofs.EventCounts.{parts_same}
use Rattle.msc_chart.proofs.QueueLemmas.{ends_in, pair_bounded}

-- the queue of the message of event e, in round r, where a message of its own has a queue of its own
unfoldable pub queue_in : Queues → Drawing → ℕ → ℕ → ℕ
queue_in queues d e r = queue_number queues (length d.instances) (sender_at d.events e) (receiver_at d.events e) (r * length d.messages + message d.events e)

-- x is drawn before y: on one line, in an earlier round, or in the same one and so in the chart
abbrev pub IsAbove : Drawing → ℕ → ℕ → ℕ → ℕ → Type 0
IsAbove d e r f q = (line d.events e ≡ line d.events f) × ((r < q) ⊎ ((r ≡ q) × (before d.events e f ≡ true)))

-- The events of a chart are those of d in n rounds: event k is event_at k in round_at k, and number_at
-- leads back.
pub record HasRounds (queues : Queues) (d : Drawing) (n : ℕ) (chart : WiredChart) : Type 0 where
  pub event_at : ℕ → ℕ
  pub round_at : ℕ → ℕ
  pub number_at : ℕ → ℕ → ℕ
  pub accepted : IsAccepted d
  pub is_wired : IsWired chart
  pub event_in : (k : ℕ) → k < length chart.events → event_at k < length d.events
  pub round_in : (k : ℕ) → k < length chart.events → round_at k < n
  pub back : (k : ℕ) → k < length chart.events → number_at (event_at k) (round_at k) ≡ k
  pub number_in : (e r : ℕ) → e < length d.events → r < n → number_at e r < length chart.events
  pub event_is : (e r : ℕ) → e < length d.events → r < n → event_at (number_at e r) ≡ e
  pub round_is : (e r : ℕ) → e < length d.events → r < n → round_at (number_at e r) ≡ r
  pub line_is : (k : ℕ) → k < length chart.events → line chart.events k ≡ line d.events (event_at k)
  pub output : (k : ℕ) → k < length chart.events → is_output chart.events k ≡ is_output d.events (event_at k)
  pub input : (k : ℕ) → k < length chart.events → is_input chart.events k ≡ is_input d.events (event_at k)
  pub controlled : (k : ℕ) → k < length chart.events → is_controlled chart.events k ≡ is_controlled d.events (event_at k)
  pub other : (k : ℕ) → k < length chart.events → partner chart.events k ≡ number_at (partner d.events (event_at k)) (round_at k)
  pub above : (x y : ℕ) → before chart.events x y ≡ true → IsAbove d (event_at x) (round_at x) (event_at y) (round_at y)
  pub drawn_so : (x y : ℕ) → x < length chart.events → y < length chart.events → IsAbove d (event_at x) (round_at x) (event_at y) (round_at y) → before chart.events x y ≡ true
  pub queue_is : (k : ℕ) → is_output chart.events k ≡ true → queue chart k ≡ queue_in queues d (event_at k) (round_at k)

-- two messages share a queue in rounds i and j: so they do in whatever rounds they are, or the rounds
-- are one, and they do in each
abbrev pub ShareInRounds : (ℕ → ℕ) → (ℕ → ℕ) → ℕ → ℕ → Type 0
ShareInRounds one other i j =
    ((k l : ℕ) → (one k ≡ other l) × (one k ≡ one l)) ⊎ ((i ≡ j) × ((k : ℕ) → one k ≡ other k))

-- messages with one number are of one round, and have one number in each round
numbers_in_rounds : (length e f i j : ℕ) → e < length → f < length → i * length + e ≡ j * length + f
    → (i ≡ j) × ((k : ℕ) → k * length + e ≡ k * length + f)
numbers_in_rounds length e f i j e_in f_in same =
    let parts = parts_same i j e f length e_in f_in same in
    (parts.0, λ k. ap (λ (x : ℕ). k * length + x) parts.1)

-- two events of an accepted chart that have messages, in rounds i and j
module _ (d : Drawing) (accepted : IsAccepted d) (e f i j : ℕ) (e_in : e < length d.events) (f_in : f < length d.events) (e_known : message d.events e < length d.messages) (f_known : message d.events f < length d.messages) where
  -- the number of an event's queue in a round, if all links are of one kind
  abbrev alone_in : LinkKind → ℕ → ℕ → ℕ
  alone_in kind x r = number_alone kind (length d.instances) (sender_at d.events x) (receiver_at d.events x) (r * length d.messages + message d.events x)

  alone_rounds : (kind : LinkKind) → alone_in kind e i ≡ alone_in kind f j → ShareInRounds (alone_in kind e) (alone_in kind f) i j
  alone_rounds Pair same = inl (λ k l. (same, refl))
  alone_rounds Mailbox same = inl (λ k l. (same, refl))
  alone_rounds Single same = inr (numbers_in_rounds (length d.messages) (message d.events e) (message d.events f) i j e_known f_known same)

  -- and if links may differ
  abbrev among_in : LinkKind → ℕ → ℕ → ℕ
  among_in kind x r = number_among kind (length d.instances) (sender_at d.events x) (receiver_at d.events x) (r * length d.messages + message d.events x)

  among_rounds : (kind other : LinkKind) → among_in kind e i ≡ among_in other f j → ShareInRounds (among_in kind e) (among_in other f) i j
  among_rounds Pair Pair same = inl (λ k l. (same, refl))
  among_rounds Pair Mailbox same = let below = pair_bounded d e accepted e_in in absurd (omega (arith, below, same))
  among_rounds Pair Single same = let below = pair_bounded d e accepted e_in in absurd (omega (arith, below, same))
  among_rounds Mailbox Pair same = let below = pair_bounded d f accepted f_in in absurd (omega (arith, below, same))
  among_rounds Mailbox Mailbox same = inl (λ k l. (same, refl))
  among_rounds Mailbox Single same = let below = (ends_in d accepted e e_in).1 in absurd (omega (arith, below, same))
  among_rounds Single Pair same = let below = pair_bounded d f accepted f_in in absurd (omega (arith, below, same))
  among_rounds Single Mailbox same = let below = (ends_in d accepted f f_in).1 in absurd (omega (arith, below, same))
  among_rounds Single Single same =
      let parts = numbers_in_rounds (length d.messages) (message d.events e) (message d.events f) i j e_known f_known (omega (arith, same)) in
      inr (parts.0, λ k. ap (λ (x : ℕ). length d.instances * length d.instances + length d.instances + x) (parts.1 k))

  -- where two messages share a queue in two rounds, they do so in others
  pub queue_in_rounds : (queues : Queues) → queue_in queues d e i ≡ queue_in queues d f j → ShareInRounds (queue_in queues d e) (queue_in queues d f) i j
  unfolding queue_in queue_number
  queue_in_rounds (Uniform kind) same = alone_rounds kind same
  queue_in_rounds (Mixed links) same =
      among_rounds (link_kind links (sender_at d.events e) (receiver_at d.events e)) (link_kind links (sender_at d.events f) (receiver_at d.events f)) same

-- where two messages share a queue, they do so as many rounds later
pub queue_shifted : (queues : Queues) (d : Drawing) → IsAccepted d → (e f r q s t : ℕ) → e < length d.events → f < length d.events
    → message d.events e < length d.messages → message d.events f < length d.messages
    → queue_in queues d e (s + r) ≡ queue_in queues d f (s + q) → queue_in queues d e (t + r) ≡ queue_in queues d f (t + q)
queue_shifted queues d accepted e f r q s t e_in f_in e_known f_known same =
    elim (queue_in_rounds d accepted e f (s + r) (s + q) e_in f_in e_known f_known queues same) [
      | inl any ↦ (any (t + r) (t + q)).0
      | inr one ↦
          let rounds : t + r ≡ t + q = (let h = one.0 in omega arith) in
          one.1 (t + r) ∙ ap (queue_in queues d f) rounds
    ]

module _ {queues : Queues} {d : Drawing} {n : ℕ} {chart : WiredChart} (a : HasRounds queues d n chart) where
  -- both are events, the second in no earlier round
  abbrev pub GoesOn : ℕ → ℕ → Type 0
  GoesOn x y = (x < length chart.events) × (y < length chart.events) × (a.round_at x ≤ a.round_at y)

  -- what is drawn before another goes on so
  pub drawn_on : (x y : ℕ) → before chart.events x y ≡ true → GoesOn x y
  drawn_on x y h =
      let p = before_parts chart.events x y h in
      (p.0, p.1, elim (a.above x y h).1 [ inl lt ↦ omega arith | inr same ↦ let r = same.0 in omega arith ])

  -- a partner is an event of the same round, and its event is the partner
  pub partner_is : (k : ℕ) → k < length chart.events
      → (partner chart.events k < length chart.events) × (a.round_at (partner chart.events k) ≡ a.round_at k) × (a.event_at (partner chart.events k) ≡ partner d.events (a.event_at k))
  partner_is k within =
      let is = a.other k within in
      let p = a.accepted.matched.in_range (a.event_at k) (a.event_in k within) in
      let r = a.round_in k within in (
        subst (λ (x : ℕ). x < length chart.events) (sym is) (a.number_in (partner d.events (a.event_at k)) (a.round_at k) p r),
        ap a.round_at is ∙ a.round_is (partner d.events (a.event_at k)) (a.round_at k) p r,
        ap a.event_at is ∙ a.event_is (partner d.events (a.event_at k)) (a.round_at k) p r,
      )

  -- the same of a number that is a partner
  pub partner_on : (x y : ℕ) → x < length chart.events → partner chart.events x ≡ y → (y < length chart.events) × (a.round_at y ≡ a.round_at x)
  partner_on x y within is =
      let p = partner_is x within in
      (subst (λ (z : ℕ). z < length chart.events) is p.0, ap a.round_at (sym is) ∙ p.1)

  -- the partners of two events go on as these do
  pub partners_on : (x y s t : ℕ) → GoesOn x y → partner chart.events x ≡ s → partner chart.events y ≡ t → GoesOn s t
  partners_on x y s t on p q =
      let h = partner_on x s on.0 p in
      let k = partner_on y t on.1 q in
      let up = on.2 in
      let i = h.1 in
      let j = k.1 in
      (h.0, k.0, omega (arith, up, i, j))

  -- an output and its input go on
  pub sent_on : (x y : ℕ) → is_output chart.events x ≡ true → partner chart.events x ≡ y → GoesOn x y
  sent_on x y o is =
      let within = (output_parts chart.events x o).0 in
      let p = partner_on x y within is in
      let r = p.1 in
      (within, p.0, omega (arith, r))

  -- and so does one after the other
  pub joined_on : (x y z : ℕ) → GoesOn x y → GoesOn y z → GoesOn x z
  joined_on x y z h k =
      let p = h.2 in
      let q = k.2 in
      (h.0, k.1, omega (arith, p, q))

  -- an output has a message of the chart
  pub known : (k : ℕ) → is_output chart.events k ≡ true → message d.events (a.event_at k) < length d.messages
  known k o =
      let within = (output_parts chart.events k o).0 in
      let out : is_output d.events (a.event_at k) ≡ true = sym (a.output k within) ∙ o in
      a.accepted.has_messages.known (a.event_at k) (a.event_in k within) (output_not_local d.events (a.event_at k) out)
