-- Charts whose events are those of one chart in several rounds: where an event of some rounds of
-- one is moved to, which is itself in as many rounds of another, and what stays as it is there.
use Rattle.std.proofs.Common.{◌≡◌, ◌↔◌, ℕ, ◌+◌, ◌-◌, ◌<◌, ◌≤◌, true, length, inl, inr, sym, ap, subst, ◌∙◌, arith}
use Rattle.msc_chart.specs.declared.queue.Queues.{Queues}
use Rattle.msc_chart.specs.Charts.{line, partner, is_output, is_input, is_controlled, before}
use Rattle.msc_chart.specs.Drawings.{Drawing}
use Rattle.msc_chart.specs.Orders.{WiredChart, queue}
use Rattle.msc_chart.proofs.Drawn.{partner_of_input}
use Rattle.msc_chart.proofs.UnrolledCharts.{HasRounds, GoesOn, known, partner_is, partner_on, queue_in, queue_shifted}

module _ {queues : Queues} {d : Drawing} where
  -- k is an event in one of rounds s up to s + w
  pub record IsHere {n : ℕ} {chart : WiredChart} (a : HasRounds queues d n chart) (s w k : ℕ) : Type 0 where
    pub within : k < length chart.events
    pub from : s ≤ a.round_at k
    pub below : a.round_at k < s + w

  -- where it is moved to: to itself, as many rounds after t as it is after s
  abbrev pub to : {n m : ℕ} {chart other : WiredChart} → HasRounds queues d n chart → HasRounds queues d m other → (s t k : ℕ) → ℕ
  to a b s t k = b.number_at (a.event_at k) (t + (a.round_at k - s))

  -- from rounds s up to s + w of one chart to rounds t up to t + w of another
  module _ {n m : ℕ} {chart other : WiredChart} (a : HasRounds queues d n chart) (b : HasRounds queues d m other) (s t w : ℕ) (fits : t + w ≤ m) where
    -- where an event is moved to
    abbrev there : ℕ → ℕ
    there = to a b s t

    -- an event of these rounds
    abbrev Here : ℕ → Type 0
    Here = IsHere a s w

    -- it is moved to an event, in the round that fits
    pub to_in : (k : ℕ) → Here k → (there k < length other.events) × (b.event_at (there k) ≡ a.event_at k) × (b.round_at (there k) ≡ t + (a.round_at k - s))
    to_in k is =
        let e = a.event_in k is.within in
        let r : t + (a.round_at k - s) < m = (let p = is.from in let q = is.below in omega arith) in (
          b.number_in (a.event_at k) (t + (a.round_at k - s)) e r,
          b.event_is (a.event_at k) (t + (a.round_at k - s)) e r,
          b.round_is (a.event_at k) (t + (a.round_at k - s)) e r,
        )

    -- on its line
    pub to_line : (k : ℕ) → Here k → line other.events (there k) ≡ line chart.events k
    to_line k is =
        let in_ = to_in k is in
        b.line_is (there k) in_.0 ∙ ap (line d.events) in_.1 ∙ sym (a.line_is k is.within)

    -- an output to an output
    pub to_output : (k : ℕ) → Here k → is_output chart.events k ≡ true → is_output other.events (there k) ≡ true
    to_output k is o =
        let in_ = to_in k is in
        b.output (there k) in_.0 ∙ ap (is_output d.events) in_.1 ∙ sym (a.output k is.within) ∙ o

    -- an input to an input
    pub to_input : (k : ℕ) → Here k → is_input chart.events k ≡ true → is_input other.events (there k) ≡ true
    to_input k is i =
        let in_ = to_in k is in
        b.input (there k) in_.0 ∙ ap (is_input d.events) in_.1 ∙ sym (a.input k is.within) ∙ i

    -- a controlled event to a controlled event
    pub to_controlled : (k : ℕ) → Here k → is_controlled chart.events k ≡ true → is_controlled other.events (there k) ≡ true
    to_controlled k is c =
        let in_ = to_in k is in
        b.controlled (there k) in_.0 ∙ ap (is_controlled d.events) in_.1 ∙ sym (a.controlled k is.within) ∙ c

    -- a partner to the partner
    pub to_partner : (k : ℕ) → Here k → partner other.events (there k) ≡ there (partner chart.events k)
    to_partner k is =
        let in_ = to_in k is in
        let p = partner_is a k is.within in
        b.other (there k) in_.0
        ∙ ap (λ (e : ℕ). b.number_at (partner d.events e) (b.round_at (there k))) in_.1
        ∙ ap (b.number_at (partner d.events (a.event_at k))) in_.2
        ∙ ap (λ (e : ℕ). b.number_at e (t + (a.round_at k - s))) (sym p.2)
        ∙ ap (λ (r : ℕ). b.number_at (a.event_at (partner chart.events k)) (t + (r - s))) (sym p.1)

    -- which is here too
    pub partner_here : (k : ℕ) → Here k → Here (partner chart.events k)
    partner_here k is =
        let p = partner_is a k is.within in
        let round = p.1 in
        let from = is.from in
        let below = is.below in
        record { within = p.0; from = omega (arith, round, from); below = omega (arith, round, below) }

    -- what is drawn before another is so where both are moved
    pub to_drawn : (x y : ℕ) → Here x → Here y → before chart.events x y ≡ true → before other.events (there x) (there y) ≡ true
    to_drawn x y p q h =
        let u = to_in x p in
        let v = to_in y q in
        let up = a.above x y h in
        let from = p.from in
        let first = u.2 in
        let second = v.2 in
        b.drawn_so (there x) (there y) u.0 v.0 (
          ap (line d.events) u.1 ∙ up.0 ∙ sym (ap (line d.events) v.1),
          elim up.1 [
            | inl lt ↦ inl (omega arith)
            | inr same ↦
                let r = same.0 in
                inr (omega arith, ap (λ (e : ℕ). before d.events e (b.event_at (there y))) u.1 ∙ ap (before d.events (a.event_at x)) v.1 ∙ same.1)
          ],
        )

    -- outputs of one queue are moved to outputs of one queue
    pub to_queue : (x y : ℕ) → Here x → Here y → is_output chart.events x ≡ true → is_output chart.events y ≡ true
        → queue chart x ≡ queue chart y → queue other (there x) ≡ queue other (there y)
    to_queue x y p q ox oy same =
        let u = to_in x p in
        let v = to_in y q in
        let pf = p.from in
        let qf = q.from in
        let here : queue_in queues d (a.event_at x) (s + (a.round_at x - s)) ≡ queue_in queues d (a.event_at y) (s + (a.round_at y - s)) =
        (let rx : s + (a.round_at x - s) ≡ a.round_at x = omega arith in
        let ry : s + (a.round_at y - s) ≡ a.round_at y = omega arith in
        ap (queue_in queues d (a.event_at x)) rx ∙ sym (a.queue_is x ox) ∙ same ∙ a.queue_is y oy ∙ sym (ap (queue_in queues d (a.event_at y)) ry)) in
        let shifted = queue_shifted queues d a.accepted (a.event_at x) (a.event_at y) (a.round_at x - s) (a.round_at y - s) s t (a.event_in x p.within) (a.event_in y q.within) (known a x ox) (known a y oy) here in
        b.queue_is (there x) (to_output x p ox)
        ∙ ap (λ (e : ℕ). queue_in queues d e (b.round_at (there x))) u.1
        ∙ ap (queue_in queues d (a.event_at x)) u.2
        ∙ shifted
        ∙ sym (ap (queue_in queues d (a.event_at y)) v.2)
        ∙ sym (ap (λ (e : ℕ). queue_in queues d e (b.round_at (there y))) v.1)
        ∙ sym (b.queue_is (there y) (to_output y q oy))

    -- the queue of what an input is moved to is that of what its output is moved to
    output_there : (k : ℕ) → Here k → queue other (there k) ≡ queue other (there (partner chart.events k))
    output_there k is = sym (b.is_wired.one_queue (there k) (to_in k is).0) ∙ ap (queue other) (to_partner k is)

    -- so are inputs of one queue
    pub to_queue_of_inputs : (x y : ℕ) → Here x → Here y → is_input chart.events x ≡ true → is_input chart.events y ≡ true
        → queue chart x ≡ queue chart y → queue other (there x) ≡ queue other (there y)
    to_queue_of_inputs x y p q ix iy same =
        output_there x p
        ∙ to_queue (partner chart.events x) (partner chart.events y) (partner_here x p) (partner_here y q)
        (partner_of_input chart.events a.is_wired.matched x ix) (partner_of_input chart.events a.is_wired.matched y iy)
        (a.is_wired.one_queue x p.within ∙ same ∙ sym (a.is_wired.one_queue y q.within))
        ∙ sym (output_there y q)

    -- both ends of what goes on between these rounds are in them
    pub both_here : (x y : ℕ) → GoesOn a x y → s ≤ a.round_at x → a.round_at y < s + w → Here x × Here y
    both_here x y on from below =
        let up = on.2 in
        (record { within = on.0; from = from; below = omega arith }, record { within = on.1; from = omega arith; below = below })

    -- what is between both parts of a joined pair is in these rounds too
    pub between : (x z y : ℕ) → GoesOn a x z → GoesOn a z y → s ≤ a.round_at x → a.round_at y < s + w
        → (s ≤ a.round_at z) × (a.round_at z < s + w)
    between x z y h k from below =
        let p = h.2 in
        let q = k.2 in
        (omega arith, omega arith)

    -- the rounds of partners that are in these rounds
    pub partners_here : (x y u v : ℕ) → GoesOn a x y → partner chart.events x ≡ u → partner chart.events y ≡ v → s ≤ a.round_at u → a.round_at v < s + w
        → (s ≤ a.round_at x) × (a.round_at y < s + w)
    partners_here x y u v on p q from below =
        let h = (partner_on a x u on.0 p).1 in
        let k = (partner_on a y v on.1 q).1 in
        (omega (arith, h, from), omega (arith, k, below))

    -- what an event is moved to is one of those rounds
    pub is_there : (k : ℕ) → Here k → IsHere b t w (there k)
    is_there k is =
        let in_ = to_in k is in
        let r = in_.2 in
        let from = is.from in
        let below = is.below in
        record { within = in_.0; from = omega arith; below = omega arith }

    -- there and back leads to the event itself
    pub to_and_fro : (k : ℕ) → Here k → to b a t s (there k) ≡ k
    to_and_fro k is =
        let in_ = to_in k is in
        let from = is.from in
        let round : s + (b.round_at (there k) - t) ≡ a.round_at k = (let r = in_.2 in omega arith) in
        ap (λ (e : ℕ). a.number_at e (s + (b.round_at (there k) - t))) in_.1
        ∙ ap (a.number_at (a.event_at k)) round
        ∙ a.back k is.within

module _ (queues : Queues) (d : Drawing) where
  -- a relation of the events of a chart holds between two of them also where they are moved
  abbrev pub IsMoved : (WiredChart → ℕ → ℕ → Type 0) → Type 0
  IsMoved R =
      (n m : ℕ) (chart other : WiredChart) (a : HasRounds queues d n chart) (b : HasRounds queues d m other) (s t w : ℕ)
      → t + w ≤ m → s + w ≤ n → (x y : ℕ) → IsHere a s w x → IsHere a s w y → R chart x y → R other (to a b s t x) (to a b s t y)

  -- then it holds between them exactly where it holds there
  pub moved_both : (R : WiredChart → ℕ → ℕ → Type 0) → IsMoved R → {n m : ℕ} {chart other : WiredChart} (a : HasRounds queues d n chart) (b : HasRounds queues d m other) (s t w : ℕ)
      → t + w ≤ m → s + w ≤ n → (x y : ℕ) → IsHere a s w x → IsHere a s w y → R chart x y ↔ R other (to a b s t x) (to a b s t y)
  moved_both R moved {n} {m} {chart} {other} a b s t w fits back x y p q = (
    moved n m chart other a b s t w fits back x y p q,
    λ h.
        let k = moved m n other chart b a t s w back fits (to a b s t x) (to a b s t y) (is_there a b s t w fits x p) (is_there a b s t w fits y q) h in
        subst (λ (z : ℕ). R chart z y) (to_and_fro a b s t w fits x p)
        (subst (λ (z : ℕ). R chart (to b a t s (to a b s t x)) z) (to_and_fro a b s t w fits y q) k),
  )
