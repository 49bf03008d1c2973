-- What an outlet's ticket knows from step to step.
use Rattle.std.proofs.Common.{◌≡◌, ℕ, ◌-◌, true, false, true≢false, [], ◌∷◌, map, sym, refl, ap, ◌∙◌}
use Rattle.msc_fifo.specs.declared.entry.Entry.{Entry}
use Rattle.msc_fifo.specs.declared.entry.Entry.TheVariants.{Message, Ended}
use Rattle.msc_fifo.specs.declared.claim.Claim.{Claim}
use Rattle.msc_fifo.specs.declared.rule.Sender.{Sender}
use Rattle.msc_fifo.specs.declared.rule.TicketView.{TicketView}
use Rattle.msc_fifo.specs.Claims.{claim, is_message}
use Rattle.msc_fifo.specs.Views.{outlet_view}
use Rattle.msc_fifo.specs.Moves.{with_senders, after_claim, after_date}

-- an outlet's view is not the inlet's
pub quiet_of : (r : ℕ) (x : Sender) (v : TicketView) → v ≡ outlet_view r x → v.gets ≡ false
quiet_of r x v is = ap (λ (u : TicketView). u.gets) is

-- it has one sender
pub only_of : (r : ℕ) (x : Sender) (v : TicketView) → v ≡ outlet_view r x → v.senders ≡ x ∷ []
only_of r x v is = ap (λ (u : TicketView). u.senders) is

-- what a step changes of the sender
pub step_of : (f : Sender → Sender) (r : ℕ) (x : Sender) (v w : TicketView) → v ≡ outlet_view r x → w ≡ with_senders f v → w ≡ outlet_view r (f x)
step_of f r x v w is to = to ∙ ap (with_senders f) is

-- what a claim changes of the view
pub claim_of : (r k : ℕ) (e : Entry) (x : Sender) (v w : TicketView) → v ≡ outlet_view r x → w ≡ record (with_senders (after_claim k e) v) { room = v.room - 1 } → w ≡ outlet_view (r - 1) (after_claim k e x)
claim_of r k e x v w is to = to ∙ ap (λ (u : TicketView). record (with_senders (after_claim k e) u) { room = u.room - 1 }) is

-- the claim that isn't stored yet
pub waits : (k : ℕ) (e : Entry) (x : Sender) → is_message e ≡ true → (after_claim k e x).pending ≡ claim k e x.ready 0 ∷ []
waits k (Message i m) x is = refl
waits k (Ended i) x is = absurd (true≢false (sym is))

-- the same with its clock
pub waits_dated : (k n : ℕ) (e : Entry) (x : Sender) → is_message e ≡ true → (after_date n (after_claim k e x)).pending ≡ claim k e x.ready n ∷ []
waits_dated k n e x is = ap (map (λ (c : Claim). claim c.place c.entry c.offer n)) (waits k e x is)

-- the claim of an end mark that is not stored
pub waits_mark : (k : ℕ) (e : Entry) (x : Sender) → is_message e ≡ false → (after_claim k e x).pending ≡ claim k e 0 0 ∷ []
waits_mark k (Message i m) x is = absurd (true≢false is)
waits_mark k (Ended i) x is = refl

-- a new claim has no clock stored
pub shown_mark : (k : ℕ) (e : Entry) (x : Sender) → (after_claim k e x).shown ≡ 0
shown_mark k (Message i m) x = refl
shown_mark k (Ended i) x = refl

-- a claim leaves the offer
pub ready_after : (k : ℕ) (e : Entry) (x : Sender) → (after_claim k e x).ready ≡ x.ready
ready_after k (Message i m) x = refl
ready_after k (Ended i) x = refl
