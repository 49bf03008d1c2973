use Rattle.std.proofs.Common.{◌≡◌, ℕ, Bool, false, ap₂, ◌∙◌, sym, subst}
use Rattle.std.specs.Prelude.{IsTrue, ◌↔◌}
use Rattle.msc_order.specs.Tables.{orders}
use Rattle.msc_ready.specs.Held.{ReadyChart, wiring_of, ready_in}
use Rattle.msc_ready.specs.BlockedPairs.{IsBlockedPair, is_blocked_pair}
use Rattle.msc_ready.proofs.Holding.{blocked_pair_not, blocked_pair_when}
use Rattle.msc_ready.proofs.ready.Ready.is_blocked_pair.Goals as goal

-- a value of the test tells what the test tells
exact_by : (r : ReadyChart) (e f : ℕ) (b : Bool) → b ≡ is_blocked_pair (wiring_of r) (ready_in r) r.order e f
    → (IsTrue (is_blocked_pair (wiring_of r) (ready_in r) r.order e f) ↔ IsBlockedPair (wiring_of r) (ready_in r) e f)
    → IsTrue b ↔ IsBlockedPair (wiring_of r) (ready_in r) e f
exact_by r e f b same told = subst (λ (x : Bool). IsTrue x ↔ IsBlockedPair (wiring_of r) (ready_in r) e f) (sym same) told

pub returns-then-not-is_lined : goal.returns-then-not-is_lined
returns-then-not-is_lined c =
    let self = c.args.self.now in
    let value = blocked_pair_not (wiring_of self) (ready_in self) self.order c.args.e c.args.f (sym c.is_lined.ensures ∙ c.if-not-is_lined.true) in
    record { value = value; exact = exact_by self c.args.e c.args.f false value (c.blocked_pairs_are_told.ensures c.args.e c.args.f) }

pub returns : goal.returns
returns c =
    let self = c.args.self.now in
    let e_end = rw c.chart-chart.ensures at c.other_end.ensures.value in
    let f_end = rw c.chart-chart.ensures at c.other_end-2.ensures.value in
    let value = blocked_pair_when (wiring_of self) (ready_in self) self.order c.args.e c.args.f _ (sym c.is_lined.ensures ∙ c.if-not-is_lined.false)
    (c.precedes.ensures ∙ ap₂ (orders self.order) e_end f_end) in
    record { value = value; exact = exact_by self c.args.e c.args.f _ value (c.blocked_pairs_are_told.ensures c.args.e c.args.f) }
