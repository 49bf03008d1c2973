use Rattle.std.proofs.Common.{◌<◌, ℕ, sym, ◌∙◌, ap, subst}
use Rattle.bit_rows.specs.Tables.{cell}
use Rattle.msc_order.specs.Tables.{orders}
use Rattle.bit_rows.proofs.Cells.{row_fits}
use Rattle.msc_order.proofs.Seen.{rows_seen, orders-table_of}
use Rattle.msc_order.proofs.order.Order.holds.Goals as goal

pub has-requires-clause-row : goal.has-requires-clause-row
has-requires-clause-row c =
    let e_in = subst (λ (n : ℕ). c.args.e < n) (rows_seen c.self.inside.events c.self.inside.words.items c.args.self.now c.self.view_is) c.requires.e_known in
    rw c.deref.ensures.value (row_fits c.self.inside.events c.self.inside.words.items c.self.inside.events c.args.e c.self.invariant.square e_in)

pub has-requires-clause-column : goal.has-requires-clause-column
has-requires-clause-column c = subst (λ (n : ℕ). c.args.f < n) (rows_seen c.self.inside.events c.self.inside.words.items c.args.self.now c.self.view_is) c.requires.f_known

pub returns : goal.returns
returns c =
    let n : ℕ = c.self.inside.events in
    let same = rows_seen n c.self.inside.words.items c.args.self.now c.self.view_is in
    c.has.ensures ∙ rw c.deref.ensures.value
    (sym (orders-table_of n (cell n c.self.inside.words.items) c.args.e c.args.f (subst (λ (k : ℕ). c.args.e < k) same c.requires.e_known) (subst (λ (k : ℕ). c.args.f < k) same c.requires.f_known)))
    ∙ ap (λ t. orders t c.args.e c.args.f) c.self.view_is
