use Rattle.std.proofs.Common.{◌<◌, ℕ, sym, ◌∙◌, ap, subst}
use Rattle.bit_rows.specs.Rows.{word_count}
use Rattle.msc_order.specs.Tables.{orders}
use Rattle.bit_rows.proofs.Cells.{row_fits}
use Rattle.msc_order.proofs.Seen.{rows_seen, row_seen}
use Rattle.msc_order.proofs.order.Order.row.Goals as goal

pub row_of-requires : goal.row_of-requires
row_of-requires c =
    let e_in = subst (λ (n : ℕ). c.args.e < n) (rows_seen c.self.inside.events c.self.inside.words.items c.args.self.now c.self.view_is) c.requires in
    record { row = rw c.deref.ensures.value (row_fits c.self.inside.events c.self.inside.words.items c.self.inside.events c.args.e c.self.invariant.square e_in) }

pub returns-clause-words : goal.returns-clause-words
returns-clause-words c = c.row_of.ensures.words ∙ ap word_count (sym (rows_seen c.self.inside.events c.self.inside.words.items c.args.self.now c.self.view_is))

pub returns-clause-numbers : goal.returns-clause-numbers
returns-clause-numbers c f =
    let n : ℕ = c.self.inside.events in
    let same = rows_seen n c.self.inside.words.items c.args.self.now c.self.view_is in
    row_seen n c.self.inside.words.items c.row_of.result.now c.args.e (subst (λ (k : ℕ). c.args.e < k) same c.requires) c.self.invariant
    (rw c.deref.ensures.value at c.row_of.ensures.numbers) f
    ∙ ap (λ t. orders t c.args.e f) c.self.view_is
