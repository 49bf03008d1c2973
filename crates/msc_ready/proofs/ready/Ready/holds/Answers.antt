use Rattle.std.proofs.Common.{◌≡◌, ℕ, Bool, false, List, [], eqb, length, sym, ◌∙◌, ap, subst, vec_len}
use Rattle.bit_rows.proofs.Cells.{row_fits}
use Rattle.msc_ready.specs.Held.{ReadyChart, wiring_of, ready_in}
use Rattle.msc_ready.specs.Rows.{AreRowsOf, HasRows}
use Rattle.msc_ready.proofs.Putting.{all_visual, no_lines, rows_by}
use Rattle.msc_ready.proofs.ready.Ready.holds.Goals as goal

pub returns-then-is_empty : goal.returns-then-is_empty
returns-then-is_empty c =
    let r = c.args.self.now in
    let lines = c.self.inside.lines in
    let none : r.lines ≡ [] =
    sym (ap (λ (s : ReadyChart). s.lines) c.self.view_is) ∙ no_lines lines.items (vec_len lines) _ lines.ok.0 c.is_empty.ensures c.if-is_empty.true in
    let told = all_visual r c.args.x c.args.y c.facts.ensures.order none c.requires.x_known c.requires.y_known in
    (λ h. told.0 (sym c.precedes.ensures ∙ h), λ h. c.precedes.ensures ∙ told.1 h)

-- the rows that are held of a chart are those of what is seen of it
seen_rows : (inside seen : ReadyChart) (rows : List ℕ) (n : ℕ) (empty : Bool) → inside ≡ seen → HasRows inside rows
    → n ≡ length inside.lines → empty ≡ eqb n 0 → empty ≡ false → AreRowsOf (wiring_of seen) (ready_in seen) rows
seen_rows inside seen rows n empty same has size told is =
    subst (λ (r : ReadyChart). AreRowsOf (wiring_of r) (ready_in r) rows) same (rows_by inside rows n empty has size told is)

pub has-requires-clause-row : goal.has-requires-clause-row
has-requires-clause-row c =
    let n : ℕ = length c.args.self.now.chart.events in
    let lines = c.self.inside.lines in
    let rows = c.self.inside.rows.items in
    let are = seen_rows _ c.args.self.now rows (vec_len lines) _ c.self.view_is c.self.invariant.1 lines.ok.0 c.is_empty.ensures c.if-is_empty.false in
    rw (c.events.ensures, c.deref.ensures.value) (row_fits n rows n c.args.x are.square c.requires.x_known)

pub returns : goal.returns
returns c =
    let lines = c.self.inside.lines in
    let rows = c.self.inside.rows.items in
    let are = seen_rows _ c.args.self.now rows (vec_len lines) _ c.self.view_is c.self.invariant.1 lines.ok.0 c.is_empty.ensures c.if-is_empty.false in
    let told = are.exact c.args.x c.args.y c.requires.x_known c.requires.y_known in
    let same = rw (c.events.ensures, c.deref.ensures.value) at c.has.ensures in
    (λ h. told.0 (sym same ∙ h), λ h. same ∙ told.1 h)
