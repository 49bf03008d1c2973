use Rattle.std.proofs.Common.{ℕ, List, sym, ◌∙◌, subst}
use Rattle.std.proofs.lemmas.List.{with_items_is}
use Rattle.msc_ready.specs.Held.{ready_of, wiring_of}
use Rattle.msc_ready.specs.Rows.{AreRowsOf}
use Rattle.msc_ready.proofs.ready.Ready.rows_of.Goals as goal

pub returns : goal.returns
returns c =
    let same = with_items_is c.in_ok-rows.rows c.fill.new.rows (c.fill.auto.rows ∙ c.deref_mut.ensures.len) in
    subst (λ (rows : List ℕ). AreRowsOf (wiring_of c.args.self.now) (ready_of c.args.lines.now) rows) (sym same) c.fill.ensures
