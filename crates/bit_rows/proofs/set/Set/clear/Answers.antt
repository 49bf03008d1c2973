use Rattle.std.proofs.Common.{◌*◌, ◌<◌, length, sym, ap, ◌∙◌}
use Rattle.std.proofs.lemmas.List.{with_items_is}
use Rattle.bit_rows.proofs.Sets.{summary_clear}
use Rattle.bit_rows.proofs.set.Set.clear.Goals as goal

pub invariant_of-self : goal.invariant_of-self
invariant_of-self c =
    let new = with_items_is c.self.inside.words c.clear.new.row (c.clear.auto.row ∙ c.deref_mut.ensures.len) in
    let inside : c.args.y < 64 * length c.self.inside.words.items = rw c.self.view_is c.requires in
    let empty = sym (rw (new, c.if-index-eq0.true) at c.index.ensures) in
    rw new (summary_clear c.self.inside.words.items c.clear.new.row c.self.inside.some c.args.y c.self.invariant inside
    (c.clear.auto.row ∙ ap length c.deref_mut.ensures.value) (rw c.deref_mut.ensures.value at c.clear.ensures) empty)
