use Rattle.std.proofs.Common.{◌*◌, ◌<◌, length, ap, ◌∙◌}
use Rattle.std.proofs.lemmas.List.{with_items_is}
use Rattle.bit_rows.proofs.Sets.{summary_put}
use Rattle.bit_rows.proofs.set.Set.put.Goals as goal

pub invariant_of-self : goal.invariant_of-self
invariant_of-self c =
    let new = with_items_is c.self.inside.words c.put.new.row (c.put.auto.row ∙ c.deref_mut.ensures.len) in
    let inside : c.args.y < 64 * length c.self.inside.words.items = rw c.self.view_is c.requires in
    rw new (summary_put c.self.inside.words.items c.put.new.row c.self.inside.some c.args.y c.self.invariant inside
    (c.put.auto.row ∙ ap length c.deref_mut.ensures.value) (rw c.deref_mut.ensures.value at c.put.ensures))
