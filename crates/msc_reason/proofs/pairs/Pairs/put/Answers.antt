use Rattle.std.proofs.Common.{◌≡◌, ◌<◌, ◌||◌, ◌&&◌, Bool, nat_eq, ℕ, List, sym, ap, ◌∙◌, subst}
use Rattle.std.proofs.lemmas.List.{with_items_is}
use Rattle.msc_reason.proofs.PairLemmas.{put_has}
use Rattle.msc_reason.specs.PairTables.{has_pair, pair_table, PairTable}
use Rattle.msc_reason.proofs.pairs.Pairs.put.Goals as goal

pub returns-clause-pairs : goal.returns-clause-pairs
returns-clause-pairs c = λ x y.
    let n : ℕ = c.self.inside.events in
    let same = ap (λ (t : PairTable). t.events) c.self.view_is in
    let new = with_items_is c.self.inside.cells c.put.new.words (c.put.auto.words ∙ c.deref_mut.ensures.len) in
    rw new (put_has n c.self.inside.cells.items c.put.new.words c.args.e c.args.f
    (subst (λ (m : ℕ). c.args.e < m) (sym same) c.requires.e_known) (subst (λ (m : ℕ). c.args.f < m) (sym same) c.requires.f_known)
    (rw c.deref_mut.ensures.value at c.put.ensures) x y
    ∙ ap (λ (t : PairTable). has_pair t x y || (nat_eq x c.args.e && nat_eq y c.args.f)) c.self.view_is)
