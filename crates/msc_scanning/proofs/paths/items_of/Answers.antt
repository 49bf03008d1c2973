use Rattle.std.proofs.Common.{◌≡◌, ◌∷◌, ◌++◌, ◌+◌, ◌∙◌, List, ap, drop, map, subst, sym}
use Rattle.std.specs.Global.{Vec}
use Rattle.std.proofs.lemmas.List.{drop_all, drop_more}
use Rattle.msc_scan.specs.declared.walk.Entry.{Entry}
use Rattle.msc_scanning.specs.Scans.{items_in, plain_item}
use Rattle.msc_scanning.specs.Words.{words_in}
use Rattle.msc_scanning.proofs.Scanned.{more_items, no_items, words_at}
use Rattle.msc_scanning.proofs.paths.items_of.Goals as goal

pub loop-i-preserved : goal.loop-i-preserved
loop-i-preserved c =
    let l = c.loop-i in let paths = c.args.paths.now in let all = c.args.all.now in let found = c.in-Some.ensures.lookup in
    let entries = c.in-Some.entries.now in
    let rest : drop l.i all ≡ entries ∷ drop (l.i + 1) all =
    drop_more all l.i entries found.3.0 ∙ ap (λ (e : Vec Entry). e ∷ drop (l.i + 1) all) (sym found.1) in
    let so_far = subst (λ (d : List (Vec Entry)). map plain_item l.items.items ++ items_in (words_in (drop l.i paths)) d ≡ items_in (words_in paths) all) rest l.invariant in
    more_items (words_in paths) _ (words_in (drop (l.i + 1) paths)) all entries (drop (l.i + 1) all) (items_in (words_in paths) all) (map plain_item l.items.items) (map plain_item c.put_path.new.items.items)
    (subst (λ (w : List (List _)). map plain_item l.items.items ++ items_in w (entries ∷ drop (l.i + 1) all) ≡ items_in (words_in paths) all) (words_at paths l.i _ c.loop-i-test.true) so_far)
    (rw c.as_slice.ensures.value at c.in_ok-put_path.ensures)

pub returns-in_default : goal.returns-in_default
returns-in_default c =
    let l = c.loop-i in let paths = c.args.paths.now in let all = c.args.all.now in
    no_items (words_in (drop l.i paths)) (drop l.i all) (drop_all l.i all c.in_default.ensures.lookup.3) _ _ l.invariant
