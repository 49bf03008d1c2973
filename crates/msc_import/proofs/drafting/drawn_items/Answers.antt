use Rattle.std.proofs.Common.{◌+◌, ◌++◌, ◌∷◌, [], get_or, drop, map, sym, ap, ◌∙◌, append_assoc}
use Rattle.std.proofs.lemmas.List.{append-nil}
use Rattle.msc_import.specs.Drafting.{drawn_item, drawn_items}
use Rattle.msc_import.specs.Plans.{seen}
use Rattle.msc_import.proofs.DraftLemmas.{items_more, items_end}
use Rattle.msc_import.proofs.drafting.drawn_items.Goals as goal

pub loop-stop-preserved : goal.loop-stop-preserved
loop-stop-preserved c =
    let l = c.loop-stop in let names = c.args.names.now in let es = map seen c.args.events.now in let ends = c.args.ends.now in
    let stop = get_or ends l.stop-index 0 in let rest = drawn_items names es stop (drop (l.stop-index + 1) ends) in
    let item = c.in_ok-drawn_item.ensures ∙ ap (drawn_item names) c.between.ensures in
    let more = items_more names es l.start ends l.stop-index c.loop-stop-test.true in
    ap (λ x. x ++ rest) c.in_ok-push.ensures.items ∙ append_assoc l.items.items (c.in_ok-drawn_item.field-0 ∷ []) rest ∙ ap (λ x. l.items.items ++ x ∷ rest) item ∙ ap (λ x. l.items.items ++ x) (sym more) ∙ l.invariant

pub returns : goal.returns
returns c =
    let l = c.loop-stop in let names = c.args.names.now in let es = map seen c.args.events.now in
    c.from_vec.ensures ∙ sym (append-nil l.items.items) ∙ ap (λ x. l.items.items ++ x) (sym (items_end names es l.start c.args.ends.now l.stop-index c.loop-stop-test.false)) ∙ l.invariant
