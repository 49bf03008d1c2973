use Rattle.std.proofs.Common.{◌-◌, ◌++◌, ◌∷◌, [], List, Option, map, refl, sym, ap, subst, arith, ◌∙◌}
use Rattle.std.proofs.lemmas.List.{append_assoc, map-append}
use Rattle.std.specs.String.{string_bytes}
use Rattle.msc_scan.specs.Names.{whole_name}
use Rattle.msc_scan.specs.Walks.{names_of, plain_item, Adds, IsBelow, Item, OfItems}
use Rattle.msc_scan.proofs.WalkLemmas.{deep_so, more_added, no_items, on_ok, passed_so, read_folder, unread_folder, unread_so}
use Rattle.msc_scan.proofs.walk.+walk.Goals as goal

pub walk-returns-then-levels-eq0 : goal.walk-returns-then-levels-eq0
walk-returns-then-levels-eq0 g t c =
    on_ok c.put.result (deep_so c.args.levels (names_of c.args.skips.now) c.args.folder.now c.args.found.now.items c.put.new.found.items
    (string_bytes c.in_ok-name.name) c.if-levels-eq0.true c.in_ok-name.ensures.ok) c.put.ensures

pub walk-returns-in-Ok : goal.walk-returns-in-Ok
walk-returns-in-Ok g t c =
    on_ok c.walk_items.result (read_folder c.args.levels (names_of c.args.skips.now) c.args.folder.now c.args.found.now.items c.walk_items.new.found.items
    (c.args.levels - 1) (map plain_item c.in-Ok.items.items) (let some = c.if-levels-eq0.false in omega arith)) c.walk_items.ensures

pub walk-returns-in_ok-name-in-Err : goal.walk-returns-in_ok-name-in-Err
walk-returns-in_ok-name-in-Err g t c =
    on_ok c.put-in-Err.result (unread_folder c.args.levels (names_of c.args.skips.now) c.args.folder.now c.args.found.now.items c.put-in-Err.new.found.items
    (string_bytes c.in_ok-name-in-Err.name) c.in-Err.error c.if-levels-eq0.false c.in_ok-name-in-Err.ensures.ok) c.put-in-Err.ensures

pub walk_item-returns-in-Err : goal.walk_item-returns-in-Err
walk_item-returns-in-Err g t c =
    let skips = names_of c.args.skips.now in
    on_ok c.put.result (unread_so (IsBelow c.args.levels skips) skips c.args.folder.now (plain_item c.args.item) (string_bytes c.in_ok-name-in-Err.name) c.in-Err.error
    c.args.found.now.items c.put.new.found.items (ap plain_item c.in-Err.is) c.in_ok-name-in-Err.ensures.ok) c.put.ensures

pub walk_item-returns-then-is_passed_over : goal.walk_item-returns-then-is_passed_over
walk_item-returns-then-is_passed_over g t c =
    let skips = names_of c.args.skips.now in let item = c.in-Ok.item in
    passed_so (IsBelow c.args.levels skips) skips c.args.folder.now (plain_item c.args.item) (record { name = string_bytes item.name; kind = item.kind })
    (string_bytes c.in_ok-whole.whole) (ap plain_item c.in-Ok.is) (c.in_ok-whole.ensures ∙ ap (whole_name c.args.folder.now) c.as_str.ensures.value) c.args.found.now.items
    (rw (sym c.is_folder.ensures, sym c.as_str-2.ensures.value, sym c.as_str-3.ensures.value) (sym c.is_passed_over.ensures ∙ c.if-is_passed_over.true))

pub walk_items-loop-item-init : goal.walk_items-loop-item-init
walk_items-loop-item-init g t c =
    let skips = names_of c.args.skips.now in
    record { whole = refl; added = no_items (IsBelow c.args.levels skips) skips c.args.folder.now c.args.found.now.items }

pub walk_items-loop-item-preserved : goal.walk_items-loop-item-preserved
walk_items-loop-item-preserved g t c =
    let skips = names_of c.args.skips.now in let l = c.loop-item in let below = IsBelow c.args.levels skips in let item = c.in-Some.item in
    record {
      whole = l.invariant.whole ∙ (ap (λ xs. l.yielded ++ xs) c.in-Some.ensures.steps.0 ∙ sym (append_assoc l.yielded (item ∷ []) _));
      added = subst (λ (items : List (Option Item)). Adds (OfItems below skips c.args.folder.now items) c.args.found.now.items c.walk_item.new.found.items)
          (sym (map-append plain_item l.yielded (item ∷ [])))
          (more_added below skips c.args.folder.now (map plain_item l.yielded) (plain_item item) c.args.found.now.items l.found.items c.walk_item.new.found.items l.invariant.added c.in_ok-walk_item.ensures);
    }
