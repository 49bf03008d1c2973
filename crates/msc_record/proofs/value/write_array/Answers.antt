use Rattle.std.proofs.Common.{◌++◌, ◌∷◌, ap, sym, ◌∙◌}
use Rattle.std.proofs.lemmas.List.{take_all}
use Rattle.std.specs.List.{flat_map}
use Rattle.json.specs.Token.{begin_array, end_array}
use Rattle.json.specs.Tree.{json_tokens}
use Rattle.msc_record.proofs.MemberLemmas.{items_then_end}
use Rattle.msc_record.proofs.WritingLemmas.{adds_last}
use Rattle.msc_record.proofs.value.write_array.Goals as goal

-- the values, between two brackets
pub returns : goal.returns
returns g c =
    let xs = c.args.items.now in
    let old = c.args.writer.now in
    let tokens = flat_map (λ x. json_tokens (g.T.Value.json x)) in
    adds_last c.end_array.result old c.loop-item.writer c.end_array.new.self (begin_array ∷ tokens xs) _ end_array
    c.loop-item.invariant.before
    (c.loop-item.invariant.tokens ∙ ap (λ l. old.tokens ++ (begin_array ∷ tokens l)) (take_all c.loop-item.item-index xs c.loop-item-test.false))
    c.end_array.ensures.room.0 c.end_array.ensures.ok
    (ap (λ l. begin_array ∷ l) (sym (items_then_end g.T.Value.json xs)))
