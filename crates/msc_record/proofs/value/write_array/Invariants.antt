use Rattle.std.proofs.Common.{◌≡◌, ◌++◌, ◌∷◌, take}
use Rattle.std.specs.List.{flat_map}
use Rattle.json.specs.Token.{begin_array}
use Rattle.json.specs.Tree.{json_tokens}
use Rattle.msc_record.proofs.value.write_array.Given as goal

-- the values so far follow the bracket
abbrev pub invariant-loop-item : goal.invariant-loop-item
invariant-loop-item g l = record {
  before : l.writer.before ≡ l.fn.writer.before;
  tokens : l.writer.tokens ≡ l.fn.writer.tokens ++ (begin_array ∷ flat_map (λ x. json_tokens (g.T.Value.json x)) (take l.item-index l.items));
}
