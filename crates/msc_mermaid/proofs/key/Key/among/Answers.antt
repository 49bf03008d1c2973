use Rattle.std.proofs.Common.{sym, ap, ◌∙◌, find, arith}
use Rattle.std.proofs.lemmas.List.{at_drop_all}
use Rattle.msc_mermaid.specs.Keys.{are_spelled, spelling}
use Rattle.msc_mermaid.proofs.Found.{found, missed}
use Rattle.msc_mermaid.proofs.key.Key.among.Goals as goal

pub returns-then-are_spelled : goal.returns-then-are_spelled
returns-then-are_spelled c =
    let bytes = c.args.bytes.now in
    let same = c.are_spelled.ensures ∙ ap (are_spelled bytes) c.spelling.ensures in
    sym (found (λ k. are_spelled bytes (spelling k)) c.args.keys.now c.loop-key.key-index _ (omega arith) (sym same ∙ c.if-are_spelled.true)) ∙ c.loop-key.invariant

pub loop-key-preserved : goal.loop-key-preserved
loop-key-preserved c =
    let bytes = c.args.bytes.now in
    let same = c.are_spelled.ensures ∙ ap (are_spelled bytes) c.spelling.ensures in
    sym (missed (λ k. are_spelled bytes (spelling k)) c.args.keys.now c.loop-key.key-index _ (omega arith) (sym same ∙ c.if-are_spelled.false)) ∙ c.loop-key.invariant

pub returns : goal.returns
returns c =
    sym (at_drop_all (find (λ k. are_spelled c.args.bytes.now (spelling k))) c.args.keys.now c.loop-key.key-index (omega arith)) ∙ c.loop-key.invariant
