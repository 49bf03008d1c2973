use Rattle.std.proofs.Common.{◌+◌, sym, ap, ◌∙◌, ◌++◌, ◌∷◌, [], drop, append_assoc}
use Rattle.std.proofs.lemmas.List.{append-nil, take_rest}
use Rattle.msc_mermaid.specs.Cutting.{bare_from, bare_step}
use Rattle.msc_mermaid.proofs.CuttingLemmas.{bare_more, bare_end}
use Rattle.msc_mermaid.proofs.cutting.without_entities.Goals as goal

pub loop-i-preserved : goal.loop-i-preserved
loop-i-preserved c =
    let l = c.loop-i in let bytes = c.args.bytes.now in let step = c.bare_step-byte.result in
    let one = sym (ap (bare_step l.within _) (take_rest bytes (l.i + 1))) ∙ sym c.bare_step-byte.ensures in
    let rest = bare_from step.1 (drop (l.i + 1) bytes) in
    ap (λ x. x ++ rest) c.in_ok-push.ensures.items ∙ append_assoc l.bare.items (step.0 ∷ []) rest ∙ ap (λ x. l.bare.items ++ x) (sym (bare_more bytes l.i l.within step.0 step.1 c.loop-i-test.true one)) ∙ l.invariant

pub returns : goal.returns
returns c =
    let l = c.loop-i in
    c.from_vec.ensures ∙ sym (append-nil l.bare.items) ∙ ap (λ x. l.bare.items ++ x) (sym (bare_end c.args.bytes.now l.i l.within c.loop-i-test.false)) ∙ l.invariant
