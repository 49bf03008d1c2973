use Rattle.std.proofs.Common.{◌≡◌, ap, ◌∙◌, subst, sym}
use Rattle.std.proofs.lemmas.List.Elements.{All-get_or}
use Rattle.msc_text.specs.declared.blocked_pairs.KnownRun.{KnownRun}
use Rattle.msc_text.proofs.blocked_pairs.run_in.Goals as goal

pub returns-then-one-second : goal.returns-then-one-second
returns-then-one-second c = λ runs are.
    let own = All-get_or (λ (known : KnownRun). known.run.items ≡ runs known.second) c.args.known.now c.loop-one.one-index c.one-item.result c.loop-one-test.true are in
    let here = subst (λ (known : KnownRun). known.run.items ≡ runs known.second) (sym c.one-item.is) own in
    c.as_slice.ensures.value ∙ here ∙ ap runs c.if-one-second.true
