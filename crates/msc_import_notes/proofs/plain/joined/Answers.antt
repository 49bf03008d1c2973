use Rattle.std.proofs.Common.{arith}
use Rattle.std.proofs.lemmas.Grind.{common_steps}
use Rattle.msc_import_notes.proofs.LineLemmas.{joined_next}
use Rattle.msc_import_notes.proofs.plain.joined.Goals as goal

pub loop-i-preserved : goal.loop-i-preserved
loop-i-preserved c =
    let i = c.loop-i.i in let lines = c.args.lines.now in
    grind (arith, common_steps, joined_next (λ x. x.now) lines i, c.loop-i.invariant, c.in_ok-put_end.ensures, c.in_ok-extend_from_slice.ensures.items)
