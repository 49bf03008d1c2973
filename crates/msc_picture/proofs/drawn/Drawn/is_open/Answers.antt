use Rattle.std.proofs.Common.{refl, arith}
use Rattle.msc_picture.proofs.OpenLemmas.{open_at, open_when}
use Rattle.msc_picture.proofs.drawn.Drawn.is_open.Goals as goal

pub returns-then-p-len : goal.returns-then-p-len
returns-then-p-len c = (
  λ yes. open_at c.requires.laid.course c.args.e _ c.first_other-p.ensures
      (λ inside. absurd (omega (arith, inside, c.if-p-len.true, c.len.ensures))),
  λ free. refl,
)

pub returns : goal.returns
returns c =
    open_when c.requires.laid.course c.args.e c.first_other-p.result c.first_other-p.ensures
    c.index.result.now c.is_above.result (omega (arith, c.if-p-len.false, c.len.ensures))
    c.index.ensures c.is_above.ensures
