use Rattle.std.proofs.Common.{ℕ, List, get_or, ap, arith}
use Rattle.msc_picture.proofs.Ranges.{fold_next}
use Rattle.msc_picture.specs.Texts.{with_byte}
use Rattle.msc_picture.proofs.Lines.{byte_over}
use Rattle.msc_picture.proofs.text.put_piece.Goals as goal

pub loop-k-preserved : goal.loop-k-preserved
loop-k-preserved c =
    fold_next (with_byte c.args.piece.now) c.args.line.now.items 0 c.loop-k.k c.loop-k.k _ _
    (omega arith) c.loop-k.invariant
    (byte_over c.args.piece.now _ _ c.loop-k.k c.in_ok-at.at _ c.in_ok-at.ensures (ap (λ (l : List ℕ). get_or l c.loop-k.k 0) c.as_slice-text.ensures) c.put.ensures)
