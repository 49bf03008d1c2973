use Rattle.std.proofs.Common.{arith}
use Rattle.std.proofs.lemmas.List.{length-take}
use Rattle.msc_picture.proofs.piece.action_piece.Goals as goal

pub slice_bounds-front-length : goal.slice_bounds-front-length
slice_bounds-front-length c =
    omega (arith, length-take 38 c.args.text.now, c.if-text-gt-SHOWN.true)
