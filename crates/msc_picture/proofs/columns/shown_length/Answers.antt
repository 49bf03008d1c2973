use Rattle.std.proofs.Common.{ℕ, List, ◌<◌, length, ap, arith}
use Rattle.std.proofs.lemmas.List.{length-take}
use Rattle.std.proofs.Common.{length-append, codes, take}
use Rattle.msc_picture.proofs.Parts.{short_cut}
use Rattle.msc_picture.proofs.columns.shown_length.Goals as goal

pub returns-then-text-gt-SHOWN-clause-value : goal.returns-then-text-gt-SHOWN-clause-value
returns-then-text-gt-SHOWN-clause-value c =
    let text = c.args.text.now in
    let long : 40 < length text = omega (arith, c.if-text-gt-SHOWN.true) in
    let cut = ap (λ (l : List ℕ). length l) (short_cut text long) in
    let sum = length-append (take 38 text) (codes "..") in
    let front = length-take 38 text in
    omega (arith, cut, sum, front, long)
