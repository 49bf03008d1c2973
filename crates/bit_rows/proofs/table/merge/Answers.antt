use Rattle.std.proofs.Common.{◌≡◌, ◌+◌, ◌*◌, ◌<◌, ◌≤◌, length, arith}
use Rattle.bit_rows.proofs.Cells.{merge_start, merge_step, merge_end}
use Rattle.bit_rows.proofs.table.merge.Goals as goal

pub loop-k-init : goal.loop-k-init
loop-k-init c x w below = merge_start c.args.words.now c.word_count-count.result c.args.e c.args.f x w

pub loop-k-preserved : goal.loop-k-preserved
loop-k-preserved c x w below =
    let fits : c.args.e * c.word_count-count.result + c.word_count-count.result ≤ length c.args.words.now = rw c.word_count-count.ensures.count c.requires.row in
    let size = c.loop-k.auto.words in
    let more = c.loop-k-test.true in
    let inside : c.args.e * c.word_count-count.result + c.loop-k.k < length c.loop-k.words = omega (arith, fits, size, more) in
    merge_step c.args.words.now c.loop-k.words c.word_count-count.result c.args.e c.args.f c.loop-k.k inside more c.loop-k.invariant x w below

pub returns : goal.returns
returns c =
    let done : c.loop-k.k ≡ c.word_count-count.result = omega arith in
    let invariant = rw (done, c.word_count-count.ensures.count) at c.loop-k.invariant in
    merge_end c.args.n c.args.words.now c.loop-k.words c.args.e c.args.f invariant
