use Rattle.bit_rows.proofs.Zeros.{no_zeros, zero_bits}
use Rattle.bit_rows.proofs.row.zeros_in.Goals as goal

pub returns-then-zeros-eq0 : goal.returns-then-zeros-eq0
returns-then-zeros-eq0 c f here = no_zeros c.args.word c.args.start c.args.end f c.ranges.word.fits c.if-zeros-eq0.true

pub returns : goal.returns
returns c f here =
    zero_bits c.args.word c.args.k c.args.start c.args.end c.saturating_sub-from.result c.saturating_sub-past.result f
    c.ranges.word.fits c.requires.start c.requires.end c.saturating_sub-from.ensures c.saturating_sub-past.ensures here
