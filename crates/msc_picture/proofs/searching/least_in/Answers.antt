use Rattle.std.proofs.Common.{◌%◌, arith}
use Rattle.msc_picture.specs.Courses.{frame_of}
use Rattle.msc_picture.proofs.SearchLemmas.{few_bits, none_in, none_under, none_past}
use Rattle.msc_picture.proofs.searching.least_in.Goals as goal

pub returns-then-word-eq0-clause-none : goal.returns-then-word-eq0-clause-none
returns-then-word-eq0-clause-none c =
    none_in c.requires.row c.args.k c.requires.below c.if-word-eq0.true

pub lowest_in-start-requires-clause-few : goal.lowest_in-start-requires-clause-few
lowest_in-start-requires-clause-few c =
    few_bits _ c.args.row.now c.args.k c.requires.row.bits c.facts.ensures.few_events
    c.requires.known

-- nothing fits below the lowest bit
pub least_between-requires-clause-below : goal.least_between-requires-clause-below
least_between-requires-clause-below c e less =
    let at = c.lowest_in-start.ensures.place in
    none_under c.requires.row c.args.k c.requires.below (c.lowest_in-start.result % 64)
    (omega arith) c.lowest_in-start.ensures.lowest e (omega (arith, less, at))

pub returns-then-start-many-clause-none : goal.returns-then-start-many-clause-none
returns-then-start-many-clause-none c =
    none_past (frame_of c.args.f.now) c.args.d.now.past.items c.args.rule c.events-many.result _
    c.events-many.ensures.number (λ e less fits.
    let at = c.lowest_in-start.ensures.place in
    none_under c.requires.row c.args.k c.requires.below (c.lowest_in-start.result % 64)
    (omega arith) c.lowest_in-start.ensures.lowest e (omega (arith, less, at, c.if-start-many.true))
    fits)
