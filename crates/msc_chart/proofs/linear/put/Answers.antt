use Rattle.std.proofs.Common.{◌≡◌, ◌∙◌, false, ap, arith, subst, sym}
use Rattle.msc_chart.specs.Charts.{line}
use Rattle.msc_chart.specs.Sortings.{is_put, IsLeftOn}
use Rattle.msc_chart.proofs.SortingLemmas.{first_within, read_mark}
use Rattle.msc_chart.proofs.linear.put.Goals as goal

pub move_first-first-requires-clause-line : goal.move_first-first-requires-clause-line
unfolding line
move_first-first-requires-clause-line c = let l = c.requires.sorting.0.ready.on_lines.on_line c.args.e c.requires.event in omega (arith, l)

pub is_open-requires-clause-first : goal.is_open-requires-clause-first
unfolding line
is_open-requires-clause-first c =
    let marks = c.move_first-first.new.sorting.is_put.items in
    let out : is_put marks c.args.e ≡ false = ap (λ v. is_put v.items c.args.e) c.move_first-first.ensures.marks ∙ read_mark c.args.sorting.now.is_put.items c.args.e c.index.result.now c.if-index.false c.index.ensures in
    first_within c.args.events.now marks c.args.e c.move_first-first.result c.requires.event out c.move_first-first.ensures.below

pub is_open-requires-clause-left : goal.is_open-requires-clause-left
unfolding line
is_open-requires-clause-left c =
    let marks = c.move_first-first.new.sorting.is_put.items in
    let out : is_put marks c.args.e ≡ false = ap (λ v. is_put v.items c.args.e) c.move_first-first.ensures.marks ∙ read_mark c.args.sorting.now.is_put.items c.args.e c.index.result.now c.if-index.false c.index.ensures in
    let within = first_within c.args.events.now marks c.args.e c.move_first-first.result c.requires.event out c.move_first-first.ensures.below in
    subst (λ l. IsLeftOn c.args.events.now l (line c.args.events.now c.args.e) c.move_first-first.result) (sym c.as_slice.ensures.value) (c.move_first-first.ensures.left within)

pub is_open-requires-clause-below : goal.is_open-requires-clause-below
unfolding line
is_open-requires-clause-below c = rw c.as_slice.ensures.value c.move_first-first.ensures.below
