use Rattle.std.proofs.Common.{◌≡◌, ◌==◌, None, sym}
use Rattle.std.specs.List.{position}
use Rattle.msc_scanning.proofs.Lines.{last_line, next_line}
use Rattle.msc_scanning.proofs.naming.with_names.Goals as goal

pub loop-at-preserved : goal.loop-at-preserved
loop-at-preserved c =
    let l = c.loop-at in
    rw (c.behind-rest.ensures, c.in_ok-print_line.ensures)
    (next_line c.args.word.now c.args.lines.now l.rest.now l.page.bytes.items c.in-Some.at (sym c.in-Some.ensures.place) l.invariant)

pub returns : goal.returns
returns c =
    let l = c.loop-at in
    let none : position (λ byte. byte == 10) l.rest.now ≡ None = sym c.in_default.ensures.place in
    rw c.in_ok-extend_from_slice.ensures.items (last_line c.args.word.now c.args.lines.now l.rest.now l.page.bytes.items none l.invariant)
