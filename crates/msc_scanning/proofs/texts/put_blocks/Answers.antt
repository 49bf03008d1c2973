use Rattle.std.proofs.Common.{ℕ, List, [], get_or, subst}
use Rattle.msc_scanning.proofs.Folding.{all_done, at_end, at_place, none_yet, one_more}
use Rattle.msc_scanning.specs.Texts.{PutsNumber}
use Rattle.msc_scanning.proofs.texts.put_blocks.Goals as goal

pub loop-number-init : goal.loop-number-init
loop-number-init g c =
    rw c.new-outcomes.ensures.items (none_yet g.O.Write.contents (PutsNumber c.args.plan c.args.words c.args.file.now c.args.found.now.text) c.args.found.now.numbers [] c.args.output.now)

pub loop-number-preserved : goal.loop-number-preserved
loop-number-preserved g c =
    let l = c.loop-number in let y = c.in_ok-put_number.ensures in let contents = g.O.Write.contents in
    let step = PutsNumber c.args.plan c.args.words c.args.file.now c.args.found.now.text in let all = c.args.found.now.numbers in
    one_more contents step all _ [] l.outcomes.items c.args.output.now l.output _ c.put_number.new.outcomes.items y.0 c.put_number.new.output
    (at_place contents step all [] l.outcomes.items l.number-index c.args.output.now l.output 0 (rw c.numbers-number-items.ensures at c.loop-number-test.true) l.invariant)
    (subst (λ (numbers : List ℕ). step (get_or numbers l.number-index 0) l.outcomes.items c.put_number.new.outcomes.items y.0) c.numbers-number-items.ensures y.1) y.2

pub returns : goal.returns
returns g c =
    let l = c.loop-number in let contents = g.O.Write.contents in
    let step = PutsNumber c.args.plan c.args.words c.args.file.now c.args.found.now.text in let all = c.args.found.now.numbers in
    all_done contents step all [] l.outcomes.items c.args.output.now l.output
    (at_end contents step all [] l.outcomes.items l.number-index c.args.output.now l.output (rw c.numbers-number-items.ensures at c.loop-number-test.false) l.invariant)
