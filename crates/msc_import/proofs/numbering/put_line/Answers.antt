use Rattle.std.proofs.Common.{◌++◌, length, map, replicate, take, sym, ap, ◌∙◌}
use Rattle.std.proofs.lemmas.List.{append-nil, append_assoc}
use Rattle.msc_import.specs.Numbering.{numbers_from}
use Rattle.msc_import.specs.Plans.{sides_on}
use Rattle.msc_import.proofs.NumberLemmas.{numbers_taken}
use Rattle.msc_import.proofs.numbering.put_line.Goals as goal

pub loop-number-init : goal.loop-number-init
unfolding numbers_from
loop-number-init c = sym (append-nil c.args.numbers.now.items)

pub loop-number-preserved : goal.loop-number-preserved
loop-number-preserved c =
    let l = c.loop-number in
    let own = c.args.own in
    let line = c.args.line in
    let before = c.args.numbers.now.items in
    let taken = numbers_from own line 0 (map (λ m. m.now) (take l.number c.args.arrows.now)) in
    c.in_ok-put_number.ensures
    ∙ ap (λ x. x ++ replicate c.end_count-ends.result l.number) l.invariant
    ∙ append_assoc before taken (replicate c.end_count-ends.result l.number)
    ∙ ap (λ k. before ++ (taken ++ replicate k l.number)) c.end_count-ends.ensures
    ∙ ap (λ m. before ++ (taken ++ replicate (length (sides_on own line m.now)) l.number)) c.index-arrows-number.is
    ∙ ap (λ x. before ++ x) (sym (numbers_taken own line (λ m. m.now) c.args.arrows.now l.number c.index-arrows-number.result c.loop-number-test.true))
