use Rattle.std.proofs.Common.{◌<◌, length, ap, arith, rules, tests}
use Rattle.std.specs.List.{flat_map}
use Rattle.std.proofs.lemmas.List.Folds.{length-flat_map-take}
use Rattle.msc_lexer.specs.declared.TheConstants.{TEXT_LIMIT}
use Rattle.msc_parser.specs.Drafts.{statements_in, statements_of}
use Rattle.msc_import.proofs.drawing.is_few.Goals as goal

pub returns-in-None : goal.returns-in-None
returns-in-None c =
    let l = c.loop-section in
    let low = length-flat_map-take (λ s. flat_map statements_in s.items) c.args.sections.now l.section-index c.section-item.result c.loop-section-test.true in
    let here = ap (λ s. length (flat_map statements_in s.items)) c.section-item.is in
    let same = ap (λ x. length (flat_map statements_in x)) c.as_slice.ensures in
    let over : TEXT_LIMIT < length (statements_of c.args.sections.now) = omega (arith, low, same, here, l.invariant, c.in-None.ensures.none) in
    search (rules, tests)
