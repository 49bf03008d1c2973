use Rattle.std.proofs.Common.{◌+◌, ◌++◌, ◌∷◌, [], drop, sym, ap, ◌∙◌}
use Rattle.msc_import.specs.Drafting.{section_of, sections_on}
use Rattle.msc_import.proofs.NamedLemmas.{sections_more, sections_end}
use Rattle.msc_import.proofs.drawing.sections_of.Goals as goal

pub loop-i-preserved : goal.loop-i-preserved
loop-i-preserved c =
    let lines = c.args.lines.now in
    let names = c.args.names.now in
    let ps = c.args.statements.now in
    let plans = c.args.plans.now in
    let i = c.loop-i.i in
    let done = c.loop-i.sections.items in
    let plan = c.index-plans-i.result in
    let section_is =
    c.in_ok-section.ensures ∙ ap (λ x. section_of names i x ps plan) c.ident_at-ident.ensures in
    let items_are = c.in_ok-push.ensures.items ∙ ap (λ s. done ++ s ∷ []) section_is in
    ap (sections_on lines names ps (i + 1) (drop (i + 1) plans)) items_are
    ∙ sym (sections_more lines names ps plans i done plan c.loop-i-test.true (sym c.index-plans-i.is))
    ∙ c.loop-i.invariant

pub returns : goal.returns
returns c =
    sym (sections_end c.args.lines.now c.args.names.now c.args.statements.now c.args.plans.now c.loop-i.i c.loop-i.sections.items c.loop-i-test.false)
    ∙ c.loop-i.invariant
