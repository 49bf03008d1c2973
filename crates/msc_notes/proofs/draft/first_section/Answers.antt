use Rattle.std.proofs.Common.{◌<◌, length, sym, ◌∙◌, refl, arith}
use Rattle.std.proofs.lemmas.Option.{slice_get_read, slice_get_within}
use Rattle.msc_notes.proofs.Firsts.{no_name_more, name_first}
use Rattle.msc_notes.proofs.draft.first_section.Goals as goal

pub loop-i-preserved : goal.loop-i-preserved
loop-i-preserved c =
    let ss = c.args.sections.now in let i = c.loop-i.i in let s = c.index-sections-i.result in
    no_name_more ss c.args.name.now i s (slice_get_read ss (length ss) i s refl c.loop-i-test.true c.index-sections-i.is)
    (sym c.is_named.ensures ∙ c.if-is_named.false) c.loop-i.invariant

pub returns-then-is_named : goal.returns-then-is_named
returns-then-is_named c =
    let ss = c.args.sections.now in let i = c.loop-i.i in let s = c.index-sections-i.result in
    name_first ss c.args.name.now i s (slice_get_read ss (length ss) i s refl c.loop-i-test.true c.index-sections-i.is)
    (sym c.is_named.ensures ∙ c.if-is_named.true) c.loop-i.invariant

pub returns : goal.returns
returns c = λ i s h.
    let inside : i < length c.args.sections.now = slice_get_within c.args.sections.now i s h in
    c.loop-i.invariant i (omega (arith, inside)) s h
