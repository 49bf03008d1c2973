use Rattle.std.proofs.Common.{ap, sym, ◌∙◌, ◌+◌, drop}
use Rattle.msc_arrow_marks.specs.Heads.{other_in}
use Rattle.msc_arrow_marks.proofs.AllLemmas.{met, met_all, met_fails, met_more, met_none}
use Rattle.msc_arrow_marks.proofs.head.others_of.Goals as goal

pub loop-part-init : goal.loop-part-init
loop-part-init c = ap (λ v. met other_in v c.args.parts.now) c.new-others.ensures.items ∙ met_none other_in c.args.parts.now

pub returns-in_default : goal.returns-in_default
returns-in_default c =
    let l = c.loop-part in
    sym (met_fails other_in l.others.items c.args.parts.now l.part-index _ c.loop-part-test.true (sym c.in_ok-other.ensures ∙ c.in_default.is)) ∙ l.invariant

pub loop-part-preserved : goal.loop-part-preserved
loop-part-preserved c =
    let l = c.loop-part in
    ap (λ v. met other_in v (drop (l.part-index + 1) c.args.parts.now)) c.in_ok-push.ensures.items
    ∙ sym (met_more other_in l.others.items c.args.parts.now l.part-index _ c.loop-part-test.true _ (sym c.in_ok-other.ensures ∙ c.in-Some.is)) ∙ l.invariant

pub returns : goal.returns
returns c =
    let l = c.loop-part in
    sym (met_all other_in l.others.items c.args.parts.now l.part-index c.loop-part-test.false) ∙ l.invariant
