use Rattle.std.proofs.Common.{ap, sym, ◌∙◌}
use Rattle.msc_links.specs.Names.{one_name, two_names}
use Rattle.msc_links.proofs.Splitting.{spelled_more, spelled_one, spelled_two}
use Rattle.msc_links.proofs.spelling.spelled.Goals as goal

pub returns-in_default : goal.returns-in_default
returns-in_default c =
    c.one_name.ensures
    ∙ ap one_name c.trimmed.ensures
    ∙ sym (spelled_one c.args.link.now (sym c.arrow_in.ensures.place ∙ c.in_default.is))

pub returns-in-None : goal.returns-in-None
returns-in-None c =
    c.two_names.ensures
    ∙ (λ i. two_names (c.trimmed-in-None.ensures i) (c.trimmed-in-None-2.ensures i))
    ∙ sym (spelled_two c.args.link.now c.in-Some.place (sym c.arrow_in.ensures.place ∙ c.in-Some.is) (sym c.arrow_in-2.ensures.place ∙ c.in-None.is))

pub returns-in-Some-arrow_in : goal.returns-in-Some-arrow_in
returns-in-Some-arrow_in c =
    sym (spelled_more c.args.link.now c.in-Some.place c.in-Some-arrow_in.field-0 (sym c.arrow_in.ensures.place ∙ c.in-Some.is) (sym c.arrow_in-2.ensures.place ∙ c.in-Some-arrow_in.is))
