use Rattle.std.proofs.Common.{◌≡◌, Bool, true, ◌∷◌, [], ◌++◌, cond, ap, sym, ◌∙◌}
use Rattle.std.specs.List.{list_any}
use Rattle.msc_links.specs.declared.listing.ListedLink.{ListedLink}
use Rattle.msc_links.specs.Links.{same_link}
use Rattle.msc_links.specs.Listed.{listed_link}
use Rattle.msc_links.specs.Said.{with_link}
use Rattle.msc_links.proofs.said.put_rule.Goals as goal

pub returns-then-is_listed : goal.returns-then-is_listed
returns-then-is_listed c =
    let listed = c.args.listed.now.items in
    let kind = c.args.rule.now.kind in
    let link = c.in-Ok.link in
    let there : list_any (λ (each : ListedLink). same_link each.link link) listed ≡ true =
    ap (list_any (λ (each : ListedLink). same_link each.link link)) (sym c.as_slice.ensures.value)
    ∙ sym c.is_listed.ensures ∙ c.if-is_listed.true in
    sym (ap (λ (b : Bool). cond b listed (listed ++ listed_link kind link ∷ [])) there)
    ∙ ap (with_link listed kind) c.in-Ok.ensures.link
