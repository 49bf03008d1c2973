use Rattle.std.proofs.Common.{refl, sym}
use Rattle.msc_links.specs.Links.{link_of}
use Rattle.msc_links.proofs.link.link_of.Goals as goal

pub returns-in-None-clause-link : goal.returns-in-None-clause-link
unfolding link_of
returns-in-None-clause-link c = rw (sym (c.in-None.ensures), sym c.trimmed.ensures) refl

pub returns-in-Some-To-clause-link : goal.returns-in-Some-To-clause-link
unfolding link_of
returns-in-Some-To-clause-link c =
    let is = rw c.in-Some-To.field-0-is at c.in-Some-To.ensures in
    rw (sym is) c.link_to.ensures.link

pub returns-in-Some-Between-clause-link : goal.returns-in-Some-Between-clause-link
unfolding link_of
returns-in-Some-Between-clause-link c =
    let is = rw c.in-Some-Between.field-0-is at c.in-Some-Between.ensures in
    rw (sym is) c.link_between.ensures.link
