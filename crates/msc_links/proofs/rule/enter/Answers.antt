use Rattle.std.proofs.Common.{sym, ◌∙◌}
use Rattle.msc_links.specs.Links.{fault_text}
use Rattle.msc_links.proofs.Entering.{entered, link_fault, second_kind}
use Rattle.msc_links.proofs.rule.enter.Goals as goal

pub returns-in-Err : goal.returns-in-Err
returns-in-Err c =
    link_fault c.args.names.now c.args.rules.now c.args.place _ c.requires.within (fault_text c.in-Err.fault) (sym c.in-Err.ensures.link)

pub returns-then-differs : goal.returns-then-differs
returns-then-differs c =
    rw c.trimmed.ensures (second_kind c.args.names.now c.args.rules.now c.args.place _ c.requires.within c.in-Ok.link c.args.table.now
    (sym c.in-Ok.ensures.link) c.requires.table c.in-Ok.ensures.within (rw c.kind.ensures at (sym c.differs.ensures ∙ c.if-differs.true)))

pub returns : goal.returns
returns c =
    entered c.args.names.now c.args.rules.now c.args.place _ c.requires.within c.in-Ok.link c.args.table.now
    (sym c.in-Ok.ensures.link) c.requires.table c.in-Ok.ensures.within c.put.new.self (rw c.kind.ensures at (sym c.differs.ensures ∙ c.if-differs.false)) c.put.ensures
