use Rattle.std.proofs.Common.{refl}
use Rattle.msc_links.specs.declared.link.Link.TheVariants.{Between}
use Rattle.msc_links.specs.Rules.{ruled_kind}
use Rattle.msc_links.proofs.Orderings.{each_counts}
use Rattle.msc_links.proofs.laws.rules_of_links_win.Goals as goal

pub returns-clause-given : goal.returns-clause-given
unfolding ruled_kind
returns-clause-given c usual text given names rule s r faultless occurs is =
    rw (each_counts names given rule (Between s r) faultless occurs is) refl

pub returns-clause-text : goal.returns-clause-text
unfolding ruled_kind
returns-clause-text c usual text given names rule s r faultless occurs is none =
    rw (none, each_counts names text rule (Between s r) faultless occurs is) refl
