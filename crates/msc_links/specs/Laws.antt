-- Laws of rules.
use Rattle.std.specs.Prelude.{◌≡◌, ◌↔◌, ℕ, true, List, None, Some}
use Rattle.msc_chart.specs.declared.queue.LinkKind.{LinkKind}
use Rattle.msc_chart.specs.Lists.{Occurs}
use Rattle.msc_links.specs.declared.line.LineNames.{LineNames}
use Rattle.msc_links.specs.declared.link.Link.{Link}
use Rattle.msc_links.specs.declared.link.Link.TheVariants.{Between}
use Rattle.msc_links.specs.declared.rule.Rule.{Rule}
use Rattle.msc_links.specs.Rules.{AreFaultless, given_kind, is_for, ruled_kind}

-- in a list without a fault, each rule for a link gives it its kind
abbrev pub EachRuleCounts : Type 0
EachRuleCounts = (names : List LineNames) (rules : List Rule) (rule : Rule) (link : Link)
    → AreFaultless names rules → Occurs rules rule → is_for names link rule ≡ true
    → given_kind names rules link ≡ Some rule.kind

-- two lists have the same rules, in any order and any number of times
abbrev pub HaveSameRules : List Rule → List Rule → Type 0
HaveSameRules rules others = (rule : Rule) → Occurs rules rule ↔ Occurs others rule

-- the order of rules does not matter, nor does a rule that is repeated
abbrev pub OrderDoesNotMatter : Type 0
OrderDoesNotMatter = (names : List LineNames) (rules others : List Rule)
    → AreFaultless names rules → HaveSameRules rules others
    → AreFaultless names others
    × ((link : Link) → given_kind names others link ≡ given_kind names rules link)

-- a rule of the command line for a link gives the link its kind, whatever else there is
abbrev pub GivenLinkRulesWin : Type 0
GivenLinkRulesWin = (usual : LinkKind) (text given : List Rule) (names : List LineNames) (rule : Rule) (s r : ℕ)
    → AreFaultless names given → Occurs given rule → is_for names (Between s r) rule ≡ true
    → ruled_kind usual text given names s r ≡ rule.kind

-- a rule of the text for a link gives the link its kind if no rule of the command line is for it,
-- whatever rules there are for its receiver
abbrev pub TextLinkRulesWin : Type 0
TextLinkRulesWin = (usual : LinkKind) (text given : List Rule) (names : List LineNames) (rule : Rule) (s r : ℕ)
    → AreFaultless names text → Occurs text rule → is_for names (Between s r) rule ≡ true
    → given_kind names given (Between s r) ≡ None
    → ruled_kind usual text given names s r ≡ rule.kind
