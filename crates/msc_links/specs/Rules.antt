-- What lists of rules mean: the kind of each link, and the first fault.
use Rattle.std.specs.Prelude.{◌≡◌, ℕ, ◌<◌, Bool, true, false, not, cond, ◌&&◌, List, take, Option, None, Some, Result, Ok, Err, find, option_map, unwrap_or}
use Rattle.std.specs.Option.{option_or}
use Rattle.std.specs.List.{list_any}
use Rattle.msc_chart.specs.declared.TheConstants.{INSTANCE_LIMIT}
use Rattle.msc_chart.specs.declared.queue.LinkKind.{LinkKind}
use Rattle.msc_chart.specs.declared.queue.LinkKind.TheVariants.{Pair, Mailbox, Single}
use Rattle.msc_chart.specs.declared.queue.Queues.{Queues}
use Rattle.msc_chart.specs.Architectures.{kind_of, usual_of}
use Rattle.msc_chart.specs.Lists.{StandsAt}
use Rattle.msc_links.specs.declared.fault.RulesFault.{RulesFault}
use Rattle.msc_links.specs.declared.fault.RulesFault.TheVariants.{Text, Given}
use Rattle.msc_links.specs.declared.line.LineNames.{LineNames}
use Rattle.msc_links.specs.declared.link.Link.{Link}
use Rattle.msc_links.specs.declared.link.Link.TheVariants.{To, Between}
use Rattle.msc_links.specs.declared.rule.Rule.{Rule}
use Rattle.msc_links.specs.Blanks.{trimmed}
use Rattle.msc_links.specs.Links.{FaultText, two_kinds, fault_text, link_of, same_link}

-- two kinds are the same
abbrev pub same_kind : LinkKind → LinkKind → Bool
same_kind Pair Pair = true
same_kind Pair Mailbox = false
same_kind Pair Single = false
same_kind Mailbox Pair = false
same_kind Mailbox Mailbox = true
same_kind Mailbox Single = false
same_kind Single Pair = false
same_kind Single Mailbox = false
same_kind Single Single = true

-- LINK means this link
abbrev pub means : Result Link FaultText → Link → Bool
means (Ok meant) link = same_link meant link
means (Err fault) link = false

-- the rule is for this link
unfoldable pub is_for : List LineNames → Link → Rule → Bool
is_for names link rule = means (link_of names rule.link.now) link

-- the kind that rules give a link: that of the first rule for it. Without a fault, each rule for
-- it has this kind
unfoldable pub given_kind : List LineNames → List Rule → Link → Option LinkKind
given_kind names rules link = option_map (λ rule. rule.kind) (find (is_for names link) rules)

-- some rule gives the link another kind
unfoldable pub has_other_kind : List LineNames → List Rule → Link → LinkKind → Bool
has_other_kind names rules link kind =
    list_any (λ rule. is_for names link rule && not (same_kind rule.kind kind)) rules

-- the fault of a rule whose LINK means this, after these rules: they give its link another kind
abbrev pub fault_among : List LineNames → List Rule → Rule → Result Link FaultText → Option FaultText
fault_among names earlier rule (Err fault) = Some fault
fault_among names earlier rule (Ok link) =
    cond (has_other_kind names earlier link rule.kind) (Some (two_kinds (trimmed rule.link.now))) None

-- the fault of a rule that follows these rules, if it has one
unfoldable pub fault_of : List LineNames → List Rule → Rule → Option FaultText
fault_of names earlier rule = fault_among names earlier rule (link_of names rule.link.now)

-- the rule at this place has no fault
abbrev pub HasNoFaultAt : List LineNames → List Rule → ℕ → Type 0
HasNoFaultAt names rules place =
    (rule : Rule) → StandsAt rules place rule → fault_of names (take place rules) rule ≡ None

-- the rule at this place has this fault
pub record HasFaultAt (names : List LineNames) (rules : List Rule) (place : ℕ) (fault : FaultText) : Type 0 where
  pub rule : Rule
  pub stands : StandsAt rules place rule
  pub here : fault_of names (take place rules) rule ≡ Some fault

-- no rule has a fault
pub record AreFaultless (names : List LineNames) (rules : List Rule) : Type 0 where
  pub each : (place : ℕ) → HasNoFaultAt names rules place

-- this is the fault of the first rule that has one
pub record IsFirstFault (names : List LineNames) (rules : List Rule) (fault : FaultText) : Type 0 where
  pub place : ℕ
  pub here : HasFaultAt names rules place fault
  pub first : (earlier : ℕ) → earlier < place → HasNoFaultAt names rules earlier

-- the kind of the link from a sender to a receiver. Rules for the link come before rules for its
-- receiver, and rules of the command line before rules of the text
unfoldable pub ruled_kind : LinkKind → List Rule → List Rule → List LineNames → ℕ → ℕ → LinkKind
ruled_kind usual text given names sender receiver =
    unwrap_or (option_or (given_kind names given (Between sender receiver))
    (option_or (given_kind names text (Between sender receiver))
    (option_or (given_kind names given (To receiver))
    (given_kind names text (To receiver))))) usual

-- the queues that the rules give: no rule has a fault, and each link has its kind
pub record AreRuled (usual : LinkKind) (text given : List Rule) (names : List LineNames) (queues : Queues) : Type 0 where
  pub text_is_faultless : AreFaultless names text
  pub given_are_faultless : AreFaultless names given
  pub usual_kind : usual_of queues ≡ usual
  pub kinds : (s r : ℕ) → s < INSTANCE_LIMIT → r < INSTANCE_LIMIT
      → kind_of queues s r ≡ ruled_kind usual text given names s r

-- this is the first fault of the two lists, and those of the text come first
abbrev pub IsRulesFault : List Rule → List Rule → List LineNames → RulesFault → Type 0
IsRulesFault text given names (Text fault) = IsFirstFault names text (fault_text fault)
IsRulesFault text given names (Given fault) =
    AreFaultless names text × IsFirstFault names given (fault_text fault)
