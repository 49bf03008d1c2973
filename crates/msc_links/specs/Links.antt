-- The link that LINK means, among the lines of a chart or a diagram.
use Rattle.std.specs.Prelude.{ℕ, ◌<◌, Bool, false, ◌&&◌, nat_eq, List, Option, None, Some, Result, Ok, Err}
use Rattle.std.specs.List.{position}
use Rattle.std.specs.Option.{ok_or, option_or}
use Rattle.std.specs.Str.{bytes_eq}
use Rattle.msc_chart.specs.declared.TheConstants.{INSTANCE_LIMIT}
use Rattle.msc_links.specs.declared.fault.LinkFault.{LinkFault}
use Rattle.msc_links.specs.declared.fault.LinkFault.TheVariants.{NoLink, NoInstance, TwoKinds}
use Rattle.msc_links.specs.declared.line.LineNames.{LineNames}
use Rattle.msc_links.specs.declared.link.Link.{Link}
use Rattle.msc_links.specs.declared.link.Link.TheVariants.{To, Between}
use Rattle.msc_links.specs.Blanks.{trimmed}
use Rattle.msc_links.specs.Names.{SpelledLink, to_name, between_names, spelled}

-- a fault of a rule, with the bytes that it shows
pub data FaultText : Type 0 where
  no_link : List ℕ → FaultText
  no_instance : List ℕ → FaultText
  two_kinds : List ℕ → FaultText

-- what a fault shows
abbrev pub fault_text : LinkFault → FaultText
fault_text (NoLink link) = no_link link.now
fault_text (NoInstance name) = no_instance name.now
fault_text (TwoKinds link) = two_kinds link.now

-- the line with a name: the first whose own name it is; otherwise the first that is shown with it;
-- otherwise the first for which it was made
unfoldable pub line_of : List LineNames → List ℕ → Option ℕ
line_of names name =
    option_or (position (λ line. bytes_eq line.own.now name) names)
    (option_or (position (λ line. bytes_eq line.shown.now name) names)
    (position (λ line. bytes_eq line.made.now name) names))

-- the line with a name, or the fault that there is none
abbrev pub known : List LineNames → List ℕ → Result ℕ FaultText
known names name = ok_or (line_of names name) (no_instance name)

-- all links to a line
abbrev pub link_to : Result ℕ FaultText → Result Link FaultText
link_to (Err fault) = Err fault
link_to (Ok receiver) = Ok (To receiver)

-- the link between two lines; a fault of the sender comes first
abbrev pub link_between : Result ℕ FaultText → Result ℕ FaultText → Result Link FaultText
link_between (Err fault) receiver = Err fault
link_between (Ok sender) (Err fault) = Err fault
link_between (Ok sender) (Ok receiver) = Ok (Between sender receiver)

-- the link between the lines with these names, if LINK has one of the two forms
abbrev pub link_named : List LineNames → List ℕ → Option SpelledLink → Result Link FaultText
link_named names text None = Err (no_link text)
link_named names text (Some (to_name receiver)) = link_to (known names receiver)
link_named names text (Some (between_names sender receiver)) =
    link_between (known names sender) (known names receiver)

-- the link that LINK means, or what is wrong with LINK
unfoldable pub link_of : List LineNames → List ℕ → Result Link FaultText
link_of names link = link_named names (trimmed link) (spelled link)

-- two links are the same: the same receiver, and the same sender or none
abbrev pub same_link : Link → Link → Bool
same_link (To r) (To y) = nat_eq r y
same_link (To r) (Between x y) = false
same_link (Between s r) (To y) = false
same_link (Between s r) (Between x y) = nat_eq s x && nat_eq r y

-- the lines of a link are instances of a chart
abbrev pub IsWithin : Link → Type 0
IsWithin (To receiver) = receiver < INSTANCE_LIMIT
IsWithin (Between sender receiver) = (sender < INSTANCE_LIMIT) × (receiver < INSTANCE_LIMIT)
