-- The queues of a text under the architectures of a scan.
use Rattle.std.specs.Prelude.{◌≡◌, ◌⊎◌, ℕ, Bool, true, false, not, cond, List, [], ◌∷◌, ◌++◌, Result, Ok, Err}
use Rattle.std.specs.List.{filter, list_any}
use Rattle.std.specs.Str.{bytes_eq}
use Rattle.msc_chart.specs.Drawings.{Drawing}
use Rattle.msc_chart.specs.declared.queue.Queues.{Queues}
use Rattle.msc_links.specs.Links.{FaultText, link_of, no_instance, no_link, two_kinds}
use Rattle.msc_links.specs.declared.fault.LinkFault.TheVariants as links
use Rattle.msc_links.specs.declared.fault.RulesFault.{RulesFault}
use Rattle.msc_links.specs.declared.fault.RulesFault.TheVariants as faults
use Rattle.msc_links.specs.declared.line.LineNames.{LineNames}
use Rattle.msc_links.specs.declared.link.Link.{Link}
use Rattle.msc_report.specs.Links.{queues_text}
use Rattle.msc_answer.specs.Linked.{AreNamesOf, IsLinked, IsLinkedBy}
use Rattle.msc_answer.specs.Own.{SaysIf, ShowsInDiagram, said_in}
use Rattle.msc_answer.specs.Refused.{is_spent}
use Rattle.msc_answer.specs.declared.ending.Refusal.{Refusal}
use Rattle.msc_answer.specs.declared.tasks.LinkWords.{LinkWords}
use Rattle.msc_scanning.specs.Words.{links_under, words_in}
use Rattle.msc_scanning.specs.declared.queues.Linked.{Linked}
use Rattle.msc_scanning.specs.declared.queues.Linked.TheVariants as linked
use Rattle.msc_scanning.specs.declared.words.Architecture.{Architecture}

-- a rule is for a line that the text lacks
abbrev pub lacks_line : Result Link FaultText → Bool
lacks_line (Ok link) = false
lacks_line (Err (no_link link)) = false
lacks_line (Err (no_instance name)) = true
lacks_line (Err (two_kinds link)) = false

-- so are the queues of a rule alone refused for a line that there is not
abbrev pub is_lacking : Result Queues RulesFault → Bool
is_lacking (Ok queues) = false
is_lacking (Err (faults.Text fault)) = false
is_lacking (Err (faults.Given (links.NoLink link))) = false
is_lacking (Err (faults.Given (links.NoInstance name))) = true
is_lacking (Err (faults.Given (links.TwoKinds link))) = false

-- it is not
abbrev pub knows : List LineNames → List ℕ → Bool
knows names link = not (lacks_line (link_of names link))

-- the rules of a command line for lines that a text has; the others are passed over
pub record AreKnown (names : List LineNames) (links known : LinkWords) : Type 0 where
  pub pairs : words_in known.pairs.now ≡ filter (knows names) (words_in links.pairs.now)
  pub mailboxes : words_in known.mailboxes.now ≡ filter (knows names) (words_in links.mailboxes.now)
  pub singles : words_in known.singles.now ≡ filter (knows names) (words_in links.singles.now)

-- the queues of a text under an architecture, or why it has none
abbrev pub IsQueued : Architecture → LinkWords → Linked → Result Queues Refusal → Type 0
IsQueued a links (linked.Chart source) result = IsLinked a.usual (links_under a links) source.now result
IsQueued a links (linked.Diagram text first) result =
    IsLinkedBy (SaysIf a.own (λ said. said ≡ said_in text.now first.now.spans.comments)) (ShowsInDiagram text.now)
    (AreNamesOf text.now first.now.spans first.now.chart) a.usual (links_under a links) result

-- the chart whose links these are
abbrev pub linked_chart : Linked → Drawing
linked_chart (linked.Chart source) = source.now.chart
linked_chart (linked.Diagram text first) = first.now.chart

-- these with one more, unless one with the same lines is there
abbrev pub with_queues : Drawing → List Queues → Queues → List Queues
with_queues d found queues =
    cond (list_any (λ it. bytes_eq (queues_text d it) (queues_text d queues)) found) found (found ++ queues ∷ [])

-- the queues of a text under architectures, each once, behind some that were found before
abbrev pub AreQueues : LinkWords → Linked → List Architecture → List Queues → List Queues → Type 0
AreQueues links of [] found all = all ≡ found
AreQueues links of (a ∷ others) found all =
    (queues : Queues) × IsQueued a links of (Ok queues) × AreQueues links of others (with_queues (linked_chart of) found queues) all

-- the text has no queues under some architecture, or memory ran out
abbrev pub IsUnqueued : LinkWords → Linked → Refusal → Type 0
IsUnqueued links of refusal =
    (is_spent refusal ≡ true) ⊎ ((a : Architecture) × IsQueued a links of (Err refusal))
