-- The queues of a chart or a diagram by the architecture and the rules of a command line, and by what
-- the text itself says of them.
use Rattle.std.specs.Prelude.{◌≡◌, ◌⊎◌, ℕ, zero, suc, Bool, true, not, ◌&&◌, List, [], ◌∷◌, ◌++◌, get_or, length, map, nat_eq, slice_get, Option, None, Some, Result, Ok, Err}
use Rattle.msc_chart.specs.declared.queue.LinkKind.{LinkKind}
use Rattle.msc_chart.specs.declared.queue.LinkKind.TheVariants as kinds
use Rattle.msc_chart.specs.declared.queue.Queues.{Queues}
use Rattle.msc_chart.specs.declared.queue.Queues.TheVariants.{Uniform}
use Rattle.msc_chart.specs.Architectures.{usual_of}
use Rattle.msc_chart.specs.Drawings.{Drawing, chart_of}
use Rattle.msc_import.specs.declared.importing.Imported.{Imported}
use Rattle.msc_import.specs.declared.drawings.Scenario.{Scenario as Drawn}
use Rattle.msc_import.specs.declared.spanning.TextSpans.{TextSpans}
use Rattle.msc_links.specs.declared.fault.LinkFault.{LinkFault}
use Rattle.msc_links.specs.declared.fault.RulesFault.{RulesFault}
use Rattle.msc_links.specs.declared.fault.RulesFault.TheVariants as faults
use Rattle.msc_links.specs.declared.line.LineNames.{LineNames}
use Rattle.msc_links.specs.declared.rule.Rule.{Rule}
use Rattle.msc_links.specs.Comments.{OwnText, own_text, plain_rules}
use Rattle.msc_links.specs.Rules.{AreRuled, IsRulesFault}
use Rattle.msc_mermaid.specs.declared.statement.Span.{Span}
use Rattle.msc_report.specs.declared.fault.Fault.TheVariants.{Memory}
use Rattle.msc_answer.specs.Charted.{ChartedText}
use Rattle.msc_answer.specs.Own.{OwnSaid, silent, unclear, named, said_in, SaysIf, SaysInChart, ShowsInChart, ShowsInDiagram}
use Rattle.msc_answer.specs.Spans.{bytes_at, bytes_if}
use Rattle.msc_answer.specs.declared.own.LinkRefusal.{LinkRefusal}
use Rattle.msc_answer.specs.declared.own.LinkRefusal.TheVariants as refused
use Rattle.msc_answer.specs.declared.own.OwnComment.{OwnComment}
use Rattle.msc_answer.specs.declared.own.OwnPlace.{OwnPlace}
use Rattle.msc_answer.specs.declared.ending.Refusal.{Refusal}
use Rattle.msc_answer.specs.declared.ending.Refusal.TheVariants as refusals
use Rattle.msc_answer.specs.declared.tasks.ChartCommand.{ChartCommand}
use Rattle.msc_answer.specs.declared.tasks.ChartCommand.TheVariants.{Check, Quiet, Explain, Follow, Run, List as Listing, Ready}
use Rattle.msc_answer.specs.declared.tasks.LinkWords.{LinkWords}

-- the kinds and the links of rules
abbrev pub seen_rules : List Rule → List (LinkKind × List ℕ)
seen_rules rules = map (λ r. (r.kind, r.link.now)) rules

-- a rule of this kind for each of these links
abbrev pub ruled_by : LinkKind → List (List ℕ) → List (LinkKind × List ℕ)
ruled_by kind links = map (λ link. (kind, link)) links

-- the rules that the words give: those for pairs, then those for mailboxes and for single links
abbrev pub rules_in : LinkWords → List (LinkKind × List ℕ)
rules_in words =
    (ruled_by kinds.Pair (map (λ w. w.now) words.pairs.now)
    ++ ruled_by kinds.Mailbox (map (λ w. w.now) words.mailboxes.now))
    ++ ruled_by kinds.Single (map (λ w. w.now) words.singles.now)

-- what this gives for each number below a number, in order
abbrev pub listed_below : (ℕ → List ℕ) → ℕ → List (List ℕ)
listed_below f zero = []
listed_below f (suc i) = listed_below f i ++ (f i ∷ [])

-- the names of the first lines
pub record AreNames (own shown made : ℕ → List ℕ) (count : ℕ) (names : List LineNames) : Type 0 where
  pub count_is : length names ≡ count
  pub own_are : map (λ n. n.own.now) names ≡ listed_below own count
  pub shown_are : map (λ n. n.shown.now) names ≡ listed_below shown count
  pub made_are : map (λ n. n.made.now) names ≡ listed_below made count

-- the name of instance i
abbrev pub made_name : Drawing → ℕ → List ℕ
made_name d i = get_or d.instances i []

-- each line of a chart has one name: that of its instance
abbrev pub AreNamesIn : Drawing → List LineNames → Type 0
AreNamesIn d names = AreNames (made_name d) (made_name d) (made_name d) (length d.instances) names

-- the name by which a text calls line i
abbrev pub own_name : List ℕ → List Span → ℕ → List ℕ
own_name text names i = bytes_if text (slice_get names i)

-- the name with which a text shows a line that it calls so
abbrev pub shown_if : List ℕ → List ℕ → Option (Option Span) → List ℕ
shown_if text own None = own
shown_if text own (Some None) = own
shown_if text own (Some (Some span)) = bytes_at text span

-- the name with which a text shows line i: its own, if it has no other
abbrev pub shown_name : List ℕ → TextSpans → ℕ → List ℕ
shown_name text spans i = shown_if text (own_name text spans.names i) (slice_get spans.shown i)

-- the names of the lines of a diagram: those of the text, and those of the instances of a scenario's chart
abbrev pub AreNamesOf : List ℕ → TextSpans → Drawing → List LineNames → Type 0
AreNamesOf text spans d names =
    AreNames (own_name text spans.names) (shown_name text spans) (made_name d) (length d.instances) names

-- the fault of a rule, in whichever list it is
abbrev pub link_fault : RulesFault → LinkFault
link_fault (faults.Text fault) = fault
link_fault (faults.Given fault) = fault

-- the rules of a command line, of which this is said
abbrev pub OfRules : LinkWords → (List Rule → Type 0) → Type 0
OfRules words says = (rules : List Rule) × (seen_rules rules ≡ rules_in words) × says rules

-- the rules that a text names itself, of which this is said
abbrev pub OfOwn : OwnText → (List Rule → Type 0) → Type 0
OfOwn own says = (rules : List Rule) × (plain_rules rules ≡ own.rules) × says rules

-- the queues that the words and the rules of a text give for lines with these names
abbrev pub AreRuledWith : OwnText → LinkWords → List LineNames → Queues → Type 0
AreRuledWith own words names queues =
    OfOwn own (λ text. OfRules words (λ given. AreRuled own.usual text given names queues))

-- the words have this fault, and the rules of the text have none
abbrev pub HasGivenFaultWith : OwnText → LinkWords → List LineNames → LinkFault → Type 0
HasGivenFaultWith own words names fault =
    OfOwn own (λ text. OfRules words (λ given. IsRulesFault text given names (faults.Given fault)))

-- the rules of the text have this fault, the first one
abbrev pub HasTextFault : OwnText → LinkWords → List LineNames → LinkFault → Type 0
HasTextFault own words names fault =
    OfOwn own (λ text. OfRules words (λ given. IsRulesFault text given names (faults.Text fault)))

-- the queues by what the text says. If it names none, links are of the usual kind of the command line
abbrev pub AreRuledBy : LinkKind → OwnSaid → LinkWords → List LineNames → Queues → Type 0
AreRuledBy usual silent words names queues = OfRules words (λ given. AreRuled usual [] given names queues)
AreRuledBy usual (unclear at) words names queues = ⊥
AreRuledBy usual (named at own) words names queues = AreRuledWith own words names queues

-- the words have this fault, the first one of all
abbrev pub HasGivenFault : OwnSaid → LinkWords → List LineNames → LinkFault → Type 0
HasGivenFault silent words names fault =
    OfRules words (λ given. (found : RulesFault) × (link_fault found ≡ fault) × IsRulesFault [] given names found)
HasGivenFault (unclear at) words names fault = ⊥
HasGivenFault (named at own) words names fault = HasGivenFaultWith own words names fault

-- what rules give lines with these names if the text names no queues
abbrev pub IsRuledWithout : LinkKind → LinkWords → List LineNames → Result Queues Refusal → Type 0
IsRuledWithout usual words names (Ok queues) = AreRuledBy usual silent words names queues
IsRuledWithout usual words names (Err (refusals.Link (refused.Given fault))) = HasGivenFault silent words names fault
IsRuledWithout usual words names (Err (refusals.Fault Memory)) = Unit {0}
IsRuledWithout usual words names (Err refusal) = ⊥

-- what rules give them if it names queues in the comment that the code has found
abbrev pub IsRuledWith : OwnComment → LinkWords → List LineNames → Result Queues Refusal → Type 0
IsRuledWith own words names (Ok queues) = AreRuledWith (own_text own.queues) words names queues
IsRuledWith own words names (Err (refusals.Link (refused.Given fault))) = HasGivenFaultWith (own_text own.queues) words names fault
IsRuledWith own words names (Err (refusals.Link (refused.Text fault place))) =
    (place ≡ own.place) × HasTextFault (own_text own.queues) words names fault
IsRuledWith own words names (Err (refusals.Fault Memory)) = Unit {0}
IsRuledWith own words names (Err refusal) = ⊥

-- what rules give them, whether it names queues or not
abbrev pub IsRuledBy : LinkKind → Option OwnComment → LinkWords → List LineNames → Result Queues Refusal → Type 0
IsRuledBy usual None words names result = IsRuledWithout usual words names result
IsRuledBy usual (Some own) words names result = IsRuledWith own words names result

-- The queues of lines. What the text says and which names the lines have is given.
abbrev pub AreLinkedBy : (OwnSaid → Type 0) → (List LineNames → Type 0) → LinkKind → LinkWords → Queues → Type 0
AreLinkedBy says are_names usual words queues =
    (said : OwnSaid) × says said × (names : List LineNames) × are_names names × AreRuledBy usual said words names queues

-- Why the words and the text give no queues. How a place is shown is given, too.
abbrev pub HasFaultBy : (OwnSaid → Type 0) → (ℕ → OwnPlace → Type 0) → (List LineNames → Type 0) → LinkWords → LinkRefusal → Type 0
HasFaultBy says shows are_names words (refused.Given fault) =
    (said : OwnSaid) × says said × (names : List LineNames) × are_names names × HasGivenFault said words names fault
HasFaultBy says shows are_names words (refused.Text fault place) =
    (at : ℕ) × (own : OwnText) × says (named at own) × shows at place
    × (names : List LineNames) × are_names names × HasTextFault own words names fault
HasFaultBy says shows are_names words (refused.Unclear place) = (at : ℕ) × says (unclear at) × shows at place

-- the queues of lines, or why there are none
abbrev pub IsLinkedBy : (OwnSaid → Type 0) → (ℕ → OwnPlace → Type 0) → (List LineNames → Type 0) → LinkKind → LinkWords → Result Queues Refusal → Type 0
IsLinkedBy says shows are_names usual words (Ok queues) = AreLinkedBy says are_names usual words queues
IsLinkedBy says shows are_names usual words (Err (refusals.Link fault)) = HasFaultBy says shows are_names words fault
IsLinkedBy says shows are_names usual words (Err (refusals.Fault Memory)) = Unit {0}
IsLinkedBy says shows are_names usual words (Err refusal) = ⊥

-- what a text says of its queues: in the comment of its chart, or in the comment lines of its diagram
abbrev pub SaysIn : Option Imported → List ℕ → OwnSaid → Type 0
SaysIn None text = SaysInChart text
SaysIn (Some is) text = λ said. said ≡ said_in text is.spans.comments

-- the same if it is asked
abbrev pub TextSays : LinkWords → ChartedText → OwnSaid → Type 0
TextSays words s = SaysIf words.own (SaysIn s.imported s.text)

-- how a refusal shows a place in a text
abbrev pub ShowsIn : Option Imported → List ℕ → ℕ → OwnPlace → Type 0
ShowsIn None text = ShowsInChart text
ShowsIn (Some is) text = ShowsInDiagram text

-- the names of the lines of a text: those of the instances, and of a diagram those of the text too
abbrev pub AreNamesBy : Option Imported → List ℕ → Drawing → List LineNames → Type 0
AreNamesBy None text d = AreNamesIn d
AreNamesBy (Some is) text d = AreNamesOf text is.spans d

-- the queues of the chart of a text: links that no rule names are of the usual kind
abbrev pub AreLinked : LinkKind → LinkWords → ChartedText → Queues → Type 0
AreLinked usual words s queues = AreLinkedBy (TextSays words s) (AreNamesBy s.imported s.text s.chart) usual words queues

-- why it has no queues
abbrev pub HasLinkFault : LinkWords → ChartedText → LinkRefusal → Type 0
HasLinkFault words s fault =
    HasFaultBy (TextSays words s) (ShowsIn s.imported s.text) (AreNamesBy s.imported s.text s.chart) words fault

-- the queues, or why there are none
abbrev pub IsLinked : LinkKind → LinkWords → ChartedText → Result Queues Refusal → Type 0
IsLinked usual words s result =
    IsLinkedBy (TextSays words s) (ShowsIn s.imported s.text) (AreNamesBy s.imported s.text s.chart) usual words result

-- what the text of a diagram says by one of its scenarios, if it is asked
abbrev pub DiagramSays : LinkWords → List ℕ → Drawn → OwnSaid → Type 0
DiagramSays words text s = SaysIf words.own (λ said. said ≡ said_in text s.spans.comments)

-- the names of the lines of a diagram by one of its scenarios
abbrev pub AreNamesAt : List ℕ → Drawn → List LineNames → Type 0
AreNamesAt text s names = AreNamesOf text s.spans (chart_of s.draft) names

-- the queues of a diagram by one of its scenarios, or why there are none
abbrev pub IsLinkedAt : LinkKind → LinkWords → List ℕ → Drawn → Result Queues Refusal → Type 0
IsLinkedAt usual words text s result =
    IsLinkedBy (DiagramSays words text s) (ShowsInDiagram text) (AreNamesAt text s) usual words result

-- the words give no rules, and the text is not asked for its own
abbrev pub has_none : LinkWords → Bool
has_none words =
    not words.own && ((nat_eq (length words.pairs.now) 0 && nat_eq (length words.mailboxes.now) 0) && nat_eq (length words.singles.now) 0)

-- the queues of a diagram with these scenarios: those by the first one, or the usual kind without rules
abbrev pub AreLinkedIn : LinkKind → LinkWords → List ℕ → List Drawn → Queues → Type 0
AreLinkedIn usual words text [] queues = queues ≡ Uniform usual
AreLinkedIn usual words text (s ∷ scenarios) queues =
    ((has_none words ≡ true) × (queues ≡ Uniform usual)) ⊎ IsLinkedAt usual words text s (Ok queues)

-- why a diagram with these scenarios has no queues
abbrev pub HasLinkFaultIn : LinkWords → List ℕ → List Drawn → LinkRefusal → Type 0
HasLinkFaultIn words text [] fault = ⊥
HasLinkFaultIn words text (s ∷ scenarios) fault =
    HasFaultBy (DiagramSays words text s) (ShowsInDiagram text) (AreNamesAt text s) words fault

-- the queues of a diagram, or why there are none
abbrev pub IsLinkedIn : LinkKind → LinkWords → List ℕ → List Drawn → Result Queues Refusal → Type 0
IsLinkedIn usual words text scenarios (Ok queues) = AreLinkedIn usual words text scenarios queues
IsLinkedIn usual words text scenarios (Err (refusals.Link fault)) = HasLinkFaultIn words text scenarios fault
IsLinkedIn usual words text scenarios (Err (refusals.Fault Memory)) = Unit {0}
IsLinkedIn usual words text scenarios (Err refusal) = ⊥

-- the kind of the links that no rule names
abbrev pub usual_in : ChartCommand → LinkKind
usual_in (Check c) = usual_of c.queues
usual_in (Quiet x) = usual_of x.queues
usual_in (Explain x) = usual_of x.queues
usual_in (Follow x) = usual_of x.queues
usual_in (Run queues patience) = usual_of queues
usual_in (Listing placed) = kinds.Pair
usual_in (Ready x) = usual_of x.queues

-- the same command under another architecture
abbrev pub under : Queues → ChartCommand → ChartCommand
under queues (Check c) = Check (record c { queues = queues })
under queues (Quiet x) = Quiet (record x { queues = queues })
under queues (Explain x) = Explain (record x { queues = queues })
under queues (Follow x) = Follow (record x { queues = queues })
under queues (Run other patience) = Run queues patience
under queues (Listing placed) = Listing placed
under queues (Ready x) = Ready (record x { queues = queues })
