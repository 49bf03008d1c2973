-- An architecture as one text: the word for its usual kind, and the links that are listed.
use Rattle.std.specs.Prelude.{◌≡◌, ℕ, cond, List, [], ◌∷◌, ◌++◌, codes, fold, get_or, length, map, Result, Ok, Err}
use Rattle.std.specs.List.{flat_map, list_any}
use Rattle.msc_chart.specs.declared.queue.LinkKind.{LinkKind}
use Rattle.msc_chart.specs.declared.queue.LinkKind.TheVariants.{Pair, Mailbox, Single}
use Rattle.msc_chart.specs.declared.queue.Queues.{Queues}
use Rattle.msc_chart.specs.Architectures.{link_word, queues_word}
use Rattle.msc_chart.specs.Drawings.{Drawing}
use Rattle.msc_links.specs.declared.comment.OwnQueues.{OwnQueues}
use Rattle.msc_links.specs.declared.line.LineNames.{LineNames}
use Rattle.msc_links.specs.declared.link.Link.{Link}
use Rattle.msc_links.specs.declared.link.Link.TheVariants.{To, Between}
use Rattle.msc_links.specs.declared.listing.ListedLink.{ListedLink}
use Rattle.msc_links.specs.declared.rule.Rule.{Rule}
use Rattle.msc_links.specs.Links.{FaultText, link_of, same_link}
use Rattle.msc_links.specs.Listed.{listed_link, listed_links}
use Rattle.msc_links.specs.Rules.{same_kind, AreFaultless, IsFirstFault}

-- the name of a line
abbrev pub name_at : List (List ℕ) → ℕ → List ℕ
name_at names line = get_or names line []

-- LINK: the name of a receiver, or those of a sender and a receiver
abbrev pub link_text : List (List ℕ) → Link → List ℕ
link_text names (To receiver) = name_at names receiver
link_text names (Between sender receiver) =
    name_at names sender ++ (codes ">" ++ name_at names receiver)

-- the links of this kind, in order
abbrev pub links_of_kind : LinkKind → List ListedLink → List Link
links_of_kind kind listed =
    flat_map (λ each. cond (same_kind each.kind kind) (each.link ∷ []) []) listed

-- the texts of links, a comma before each
abbrev pub more_links : List (List ℕ) → List Link → List ℕ
more_links names links = flat_map (λ link. codes ", " ++ link_text names link) links

-- `; KIND LINK, LINK..` if there are links of this kind
abbrev pub clause_text : List (List ℕ) → LinkKind → List Link → List ℕ
clause_text names kind [] = []
clause_text names kind (link ∷ links) =
    codes "; " ++ (link_word kind ++ (codes " " ++ (link_text names link ++ more_links names links)))

-- the clauses of links, by their kinds
abbrev pub clauses_text : List (List ℕ) → List ListedLink → List ℕ
clauses_text names listed =
    clause_text names Pair (links_of_kind Pair listed)
    ++ (clause_text names Mailbox (links_of_kind Mailbox listed)
    ++ clause_text names Single (links_of_kind Single listed))

-- an architecture between this number of instances, which have these names
abbrev pub queues_named : List (List ℕ) → ℕ → Queues → List ℕ
queues_named names count queues =
    queues_word queues ++ clauses_text names (listed_links queues count)

-- an architecture between the instances of a chart
unfoldable pub queues_said : Drawing → Queues → List ℕ
queues_said d queues = queues_named d.instances (length d.instances) queues

-- LINK as a shell takes it: an arrow needs quotes
abbrev pub quoted_link : List (List ℕ) → Link → List ℕ
quoted_link names (To receiver) = link_text names (To receiver)
quoted_link names (Between sender receiver) =
    codes "'" ++ (link_text names (Between sender receiver) ++ codes "'")

-- the option that gives a link its kind
abbrev pub link_option : List (List ℕ) → ListedLink → List ℕ
link_option names listed =
    codes " --" ++ (link_word listed.kind ++ (codes " " ++ quoted_link names listed.link))

-- the options of links
abbrev pub options_text : List (List ℕ) → List ListedLink → List ℕ
options_text names listed = flat_map (link_option names) listed

-- the options that give an architecture on a command line
unfoldable pub queue_options : Drawing → Queues → List ℕ
queue_options d queues =
    codes "--queues " ++ (queues_word queues
    ++ options_text d.instances (listed_links queues (length d.instances)))

-- one more link of this kind, unless the link is there
abbrev pub with_link : List ListedLink → LinkKind → Result Link FaultText → List ListedLink
with_link listed kind (Err fault) = listed
with_link listed kind (Ok link) =
    cond (list_any (λ each. same_link each.link link) listed) listed (listed ++ listed_link kind link ∷ [])

-- the link of one more rule
abbrev pub with_rule : List LineNames → List ListedLink → Rule → List ListedLink
with_rule names listed rule = with_link listed rule.kind (link_of names rule.link.now)

-- the links that rules name, each once, in the order of the rules
abbrev pub ruled_links : List LineNames → List Rule → List ListedLink
ruled_links names rules = fold (with_rule names) [] rules

-- the names that were made for lines
abbrev pub made_names : List LineNames → List (List ℕ)
made_names names = map (λ line. line.made.now) names

-- the rules that a text names itself, with the names that were made for its lines
unfoldable pub own_said : List LineNames → OwnQueues → List ℕ
own_said names own =
    codes "queues " ++ (link_word own.usual
    ++ clauses_text (made_names names) (ruled_links names own.rules.items))

-- some rule has a fault
abbrev pub HasFault : List LineNames → List Rule → Type 0
HasFault names rules = (fault : FaultText) × IsFirstFault names rules fault

-- no rule has a fault, and the text says the rules
pub record SaysOwn (names : List LineNames) (own : OwnQueues) (text : List ℕ) : Type 0 where
  pub faultless : AreFaultless names own.rules.items
  pub text_is : text ≡ own_said names own
