-- An architecture is plain, in words and as options, if the names of the instances are.
use Rattle.std.proofs.Common.{◌≡◌, ℕ, true, List, [], ◌∷◌, ◌++◌, codes, get_or, length, refl}
use Rattle.msc_chart.specs.Architectures.{link_word, queues_word, usual_of}
use Rattle.msc_chart.specs.Drawings.{Drawing}
use Rattle.msc_chart.specs.declared.queue.Queues.{Queues}
use Rattle.msc_chart.specs.declared.queue.LinkKind.{LinkKind}
use Rattle.msc_chart.specs.declared.queue.LinkKind.TheVariants.{Pair, Mailbox, Single}
use Rattle.msc_links.specs.declared.link.Link.{Link}
use Rattle.msc_links.specs.declared.link.Link.TheVariants.{To, Between}
use Rattle.msc_links.specs.declared.listing.ListedLink.{ListedLink}
use Rattle.msc_links.specs.Listed.{listed_links}
use Rattle.msc_links.specs.Said.{clause_text, clauses_text, link_option, link_text, links_of_kind, more_links, name_at, options_text, queue_options, queues_said, quoted_link}
use Rattle.msc_picture.specs.Plain.{is_plain}
use Rattle.msc_picture.proofs.PlainBytes.{plain_by, plain_join}
use Rattle.msc_html.specs.Plain.{HasPlainInstances}

-- the word for a kind of links
link_plain : (kind : LinkKind) → is_plain (link_word kind) ≡ true
link_plain Pair = plain_by _ refl
link_plain Mailbox = plain_by _ refl
link_plain Single = plain_by _ refl

-- the word for an architecture
word_plain : (queues : Queues) → is_plain (queues_word queues) ≡ true
word_plain queues = link_plain (usual_of queues)

module _ (names : List (List ℕ)) (plain : (i : ℕ) → is_plain (get_or names i []) ≡ true) where
  link_text_plain : (link : Link) → is_plain (link_text names link) ≡ true
  link_text_plain (To receiver) = plain receiver
  link_text_plain (Between sender receiver) =
      plain_join (name_at names sender) _ (plain sender)
      (plain_join (codes ">") (name_at names receiver) (plain_by _ refl) (plain receiver))

  more_links_plain : (links : List Link) → is_plain (more_links names links) ≡ true
  more_links_plain [] = plain_by [] refl
  more_links_plain (link ∷ links) =
      plain_join (codes ", " ++ link_text names link) (more_links names links)
      (plain_join (codes ", ") (link_text names link) (plain_by _ refl) (link_text_plain link)) (more_links_plain links)

  clause_plain : (kind : LinkKind) (links : List Link) → is_plain (clause_text names kind links) ≡ true
  clause_plain kind [] = plain_by [] refl
  clause_plain kind (link ∷ links) =
      plain_join (codes "; ") _ (plain_by _ refl) (plain_join (link_word kind) _ (link_plain kind)
      (plain_join (codes " ") _ (plain_by _ refl)
      (plain_join (link_text names link) (more_links names links) (link_text_plain link) (more_links_plain links))))

  clauses_plain : (listed : List ListedLink) → is_plain (clauses_text names listed) ≡ true
  clauses_plain listed =
      plain_join (clause_text names Pair (links_of_kind Pair listed)) _ (clause_plain Pair _)
      (plain_join (clause_text names Mailbox (links_of_kind Mailbox listed))
      (clause_text names Single (links_of_kind Single listed)) (clause_plain Mailbox _) (clause_plain Single _))

  quoted_plain : (link : Link) → is_plain (quoted_link names link) ≡ true
  quoted_plain (To receiver) = link_text_plain (To receiver)
  quoted_plain (Between sender receiver) =
      plain_join (codes "'") _ (plain_by _ refl)
      (plain_join (link_text names (Between sender receiver)) (codes "'") (link_text_plain (Between sender receiver)) (plain_by _ refl))

  option_plain : (listed : ListedLink) → is_plain (link_option names listed) ≡ true
  option_plain listed =
      plain_join (codes " --") _ (plain_by _ refl) (plain_join (link_word listed.kind) _ (link_plain listed.kind)
      (plain_join (codes " ") (quoted_link names listed.link) (plain_by _ refl) (quoted_plain listed.link)))

  link_options_plain : (listed : List ListedLink) → is_plain (options_text names listed) ≡ true
  link_options_plain [] = plain_by [] refl
  link_options_plain (each ∷ others) =
      plain_join (link_option names each) (options_text names others) (option_plain each) (link_options_plain others)

-- an architecture in words
pub said_plain : (d : Drawing) (queues : Queues) → HasPlainInstances d → is_plain (queues_said d queues) ≡ true
unfolding queues_said
said_plain d queues names =
    plain_join (queues_word queues) _ (word_plain queues)
    (clauses_plain d.instances names (listed_links queues (length d.instances)))

-- and as options
pub options_plain : (d : Drawing) (queues : Queues) → HasPlainInstances d → is_plain (queue_options d queues) ≡ true
unfolding queue_options
options_plain d queues names =
    plain_join (codes "--queues ") _ (plain_by _ refl) (plain_join (queues_word queues) _ (word_plain queues)
    (link_options_plain d.instances names (listed_links queues (length d.instances))))
