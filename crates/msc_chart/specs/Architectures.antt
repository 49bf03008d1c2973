-- The kinds of links, the words for them, and architectures: a kind for each link.
use Rattle.std.specs.Prelude.{◌≡◌, ℕ, ◌+◌, ◌*◌, ◌<◌, ◌&&◌, cond, List, [], ◌∷◌, Option, find, codes, nat_eq}
use Rattle.std.specs.Str.{bytes_eq}
use Rattle.bit_rows.specs.Rows.{has}
use Rattle.msc_chart.specs.declared.TheConstants.{INSTANCE_LIMIT}
use Rattle.msc_chart.specs.declared.queue.LinkKind.{LinkKind}
use Rattle.msc_chart.specs.declared.queue.LinkKind.TheVariants.{Pair, Mailbox, Single}
use Rattle.msc_chart.specs.declared.queue.Links.{Links}
use Rattle.msc_chart.specs.declared.queue.Queues.{Queues}
use Rattle.msc_chart.specs.declared.queue.Queues.TheVariants.{Uniform, Mixed}

-- the word for a kind
abbrev pub link_word : LinkKind → List ℕ
link_word Pair = codes "pair"
link_word Mailbox = codes "mailbox"
link_word Single = codes "single"

-- each kind once
abbrev pub link_kinds : List LinkKind
link_kinds = Pair ∷ Mailbox ∷ Single ∷ []

-- the kind that a word stands for
unfoldable pub link_kind_of_word : List ℕ → Option LinkKind
link_kind_of_word word = find (λ kind. bytes_eq word (link_word kind)) link_kinds

-- the number of the link from a sender to a receiver
abbrev pub link_number : ℕ → ℕ → ℕ
link_number sender receiver = sender * INSTANCE_LIMIT + receiver

-- the kind of the link from a sender to a receiver, if links may differ
unfoldable pub link_kind : Links → ℕ → ℕ → LinkKind
link_kind links sender receiver =
    cond (has links.pairs (link_number sender receiver)) Pair
    (cond (has links.mailboxes (link_number sender receiver)) Mailbox Single)

-- the kind of the link from a sender to a receiver
unfoldable pub kind_of : Queues → ℕ → ℕ → LinkKind
kind_of (Uniform kind) sender receiver = kind
kind_of (Mixed links) sender receiver = link_kind links sender receiver

-- the kind of the links that no rule names
abbrev pub usual_of : Queues → LinkKind
usual_of (Uniform kind) = kind
usual_of (Mixed links) = links.usual

-- the word for an architecture: that of its usual kind
abbrev pub queues_word : Queues → List ℕ
queues_word queues = link_word (usual_of queues)

-- all links are of one kind
abbrev pub AreAllOfKind : Links → LinkKind → Type 0
AreAllOfKind links kind =
    (s r : ℕ) → s < INSTANCE_LIMIT → r < INSTANCE_LIMIT → link_kind links s r ≡ kind

-- one link has been given a kind, and all others have theirs
abbrev pub HasGiven : Links → Links → ℕ → ℕ → LinkKind → Type 0
HasGiven old new sender receiver kind =
    (s r : ℕ) → s < INSTANCE_LIMIT → r < INSTANCE_LIMIT
    → link_kind new s r ≡ cond (nat_eq s sender && nat_eq r receiver) kind (link_kind old s r)
