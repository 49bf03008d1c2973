-- The links of an architecture whose kind is not the usual one, by their receivers and then their
-- senders. If all links to a receiver are of one kind, they are listed as one.
use Rattle.std.specs.Prelude.{ℕ, zero, suc, Bool, true, ◌&&◌, cond, List, [], ◌∷◌, ◌++◌}
use Rattle.msc_chart.specs.declared.queue.LinkKind.{LinkKind}
use Rattle.msc_chart.specs.declared.queue.Queues.{Queues}
use Rattle.msc_chart.specs.declared.queue.Queues.TheVariants.{Uniform, Mixed}
use Rattle.msc_chart.specs.Architectures.{kind_of, usual_of}
use Rattle.msc_links.specs.declared.link.Link.{Link}
use Rattle.msc_links.specs.declared.link.Link.TheVariants.{To, Between}
use Rattle.msc_links.specs.declared.listing.ListedLink.{ListedLink}
use Rattle.msc_links.specs.Rules.{same_kind}

-- a link and its kind
abbrev pub listed_link : LinkKind → Link → ListedLink
listed_link kind link = record { kind = kind; link = link }

-- a link of this kind is listed, unless the kind is the usual one
abbrev pub unless_usual : Queues → LinkKind → Link → List ListedLink
unless_usual queues kind link = cond (same_kind kind (usual_of queues)) [] (listed_link kind link ∷ [])

-- what is listed of the links to r from the instances below s
abbrev pub links_below : Queues → ℕ → ℕ → List ListedLink
links_below queues r zero = []
links_below queues r (suc s) =
    links_below queues r s ++ unless_usual queues (kind_of queues s r) (Between s r)

-- the links to r from the instances below s are of one kind
abbrev pub are_alike : Queues → ℕ → ℕ → Bool
are_alike queues r zero = true
are_alike queues r (suc s) = are_alike queues r s && same_kind (kind_of queues s r) (kind_of queues 0 r)

-- what is listed of the links to r, among this many instances
abbrev pub links_to : Queues → ℕ → ℕ → List ListedLink
links_to queues count r =
    cond (are_alike queues r count) (unless_usual queues (kind_of queues 0 r) (To r)) (links_below queues r count)

-- what is listed of the links to the instances below r
abbrev pub receivers_below : Queues → ℕ → ℕ → List ListedLink
receivers_below queues count zero = []
receivers_below queues count (suc r) = receivers_below queues count r ++ links_to queues count r

-- the links between this many instances that are listed
abbrev pub listed_links : Queues → ℕ → List ListedLink
listed_links (Uniform kind) count = []
listed_links (Mixed links) count = receivers_below (Mixed links) count count
