-- Small charts, and what the definitions say of their races and runs.
use Rattle.std.specs.Prelude.{ℕ, List, [], ◌∷◌}
use Rattle.msc_chart.specs.declared.queue.LinkKind.{LinkKind}
use Rattle.msc_chart.specs.declared.queue.LinkKind.TheVariants.{Mailbox}
use Rattle.msc_chart.specs.declared.queue.Queues.TheVariants.{Uniform}
use Rattle.msc_parser.specs.declared.tree.Item.TheVariants.{Single}
use Rattle.msc_parser.specs.Grammar.{Tree}
use Rattle.msc_chart.specs.Drawings.{chart_of}
use Rattle.msc_chart.specs.Orders.{WiredChart, wired}
use Rattle.msc_chart.specs.Runs.{Run, IsWhole, Reverses}
use Rattle.msc_chart.specs.Samples.{a, b, q, m1, m2, out_to, in_from, instance_of, draft_of, two_senders, coregion, relay, two_mailboxes}

-- a: out m1, out m2; b: in m2, in m1
abbrev pub overtaking : Tree
overtaking =
    draft_of (instance_of a (Single (out_to m1 b) ∷ Single (out_to m2 b) ∷ [])
    ∷ instance_of b (Single (in_from m2 a) ∷ Single (in_from m1 a) ∷ []) ∷ [])

-- the name of a message, by its letter
abbrev pub p : List ℕ
p = 112 ∷ []

-- a: out p, in q; b: out q, in p
abbrev pub crossing : Tree
crossing =
    draft_of (instance_of a (Single (out_to p b) ∷ Single (in_from q b) ∷ [])
    ∷ instance_of b (Single (out_to q a) ∷ Single (in_from p a) ∷ []) ∷ [])

-- the charts, with one kind for all links
abbrev pub senders : LinkKind → WiredChart
senders kind = wired (Uniform kind) (chart_of two_senders)

-- two inputs in a coregion
abbrev pub unordered : LinkKind → WiredChart
unordered kind = wired (Uniform kind) (chart_of coregion)

-- a relay
abbrev pub relayed : LinkKind → WiredChart
relayed kind = wired (Uniform kind) (chart_of relay)

-- one message overtakes another
abbrev pub overtaken : LinkKind → WiredChart
overtaken kind = wired (Uniform kind) (chart_of overtaking)

-- two messages cross
abbrev pub crossed : LinkKind → WiredChart
crossed kind = wired (Uniform kind) (chart_of crossing)

-- two mailboxes
abbrev pub mailboxes : WiredChart
mailboxes = wired (Uniform Mailbox) (chart_of two_mailboxes)

-- a whole run that reverses (e, f)
pub record IsReversal (chart : WiredChart) (events : List ℕ) (e f : ℕ) : Type 0 where
  pub run : Run chart events
  pub whole : IsWhole chart events
  pub reverses : Reverses events e f

-- no run reverses both pairs
abbrev pub NoRunReversesBoth : WiredChart → (ℕ × ℕ) → (ℕ × ℕ) → Type 0
NoRunReversesBoth chart pair other =
    (events : List ℕ) → Run chart events → Reverses events pair.0 pair.1 → Reverses events other.0 other.1 → ⊥
