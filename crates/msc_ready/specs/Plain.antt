-- The part of the ready order that lines and messages alone give.
use Rattle.std.specs.Prelude.{◌≡◌, ℕ, ◌⊎◌, Bool, false, IsTrue}
use Rattle.msc_chart.specs.Charts.{line, partner, is_input}
use Rattle.msc_chart.specs.Orders.{WiredChart, queue}
use Rattle.msc_chart.specs.Precedence.{Precedes}

-- what precedes what without the rule of queues
abbrev pub Plain : WiredChart → (ℕ → Bool) → ℕ → ℕ → Type 0
Plain chart ready = Precedes chart ready false

-- x is y, or stands before it so
abbrev pub IsPlainUpTo : WiredChart → (ℕ → Bool) → ℕ → ℕ → Type 0
IsPlainUpTo chart ready x y = (x ≡ y) ⊎ Plain chart ready x y

-- r and u are inputs of one queue whose line is not ready, and their outputs stand so in this order
pub record AreMates (chart : WiredChart) (ready : ℕ → Bool) (r u : ℕ) : Type 0 where
  pub first : IsTrue (is_input chart.events r)
  pub second : IsTrue (is_input chart.events u)
  pub one_queue : queue chart r ≡ queue chart u
  pub loose : ready (line chart.events u) ≡ false
  pub outputs : Plain chart ready (partner chart.events r) (partner chart.events u)

-- x stands before y over one use of the rule of queues, from x itself
abbrev pub GoesOver : WiredChart → (ℕ → Bool) → ℕ → ℕ → Type 0
GoesOver chart ready x y = (u : ℕ) × AreMates chart ready x u × IsPlainUpTo chart ready u y
