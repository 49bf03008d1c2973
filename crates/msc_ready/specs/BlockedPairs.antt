-- Sticks: pairs of inputs for which a system whose instances are ready can stick. They are this
-- project's own.
use Rattle.std.specs.Prelude.{◌≡◌, ◌↔◌, ℕ, Bool, false, ◌&&◌, not, IsTrue, nat_eq}
use Rattle.msc_chart.specs.Charts.{line, partner, is_input, before}
use Rattle.msc_chart.specs.Orders.{WiredChart, queue}
use Rattle.msc_order.specs.Tables.{Table, orders}
use Rattle.msc_race.specs.Races.{IsPairBefore}
use Rattle.msc_ready.specs.Readiness.{ReadyOrder}

-- a blocked pair: two inputs of one queue on a ready line, the first drawn before the second, where
-- the output of the first does not stand before that of the second in the ready order
pub record IsBlockedPair (chart : WiredChart) (ready : ℕ → Bool) (e f : ℕ) : Type 0 where
  pub drawn : IsTrue (before chart.events e f)
  pub inputs : IsTrue (is_input chart.events e) × IsTrue (is_input chart.events f)
  pub one_queue : queue chart e ≡ queue chart f
  pub line : IsTrue (ready (line chart.events f))
  pub free : ReadyOrder chart ready (partner chart.events e) (partner chart.events f) → ⊥

-- there is no blocked pair
abbrev pub HasNoBlockedPair : WiredChart → (ℕ → Bool) → Type 0
HasNoBlockedPair chart ready = (e f : ℕ) → IsBlockedPair chart ready e f → ⊥

-- (g, h) is a blocked pair whose second output stands before that of f in the ready order
abbrev pub IsAhead : WiredChart → (ℕ → Bool) → ℕ → ℕ × ℕ → Type 0
IsAhead chart ready f p =
    IsBlockedPair chart ready p.0 p.1
    × ReadyOrder chart ready (partner chart.events p.1) (partner chart.events f)

-- a first blocked pair: the second output of no blocked pair stands before its own
pub record IsFirstBlockedPair (chart : WiredChart) (ready : ℕ → Bool) (e f : ℕ) : Type 0 where
  pub blocked_pair : IsBlockedPair chart ready e f
  pub none_ahead : (p : ℕ × ℕ) → IsAhead chart ready f p → ⊥

-- the least of the blocked pairs whose second output stands before that of f
pub record IsLeastAhead (chart : WiredChart) (ready : ℕ → Bool) (f : ℕ) (p : ℕ × ℕ) : Type 0 where
  pub itself : IsAhead chart ready f p
  pub none_below : (o : ℕ × ℕ) → IsPairBefore o p → IsAhead chart ready f o → ⊥

-- whether e is drawn before f on a ready line
unfoldable pub is_awaited : WiredChart → (ℕ → Bool) → ℕ → ℕ → Bool
is_awaited chart ready e f = before chart.events e f && ready (line chart.events f)

-- whether these are two inputs of one queue, the first drawn before the second on a ready line
unfoldable pub is_lined : WiredChart → (ℕ → Bool) → ℕ → ℕ → Bool
is_lined chart ready e f =
    (is_awaited chart ready e f && (is_input chart.events e && is_input chart.events f))
    && nat_eq (queue chart e) (queue chart f)

-- whether a pair is a blocked pair, by a table of the ready order
unfoldable pub is_blocked_pair : WiredChart → (ℕ → Bool) → Table → ℕ → ℕ → Bool
is_blocked_pair chart ready order e f =
    is_lined chart ready e f && not (orders order (partner chart.events e) (partner chart.events f))

-- a race that is left: a pair that is drawn on a line that is not ready, in an order which is not
-- that of the ready order
abbrev pub IsRaceLeft : WiredChart → (ℕ → Bool) → ℕ → ℕ → Type 0
IsRaceLeft chart ready e f =
    IsTrue (before chart.events e f) × (ready (line chart.events e) ≡ false) × (ReadyOrder chart ready e f → ⊥)

-- a test for the races that are left
abbrev pub AreLeft : WiredChart → (ℕ → Bool) → (ℕ → ℕ → Bool) → Type 0
AreLeft chart ready left = (e f : ℕ) → IsTrue (left e f) ↔ IsRaceLeft chart ready e f
