-- The places of events, made once.
use Rattle.std.specs.Prelude.{◌≡◌, ℕ, ◌<◌, ◌≤◌, List, [], ◌++◌, get_or, length, slice_range}
use Rattle.std.specs.List.{All}
use Rattle.msc_place.specs.EventPositions.{event_position_text, EventPositionsIn}
use Rattle.msc_report.specs.declared.event_position_texts.EventPositionSpan.{EventPositionSpan}

-- these are the places of the events below a number, in order
pub record AreEventPositionsOf (event_positions : EventPositionsIn) (count : ℕ) (texts : List (List ℕ)) : Type 0 where
  pub size : length texts ≡ count
  pub each : (e : ℕ) → e < count → get_or texts e [] ≡ event_position_text event_positions e

-- what stands there
abbrev pub event_position_at : List ℕ → EventPositionSpan → List ℕ
event_position_at bytes s = slice_range bytes s.from s.to

-- it stands within the bytes
pub record IsEventPositionIn (bytes : List ℕ) (s : EventPositionSpan) : Type 0 where
  pub rising : s.from ≤ s.to
  pub within : s.to ≤ length bytes

-- the place of event e was put behind the bytes, and stands there
pub record HasPutEventPosition (event_positions : EventPositionsIn) (e : ℕ) (old new : List ℕ) (s : EventPositionSpan) : Type 0 where
  pub kept : (rest : List ℕ) × (new ≡ old ++ rest)
  pub within : IsEventPositionIn new s
  pub text : event_position_at new s ≡ event_position_text event_positions e

-- what stands at a number past the last event; no rule speaks of it
abbrev pub no_event_position : EventPositionSpan
no_event_position = record { from = 0; to = 0 }

-- the places of the events below e were put one after the other
pub record AreMadeEventPositions (event_positions : EventPositionsIn) (bytes : List ℕ) (spans : List EventPositionSpan) (e : ℕ) : Type 0 where
  pub size : length spans ≡ e
  pub within : All (IsEventPositionIn bytes) spans
  pub each : (k : ℕ) → k < e → event_position_at bytes (get_or spans k no_event_position) ≡ event_position_text event_positions k
