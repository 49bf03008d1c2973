-- First events of segments, as the code keeps them while it goes through the rows.
use Rattle.std.specs.Prelude.{◌≡◌, ℕ, ◌<◌, ◌≤◌, Bool, List, get_or, length, nat_eq, IsTrue}
use Rattle.msc_chart.specs.declared.event.ChartEvent.{ChartEvent}
use Rattle.msc_picture.specs.Rows.{begins_segment, share_segment}

-- b is the first event of the segment of event x
pub record IsBeginOf (events : List ChartEvent) (b x : ℕ) : Type 0 where
  pub within : b ≤ x
  pub begins : IsTrue (begins_segment events b)
  pub shared : IsTrue (share_segment events b x)

-- these are the first events of the segments of all events
pub record AreBegins (events : List ChartEvent) (begins : List ℕ) : Type 0 where
  pub long : length begins ≡ length events
  pub each : (x : ℕ) → x < length events → IsBeginOf events (get_or begins x 0) x

-- the first event of the segment of event x is e
abbrev pub is_begun_by : List ℕ → ℕ → ℕ → Bool
is_begun_by begins e x = nat_eq (get_or begins x 0) e
