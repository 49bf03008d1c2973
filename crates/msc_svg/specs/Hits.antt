-- Which events are of bars, as the code keeps it for all boxes.
use Rattle.std.specs.Prelude.{◌≡◌, ℕ, ◌<◌, Bool, false, List, get_or, length}
use Rattle.msc_picture.specs.declared.scene.Scene.{Scene}
use Rattle.msc_svg.specs.Elements.{is_hit}

-- at the place of each event stands whether it is of a bar
pub record AreHits (s : Scene) (hits : List Bool) : Type 0 where
  pub long : length hits ≡ length s.spots
  pub each : (e : ℕ) → e < length s.spots → get_or hits e false ≡ is_hit s e
