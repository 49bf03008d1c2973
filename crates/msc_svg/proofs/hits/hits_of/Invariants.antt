use Rattle.std.proofs.Common.{◌≡◌, ℕ, ◌<◌, false, get_or, length, take}
use Rattle.std.specs.List.{list_any}
use Rattle.msc_picture.specs.Texts.{is_marked}
use Rattle.msc_svg.proofs.hits.hits_of.Given as goal

-- the events of the bars so far are noted
abbrev pub invariant-loop-bar : goal.invariant-loop-bar
invariant-loop-bar l = record {
  long : length l.hits.items ≡ length l.scene.spots;
  each : (e : ℕ) → e < length l.scene.spots
      → get_or l.hits.items e false ≡ list_any (λ bar. is_marked bar e) (take l.bar-index l.bars);
}
