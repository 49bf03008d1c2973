use Rattle.std.proofs.Common.{◌≡◌}
use Rattle.std.specs.List.{range_with_len, flat_map}
use Rattle.msc_picture.specs.Rows.{band_at}
use Rattle.msc_picture.proofs.band.bands_of.Given as goal

abbrev pub invariant-loop-e : goal.invariant-loop-e
invariant-loop-e l =
    l.bands.items ≡ flat_map (band_at l.chart.events l.rows) (range_with_len 0 l.e)
