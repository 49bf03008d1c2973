use Rattle.msc_picture.proofs.BandLemmas.{band_of_segment, no_other_in_band, segment_has_band}
use Rattle.msc_picture.proofs.laws.each_coregion_has_a_band.Goals as goal

pub returns : goal.returns
returns c = record { bands = band_of_segment; each = segment_has_band; other = no_other_in_band }
