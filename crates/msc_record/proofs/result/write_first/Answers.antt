use Rattle.std.proofs.Common.{[], ◌∷◌, codes, ap}
use Rattle.msc_record.specs.Locations.{location_json}
use Rattle.msc_record.specs.Members.{array_of, member_tokens}
use Rattle.msc_record.proofs.WritingLemmas.{adds_same}
use Rattle.msc_record.proofs.result.write_first.Goals as goal

pub returns : goal.returns
returns c =
    adds_same (ap (λ r. member_tokens (codes "locations", array_of (location_json c.args.uri.now r ∷ []))) c.first_region-region.ensures) c.write_list.ensures
