use Rattle.std.proofs.Common.{[], ◌∷◌, None, codes, ap, ◌∙◌}
use Rattle.msc_record.specs.Locations.{location_json}
use Rattle.msc_record.specs.Members.{array_of, member_tokens}
use Rattle.msc_record.proofs.WritingLemmas.{adds_same}
use Rattle.msc_record.proofs.document.write_file.Goals as goal

pub returns : goal.returns
returns c =
    adds_same (ap (λ uri. member_tokens (codes "locations", array_of (location_json uri None ∷ []))) (c.as_str.ensures.value ∙ c.in_ok-uri.ensures)) c.write_list.ensures
