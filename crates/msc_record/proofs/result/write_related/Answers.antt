use Rattle.std.proofs.Common.{◌<◌, length, codes, ap, sym, arith}
use Rattle.msc_record.specs.Members.{tokens_of}
use Rattle.msc_record.proofs.MarkLemmas.{related_member}
use Rattle.msc_record.proofs.WritingLemmas.{adds_end, adds_on, adds_same, adds_token}
use Rattle.msc_record.proofs.result.write_related.Goals as goal

pub returns : goal.returns
returns c =
    let marks = c.args.marks.now in
    let many : 1 < length marks = omega arith in
    adds_same (ap tokens_of (sym (related_member c.args.uri.now (codes "relatedLocations") marks many)))
    (adds_on (adds_token c.in_ok-key.ensures) (adds_end c.write_numbered.ensures))
