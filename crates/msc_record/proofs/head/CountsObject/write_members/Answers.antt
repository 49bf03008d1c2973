use Rattle.std.proofs.Common.{◌++◌, codes}
use Rattle.msc_record.specs.Heads.{races_members}
use Rattle.msc_record.specs.Members.{member_if, natural}
use Rattle.msc_record.proofs.WritingLemmas.{adds_more}
use Rattle.msc_record.proofs.head.CountsObject.write_members.Goals as goal

pub returns : goal.returns
returns c =
    let counts = c.args.self.now in
    let closest = member_if natural (codes "closest") counts.closest in
    let accepted = member_if natural (codes "accepted") counts.accepted in
    let allowed = member_if natural (codes "allowed") counts.allowed in
    adds_more (races_members counts.races) (allowed ++ (accepted ++ closest)) c.in_ok-write_races.ensures
    (adds_more allowed (accepted ++ closest) c.in_ok-write_member_if.ensures
    (adds_more accepted closest c.in_ok-write_member_if-2.ensures c.write_member_if-3.ensures))
