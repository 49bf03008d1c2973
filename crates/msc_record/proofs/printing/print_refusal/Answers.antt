use Rattle.std.proofs.Common.{arith, ◌≤◌}
use Rattle.json.specs.Tree.{depth}
use Rattle.json.proofs.Printed.Trees.{document-print}
use Rattle.msc_record.specs.Lent.{plain_refusal}
use Rattle.msc_record.specs.Records.{refusal_json}
use Rattle.msc_record.proofs.DepthLemmas.{refusal_depth}
use Rattle.msc_record.proofs.WritingLemmas.{on_ok_always}
use Rattle.msc_record.proofs.printing.print_refusal.Goals as goal

-- its numbers are numbers of JSON, and it nests at most six deep
pub returns-clause-reads_back : goal.returns-clause-reads_back
returns-clause-reads_back c =
    let j = refusal_json (plain_refusal c.args.refusal.now) in
    let shallow : depth j ≤ 128 = omega (arith, refusal_depth (plain_refusal c.args.refusal.now)) in
    on_ok_always c.extend_from_slice.result (document-print j c.in_ok-print_object.ensures.numbers shallow)
