use Rattle.std.proofs.Common.{arith, ◌≤◌}
use Rattle.json.specs.Tree.{depth}
use Rattle.json.proofs.Printed.Trees.{document-print}
use Rattle.msc_record.specs.Records.{check_json}
use Rattle.msc_record.proofs.DepthLemmas.{check_depth}
use Rattle.msc_record.proofs.NumberLemmas.{check_numbers}
use Rattle.msc_record.proofs.laws.records_read_back.Goals as goal

-- a record nests at most five deep
pub returns : goal.returns
returns c = λ f head list.
    let shallow : depth (check_json f) ≤ 128 = omega (arith, check_depth f) in
    document-print (check_json f) (check_numbers f head list) shallow
