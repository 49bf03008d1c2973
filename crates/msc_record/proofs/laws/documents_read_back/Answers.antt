use Rattle.std.proofs.Common.{arith, ◌≤◌}
use Rattle.json.specs.Tree.{depth}
use Rattle.json.proofs.Printed.Trees.{document-print}
use Rattle.msc_record.specs.Documents.{sarif_json}
use Rattle.msc_record.proofs.SarifDepthLemmas.{sarif_depth}
use Rattle.msc_record.proofs.SarifNumberLemmas.{scan_numbers}
use Rattle.msc_record.proofs.laws.documents_read_back.Goals as goal

-- a document nests at most fourteen deep
pub returns : goal.returns
returns c = λ s findings ending.
    let shallow : depth (sarif_json s) ≤ 128 = omega (arith, sarif_depth s) in
    document-print (sarif_json s) (scan_numbers s findings ending) shallow
