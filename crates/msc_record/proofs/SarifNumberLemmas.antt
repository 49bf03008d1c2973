-- The numbers of all parts of a document of SARIF are those of the document.
use Rattle.std.proofs.Common.{List, [], ◌∷◌, ◌++◌, ℕ, Option, None, Some, codes, map}
use Rattle.std.specs.Prelude.{IfSome}
use Rattle.std.specs.List.{AllByRecursion}
use Rattle.json.specs.Tree.{HasNumbers, ItemsHaveNumbers}
use Rattle.msc_record.specs.Members.{Member, array_of, items_of, member_if}
use Rattle.msc_record.specs.SarifPlain.{ListedFinding, Scan, Step}
use Rattle.msc_record.specs.Results.{finding_members, flows_json, key_json, listed_finding_json}
use Rattle.msc_record.specs.Rules.{rule_json, rules, rules_json}
use Rattle.msc_record.specs.Documents.{ending_members, run_members, sarif_json}
use Rattle.msc_record.specs.Numbers.{EndingHasNumbers, HaveNumbers, ListedFindingHasNumbers, StepsHaveNumbers}
use Rattle.msc_record.proofs.NumberLemmas.{numbers_append}

-- rules have none
no_rule_numbers : (rs : List (List ℕ × List ℕ)) → ItemsHaveNumbers (items_of (map rule_json rs))
no_rule_numbers [] = tt
no_rule_numbers (r ∷ rs) = ((tt, ((tt, tt), tt)), no_rule_numbers rs)

rules_numbers : HasNumbers rules_json
unfolding rules_json
rules_numbers = no_rule_numbers rules

run_numbers : (version : List ℕ) → HaveNumbers (run_members version)
run_numbers version = (((tt, (tt, (rules_numbers, tt))), tt), (tt, tt))

flow_numbers : (file : List ℕ) (run : Option (List Step)) → IfSome run (StepsHaveNumbers file) → HaveNumbers (member_if (flows_json file) (codes "codeFlows") run)
flow_numbers file None h = tt
flow_numbers file (Some steps) h = (((((h, tt), tt), tt), tt), tt)

key_numbers : (lasting : Option (List ℕ)) → HaveNumbers (member_if key_json (codes "partialFingerprints") lasting)
key_numbers None = tt
key_numbers (Some lasting) = ((tt, tt), tt)

finding_numbers : (f : ListedFinding) → ListedFindingHasNumbers f → HasNumbers (listed_finding_json f)
finding_numbers f h =
    let run = member_if (flows_json f.finding.file) (codes "codeFlows") f.run in
    let lasting = member_if key_json (codes "partialFingerprints") f.finding.key in
    numbers_append (finding_members f.finding) (run ++ lasting) h.0
    (numbers_append run lasting (flow_numbers f.finding.file f.run h.1) (key_numbers f.finding.key))

results_numbers : (fs : List ListedFinding) → AllByRecursion ListedFindingHasNumbers fs → ItemsHaveNumbers (items_of (map listed_finding_json fs))
results_numbers [] h = tt
results_numbers (f ∷ fs) h = (finding_numbers f h.0, results_numbers fs h.1)

pub scan_numbers : (s : Scan) → AllByRecursion ListedFindingHasNumbers s.findings → EndingHasNumbers s.ending → HasNumbers (sarif_json s)
scan_numbers s findings ending =
    let results : Member = (codes "results", array_of (map listed_finding_json s.findings)) in
    let run = numbers_append (run_members s.version) (results ∷ ending_members s.ending) (run_numbers s.version) (results_numbers s.findings findings, ending) in
    (tt, (tt, ((run, tt), tt)))
