-- How deep documents of SARIF nest.
use Rattle.std.proofs.Common.{ℕ, ◌≤◌, List, ◌∷◌, ◌++◌, Option, None, Some, map, codes, arith}
use Rattle.json.specs.Tree.{depth}
use Rattle.msc_record.specs.declared.location.Region.{Region}
use Rattle.msc_record.specs.Members.{array_of, member_if}
use Rattle.msc_record.specs.SarifPlain.{Ending, Failure, Finding, ListedFinding, Mark, Scan, Step}
use Rattle.msc_record.specs.Locations.{location_json, physical_json, region_json}
use Rattle.msc_record.specs.Results.{finding_members, first_region, flows_json, key_json, listed_finding_json, numbered_marks, place_members, places_members, related_json, step_json}
use Rattle.msc_record.specs.Rules.{rule_json, rules, rules_json}
use Rattle.msc_record.specs.Documents.{ending_members, failure_json, file_json, invocation_json, run_members, sarif_json, scan_members}
use Rattle.msc_record.specs.Uris.{file_uri}
use Rattle.msc_record.proofs.DepthLemmas.{Within, items_within, member_if_any_within, member_if_within, within_append}

region_depth : (r : Region) → depth (region_json r) ≤ 1
region_depth r = omega arith

physical_depth : (uri : List ℕ) (region : Option Region) → depth (physical_json uri region) ≤ 2
physical_depth uri region = omega (arith, member_if_within region_json 1 (codes "region") region_depth region)

location_depth : (uri : List ℕ) (region : Option Region) → depth (location_json uri region) ≤ 3
location_depth uri region = omega (arith, physical_depth uri region)

related_depth : (uri : List ℕ) (p : ℕ × Mark) → depth (related_json uri p) ≤ 3
related_depth uri p = omega (arith, physical_depth uri (Some p.1.region))

places_within : (uri : List ℕ) (marks : List Mark) → Within 4 (places_members uri marks)
places_within uri marks =
    omega (arith, location_depth uri (first_region marks), member_if_any_within (related_json uri) 3 (codes "relatedLocations") (related_depth uri) (numbered_marks marks))

finding_within : (f : Finding) → Within 4 (finding_members f)
unfolding finding_members
finding_within f = omega (arith, places_within (file_uri f.file) f.marks)

place_within : (uri : List ℕ) (s : Step) → Within 2 (place_members uri s)
place_within uri s = omega (arith, physical_depth uri (Some s.region))

step_depth : (uri : List ℕ) (s : Step) → depth (step_json uri s) ≤ 4
step_depth uri s = omega (arith, place_within uri s)

flows_depth : (file : List ℕ) (steps : List Step) → depth (flows_json file steps) ≤ 9
flows_depth file steps = omega (arith, items_within (step_json (file_uri file)) 4 (step_depth (file_uri file)) steps)

finding_depth : (f : ListedFinding) → depth (listed_finding_json f) ≤ 10
finding_depth f =
    let run = member_if_within (flows_json f.finding.file) 9 (codes "codeFlows") (flows_depth f.finding.file) f.run in
    let lasting : Within 9 (member_if key_json (codes "partialFingerprints") f.finding.key) =
    omega (arith, member_if_within key_json 1 (codes "partialFingerprints") (λ k. omega arith) f.finding.key) in
    let both = within_append 9 (member_if (flows_json f.finding.file) (codes "codeFlows") f.run) (member_if key_json (codes "partialFingerprints") f.finding.key) run lasting in
    let members : Within 9 (finding_members f.finding) = omega (arith, finding_within f.finding) in
    omega (arith, within_append 9 (finding_members f.finding) (member_if (flows_json f.finding.file) (codes "codeFlows") f.run ++ member_if key_json (codes "partialFingerprints") f.finding.key) members both)

rules_depth : depth rules_json ≤ 3
unfolding rules_json
rules_depth = omega (arith, items_within rule_json 2 (λ r. omega arith) rules)

run_within : (version : List ℕ) → Within 5 (run_members version)
run_within version = omega (arith, rules_depth)

file_depth : (name : List ℕ) → depth (file_json name) ≤ 2
file_depth name = omega arith

failure_depth : (f : Failure) → depth (failure_json f) ≤ 5
failure_depth f = omega (arith, location_depth (file_uri f.file) None)

invocation_depth : (e : Ending) → depth (invocation_json e) ≤ 7
invocation_depth e = omega (arith, member_if_any_within failure_json 5 (codes "toolExecutionNotifications") failure_depth e.failures)

ending_within : (e : Ending) → Within 8 (ending_members e)
ending_within e = omega (arith, items_within file_json 2 file_depth e.files, invocation_depth e)

scan_within : (s : Scan) → Within 11 (scan_members s)
scan_within s =
    let rest : Within 11 ((codes "results", array_of (map listed_finding_json s.findings)) ∷ ending_members s.ending) =
    omega (arith, items_within listed_finding_json 10 finding_depth s.findings, ending_within s.ending) in
    let run : Within 11 (run_members s.version) = omega (arith, run_within s.version) in
    within_append 11 (run_members s.version) ((codes "results", array_of (map listed_finding_json s.findings)) ∷ ending_members s.ending) run rest

pub sarif_depth : (s : Scan) → depth (sarif_json s) ≤ 14
sarif_depth s = omega (arith, scan_within s)
