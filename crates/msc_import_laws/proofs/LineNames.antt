-- The lines of a diagram are told apart by the names that are drawn of them.
use Rattle.std.proofs.Common.{◌≡◌, ℕ, zero, suc, ◌+◌, ◌≤◌, false, length, sym, List, [], ◌∷◌, Some, ap, subst, arith}
use Rattle.std.specs.Str.{bytes_eq}
use Rattle.std.proofs.lemmas.Slice.Eq.{bytes_eq-Decides}
use Rattle.msc_chart.specs.Lists.{Occurs, StandsAt}
use Rattle.msc_chart.proofs.ListLemmas.{by_test}
use Rattle.msc_chart.proofs.Places.{one_at}
use Rattle.msc_mermaid.specs.declared.TheConstants.{LINE_LIMIT}
use Rattle.msc_import.specs.Drafting.{fitted, line_name}
use Rattle.msc_scenarios.specs.Steps.{line_at}
use Rattle.msc_scenarios.specs.Naming.{names_behind}
use Rattle.msc_import_laws.proofs.Drafts.{line_there}
use Rattle.msc_import_laws.proofs.Names.{names_apart}

-- a line that is there stands at its place
found_there : (lines : List (List ℕ)) (x : List ℕ) → Occurs lines x → StandsAt lines (line_at lines x) x
found_there [] x (j, h) = cc
found_there (l ∷ lines) x o =
    by_test (bytes_eq l x)
    (λ same. rw same (ap Some ((bytes_eq-Decides l x).0 same)))
    (λ other.
    let rest = found_there lines x (behind o other) in
    let next : suc (line_at lines x) ≡ 1 + line_at lines x = omega arith in
    rw other (subst (λ i. StandsAt (l ∷ lines) i x) next rest))
  where
    behind : Occurs (l ∷ lines) x → bytes_eq l x ≡ false → Occurs lines x
    behind (zero, h) other = let e : l ≡ x = cc in let f = (bytes_eq-Decides l x).1 e in cc
    behind (suc j, h) other = (j, h)

pub drawn_apart : (lines : List (List ℕ)) (x y : List ℕ) → length lines ≤ LINE_LIMIT → Occurs lines x → Occurs lines y
    → fitted (line_name (names_behind [] lines) (line_at lines x)) ≡ fitted (line_name (names_behind [] lines) (line_at lines y)) → x ≡ y
drawn_apart lines x y few o k e =
    let same = names_apart lines few (line_at lines x) (line_at lines y) (line_there lines x o) (line_there lines y k) e in
    one_at lines (line_at lines x) x y (found_there lines x o) (subst (λ i. StandsAt lines i y) (sym same) (found_there lines y k))
