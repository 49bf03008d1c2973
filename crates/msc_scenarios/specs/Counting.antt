-- How many scenarios a diagram has, where loops go given numbers of rounds.
use Rattle.std.specs.Prelude.{ℕ, zero, suc, ◌+◌, ◌*◌, cond, nat_le, List, [], ◌∷◌, length, take, drop}
use Rattle.msc_mermaid.specs.declared.TheConstants.{DEPTH_LIMIT}
use Rattle.msc_scenarios.specs.declared.TheConstants.{SCENARIO_LIMIT}
use Rattle.msc_scenarios.specs.declared.counting.Paths.{Paths}
use Rattle.msc_scenarios.specs.declared.steps.Passage.{Passage}
use Rattle.msc_scenarios.specs.declared.steps.Passage.TheVariants as passages
use Rattle.msc_mermaid.specs.declared.row.Kind.{Kind}
use Rattle.msc_mermaid.specs.declared.statement.Diagram.{Diagram}
use Rattle.msc_mermaid.specs.declared.statement.Placed.{Placed}
use Rattle.msc_mermaid.specs.declared.statement.Statement.{Statement}
use Rattle.msc_mermaid.specs.declared.statement.Statement.TheVariants.{Declares, Says, Begins, Closes}
use Rattle.msc_scenarios.specs.Steps.{branches_in, branch_at, extent, passage_of, is_choice, is_there, owned_by}

-- numbers stay where they pass the limit
abbrev pub capped : ℕ → ℕ
capped n = cond (nat_le n SCENARIO_LIMIT) n (SCENARIO_LIMIT + 1)

abbrev pub plus : ℕ → ℕ → ℕ
plus m n = capped (m + n)

abbrev pub times : ℕ → ℕ → ℕ
times m n = capped (m * n)

-- so many paths to the end, and none to a break
abbrev pub unbroken : ℕ → Paths
unbroken n = record { through = n; broken = 0 }

-- the paths through the one, and then through the other
abbrev pub behind : Paths → Paths → Paths
behind v w = record {
  through = times v.through w.through;
  broken = plus v.broken (times v.through w.broken);
}

-- the paths to the end, and those to a break
abbrev pub all : Paths → ℕ
all w = plus w.through w.broken

-- how the paths through the statements of a branch are counted
abbrev pub Counter : Type 0
Counter = List Placed → Paths

-- those through so many rounds more
unfoldable pub repeated : Paths → ℕ → Paths → Paths
repeated body zero w = w
repeated body (suc n) w = repeated body n (behind w body)

-- so many more than these, by each number of rounds
unfoldable pub by_rounds : Paths → List ℕ → ℕ → ℕ
by_rounds body [] n = n
by_rounds body (r ∷ rs) n = by_rounds body rs (plus n (all (repeated body r (unbroken 1))))

-- so many more than these, by each of the branches behind the first one
unfoldable pub by_branches : Counter → Paths → List (List Placed) → ℕ → ℕ
by_branches inner first [] n = n
by_branches inner first (b ∷ bs) n =
    by_branches inner first bs (plus n (all (behind first (inner b))))

-- so many times as many as these, by each of the branches
unfoldable pub by_sides : Counter → List (List Placed) → ℕ → ℕ
by_sides inner [] n = n
by_sides inner (b ∷ bs) n = by_sides inner bs (times n (all (inner b)))

-- the paths through a first branch, and then through one of the others, or none
abbrev pub by_options : Counter → List (List Placed) → ℕ
by_options inner bs =
    by_branches inner (inner (branch_at bs 0)) (drop 1 bs) (all (inner (branch_at bs 0)))

-- the paths through a block of this form
unfoldable pub formed : Counter → List ℕ → Passage → List (List Placed) → Paths
formed inner rounds passages.OneOf bs = unbroken (by_branches inner (unbroken 1) bs 0)
formed inner rounds passages.Maybe bs = unbroken (by_branches inner (unbroken 1) bs 1)
formed inner rounds passages.Rounds bs = unbroken (by_rounds (inner (branch_at bs 0)) rounds 0)
formed inner rounds passages.Break bs = record {
  through = 1;
  broken = all (inner (branch_at bs 0));
}
formed inner rounds passages.First bs =
    unbroken (by_options inner bs)
formed inner rounds passages.Par bs = unbroken (by_sides inner bs 1)
formed inner rounds passages.Plain bs = inner (branch_at bs 0)

-- those through a block of this kind, with these statements inside
unfoldable pub block : Counter → List ℕ → Kind → List Placed → Paths
block inner rounds kind inside =
    cond (is_there kind inside) (formed inner rounds (passage_of kind (length (branches_in 0 inside))) (branches_in 0 inside)) (unbroken 1)

-- those through one statement, with those behind it
abbrev pub one : Counter → List ℕ → Statement → List Placed → Paths
one inner rounds (Begins kind) ps = block inner rounds kind (take (extent 0 ps) ps)
one inner rounds (Says arrow) ps = cond (is_choice arrow) (unbroken 2) (unbroken 1)
one inner rounds (Declares ident shown) ps = unbroken 1
one inner rounds (Closes closer) ps = unbroken 1

-- those through statements, of which the first so many belong to one before them, behind these
unfoldable pub count_on : Counter → List ℕ → ℕ → List Placed → Paths → Paths
count_on inner rounds n [] w = w
count_on inner rounds (suc n) (p ∷ ps) w = count_on inner rounds n ps w
count_on inner rounds zero (p ∷ ps) w =
    count_on inner rounds (owned_by p.statement ps) ps (behind w (one inner rounds p.statement ps))

-- those through statements, with as many blocks inside each other
unfoldable pub count : ℕ → List ℕ → Counter
count zero rounds ps = unbroken 1
count (suc d) rounds ps = count_on (count d rounds) rounds 0 ps (unbroken 1)

-- the number of a diagram's scenarios
abbrev pub scenarios : List ℕ → Diagram → ℕ
scenarios rounds d = all (count (DEPTH_LIMIT + 1) rounds d.statements)
