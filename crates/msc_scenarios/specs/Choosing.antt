-- All scenarios of a diagram, where loops go given numbers of rounds: the lists of their choices,
-- in the order of the lists. They are ordered by the first choice, then by the second, and so on,
-- if the numbers of rounds ascend.
use Rattle.std.specs.Prelude.{ℕ, zero, suc, ◌+◌, Bool, true, false, cond, List, [], ◌∷◌, ◌++◌, length, map, take, drop}
use Rattle.std.specs.List.{flat_map}
use Rattle.msc_mermaid.specs.declared.TheConstants.{DEPTH_LIMIT}
use Rattle.msc_scenarios.specs.declared.path.Path.{Path}
use Rattle.msc_scenarios.specs.declared.steps.Passage.{Passage}
use Rattle.msc_scenarios.specs.declared.steps.Passage.TheVariants as passages
use Rattle.msc_mermaid.specs.declared.row.Kind.{Kind}
use Rattle.msc_mermaid.specs.declared.statement.Diagram.{Diagram}
use Rattle.msc_mermaid.specs.declared.statement.Placed.{Placed}
use Rattle.msc_mermaid.specs.declared.statement.Statement.{Statement}
use Rattle.msc_mermaid.specs.declared.statement.Statement.TheVariants.{Declares, Says, Begins, Closes}
use Rattle.msc_scenarios.specs.Steps.{branches_in, branch_at, extent, passage_of, is_choice, is_there, owned_by}

-- one way to the end, with no choice
abbrev pub straight : List Path
straight = record { choices = []; broken = false } ∷ []

-- the one way, and then the other
abbrev pub joined : Path → Path → Path
joined w v = record { choices = w.choices ++ v.choices; broken = v.broken }

-- A path goes on with each of these. Where a break ended it, it is left as it is.
abbrev pub goes_on : List Path → Path → List Path
goes_on vs w = cond w.broken (w ∷ []) (map (joined w) vs)

-- a path goes on with this one
abbrev pub gone_on : Path → Path → Path
gone_on v w = cond w.broken w (joined w v)

-- each of the first paths goes on with each of the second
abbrev pub behind : List Path → List Path → List Path
behind ws vs = flat_map (goes_on vs) ws

-- a path behind a choice; a break ends what the block stands in, or it doesn't
abbrev pub under : ℕ → Bool → Path → Path
under c broken w = record { choices = c ∷ w.choices; broken = broken }

abbrev pub chosen : ℕ → Bool → List Path → List Path
chosen c broken ws = map (under c broken) ws

-- the same choices, ended by a break or not
abbrev pub with_end : Bool → Path → Path
with_end broken w = record { choices = w.choices; broken = broken }

-- a break ends what it stands in, and nothing further out
abbrev pub healed : List Path → List Path
healed ws = map (with_end false) ws

-- the paths through the statements of a branch
abbrev pub Chooser : Type 0
Chooser = List Placed → List Path

-- those through so many rounds more
unfoldable pub repeated : List Path → ℕ → List Path → List Path
repeated body zero ws = ws
repeated body (suc n) ws = repeated body n (behind ws body)

-- those by each number of rounds, which is the choice
unfoldable pub by_rounds : List Path → List ℕ → List Path
by_rounds body [] = []
by_rounds body (r ∷ rs) = chosen r false (repeated body r straight) ++ by_rounds body rs

-- those by each of the branches behind the first paths; the choice of the first of the branches is
-- this
unfoldable pub by_branches : Chooser → List Path → ℕ → List (List Placed) → List Path
by_branches inner first c [] = []
by_branches inner first c (b ∷ bs) =
    chosen c false (behind first (inner b)) ++ by_branches inner first (c + 1) bs

-- the first paths alone, and then by each of the branches behind them
abbrev pub by_options : Chooser → List Path → List (List Placed) → List Path
by_options inner first bs = chosen 0 false first ++ by_branches inner first 1 bs

-- those through all branches, one behind the other
unfoldable pub by_sides : Chooser → List (List Placed) → List Path → List Path
by_sides inner [] ws = ws
by_sides inner (b ∷ bs) ws = by_sides inner bs (behind ws (healed (inner b)))

-- the paths through a block of this form
unfoldable pub formed : Chooser → List ℕ → Passage → List (List Placed) → List Path
formed inner rounds passages.OneOf bs = by_branches inner straight 0 bs
formed inner rounds passages.Maybe bs = by_options inner straight bs
formed inner rounds passages.Rounds bs = by_rounds (inner (branch_at bs 0)) rounds
formed inner rounds passages.Break bs =
    chosen 0 false straight ++ chosen 1 true (inner (branch_at bs 0))
formed inner rounds passages.First bs = by_options inner (inner (branch_at bs 0)) (drop 1 bs)
formed inner rounds passages.Par bs = by_sides inner bs straight
formed inner rounds passages.Plain bs = inner (branch_at bs 0)

-- the paths by an arrow that is lost or arrives
abbrev pub by_fate : List Path
by_fate = chosen 0 false straight ++ chosen 1 false straight

-- these paths, and then those through a block of this kind, with these statements inside
unfoldable pub block : Chooser → List ℕ → Kind → List Placed → List Path → List Path
block inner rounds kind inside ws =
    cond (is_there kind inside) (behind ws (formed inner rounds (passage_of kind (length (branches_in 0 inside))) (branches_in 0 inside))) ws

-- these paths, and then those through one statement, with those behind it
abbrev pub one : Chooser → List ℕ → Statement → List Placed → List Path → List Path
one inner rounds (Begins kind) ps ws = block inner rounds kind (take (extent 0 ps) ps) ws
one inner rounds (Says arrow) ps ws = cond (is_choice arrow) (behind ws by_fate) ws
one inner rounds (Declares ident shown) ps ws = ws
one inner rounds (Closes closer) ps ws = ws

-- these paths, and then those through statements, of which the first so many belong to one before
-- them
unfoldable pub choose_on : Chooser → List ℕ → ℕ → List Placed → List Path → List Path
choose_on inner rounds n [] ws = ws
choose_on inner rounds (suc n) (p ∷ ps) ws = choose_on inner rounds n ps ws
choose_on inner rounds zero (p ∷ ps) ws =
    choose_on inner rounds (owned_by p.statement ps) ps (one inner rounds p.statement ps ws)

-- the paths through statements, with as many blocks inside each other
unfoldable pub choose : ℕ → List ℕ → Chooser
choose zero rounds ps = straight
choose (suc d) rounds ps = choose_on (choose d rounds) rounds 0 ps straight

-- the choices of each of a diagram's scenarios
abbrev pub all_choices : List ℕ → Diagram → List (List ℕ)
all_choices rounds d = map (λ w. w.choices) (choose (DEPTH_LIMIT + 1) rounds d.statements)
