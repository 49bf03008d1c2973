-- Histories of a diagram: the choices that can be taken on one way through its blocks, and the
-- steps that come of them. They are told by a relation, with one rule for each kind of statement
-- and of block: no list of them is made here, and nothing is walked.
use Rattle.std.specs.Prelude.{◌≡◌, ◌⊎◌, ℕ, zero, suc, ◌+◌, ◌<◌, ◌≤◌, Bool, true, false, List, [], ◌∷◌, ◌++◌, length, take}
use Rattle.std.specs.List.{Contains}
use Rattle.msc_mermaid.specs.declared.TheConstants.{DEPTH_LIMIT}
use Rattle.msc_scenarios.specs.declared.steps.Passage.{Passage}
use Rattle.msc_scenarios.specs.declared.steps.Passage.TheVariants as passages
use Rattle.msc_scenarios.specs.declared.steps.Step.{Step}
use Rattle.msc_scenarios.specs.declared.steps.Step.TheVariants as steps
use Rattle.msc_mermaid.specs.declared.row.Kind.{Kind}
use Rattle.msc_mermaid.specs.declared.statement.Arrow.{Arrow}
use Rattle.msc_mermaid.specs.declared.statement.Diagram.{Diagram}
use Rattle.msc_mermaid.specs.declared.statement.Placed.{Placed}
use Rattle.msc_mermaid.specs.declared.statement.Statement.{Statement}
use Rattle.msc_mermaid.specs.declared.statement.Statement.TheVariants.{Declares, Says, Begins, Closes}
use Rattle.msc_place.specs.declared.position.Position.{Position}
use Rattle.msc_scenarios.specs.Steps.{branch_at, branches_in, extent, passage_of, is_choice, is_loss, is_there, message_of, owned_by, start_of}

-- choices, and the steps that come of them
pub record History : Type 0 where
  pub choices : List ℕ
  pub steps : List Step

-- no choice, and these steps
abbrev pub only : List Step → History
only ss = record { choices = []; steps = ss }

-- the one, and then the other
abbrev pub joined : History → History → History
joined x y = record { choices = x.choices ++ y.choices; steps = x.steps ++ y.steps }

-- one behind a choice
abbrev pub under : ℕ → History → History
under c x = record { choices = c ∷ x.choices; steps = x.steps }

-- a parallel branch, with the mark behind it
abbrev pub marked : History → History
marked x = record { choices = x.choices; steps = x.steps ++ steps.Next ∷ [] }

-- parallel branches whose block begins here, between the marks of their block
abbrev pub enclosed : Position → History → History
enclosed place x = record { choices = x.choices; steps = steps.Opens place ∷ (x.steps ++ steps.Closes ∷ []) }

-- which histories there are, and for each whether a break ends it
abbrev pub Histories : Type 1
Histories = History → Bool → Type 0

-- this one alone, which no break ends
abbrev pub Only : History → Histories
Only x h cut = (h ≡ x) × (cut ≡ false)

-- one of the first, and then, where no break ends that, one of the second
abbrev pub Then : Histories → Histories → Histories
Then P Q h cut =
    (P h true × (cut ≡ true)) ⊎ ((x : History) × (y : History) × (h ≡ joined x y) × P x false × Q y cut)

-- what is made of one, which ends so whether or not a break ended that
abbrev pub Made : (History → History) → Bool → Histories → Histories
Made f ends P h cut = (x : History) × (broke : Bool) × P x broke × (h ≡ f x) × (cut ≡ ends)

-- those of the statements of a branch, in these rounds of the loops around it
abbrev pub Branch : Type 1
Branch = List ℕ → List Placed → Histories

-- so many rounds of a loop behind round k, one after the other
unfoldable pub Rounds : Branch → List Placed → List ℕ → ℕ → ℕ → Histories
Rounds inner body rs k zero = Only (only [])
Rounds inner body rs k (suc n) = Then (inner (rs ++ (k + 1) ∷ []) body) (Rounds inner body rs (k + 1) n)

-- parallel branches, one after the other
unfoldable pub Sides : Branch → List ℕ → List (List Placed) → Histories
Sides inner rs [] = Only (only [])
Sides inner rs (b ∷ bs) = Then (Made marked false (inner rs b)) (Sides inner rs bs)

-- One of the first, and then of one of the branches from a place on, behind the choice of that
-- branch: it is the branch's place and so many more.
abbrev pub OneOf : Branch → List (List Placed) → List ℕ → Histories → ℕ → ℕ → Histories
OneOf inner bs rs first start more h cut =
    (i : ℕ) × (start ≤ i) × (i < length bs) × Made (under (i + more)) false (Then first (inner rs (branch_at bs i))) h cut

-- Those of a block of this form that begins here. Of an alternative one branch, of what may be left
-- out none or one, of a loop one of these numbers of rounds, of a break nothing or its branch,
-- which ends what it stands in, of a critical block its first branch and then none or one more, of
-- parallel branches all.
unfoldable pub Formed : Branch → List ℕ → Position → Passage → List (List Placed) → List ℕ → Histories
Formed inner rounds place passages.OneOf bs rs h cut = OneOf inner bs rs (Only (only [])) 0 0 h cut
Formed inner rounds place passages.Maybe bs rs h cut =
    Made (under 0) false (Only (only [])) h cut ⊎ OneOf inner bs rs (Only (only [])) 0 1 h cut
Formed inner rounds place passages.Rounds bs rs h cut =
    (r : ℕ) × Contains rounds r × Made (under r) false (Rounds inner (branch_at bs 0) rs 0 r) h cut
Formed inner rounds place passages.Break bs rs h cut =
    Made (under 0) false (Only (only [])) h cut ⊎ Made (under 1) true (inner rs (branch_at bs 0)) h cut
Formed inner rounds place passages.First bs rs h cut =
    Made (under 0) false (inner rs (branch_at bs 0)) h cut ⊎ OneOf inner bs rs (inner rs (branch_at bs 0)) 1 0 h cut
Formed inner rounds place passages.Par bs rs h cut = (x : History) × (h ≡ enclosed place x) × Sides inner rs bs x cut
Formed inner rounds place passages.Plain bs rs h cut = inner rs (branch_at bs 0) h cut

-- those of a block of this kind, with these statements inside; one without an arrow or a break is
-- nothing
abbrev pub Block : Branch → List ℕ → Position → Kind → List Placed → List ℕ → Histories
Block inner rounds place kind inside rs h cut =
    ((is_there kind inside ≡ true) × Formed inner rounds place (passage_of kind (length (branches_in 0 inside))) (branches_in 0 inside) rs h cut)
    ⊎ ((is_there kind inside ≡ false) × Only (only []) h cut)

-- the step of an arrow in these rounds, where it is lost or arrives
abbrev pub met : List (List ℕ) → Placed → Arrow → Bool → List ℕ → History
met lines p a lost rs = only (steps.Meets (message_of lines p a lost rs) ∷ [])

-- those of an arrow: one that may be lost or arrive is lost by choice 0, and arrives by choice 1
abbrev pub Said : List (List ℕ) → Placed → Arrow → List ℕ → Histories
Said lines p a rs h cut =
    ((is_choice a ≡ true) × (Made (under 0) false (Only (met lines p a true rs)) h cut ⊎ Made (under 1) false (Only (met lines p a false rs)) h cut))
    ⊎ ((is_choice a ≡ false) × Only (met lines p a (is_loss a.fate) rs) h cut)

-- those of one statement, with those behind it
abbrev pub One : List (List ℕ) → Branch → List ℕ → Placed → Statement → List Placed → List ℕ → Histories
One lines inner rounds p (Says arrow) ps rs = Said lines p arrow rs
One lines inner rounds p (Begins kind) ps rs = Block inner rounds (start_of p) kind (take (extent 0 ps) ps) rs
One lines inner rounds p (Declares ident shown) ps rs = Only (only [])
One lines inner rounds p (Closes closer) ps rs = Only (only [])

-- those of statements, of which the first so many belong to one before them
unfoldable pub Row : List (List ℕ) → Branch → List ℕ → ℕ → List Placed → List ℕ → Histories
Row lines inner rounds n [] rs = Only (only [])
Row lines inner rounds (suc n) (p ∷ ps) rs = Row lines inner rounds n ps rs
Row lines inner rounds zero (p ∷ ps) rs =
    Then (One lines inner rounds p p.statement ps rs) (Row lines inner rounds (owned_by p.statement ps) ps rs)

-- those of statements with as many blocks inside each other
unfoldable pub Through : List (List ℕ) → List ℕ → ℕ → Branch
Through lines rounds zero rs ps = Only (only [])
Through lines rounds (suc d) rs ps = Row lines (Through lines rounds d) rounds 0 ps rs

-- a history of a whole diagram, whose loops go these numbers of rounds
abbrev pub IsHistory : List ℕ → Diagram → History → Type 0
IsHistory rounds d h = (cut : Bool) × Through d.lines rounds (DEPTH_LIMIT + 1) [] d.statements h cut
