-- What a line has of a path, segment by segment. Events of one segment are in no order among
-- themselves; those of one segment are drawn before those of all that follow it.
use Rattle.std.specs.Prelude.{◌≡◌, ℕ, Bool, true, false, not, ◌||◌, ◌&&◌, cond, nat_lt, List, [], ◌∷◌, ◌++◌, length, map, Some, Ok}
use Rattle.std.specs.List.{flat_map, list_any, slice_get}
use Rattle.msc_place.specs.declared.position.Position.{Position}
use Rattle.msc_mermaid.specs.declared.statement.Diagram.{Diagram}
use Rattle.msc_mermaid.specs.declared.statement.Placed.{Placed}
use Rattle.msc_scenarios.specs.declared.steps.Message.{Message}
use Rattle.msc_scenarios.specs.declared.steps.Step.{Step}
use Rattle.msc_scenarios.specs.declared.steps.Step.TheVariants as steps
use Rattle.msc_scenarios.specs.Histories.{History, IsHistory}
use Rattle.msc_import.specs.declared.plan.Manner.{Manner}
use Rattle.msc_import.specs.declared.plan.Own.{Own}
use Rattle.msc_import.specs.Drafting.{drawn_item, section_of}
use Rattle.msc_import.specs.Laws.{ends_on}
use Rattle.msc_import.specs.Plans.{Event, Plan, is_exchange, plans_of}

-- the segments of a line
abbrev pub Segments : Type 0
Segments = List (List Event)

-- these events as one segment, if there are any
abbrev pub together : List Event → Segments
together [] = []
together (e ∷ es) = (e ∷ es) ∷ []

-- The segments of an arrow on a line: each of its ends is one, from top to bottom. The two ends of
-- an arrow with two heads are one together.
abbrev pub arrow_segments : Own → ℕ → Message → Segments
arrow_segments own line m =
    cond (is_exchange m) (together (ends_on own line (steps.Meets m))) (map (λ e. e ∷ []) (ends_on own line (steps.Meets m)))

-- a branch has a segment
abbrev pub is_some : Segments → Bool
is_some [] = false
is_some (g ∷ gs) = true

-- two of the branches of a par have one
abbrev pub several : List Segments → Bool
several [] = false
several (b ∷ bs) = (is_some b && list_any is_some bs) || several bs

-- one of them has more than one
abbrev pub is_wide : List Segments → Bool
is_wide bs = list_any (λ b. nat_lt 1 (length b)) bs

-- The segments of a par: where several of its branches have one, and none has more, all are one
-- together. Else those of a branch stand below those of the branches before it.
abbrev pub joined : List Segments → Segments
joined bs = cond (several bs && not (is_wide bs)) (flat_map (λ g. g) (flat_map (λ b. b) bs) ∷ []) (flat_map (λ b. b) bs)

-- these steps have these segments on a line, and the steps of a par these, branch by branch
mutual
  pub data IsSegmented (own : Own) (line : ℕ) : List Step → Segments → Type 0 where
    nothing : IsSegmented own line [] []
    arrow : (m : Message) (ss : List Step) (gs : Segments) → IsSegmented own line ss gs → IsSegmented own line (steps.Meets m ∷ ss) (arrow_segments own line m ++ gs)
    par : (place : Position) (inside : List Step) (bs : List Segments) (ss : List Step) (gs : Segments) → AreBranches own line inside bs → IsSegmented own line ss gs → IsSegmented own line (steps.Opens place ∷ (inside ++ steps.Closes ∷ ss)) (joined bs ++ gs)

  pub data AreBranches (own : Own) (line : ℕ) : List Step → List Segments → Type 0 where
    none : AreBranches own line [] []
    branch : (ss : List Step) (gs : Segments) (rest : List Step) (bs : List Segments) → IsSegmented own line ss gs → AreBranches own line rest bs → AreBranches own line (ss ++ steps.Next ∷ rest) (gs ∷ bs)

-- these steps have segments on a line
abbrev pub HasSegments : Own → ℕ → List Step → Type 0
HasSegments own line ss = (gs : Segments) × IsSegmented own line ss gs

-- Each line of a draft has the segments of its path, each an item: an event by itself, or a
-- coregion. So what is drawn first on it is drawn before what is in a later segment, and before
-- nothing else.
abbrev pub LinesAreDrawnInSegments : Type 0
LinesAreDrawnInSegments =
    (manner : Manner) (names : List (List ℕ)) (line : ℕ) (ident : List ℕ) (ps : List Placed) (ss : List Step) (lines : ℕ) (plans : List Plan) (p : Plan) (gs : Segments) → plans_of manner ss lines ≡ Ok plans → slice_get plans line ≡ Some p → IsSegmented manner.own line ss gs
    → (section_of names line ident ps p).items ≡ map (drawn_item names) gs

-- each history of a diagram has segments on each line
abbrev pub HistoriesHaveSegments : Type 0
HistoriesHaveSegments =
    (own : Own) (line : ℕ) (rounds : List ℕ) (d : Diagram) (h : History) → IsHistory rounds d h → HasSegments own line h.steps
