-- What holds of the choices of every diagram.
use Rattle.std.specs.Prelude.{◌≡◌, ◌⊎◌, ◌<◌, ◌≤◌, ℕ, ◌+◌, Bool, true, false, not, nat_le, List, [], ◌∷◌, length, Ok, ◌↔◌}
use Rattle.std.specs.List.{AllByRecursion, Contains, list_all}
use Rattle.msc_mermaid.specs.declared.TheConstants.{DEPTH_LIMIT}
use Rattle.msc_scenarios.specs.declared.TheConstants.{ROUND_LIMIT}
use Rattle.msc_scenarios.specs.declared.steps.Ending.TheVariants as ends
use Rattle.msc_scenarios.specs.declared.steps.Step.{Step}
use Rattle.msc_mermaid.specs.declared.fault.ImportFault.TheVariants.{TooManyArrows}
use Rattle.msc_mermaid.specs.declared.row.Kind.TheVariants as kinds
use Rattle.msc_mermaid.specs.declared.statement.Diagram.{Diagram}
use Rattle.msc_mermaid.specs.declared.statement.Statement.{Statement}
use Rattle.msc_mermaid.specs.declared.statement.Statement.TheVariants.{Declares, Says, Begins, Closes}
use Rattle.msc_place.specs.declared.position.Position.{Position}
use Rattle.msc_scenarios.specs.Choosing.{all_choices}
use Rattle.msc_scenarios.specs.Counting.{capped, scenarios}
use Rattle.msc_scenarios.specs.Steps.{Walk, walk, at_rest, is_choice, unended}
use Rattle.msc_scenarios.specs.Histories.{History, IsHistory}

-- a block begins that may take a choice, or an arrow takes one
abbrev pub may_choose : Statement → Bool
may_choose (Begins kinds.Par) = false
may_choose (Begins kinds.Plain) = false
may_choose (Begins kind) = true
may_choose (Declares ident shown) = false
may_choose (Says arrow) = is_choice arrow
may_choose (Closes closer) = false

-- as many lists of choices as scenarios are counted
abbrev pub AsManyAsCounted : Type 0
AsManyAsCounted =
    (rounds : List ℕ) (d : Diagram) → capped (length (all_choices rounds d)) ≡ scenarios rounds d

-- without a block or an arrow that may take a choice there is one scenario, with no choice
abbrev pub NoBlocksOneScenario : Type 0
NoBlocksOneScenario =
    (rounds : List ℕ) (d : Diagram) → list_all (λ p. not (may_choose p.statement)) d.statements ≡ true → (all_choices rounds d ≡ [] ∷ []) × (scenarios rounds d ≡ 1)

-- the walk stopped since it has too many arrows
abbrev pub IsTooLong : Walk → Type 0
IsTooLong w = (here : Position) × (w.ending ≡ ends.Stopped (TooManyArrows here))

-- the walk took these choices, and no fault keeps it from a draft beside its lines
abbrev pub Takes : List ℕ → Walk → Type 0
Takes given w = (w.taken ≡ given) × (unended w w.ending ≡ Ok w)

-- the walk through a diagram with these choices
abbrev pub walked : Diagram → List ℕ → Walk
walked d given = walk (DEPTH_LIMIT + 1) d.statements [] (at_rest d.lines given)

-- these are the choices of a whole scenario: a walk takes just them, unless it has too many arrows
abbrev pub IsWhole : Diagram → List ℕ → Type 0
IsWhole d given = IsTooLong (walked d given) ⊎ Takes given (walked d given)

-- each of the lists of choices is that of a whole scenario, where no loop goes more rounds than it
-- may
abbrev pub EachIsWhole : Type 0
EachIsWhole =
    (rounds : List ℕ) (d : Diagram) → list_all (λ r. nat_le r ROUND_LIMIT) rounds ≡ true → AllByRecursion (IsWhole d) (all_choices rounds d)

-- each comes before all that follow it
abbrev pub InOrder : {X : Type 0} → (X → X → Type 0) → List X → Type 0
InOrder R [] = Unit {0}
InOrder R (x ∷ xs) = AllByRecursion (R x) xs × InOrder R xs

-- one list of choices comes before another: at the first place where they differ it has the smaller
-- choice, and there is such a place
abbrev pub ComesBefore : List ℕ → List ℕ → Type 0
ComesBefore (x ∷ xs) (y ∷ ys) = (x < y) ⊎ ((x ≡ y) × ComesBefore xs ys)
ComesBefore [] ys = ⊥
ComesBefore (x ∷ xs) [] = ⊥

-- the lists of choices are in their order, so each stands once, where the numbers of rounds are in
-- theirs
abbrev pub EachOnceInOrder : Type 0
EachOnceInOrder =
    (rounds : List ℕ) (d : Diagram) → InOrder (λ m n. m < n) rounds → InOrder ComesBefore (all_choices rounds d)

-- none is missing: what a walk takes that no fault stops is one of the lists of choices, where
-- rounds has each number of rounds that a loop may go
abbrev pub NoneIsMissing : Type 0
NoneIsMissing =
    (rounds : List ℕ) (d : Diagram) (given : List ℕ) → ((r : ℕ) → r ≤ ROUND_LIMIT → Contains rounds r) → Takes given (walked d given) → Contains (all_choices rounds d) given

-- Each path once: whatever numbers of rounds loops go, the lists of choices are those of the
-- diagram's histories. They are in their order, so each stands once, where the numbers of rounds
-- are in theirs.
abbrev pub EachPathOnce : Type 0
EachPathOnce =
    (rounds : List ℕ) (d : Diagram) → ((given : List ℕ) → Contains (all_choices rounds d) given ↔ ((ss : List Step) × IsHistory rounds d (record { choices = given; steps = ss })))
    × (InOrder (λ m n. m < n) rounds → InOrder ComesBefore (all_choices rounds d))

-- Just what is met: a walk with the choices of a history takes these and has its steps, unless it
-- has too many arrows.
abbrev pub JustWhatIsMet : Type 0
JustWhatIsMet =
    (rounds : List ℕ) (d : Diagram) (h : History) → ((r : ℕ) → Contains rounds r → r ≤ ROUND_LIMIT) → IsHistory rounds d h
    → IsTooLong (walked d h.choices) ⊎ (Takes h.choices (walked d h.choices) × ((walked d h.choices).steps ≡ h.steps))

-- And nothing else is: what a walk takes that no fault stops is a history, with the steps of the
-- walk, where rounds has just the numbers of rounds that a loop may go.
abbrev pub NothingElseIsMet : Type 0
NothingElseIsMet =
    (rounds : List ℕ) (d : Diagram) (given : List ℕ) → ((r : ℕ) → (Contains rounds r → r ≤ ROUND_LIMIT) × (r ≤ ROUND_LIMIT → Contains rounds r)) → Takes given (walked d given)
    → IsHistory rounds d (record { choices = given; steps = (walked d given).steps })
