-- The arrows of a scenario, and what its chart calls their messages.
use Rattle.std.specs.Prelude.{ℕ, Bool, true, false, ◌&&◌, ◌||◌, List, [], ◌∷◌, ◌++◌, Option, None, Some, codes, cond, nat_eq}
use Rattle.std.specs.List.{flat_map, position}
use Rattle.msc_import.specs.declared.plan.Own.{Own}
use Rattle.msc_import.specs.declared.plan.Own.TheVariants as owns
use Rattle.msc_mermaid.specs.declared.statement.Placed.{Placed}
use Rattle.msc_mermaid.specs.declared.statement.Span.{Span}
use Rattle.msc_scenarios.specs.declared.steps.Message.{Message}
use Rattle.msc_scenarios.specs.declared.steps.Step.{Step}
use Rattle.msc_scenarios.specs.declared.steps.Step.TheVariants.{Meets, Opens, Next, Closes}
use Rattle.msc_import_marks.specs.declared.met.MetArrow.{MetArrow}

-- a statement has these bytes
abbrev pub is_whole : Span → Placed → Bool
is_whole whole placed = nat_eq placed.whole.first whole.first && nat_eq placed.whole.past whole.past

-- arrows to oneself are actions
abbrev pub are_actions : Own → Bool
are_actions owns.Action = true
are_actions owns.Message = false

-- a message is drawn as an action: it is lost, or it goes to its own line, where such are actions
abbrev pub is_action : Own → Message → Bool
is_action own m = m.lost || (are_actions own && nat_eq m.from m.to)

-- what a chart calls a message: `NAME, NUMBER`, or `action`
abbrev pub ident_of : Own → Message → List ℕ
ident_of own m = cond (is_action own m) (codes "action") (m.name ++ (codes ", " ++ m.number))

abbrev pub met_arrow : Own → Message → ℕ → MetArrow
met_arrow own m statement = record { statement = statement; ident = ident_of own m }

-- the arrow of a message with this statement, if there is one
abbrev pub arrow_of : Own → Message → Option ℕ → List MetArrow
arrow_of own m None = []
arrow_of own m (Some statement) = met_arrow own m statement ∷ []

-- the arrow that a step meets
abbrev pub met_at : Own → List Placed → Step → List MetArrow
met_at own statements (Meets m) = arrow_of own m (position (is_whole m.statement) statements)
met_at own statements (Opens place) = []
met_at own statements Next = []
met_at own statements Closes = []

-- the arrows that a path with these steps meets, as they are met
abbrev pub met_arrows : Own → List Placed → List Step → List MetArrow
met_arrows own statements steps = flat_map (met_at own statements) steps
