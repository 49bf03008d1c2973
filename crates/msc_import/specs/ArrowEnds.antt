-- What is drawn of an arrow on a line: the table of arrows, as a user reads it.
use Rattle.std.specs.Prelude.{◌≡◌, ℕ, Bool, cond, ◌==◌, List, [], ◌∷◌, ◌++◌, codes, map}
use Rattle.msc_parser.specs.declared.tree.Statement.{Statement as Drawn}
use Rattle.msc_parser.specs.declared.tree.Statement.TheVariants.{Message as Signalled, Action as Acts}
use Rattle.msc_parser.specs.declared.tree.Direction.TheVariants as directions
use Rattle.msc_scenarios.specs.declared.steps.Message.{Message}
use Rattle.msc_scenarios.specs.declared.steps.Step.TheVariants as steps
use Rattle.msc_import.specs.declared.plan.Own.{Own}
use Rattle.msc_import.specs.declared.plan.Own.TheVariants as owns
use Rattle.msc_import.specs.Drafting.{drawn_event, ident_text, line_name, signal}
use Rattle.msc_import.specs.Laws.{ends_on}

-- an output to a line, and an input from one
abbrev pub out_to : List (List ℕ) → Message → ℕ → Drawn
out_to names m line = Signalled (signal directions.Output m (line_name names line))

abbrev pub in_from : List (List ℕ) → Message → ℕ → Drawn
in_from names m line = Signalled (signal directions.Input m (line_name names line))

-- an arrow to oneself is a step, or a message that the line sends itself
abbrev pub own_arrow : Own → List (List ℕ) → Message → List Drawn
own_arrow owns.Action names m = Acts (ident_text m) ∷ []
own_arrow owns.Message names m = out_to names m m.to ∷ in_from names m m.from ∷ []

-- these, where it is so
abbrev pub when : Bool → List Drawn → List Drawn
when b xs = cond b xs []

-- What an arrow is on a line, from top to bottom. A lost message is a step of its sender. Of any
-- other the sender has the output and the receiver the input; of two heads the receiver has an
-- output too, and the sender its input.
unfoldable pub arrow_on : Own → List (List ℕ) → ℕ → Message → List Drawn
arrow_on own names line m =
    cond m.lost (when (m.from == line) (Acts (codes "lost " ++ ident_text m ++ codes " to " ++ line_name names m.to) ∷ []))
    (cond (m.from == m.to) (when (m.from == line) (own_arrow own names m))
    (cond (m.from == line) (out_to names m m.to ∷ when m.both (in_from names m m.to ∷ []))
    (when (m.to == line) (when m.both (out_to names m m.from ∷ []) ++ in_from names m m.from ∷ []))))

-- that is what is drawn of each arrow
abbrev pub ArrowsHaveTheirEnds : Type 0
ArrowsHaveTheirEnds =
    (own : Own) (names : List (List ℕ)) (line : ℕ) (m : Message) → map (drawn_event names) (ends_on own line (steps.Meets m)) ≡ arrow_on own names line m
