-- The tables by which the events of a chart are made: an entry for each act, in one pass.
use Rattle.std.specs.Prelude.{ℕ, ◌+◌, cond, List, [], ◌∷◌}
use Rattle.msc_chart.specs.Events.{Act}
use Rattle.msc_chart.specs.Events.Act.{OfMessage, Action}
use Rattle.msc_chart.specs.Charting.{partner_of}

-- the partners of the acts from number e on; where an end has none, the number of acts stands
abbrev pub partners_from : List Act → ℕ → List Act → List ℕ
partners_from acts e [] = []
partners_from acts e (x ∷ xs) = partner_of acts e x ∷ partners_from acts (e + 1) xs

-- of all acts
abbrev pub partners_of : List Act → List ℕ
partners_of acts = partners_from acts 0 acts

-- Before each end of a message how many outputs stand, before each action how many actions, and
-- last how many outputs in all; so many outputs and actions stand before the first of these acts.
abbrev pub numbers_from : ℕ → ℕ → List Act → List ℕ
numbers_from outputs actions [] = outputs ∷ []
numbers_from outputs actions (OfMessage x ∷ xs) =
    outputs ∷ numbers_from (cond x.sends (outputs + 1) outputs) actions xs
numbers_from outputs actions (Action text ∷ xs) =
    actions ∷ numbers_from outputs (actions + 1) xs

-- of all acts
abbrev pub numbers_of : List Act → List ℕ
numbers_of acts = numbers_from 0 0 acts
