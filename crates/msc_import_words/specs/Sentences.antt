-- Sentences of faults of imports that have a word or a number in them.
use Rattle.std.specs.Prelude.{ℕ, cond, nat_le, List, ◌++◌, codes, decimal}
use Rattle.msc_scenarios.specs.declared.TheConstants.{SCENARIO_LIMIT}

-- an arrow, or an entity of HTML
unfoldable pub unsupported_text : List ℕ → List ℕ
unsupported_text word = codes "\"" ++ (word ++ codes "\" is not supported")

-- a word outside of its block
unfoldable pub outside_text : List ℕ → List ℕ
outside_text word = codes "\"" ++ (word ++ codes "\" stands outside of its block")

-- more scenarios than the limit, and several where one is needed: so many, or more than are counted
unfoldable pub scenarios_text : ℕ → List ℕ
scenarios_text limit = codes "more than " ++ (decimal limit ++ codes " scenarios")

unfoldable pub several_text : ℕ → List ℕ
several_text count =
    cond (nat_le count SCENARIO_LIMIT) (decimal count ++ codes " scenarios, say --choose")
    (codes "more than 4096 scenarios, say --choose")

-- choices that do not fit
unfoldable pub choice_text : ℕ → ℕ → List ℕ
choice_text choice most = codes "choice " ++ (decimal choice ++ (codes " is more than " ++ decimal most))

unfoldable pub choices_text : ℕ → ℕ → List ℕ
choices_text given met = decimal given ++ (codes " choices for " ++ (decimal met ++ codes " blocks"))

-- parallel branches that share a line
unfoldable pub shared_text : List ℕ → List ℕ
shared_text name = codes "parallel branches share " ++ name

-- no diagram of a number, and several where one is needed
unfoldable pub none_text : ℕ → List ℕ
none_text number = codes "no diagram " ++ decimal number

unfoldable pub diagrams_text : ℕ → List ℕ
diagrams_text count = decimal count ++ codes " diagrams, say --fence"
