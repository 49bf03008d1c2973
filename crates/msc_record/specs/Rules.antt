-- The rules of findings, in SARIF (version 2.1.0, section 3.49).
use Rattle.std.specs.Prelude.{ℕ, List, [], ◌∷◌, codes, map}
use Rattle.json.specs.Json.{Json, string}
use Rattle.msc_record.specs.Members.{Member, array_of, object_of}
use Rattle.msc_record.specs.Locations.{message_json}

-- each rule, and what it says
abbrev pub rules : List (List ℕ × List ℕ)
rules =
    (codes "early", codes "race: the input can come before what is drawn above it")
    ∷ (
      codes "queues",
      codes "race: the inputs come by two queues, and nothing makes the first one come first",
    )
    ∷ (
      codes "unordered",
      codes "race: the inputs come by one queue, and nothing makes the first one be sent first",
    )
    ∷ (
      codes "overtaken",
      codes "race: the inputs come by one queue, and the second one is sent first",
    )
    ∷ (codes "never", codes "no run follows the drawing")
    ∷ (codes "lexical", codes "the text has a fault of its tokens")
    ∷ (codes "grammar", codes "the text has a fault of its grammar")
    ∷ (codes "chart", codes "the text is no chart")
    ∷ (codes "again", codes "two rounds of the chart are no chart")
    ∷ (codes "stale", codes "the mark accepts no race")
    ∷ (codes "accept", codes "the text has a mark that cannot be read")
    ∷ (codes "link", codes "the text's queues cannot be read")
    ∷ (codes "import", codes "the text is no diagram that can be taken") ∷ []

abbrev pub rule_members : List ℕ → List ℕ → List Member
rule_members id text = (codes "id", string id) ∷ (codes "shortDescription", message_json text) ∷ []

abbrev pub rule_json : List ℕ × List ℕ → Json
rule_json rule = object_of (rule_members rule.0 rule.1)

unfoldable pub rules_json : Json
rules_json = array_of (map rule_json rules)

-- the program, with its rules
abbrev pub driver_members : List ℕ → List Member
driver_members version =
    (codes "name", string (codes "msc")) ∷ (codes "version", string version)
    ∷ (codes "rules", rules_json) ∷ []

abbrev pub driver_json : List ℕ → Json
driver_json version = object_of (driver_members version)

abbrev pub tool_members : List ℕ → List Member
tool_members version = (codes "driver", driver_json version) ∷ []

abbrev pub tool_json : List ℕ → Json
tool_json version = object_of (tool_members version)
