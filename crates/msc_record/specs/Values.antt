-- The text of a value of JSON.
use Rattle.std.specs.Prelude.{◌≡◌, ℕ, List, Some}
use Rattle.json.specs.Json.{Json, document}
use Rattle.json.specs.Print.{print}
use Rattle.json.specs.Tree.{json_tokens}

-- a value, in the fewest bytes
abbrev pub json_text : Json → List ℕ
json_text j = print (json_tokens j)

-- the grammar of JSON reads the text of a value as that value
abbrev pub ReadsBack : Json → Type 0
ReadsBack j = document (json_text j) ≡ Some j
