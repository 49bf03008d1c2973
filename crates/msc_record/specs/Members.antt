-- Objects and arrays of JSON (RFC 8259), as lists of members and of values.
use Rattle.std.specs.Prelude.{ℕ, List, [], ◌∷◌, Option, None, Some, map}
use Rattle.std.specs.Fmt.{decimal}
use Rattle.std.specs.List.{flat_map}
use Rattle.std.specs.Str.Lossy.{utf8_lossy}
use Rattle.json.specs.Json.{Json, null, number, string, array, object, Items, no_items, item, Members, no_members, member}
use Rattle.json.specs.Token.{Token, key}
use Rattle.json.specs.Tree.{json_tokens}

-- a member of an object: its name and its value
abbrev pub Member : Type 0
Member = List ℕ × Json

-- an object with these members, in this order
abbrev pub members_of : List Member → Members
members_of [] = no_members
members_of (m ∷ ms) = member m.0 m.1 (members_of ms)

abbrev pub object_of : List Member → Json
object_of ms = object (members_of ms)

-- an array of these values
abbrev pub items_of : List Json → Items
items_of [] = no_items
items_of (j ∷ js) = item j (items_of js)

abbrev pub array_of : List Json → Json
array_of js = array (items_of js)

-- a number, in decimal
abbrev pub natural : ℕ → Json
natural n = number (decimal n)

-- a text, with U+FFFD in place of what is no UTF-8
abbrev pub text : List ℕ → Json
text bytes = string (utf8_lossy bytes)

-- a value, or null
abbrev pub or_null : {A : Type 0} → (A → Json) → Option A → Json
or_null json None = null
or_null json (Some a) = json a

-- a member, if there is a value
abbrev pub member_if : {A : Type 0} → (A → Json) → List ℕ → Option A → List Member
member_if json name None = []
member_if json name (Some a) = (name, json a) ∷ []

-- a member with a list, if the list is not empty
abbrev pub member_if_any : {A : Type 0} → (A → Json) → List ℕ → List A → List Member
member_if_any json name [] = []
member_if_any json name (x ∷ xs) = (name, array_of (map json (x ∷ xs))) ∷ []

-- the tokens of a member, and of members
abbrev pub member_tokens : Member → List Token
member_tokens m = key m.0 ∷ json_tokens m.1

abbrev pub tokens_of : List Member → List Token
tokens_of ms = flat_map member_tokens ms
