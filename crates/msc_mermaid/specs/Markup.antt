-- Entities of HTML.
use Rattle.std.specs.Prelude.{ℕ, ◌+◌, Bool, cond, ◌&&◌, ◌==◌, nat_lt, List, drop}
use Rattle.std.specs.Char.{is_ascii_alphanumeric}
use Rattle.std.specs.List.{prefix_len}
use Rattle.msc_lexer.specs.Bytes.{begins}

-- `&`, `#` and `;`
abbrev pub is_ampersand : ℕ → Bool
is_ampersand b = b == 38

abbrev pub is_hash : ℕ → Bool
is_hash b = b == 35

abbrev pub is_end : ℕ → Bool
is_end b = b == 59

-- how many letters and digits stand in front
abbrev pub named : List ℕ → ℕ
named bytes = prefix_len is_ascii_alphanumeric bytes

-- how many bytes the rest of an entity has, behind so many: letters or digits, and `;`
abbrev pub entity_rest : ℕ → List ℕ → ℕ
entity_rest n bytes =
    cond (nat_lt 0 (named bytes) && begins is_end (drop (named bytes) bytes)) (n + named bytes + 1) 0

-- how many bytes the entity has that stands here; 0 if there is none
abbrev pub markup_entity : List ℕ → ℕ
markup_entity bytes =
    cond (begins is_ampersand bytes) (cond (begins is_hash (drop 1 bytes)) (entity_rest 2 (drop 2 bytes)) (entity_rest 1 (drop 1 bytes))) 0
