-- The first place at which something stands.
use Rattle.std.specs.Prelude.{ℕ, ◌+◌, Bool, cond, ◌&&◌, nat_lt, List, [], ◌∷◌, length, take, drop, is_some}
use Rattle.msc_mermaid.specs.declared.key.Mark.TheVariants as marks
use Rattle.msc_mermaid.specs.declared.seeking.Sought.{Sought}
use Rattle.msc_mermaid.specs.declared.seeking.Sought.TheVariants as sought
use Rattle.msc_mermaid.specs.Markup.{markup_entity}
use Rattle.msc_mermaid.specs.White.{begins_white, white}
use Rattle.msc_mermaid.specs.Keys.{mark_text, begin_so, head_of}

-- `as` and white space
abbrev pub is_alias : List ℕ → Bool
is_alias bytes = begin_so bytes (mark_text marks.As) && begins_white (drop 2 bytes)

-- what is sought stands here
abbrev pub is_here : Sought → List ℕ → Bool
is_here (sought.Text m) bytes = begin_so bytes (mark_text m)
is_here sought.Arrow bytes = is_some (head_of bytes)
is_here sought.Alias bytes = begins_white bytes && is_alias (drop (white bytes) bytes)
is_here sought.Entity bytes = nat_lt 0 (markup_entity bytes)

-- how many bytes stand before the first place at which it stands, and else all of them
unfoldable pub before : Sought → List ℕ → ℕ
before s [] = 0
before s (b ∷ bs) = cond (is_here s (b ∷ bs)) 0 (1 + before s bs)

-- this stands in the bytes
abbrev pub holds : List ℕ → Sought → Bool
holds bytes s = nat_lt (before s bytes) (length bytes)

-- what stands from the first entity of HTML on, and nothing if there is none
abbrev pub from_entity : List ℕ → List ℕ
from_entity bytes = drop (before sought.Entity bytes) bytes

-- the first entity of HTML in the bytes, or nothing
abbrev pub entity_in : List ℕ → List ℕ
entity_in bytes = take (markup_entity (from_entity bytes)) (from_entity bytes)
