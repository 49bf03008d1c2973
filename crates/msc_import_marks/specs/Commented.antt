-- The text of a chart with comments of its events.
use Rattle.std.specs.Prelude.{ℕ, ◌+◌, ◌-◌, cond, ◌==◌, List, [], ◌∷◌, ◌++◌, Option, None, Some, codes, drop, slice_get, slice_range}
use Rattle.std.specs.List.{flat_map, fold}
use Rattle.std.specs.Option.{option_map_or}
use Rattle.msc_place.specs.declared.places.EventPlace.{EventPlace}
use Rattle.msc_place.specs.Standing.{TextPlaces}
use Rattle.msc_import_marks.specs.declared.commented.Part.{Part}

-- a byte, an apostrophe twice
abbrev pub twice : ℕ → List ℕ
twice b = cond (b == 39) (39 ∷ 39 ∷ []) (b ∷ [])

-- ` comment 'TEXT'`, in which each apostrophe of the text stands twice
abbrev pub comment_part : Option (List ℕ) → List ℕ
comment_part None = []
comment_part (Some text) = codes " comment '" ++ (flat_map twice text ++ codes "'")

-- the place of the `;` of a statement
abbrev pub semicolon_of : EventPlace → ℕ
semicolon_of place = place.end - 1

-- A part of a text with comments: what is written so far, how much of the text that is, and the event
-- whose comment is next.
pub record CommentedPart : Type 0 where
  pub out : List ℕ
  pub from : ℕ
  pub event : ℕ

-- nothing is written
abbrev pub begun : CommentedPart
begun = record { out = []; from = 0; event = 0 }

-- behind the text up to the `;` of a statement, and a comment
abbrev pub behind : List ℕ → Option (List ℕ) → CommentedPart → ℕ → CommentedPart
behind text comment s at = record {
  out = s.out ++ (slice_range text s.from at ++ comment_part comment);
  from = at;
  event = s.event + 1;
}

-- behind the comment of the next event; there is none if the text has no such event
abbrev pub after : TextPlaces → CommentedPart → Option (List ℕ) → CommentedPart
after p s comment = option_map_or (λ place. behind p.text comment s (semicolon_of place)) (slice_get p.stand.events s.event) s

-- with the rest of the text
abbrev pub whole : List ℕ → CommentedPart → List ℕ
whole text s = s.out ++ drop s.from text

-- a text with these comments of its events, each before the `;` of its statement
abbrev pub commented : TextPlaces → List (Option (List ℕ)) → List ℕ
commented p comments = whole p.text (fold (after p) begun comments)

-- what the code has written
abbrev pub part_of : Part → CommentedPart
part_of s = record { out = s.out.items; from = s.from; event = s.event }
