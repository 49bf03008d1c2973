-- What the functions that look for the end of a piece answer.
use Rattle.std.specs.Prelude.{◌≡◌, ℕ, ◌+◌, ◌≤◌, ◌<◌, false, ◌==◌, nat_eq, List, ◌++◌, length, Option, if◌then◌else◌, slice_index, take, drop}
use Rattle.std.specs.Int.{w64, trailing_zeros}
use Rattle.msc_lexer.specs.declared.token.Kind.{Kind}
use Rattle.msc_lexer.specs.Bytes.{begins}
use Rattle.msc_lexer.specs.Pieces.{Piece, NeverCloses, Fits, doubled, kind_of, spelled}

-- the first `*/` stands at this place
pub record ClosesAt (body : List ℕ) (at : ℕ) : Type 0 where
  pub inside : at + 2 ≤ length body
  pub star : slice_index body at ≡ 42
  pub slash : slice_index body (at + 1) ≡ 47
  pub first : NeverCloses (take at body)

-- each apostrophe in the bytes is doubled
abbrev pub IsDoubled : List ℕ → Type 0
IsDoubled bytes = (body : List ℕ) × (bytes ≡ doubled body)

-- at this place the first apostrophe stands that isn't doubled
pub record QuoteEndsAt (bytes : List ℕ) (at : ℕ) : Type 0 where
  pub inside : at < length bytes
  pub mark : slice_index bytes at ≡ 39
  pub lone : begins (nat_eq 39) (drop (at + 1) bytes) ≡ false
  pub before : IsDoubled (take at bytes)

-- the text begins with a piece of so many bytes, which is a token if it has a kind
pub record StartsWith (text : List ℕ) (kind : Option Kind) (len : ℕ) : Type 0 where
  pub piece : Piece
  pub rest : List ℕ
  pub whole : text ≡ spelled piece ++ rest
  pub fits : Fits piece rest
  pub kind_is : kind ≡ kind_of piece
  pub len_is : len ≡ length (spelled piece)

-- the place of the lowest bit that is set, or n where none is
abbrev pub first_set : ℕ → ℕ → ℕ
first_set mask n = if mask == 0 then n else trailing_zeros w64 mask
