-- The lines of a picture in text, piece by piece.
use Rattle.std.proofs.Common.{◌≡◌, ℕ, ◌+◌, ◌<◌, List, length, get_or, sym, ap, ◌∙◌, arith}
use Rattle.std.specs.Prelude.{slice_set, slice_get}
use Rattle.std.proofs.lemmas.Option.{slice_get-get_or}
use Rattle.msc_picture.specs.declared.columns.Columns.{Columns}
use Rattle.msc_picture.specs.declared.piece.Piece.{Piece}
use Rattle.msc_picture.specs.declared.scene.Row.{Row}
use Rattle.msc_picture.specs.declared.scene.Scene.{Scene}
use Rattle.msc_picture.specs.Texts.{line_at, row_line, with_byte}

-- a byte of a piece over a line
pub byte_over : (p : Piece) (line next : List ℕ) (k at b : ℕ) → at ≡ p.start + k
    → b ≡ get_or p.text k 0 → next ≡ slice_set line at b → next ≡ with_byte p line k
byte_over p line next k at b here is more =
    more ∙ ap (λ (i : ℕ). slice_set line i b) here ∙ ap (λ (x : ℕ). slice_set line (p.start + k) x) is

-- the line of a row, where there is one
pub line_there : (s : Scene) (c : Columns) (r : ℕ) (rows : List Row) (d : Row) (line : List ℕ)
    → rows ≡ s.rows → r < length rows → line ≡ row_line s c r (get_or rows r d)
    → line ≡ line_at s c r (slice_get s.rows r)
line_there s c r rows d line same below is =
    let inside : r < length s.rows = omega (arith, ap (λ (l : List Row). length l) same) in
    is ∙ ap (λ (l : List Row). row_line s c r (get_or l r d)) same
    ∙ ap (line_at s c r) (sym (slice_get-get_or s.rows r d inside))
