-- That pictures in text are plain.
use Rattle.std.proofs.Common.{◌≡◌, ℕ, ◌+◌, ◌-◌, ◌/◌, Bool, true, false, cond, List, [], ◌++◌, Option, None, Some, codes, take, length, get_or, fold, replicate, nat_eq, nat_lt, refl, arith}
use Rattle.std.specs.Prelude.{slice_get, slice_set}
use Rattle.std.specs.Fmt.{decimal}
use Rattle.std.specs.List.{range_with_len}
use Rattle.msc_picture.specs.declared.columns.Columns.{Columns}
use Rattle.msc_picture.specs.declared.piece.Ends.{Ends}
use Rattle.msc_picture.specs.declared.piece.Ends.TheVariants.{Output, Input, Both}
use Rattle.msc_picture.specs.declared.piece.Piece.{Piece}
use Rattle.msc_picture.specs.declared.scene.Act.{Act}
use Rattle.msc_picture.specs.declared.scene.Act.TheVariants.{Sends, Takes, Does}
use Rattle.msc_picture.specs.declared.scene.Arrow.{Arrow}
use Rattle.msc_picture.specs.declared.scene.Row.{Row}
use Rattle.msc_picture.specs.declared.scene.Scene.{Scene}
use Rattle.msc_picture.specs.declared.scene.Spot.{Spot}
use Rattle.msc_picture.specs.Columns.{column, columns_of, no_head, short_text}
use Rattle.msc_picture.specs.Pieces.{act_piece, arrow_piece, dashed, dashes_between, drawn_by, ends_of, input_piece, message_piece, output_piece, row_piece, spot_piece}
use Rattle.msc_picture.specs.Plain.{HasPlainTexts, IsPlainAct, is_plain}
use Rattle.msc_picture.specs.Rows.{row_passes}
use Rattle.msc_picture.specs.Texts.{ground, head_line, in_band, is_marked, line_at, numbers_text, over, picture_text, row_line, row_lines, second_number, with_axis, with_band, with_byte, with_bar, with_name}
use Rattle.msc_picture.proofs.PlainBytes.{looks_plain, plain_at, plain_by, plain_choice, plain_decimal, plain_flat, plain_fold, plain_fold_range, plain_join, plain_replicate, plain_set, plain_take}

-- an action's text, cut
plain_short : (text : List ℕ) → is_plain text ≡ true → is_plain (short_text text) ≡ true
plain_short text p =
    plain_choice (nat_lt 40 (length text)) (take 38 text ++ codes "..") text
    (plain_join (take 38 text) (codes "..") (plain_take 38 text p) (plain_by (codes "..") refl)) p

-- a text between two others
between : (before text after : List ℕ) → is_plain before ≡ true → is_plain text ≡ true
    → is_plain after ≡ true → is_plain ((before ++ text) ++ after) ≡ true
between before text after p q r = plain_join (before ++ text) after (plain_join before text p q) r

-- a text between two that are plain by a look at them
framed : (before text after : List ℕ) → looks_plain before ≡ true → is_plain text ≡ true
    → looks_plain after ≡ true → is_plain ((before ++ text) ++ after) ≡ true
framed before text after p q r = between before text after (plain_by before p) q (plain_by after r)

-- dashes between two texts
dashes : (before : List ℕ) (n : ℕ) (after : List ℕ) → looks_plain before ≡ true
    → looks_plain after ≡ true → is_plain (dashed before n after) ≡ true
dashes before n after p q = framed before (replicate n 45) after p (plain_replicate n 45 refl) q

-- one of two pieces
piece_choice : (b : Bool) (x y : Piece) → is_plain x.text ≡ true → is_plain y.text ≡ true
    → is_plain (cond b x y).text ≡ true
piece_choice true x y p q = p
piece_choice false x y p q = q

module _ (a b : ℕ) (label : List ℕ) (p : is_plain label ≡ true) where
  plain_arrow : (many : ℕ) → is_plain (arrow_piece a b many label).text ≡ true
  plain_arrow many =
      piece_choice (nat_lt a b) _ _
      (between _ label _ (dashes [] (many - many / 2) (codes " ") refl refl) p
      (dashes (codes " ") (many / 2 - 1) (codes ">") refl refl))
      (between _ label _ (dashes (codes "<") (many - many / 2 - 1) (codes " ") refl refl) p
      (dashes (codes " ") (many / 2) [] refl refl))

  plain_output : is_plain (output_piece a b label).text ≡ true
  plain_output =
      piece_choice (nat_lt b a) _ _ (framed (codes ".. ") label (codes " --") refl p refl)
      (framed (codes "-- ") label (codes " ..") refl p refl)

  plain_input : is_plain (input_piece a b label).text ≡ true
  plain_input =
      piece_choice (nat_lt a b) _ _ (framed (codes ".. ") label (codes " ->") refl p refl)
      (framed (codes "<- ") label (codes " ..") refl p refl)

-- what is drawn of a message
plain_drawn : (ends : Ends) (a b : ℕ) (arrow : Arrow) → is_plain arrow.label ≡ true
    → is_plain (drawn_by ends a b arrow).text ≡ true
plain_drawn Output a b arrow p = plain_output a b arrow.label p
plain_drawn Input a b arrow p = plain_input a b arrow.label p
plain_drawn Both a b arrow p =
    piece_choice (nat_eq arrow.from arrow.to) _ _
    (framed (codes "<- ") arrow.label (codes " --)") refl p refl)
    (plain_arrow a b arrow.label p (dashes_between a b arrow.label))

module _ (s : Scene) (c : Columns) (texts : HasPlainTexts s) where
  plain_message : (ends : Ends) (m : ℕ) (o : Option Arrow) → slice_get s.arrows m ≡ o
      → is_plain (message_piece c (drawn_by ends) o).text ≡ true
  plain_message ends m None is = plain_by [] refl
  plain_message ends m (Some arrow) is =
      plain_drawn ends (column c arrow.from) (column c arrow.to) arrow (texts.labels m arrow is)

  plain_act : (i : ℕ) (act : Act) (second : Option ℕ) → IsPlainAct act
      → is_plain (act_piece s c i act second).text ≡ true
  plain_act i (Sends m) second p = plain_message (ends_of second) m (slice_get s.arrows m) refl
  plain_act i (Takes m) second p = plain_message Input m (slice_get s.arrows m) refl
  plain_act i (Does text) second p =
      framed (codes "[") (short_text text) (codes "]") refl (plain_short text p) refl

  plain_spot : (e : ℕ) (o : Option Spot) (second : Option ℕ) → slice_get s.spots e ≡ o
      → is_plain (spot_piece s c o second).text ≡ true
  plain_spot e None second is = plain_by [] refl
  plain_spot e (Some spot) second is = plain_act spot.instance spot.act second (texts.acts e spot is)

  plain_piece : (row : Row) → is_plain (row_piece s c row).text ≡ true
  plain_piece row = plain_spot row.first (slice_get s.spots row.first) row.second refl

  -- the axes and the bands
  plain_ground : (r : ℕ) → is_plain (ground s c r) ≡ true
  plain_ground r =
      plain_fold (with_band c r) (fold with_axis (replicate c.width 32) c.columns) s.bands
      (plain_fold with_axis (replicate c.width 32) c.columns (plain_replicate c.width 32 refl)
      (λ l x p. plain_set l x 124 p refl))
      (λ l band p. plain_choice (in_band r band) (slice_set l (column c band.instance) 58) l
      (plain_set l (column c band.instance) 58 p refl) p)

  -- a piece over them
  plain_over : (piece : Piece) (line : List ℕ) → is_plain piece.text ≡ true
      → is_plain line ≡ true → is_plain (over piece line) ≡ true
  plain_over piece line p q =
      plain_fold_range (with_byte piece) line 0 (length piece.text) q
      (λ l k low high r. plain_set l (piece.start + k) (get_or piece.text k 0) r
      (plain_at piece.text k (omega (arith, high)) p))

  plain_second : (o : Option ℕ) → is_plain (second_number o) ≡ true
  plain_second None = plain_by [] refl
  plain_second (Some e) =
      plain_join (codes " ") (decimal e) (plain_by (codes " ") refl) (plain_decimal e)

  plain_row : (r : ℕ) (row : Row) → is_plain (row_line s c r row) ≡ true
  plain_row r row =
      plain_join _ (numbers_text row)
      (plain_fold (with_bar c row) (over (row_piece s c row) (ground s c r)) s.bars
      (plain_over (row_piece s c row) (ground s c r) (plain_piece row) (plain_ground r))
      (λ l bar p. plain_choice (row_passes (is_marked bar) row)
      (slice_set l (column c bar.instance) 42) l (plain_set l (column c bar.instance) 42 p refl) p))
      (plain_join _ (codes "\n") (plain_join _ (second_number row.second)
      (plain_join (codes "  ") (decimal row.first) (plain_by (codes "  ") refl)
      (plain_decimal row.first)) (plain_second row.second)) (plain_by (codes "\n") refl))

  plain_line : (r : ℕ) (o : Option Row) → is_plain (line_at s c r o) ≡ true
  plain_line r None = plain_by [] refl
  plain_line r (Some row) = plain_row r row

  plain_rows : is_plain (row_lines s c) ≡ true
  plain_rows =
      plain_flat (λ r. line_at s c r (slice_get s.rows r)) (range_with_len 0 (length s.rows))
      (λ r. plain_line r (slice_get s.rows r))

  plain_heads : is_plain (head_line s c) ≡ true
  plain_heads =
      plain_join _ (codes "\n")
      (plain_fold (with_name s c) [] (range_with_len 0 (length s.heads)) (plain_by [] refl)
      (λ l i p. plain_join _ (get_or s.heads i no_head).name
      (plain_join l _ p (plain_replicate _ 32 refl)) (texts.heads i))) (plain_by (codes "\n") refl)

-- so is the whole picture
pub plain_picture : (s : Scene) → HasPlainTexts s → is_plain (picture_text s) ≡ true
plain_picture s texts =
    plain_choice (nat_eq (length s.heads) 0) (codes "\n")
    (head_line s (columns_of s) ++ row_lines s (columns_of s)) (plain_by (codes "\n") refl)
    (plain_join (head_line s (columns_of s)) (row_lines s (columns_of s))
    (plain_heads s (columns_of s) texts) (plain_rows s (columns_of s) texts))
