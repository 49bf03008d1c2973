-- That pictures in SVG are plain, where their texts are.
use Rattle.std.proofs.Common.{◌≡◌, ℕ, ◌+◌, ◌-◌, ◌*◌, Bool, true, false, cond, List, [], ◌∷◌, ◌++◌, Option, None, Some, codes, length, get_or, map, nat_eq, nat_lt, refl}
use Rattle.std.specs.Prelude.{slice_get}
use Rattle.std.specs.Fmt.{decimal}
use Rattle.std.specs.List.{flat_map, range_with_len}
use Rattle.msc_picture.specs.declared.scene.Act.{Act}
use Rattle.msc_picture.specs.declared.scene.Act.TheVariants.{Sends, Takes, Does}
use Rattle.msc_picture.specs.declared.scene.Arrow.{Arrow}
use Rattle.msc_picture.specs.declared.scene.RaceBar.{RaceBar}
use Rattle.msc_picture.specs.declared.scene.Scene.{Scene}
use Rattle.msc_picture.specs.declared.scene.Spot.{Spot}
use Rattle.msc_picture.specs.Columns.{no_head}
use Rattle.msc_picture.specs.Laws.{events_of_rows}
use Rattle.msc_picture.specs.Plain.{HasPlainTexts, IsPlainAct, is_plain}
use Rattle.msc_picture.proofs.PlainBytes.{plain_by, plain_choice, plain_decimal, plain_flat, plain_join}
use Rattle.msc_svg.specs.declared.caption.Caption.{Caption}
use Rattle.msc_svg.specs.declared.caption.Side.{Side}
use Rattle.msc_svg.specs.declared.caption.Side.TheVariants.{Middle, Right, Left}
use Rattle.msc_svg.specs.declared.layout.Layout.{Layout}
use Rattle.msc_svg.specs.Actions.{action_box}
use Rattle.msc_svg.specs.Captions.{act_captions, arrow_label, caption_class, caption_node, caption_plate, captions_of, comes_from_right, end_number, goes_right, label_class, label_of, other_label, plate, plates, spot_captions}
use Rattle.msc_svg.specs.Elements.{act_nodes, arrow_node, axis_from, axis_nodes, badge_of, box_class, boxes, capsule_of, count_text, end_at, end_by, ends_at, foot_node, ground_nodes, head_nodes, heading_class, heading_node, heading_nodes, instance_nodes, is_hit, bar_nodes, open_nodes, open_path, other_path, own_path, picture_nodes, plate_nodes, spot_nodes, stretch_nodes, stretches, tick_path, upper_nodes, words_at, words_nodes}
use Rattle.msc_svg.specs.Layouts.{at, half, has_kind, layout_of}
use Rattle.msc_svg.specs.Places.{axis, event_middle, place}
use Rattle.msc_svg.specs.Svg.{card, heading_of, size_attributes, style, svg_attributes, svg_node, svg_text, tip, title_of, view_box}
use Rattle.msc_tree.specs.Trees.{node_text}
use Rattle.msc_svg.proofs.PlainTrees.{ArePlain, PlainAttributes, PlainLines, PlainNode, block_plain, both_plain, choice_lines, circle_plain, flat_lines, held_plain, join_lines, line_plain, map_lines, more_plain, next_line, no_lines, none_plain, numbered_plain, one_of, path_plain, point_plain, rect_plain, step_plain, text_plain, valued_plain}
use Rattle.msc_svg.proofs.PlainWords.{box_plain}

-- a heading
class_of_heading : (k : ℕ) → is_plain (heading_class k) ≡ true
class_of_heading k =
    plain_choice (nat_eq k 0) (codes "title") (codes "verdict") (plain_by _ refl) (plain_by _ refl)

plain_heading : (heading : List (List ℕ)) → ArePlain heading
    → PlainLines (heading_nodes heading)
plain_heading heading p =
    map_lines (heading_node heading) (range_with_len 0 (length heading))
    (λ k. text_plain (heading_class k) 16 (18 * k + 24) (get_or heading k []) (class_of_heading k)
    (one_of heading k p))

-- an axis with its stretches
plain_axis : (x s : ℕ) (bands : List (ℕ × ℕ)) (foot : ℕ)
    → is_plain (axis_from x s bands foot) ≡ true
plain_axis x s [] foot =
    plain_join _ _ (point_plain (codes "M") x s refl) (step_plain (codes "V") foot refl)
plain_axis x s (band ∷ bands) foot =
    plain_join _ (axis_from x band.1 bands foot)
    (plain_join _ _ (point_plain (codes "M") x s refl) (step_plain (codes "V") band.0 refl))
    (plain_axis x band.1 bands foot)

plain_open : (x : ℕ) (band : ℕ × ℕ) → is_plain (open_path x band) ≡ true
plain_open x band =
    plain_join _ _ (point_plain (codes "M") x band.0 refl) (step_plain (codes "V") band.1 refl)

plain_tick : (x : ℕ) (band : ℕ × ℕ) → is_plain (tick_path x band) ≡ true
plain_tick x band =
    plain_join _ (codes "h36") (plain_join _ _
    (plain_join _ (codes "h36") (point_plain (codes "M") (x - 18) band.0 refl) (plain_by _ refl))
    (point_plain (codes "M") (x - 18) band.1 refl)) (plain_by _ refl)

plain_stretches : (x : ℕ) (bands : List (ℕ × ℕ))
    → PlainLines (open_nodes x bands)
plain_stretches x bands =
    choice_lines (nat_eq (length bands) 0) [] (stretch_nodes x bands) no_lines
    (next_line _ _ (path_plain (codes "open") _ (plain_by _ refl)
    (plain_flat (open_path x) bands (plain_open x)))
    (next_line _ _ (path_plain (codes "tick") _ (plain_by _ refl)
    (plain_flat (tick_path x) bands (plain_tick x))) no_lines))

module _ (s : Scene) (l : Layout) (texts : HasPlainTexts s) where
  -- an instance
  plain_head : (x w i : ℕ) → PlainLines (head_nodes l x w (get_or s.heads i no_head))
  plain_head x w i =
      let h = get_or s.heads i no_head in
      next_line _ _ (rect_plain (codes "head") _ 0 (plain_by _ refl))
      (next_line _ _ (text_plain (codes "name") x _ h.name (plain_by _ refl) (texts.heads i))
      (choice_lines (has_kind h) _ [] (next_line _ [] (text_plain (codes "kind") x _ h.kind
      (plain_by _ refl) (texts.kinds i)) no_lines) no_lines))

  plain_line_of : (x : ℕ) (bands : List (ℕ × ℕ))
      → PlainLines (axis_nodes l x bands)
  plain_line_of x bands =
      join_lines _ (foot_node l x ∷ [])
      (next_line _ (open_nodes x bands) (path_plain (codes "axis") _ (plain_by _ refl)
      (plain_axis x l.below bands l.foot)) (plain_stretches x bands))
      (next_line (foot_node l x) [] (rect_plain (codes "foot") _ 0 (plain_by _ refl)) no_lines)

  plain_instance : (i : ℕ) → PlainLines (instance_nodes s l i)
  plain_instance i =
      join_lines (head_nodes l (axis l i) (half s i) (get_or s.heads i no_head))
      (axis_nodes l (axis l i) (stretches s l i)) (plain_head (axis l i) (half s i) i)
      (plain_line_of (axis l i) (stretches s l i))

  -- a bar
  plain_doing : (x e : ℕ) (act : Act) → PlainLines (end_by s l x e act)
  plain_doing x e (Sends m) = next_line _ [] (circle_plain x (place s l e)) no_lines
  plain_doing x e (Takes m) = next_line _ [] (circle_plain x (place s l e)) no_lines
  plain_doing x e (Does text) = no_lines

  plain_end : (x e : ℕ) (o : Option Spot) → PlainLines (end_at s l x e o)
  plain_end x e None = no_lines
  plain_end x e (Some spot) = plain_doing x e spot.act

  plain_ends : (x : ℕ) (events : List ℕ) → PlainLines (ends_at s l x events)
  plain_ends x events =
      flat_lines (λ e. end_at s l x e (slice_get s.spots e)) events
      (λ e. plain_end x e (slice_get s.spots e))

  plain_bar : (bar : RaceBar) → PlainLines (bar_nodes s l bar)
  plain_bar bar =
      let x = axis l bar.instance in
      next_line (capsule_of s l bar) _ (rect_plain (codes "race") _ 9 (plain_by _ refl))
      (join_lines (ends_at s l x bar.upper) (ends_at s l x bar.lower) (plain_ends x bar.upper)
      (plain_ends x bar.lower))

  -- an arrow
  plain_own : (a : Arrow) → is_plain (own_path s l a) ≡ true
  plain_own a =
      plain_join _ _ (plain_join _ _ (plain_join _ _
      (point_plain (codes "M") (axis l a.from) (place s l a.output) refl)
      (step_plain (codes "h") _ refl)) (step_plain (codes "V") _ refl)) (step_plain (codes "H") _ refl)

  plain_other : (a : Arrow) → is_plain (other_path s l a) ≡ true
  plain_other a =
      plain_join _ _ (point_plain (codes "M") (axis l a.from) (place s l a.output) refl)
      (point_plain (codes "L") (axis l a.to) (place s l a.input) refl)

  plain_arrow : (a : Arrow) → PlainNode (arrow_node s l a)
  plain_arrow a =
      path_plain (codes "arrow") _ (plain_by _ refl)
      (plain_choice (nat_eq a.from a.to) (own_path s l a) (other_path s l a) (plain_own a)
      (plain_other a))

  plain_low : (heading : List (List ℕ)) → ArePlain heading
      → PlainLines (ground_nodes s l heading)
  plain_low heading p =
      join_lines _ (map (arrow_node s l) s.arrows)
      (join_lines _ (flat_map (bar_nodes s l) s.bars)
      (join_lines (heading_nodes heading) _ (plain_heading heading p)
      (flat_lines (instance_nodes s l) (range_with_len 0 (length s.heads)) plain_instance))
      (flat_lines (bar_nodes s l) s.bars plain_bar))
      (map_lines (arrow_node s l) s.arrows plain_arrow)

-- several labels and numbers
abbrev AreCaptions : List Caption → Type 0
AreCaptions [] = is_plain [] ≡ true
AreCaptions (c ∷ cs) = (is_plain c.text ≡ true) × AreCaptions cs

captions_join : (xs ys : List Caption) → AreCaptions xs → AreCaptions ys → AreCaptions (xs ++ ys)
captions_join [] ys p q = q
captions_join (x ∷ xs) ys p q = (p.0, captions_join xs ys p.1 q)

captions_flat : (f : ℕ → List Caption) (xs : List ℕ) → ((x : ℕ) → AreCaptions (f x))
    → AreCaptions (flat_map f xs)
captions_flat f [] p = plain_by [] refl
captions_flat f (x ∷ xs) p = captions_join (f x) (flat_map f xs) (p x) (captions_flat f xs p)

side_plain : (side : Side) → is_plain (label_class side) ≡ true
side_plain Middle = plain_by _ refl
side_plain Right = plain_by _ refl
side_plain Left = plain_by _ refl

captions_plain : (cs : List Caption) → AreCaptions cs
    → PlainLines (map caption_node cs)
captions_plain [] p = no_lines
captions_plain (c ∷ cs) p =
    next_line (caption_node c) (map caption_node cs)
    (text_plain (caption_class c) c.x c.y c.text
    (plain_choice c.number (codes "number " ++ label_class c.side) (label_class c.side)
    (plain_join (codes "number ") (label_class c.side) (plain_by _ refl) (side_plain c.side))
    (side_plain c.side)) p.0) (captions_plain cs p.1)

-- the plates have no texts
plate_plain : (u v w h : ℕ) → is_plain (plate u v w h) ≡ true
plate_plain u v w h =
    plain_join _ (codes "z") (plain_join _ _ (plain_join _ _ (plain_join _ _
    (point_plain (codes "M") u v refl) (step_plain (codes "h") w refl))
    (step_plain (codes "v") h refl)) (step_plain (codes "h-") w refl)) (plain_by _ refl)

caption_plate_plain : (c : Caption) → is_plain (caption_plate c) ≡ true
caption_plate_plain c = plain_choice c.number _ _ (plate_plain _ _ _ _) (plate_plain _ _ _ _)

-- one of two labels or numbers
caption_choice : (b : Bool) (x y : Caption) → is_plain x.text ≡ true → is_plain y.text ≡ true
    → is_plain (cond b x y).text ≡ true
caption_choice true x y p q = p
caption_choice false x y p q = q

module _ (s : Scene) (l : Layout) (texts : HasPlainTexts s) where
  -- the labels and numbers
  end_caption : (e i : ℕ) (is_left : Bool) → is_plain (end_number s l e i is_left).text ≡ true
  end_caption e i is_left = caption_choice is_left _ _ (plain_decimal e) (plain_decimal e)

  arrow_caption : (a : Arrow) → is_plain a.label ≡ true → is_plain (arrow_label l a).text ≡ true
  arrow_caption a p =
      caption_choice (nat_eq a.from a.to) _ (other_label l a) p
      (caption_choice (nat_eq (at l.rows a.output) (at l.rows a.input)) _ _ p
      (caption_choice (nat_lt a.from a.to) _ _ p p))

  label_caption : (m : ℕ) (o : Option Arrow) → slice_get s.arrows m ≡ o → AreCaptions (label_of l o)
  label_caption m None is = plain_by [] refl
  label_caption m (Some a) is = (arrow_caption a (texts.labels m a is), plain_by [] refl)

  act_caption : (e i : ℕ) (act : Act) → AreCaptions (act_captions s l e i act)
  act_caption e i (Sends m) =
      captions_join (label_of l (slice_get s.arrows m)) _ (label_caption m (slice_get s.arrows m) refl)
      (end_caption e i (goes_right (slice_get s.arrows m)), plain_by [] refl)
  act_caption e i (Takes m) =
      (end_caption e i (comes_from_right (slice_get s.arrows m)), plain_by [] refl)
  act_caption e i (Does text) = (plain_decimal e, plain_by [] refl)

  spot_caption : (e : ℕ) (o : Option Spot) → AreCaptions (spot_captions s l e o)
  spot_caption e None = plain_by [] refl
  spot_caption e (Some spot) = act_caption e spot.instance spot.act

  all_captions : AreCaptions (captions_of s l)
  all_captions =
      captions_flat (λ e. spot_captions s l e (slice_get s.spots e)) (events_of_rows s.rows)
      (λ e. spot_caption e (slice_get s.spots e))

  -- the boxes of actions
  box_caption : (e : ℕ) → is_plain (box_class s e) ≡ true
  box_caption e =
      plain_choice (is_hit s e) (codes "action hit") (codes "action") (plain_by _ refl) (plain_by _ refl)

  act_box : (e i : ℕ) (act : Act) → IsPlainAct act
      → PlainLines (act_nodes s l e i act)
  act_box e i (Sends m) p = no_lines
  act_box e i (Takes m) p = no_lines
  act_box e i (Does text) p =
      let box = action_box text in
      let x = axis l i in
      let y = event_middle l e in
      next_line _ (words_nodes x y box) (rect_plain (box_class s e) _ 0 (box_caption e))
      (flat_lines (words_at x y box) (range_with_len 0 (length box.lines))
      (λ k. choice_lines (nat_eq (length (get_or box.lines k [])) 0) [] _ no_lines
      (next_line _ [] (text_plain (codes "words") x _ (get_or box.lines k []) (plain_by _ refl)
      (one_of box.lines k (box_plain text p))) no_lines)))

  spot_box : (e : ℕ) (o : Option Spot) → slice_get s.spots e ≡ o
      → PlainLines (spot_nodes s l e o)
  spot_box e None is = no_lines
  spot_box e (Some spot) is = act_box e spot.instance spot.act (texts.acts e spot is)

  -- the badges
  badge_plain : (bar : RaceBar) → PlainLines (badge_of l bar)
  badge_plain bar =
      let t = count_text bar in
      choice_lines (nat_eq bar.first 0) [] _ no_lines
      (next_line _ _ (rect_plain (codes "count") _ 7 (plain_by _ refl))
      (next_line _ [] (text_plain (codes "badge") (axis l bar.instance) _ t (plain_by _ refl)
      (plain_choice (nat_eq bar.first bar.last) (decimal bar.first) _ (plain_decimal bar.first)
      (plain_join _ (decimal bar.last) (plain_join (decimal bar.first) (codes "-")
      (plain_decimal bar.first) (plain_by _ refl)) (plain_decimal bar.last)))) no_lines))

  plain_upper : PlainLines (upper_nodes s l)
  plain_upper =
      let captions = captions_of s l in
      join_lines _ (flat_map (badge_of l) s.bars)
      (join_lines _ (map caption_node captions)
      (join_lines (plate_nodes captions) (boxes s l)
      (choice_lines (nat_eq (length captions) 0) [] _ no_lines
      (next_line _ [] (path_plain (codes "plate") (plates captions) (plain_by _ refl)
      (plain_flat caption_plate captions caption_plate_plain)) no_lines))
      (flat_lines (λ e. spot_nodes s l e (slice_get s.spots e)) (events_of_rows s.rows)
      (λ e. spot_box e (slice_get s.spots e) refl))) (captions_plain captions all_captions))
      (flat_lines (badge_of l) s.bars badge_plain)

-- the elements of a picture
pub elements_plain : (s : Scene) (l : Layout) (heading : List (List ℕ)) → HasPlainTexts s
    → ArePlain heading → PlainLines (picture_nodes s l heading)
elements_plain s l heading texts p =
    join_lines (ground_nodes s l heading) (upper_nodes s l) (plain_low s l texts heading p)
    (plain_upper s l texts)

-- a further text
more_texts : (more : List ℕ) (b : Bool) → is_plain more ≡ true → ArePlain (cond b [] (more ∷ []))
more_texts more true p = plain_by [] refl
more_texts more false p = (p, plain_by [] refl)

pub size_plain : (l : Layout) → PlainAttributes (size_attributes l)
size_plain l =
    more_plain _ _ (numbered_plain (codes "width") l.width refl)
    (more_plain _ _ (numbered_plain (codes "height") l.height refl)
    (more_plain _ _ (valued_plain (codes "viewBox") (view_box l) refl
    (plain_join _ (decimal l.height) (plain_join _ (codes " ") (plain_join (codes "0 0 ")
    (decimal l.width) (plain_by _ refl) (plain_decimal l.width)) (plain_by _ refl))
    (plain_decimal l.height))) none_plain))

pub tip_plain : PlainNode tip
unfolding PlainNode
tip_plain = plain_by (node_text tip) refl

style_plain : is_plain style ≡ true
style_plain = plain_by style refl

-- so is the whole
pub svg_plain : (s : Scene) (more : List ℕ) → HasPlainTexts s → is_plain more ≡ true
    → is_plain (svg_text s more) ≡ true
svg_plain s more texts p =
    let heading = heading_of s.name more in
    let l = layout_of s heading in
    line_plain (svg_node s more)
    (block_plain (codes "svg") (svg_attributes l) _ _ refl
    (both_plain _ _ (more_plain _ (size_attributes l)
    (valued_plain (codes "xmlns") (codes "http://www.w3.org/2000/svg") refl (plain_by _ refl))
    (size_plain l)) (more_plain _ [] (valued_plain (codes "role") (codes "img") refl (plain_by _ refl))
    none_plain))
    (next_line _ _ (held_plain (codes "title") (title_of s.name more) refl
    (plain_choice (nat_eq (length more) 0) s.name _ texts.name
    (plain_join _ more (plain_join s.name (codes ", ") texts.name (plain_by _ refl)) p)))
    (next_line _ _ (held_plain (codes "style") style refl style_plain)
    (next_line tip _ tip_plain
    (next_line (card l) _ (rect_plain (codes "card") _ 0 (plain_by _ refl))
    (elements_plain s l heading texts (
      plain_join (codes "msc ") s.name (plain_by _ refl) texts.name,
      more_texts more (nat_eq (length more) 0) p,
    )))))))
