-- Sentences of a report whose bytes are plain.
use Rattle.std.proofs.Common.{◌≡◌, ℕ, Bool, true, false, cond, List, [], ◌∷◌, ◌++◌, Option, None, Some, codes, length, map, nat_lt, refl}
use Rattle.std.specs.Prelude.{slice_get}
use Rattle.std.specs.Fmt.{decimal}
use Rattle.msc_picture.specs.declared.scene.Act.{Act}
use Rattle.msc_picture.specs.declared.scene.Act.TheVariants.{Sends, Takes, Does}
use Rattle.msc_picture.specs.declared.scene.Arrow.{Arrow}
use Rattle.msc_picture.specs.declared.scene.Scene.{Scene}
use Rattle.msc_picture.specs.declared.scene.Spot.{Spot}
use Rattle.msc_picture.specs.Columns.{short_text}
use Rattle.msc_picture.specs.Plain.{HasPlainTexts, IsPlainAct, is_plain}
use Rattle.msc_picture.proofs.PlainBytes.{looks_plain, plain_by, plain_choice, plain_decimal, plain_join, plain_take}
use Rattle.msc_reason.specs.declared.cause.Cause.{Cause}
use Rattle.msc_reason.specs.declared.cause.RaceKind.{RaceKind}
use Rattle.msc_reason.specs.declared.cause.RaceKind.TheVariants.{Early, Queues as TwoQueues, Unordered, Overtaken}
use Rattle.msc_reason.specs.Causes.{kind_word}
use Rattle.msc_svg.proofs.PlainTrees.{PlainAttributes, PlainNode, class_plain, closed_plain, empty_plain, holding_plain, more_plain, none_plain, opened_plain, plain_escaped, valued_plain}
use Rattle.msc_tree.specs.Trees.{children, closed, node_text, nodes_text, opened}
use Rattle.msc_html.specs.declared.part.SentenceStyle.{SentenceStyle}
use Rattle.msc_html.specs.declared.part.SentenceStyle.TheVariants.{Plain, Soft, Verdict, Pass, Scrolled}
use Rattle.msc_html.specs.declared.part.Part.{Part}
use Rattle.msc_html.specs.declared.part.Tag.{Tag}
use Rattle.msc_html.specs.declared.part.Tag.TheVariants.{Words, Code, Number}
use Rattle.msc_html.specs.Parts.{code, style_attributes, part_node, sentence, tagged, words}
use Rattle.msc_html.specs.Telling.{act_done, act_label, act_other, act_text, action_text, can_parts, done, drawn_parts, event_text, helping_parts, home, hopeless_parts, label, label_at, label_of, causes_parts, name_at, number_words, often_text, order_text, other, reason_parts, sender_at, sender_of, spot_done, spot_home, spot_label, spot_other, spot_text, taker_at, taker_of, title_parts, two_parts, way_text}

-- each of several parts
unfoldable pub AreParts : List Part → Type 0
AreParts [] = is_plain [] ≡ true
AreParts (p ∷ ps) = (is_plain p.text ≡ true) × AreParts ps

pub no_parts : AreParts []
unfolding AreParts
no_parts = plain_by [] refl

pub next_part : (p : Part) (ps : List Part) → is_plain p.text ≡ true → AreParts ps
    → AreParts (p ∷ ps)
unfolding AreParts
next_part p ps one others = (one, others)

pub one_part : (text : List ℕ) → is_plain text ≡ true → AreParts (words text ∷ [])
one_part text p = next_part (words text) [] p no_parts

pub parts_join : (xs ys : List Part) → AreParts xs → AreParts ys → AreParts (xs ++ ys)
unfolding AreParts
parts_join [] ys p q = q
parts_join (x ∷ xs) ys p q = (p.0, parts_join xs ys p.1 q)

parts_choice : (b : Bool) (xs ys : List Part) → AreParts xs → AreParts ys → AreParts (cond b xs ys)
parts_choice true xs ys p q = p
parts_choice false xs ys p q = q

tagged_plain : (tag : Tag) (text : List ℕ) → is_plain text ≡ true → is_plain (node_text (tagged tag text)) ≡ true
unfolding PlainNode
tagged_plain Words text p = plain_escaped text p
tagged_plain Code text p = holding_plain (codes "code") [] text refl none_plain p
tagged_plain Number text p = holding_plain (codes "b") [] text refl none_plain p

parts_plain : (parts : List Part) → AreParts parts
    → is_plain (nodes_text (children (map part_node parts))) ≡ true
unfolding AreParts
parts_plain [] p = plain_by [] refl
parts_plain (x ∷ xs) p =
    plain_join (node_text (part_node x)) (nodes_text (children (map part_node xs)))
    (tagged_plain x.tag x.text p.0) (parts_plain xs p.1)

style_plain : (style : SentenceStyle) → PlainAttributes (style_attributes style)
style_plain Plain = none_plain
style_plain Soft = more_plain _ [] (class_plain (codes "soft") (plain_by _ refl)) none_plain
style_plain Verdict = more_plain _ [] (class_plain (codes "verdict") (plain_by _ refl)) none_plain
style_plain Pass = more_plain _ [] (class_plain (codes "verdict pass") (plain_by _ refl)) none_plain
style_plain Scrolled =
    more_plain _ [] (valued_plain (codes "tabindex") (codes "0") refl (plain_by _ refl)) none_plain

-- a sentence
pub sentence_plain : (name : List ℕ) (style : SentenceStyle) (parts : List Part) → looks_plain name ≡ true
    → AreParts parts → PlainNode (sentence name style parts)
unfolding PlainNode AreParts
sentence_plain name style [] p q = empty_plain name (style_attributes style) p (style_plain style)
sentence_plain name style (x ∷ xs) p q =
    plain_join _ (closed name)
    (plain_join (opened name (style_attributes style) ++ codes ">") _
    (plain_join (opened name (style_attributes style)) (codes ">")
    (opened_plain name (style_attributes style) p (style_plain style)) (plain_by _ refl))
    (plain_join (node_text (part_node x)) (nodes_text (children (map part_node xs)))
    (tagged_plain x.tag x.text q.0) (parts_plain xs q.1))) (closed_plain name p)

action_plain : (text : List ℕ) → is_plain text ≡ true → is_plain (action_text text) ≡ true
action_plain text p =
    plain_join _ (codes "'") (plain_join (codes "action '") (short_text text) (plain_by _ refl)
    (plain_choice (nat_lt 40 (length text)) _ text
    (plain_join _ (codes "..") (plain_take 38 text p) (plain_by _ refl)) p)) (plain_by _ refl)

module _ (s : Scene) (texts : HasPlainTexts s) where
  label_plain : (m : ℕ) (o : Option Arrow) → slice_get s.arrows m ≡ o → is_plain (label_of o) ≡ true
  label_plain m None is = plain_by [] refl
  label_plain m (Some a) is = texts.labels m a is

  taker_plain : (o : Option Arrow) → is_plain (taker_of s o) ≡ true
  taker_plain None = plain_by [] refl
  taker_plain (Some a) = texts.heads a.to

  sender_plain : (o : Option Arrow) → is_plain (sender_of s o) ≡ true
  sender_plain None = plain_by [] refl
  sender_plain (Some a) = texts.heads a.from

  label_there : (m : ℕ) → is_plain (label_at s m) ≡ true
  label_there m = label_plain m (slice_get s.arrows m) refl

  taker_there : (m : ℕ) → is_plain (taker_at s m) ≡ true
  taker_there m = taker_plain (slice_get s.arrows m)

  sender_there : (m : ℕ) → is_plain (sender_at s m) ≡ true
  sender_there m = sender_plain (slice_get s.arrows m)

  act_plain : (act : Act) → IsPlainAct act → is_plain (act_text s act) ≡ true
  act_plain (Sends m) p =
      plain_join _ (taker_at s m) (plain_join _ (codes " to ") (plain_join (codes "out ") (label_at s m)
      (plain_by _ refl) (label_there m)) (plain_by _ refl)) (taker_there m)
  act_plain (Takes m) p =
      plain_join _ (sender_at s m) (plain_join _ (codes " from ") (plain_join (codes "in ")
      (label_at s m) (plain_by _ refl) (label_there m)) (plain_by _ refl)) (sender_there m)
  act_plain (Does text) p = action_plain text p

  act_label_plain : (act : Act) → is_plain (act_label s act) ≡ true
  act_label_plain (Sends m) = label_there m
  act_label_plain (Takes m) = label_there m
  act_label_plain (Does text) = plain_by [] refl

  act_other_plain : (act : Act) → is_plain (act_other s act) ≡ true
  act_other_plain (Sends m) = taker_there m
  act_other_plain (Takes m) = sender_there m
  act_other_plain (Does text) = plain_by [] refl

  act_done_plain : (at : List ℕ) (act : Act) → is_plain at ≡ true → IsPlainAct act
      → AreParts (act_done s at act)
  act_done_plain at (Sends m) p q =
      (next_part _ _ p (next_part _ _ (plain_by _ refl) (next_part _ _ (label_there m) (next_part _ _ (plain_by _ refl) (next_part _ _ (taker_there m) no_parts)))))
  act_done_plain at (Takes m) p q =
      (next_part _ _ p (next_part _ _ (plain_by _ refl) (next_part _ _ (label_there m) (next_part _ _ (plain_by _ refl) (next_part _ _ (sender_there m) no_parts)))))
  act_done_plain at (Does text) p q =
      (next_part _ _ p (next_part _ _ (plain_by _ refl) (next_part _ _ (action_plain text q) no_parts)))

  spot_plain : (e : ℕ) (o : Option Spot) → slice_get s.spots e ≡ o → is_plain (spot_text s o) ≡ true
  spot_plain e None is = plain_by [] refl
  spot_plain e (Some spot) is = act_plain spot.act (texts.acts e spot is)

  spot_label_plain : (o : Option Spot) → is_plain (spot_label s o) ≡ true
  spot_label_plain None = plain_by [] refl
  spot_label_plain (Some spot) = act_label_plain spot.act

  spot_other_plain : (o : Option Spot) → is_plain (spot_other s o) ≡ true
  spot_other_plain None = plain_by [] refl
  spot_other_plain (Some spot) = act_other_plain spot.act

  spot_home_plain : (o : Option Spot) → is_plain (spot_home s o) ≡ true
  spot_home_plain None = plain_by [] refl
  spot_home_plain (Some spot) = texts.heads spot.instance

  spot_done_plain : (e : ℕ) (o : Option Spot) → slice_get s.spots e ≡ o → AreParts (spot_done s o)
  spot_done_plain e None is = no_parts
  spot_done_plain e (Some spot) is =
      act_done_plain (name_at s spot.instance) spot.act (texts.heads spot.instance)
      (texts.acts e spot is)

  event_there : (e : ℕ) → is_plain (event_text s e) ≡ true
  event_there e = spot_plain e (slice_get s.spots e) refl

  label_of_event : (e : ℕ) → is_plain (label s e) ≡ true
  label_of_event e = spot_label_plain (slice_get s.spots e)

  other_of_event : (e : ℕ) → is_plain (other s e) ≡ true
  other_of_event e = spot_other_plain (slice_get s.spots e)

  home_of_event : (e : ℕ) → is_plain (home s e) ≡ true
  home_of_event e = spot_home_plain (slice_get s.spots e)

  done_of_event : (e : ℕ) → AreParts (done s e)
  done_of_event e = spot_done_plain e (slice_get s.spots e) refl

  number_plain : (e : ℕ) (rest : List ℕ) → is_plain rest ≡ true → is_plain (number_words e rest) ≡ true
  number_plain e rest p =
      plain_join _ rest (plain_join (codes " (event ") (decimal e) (plain_by _ refl) (plain_decimal e)) p

  order_plain : (x y : ℕ) (rest : List ℕ) → is_plain rest ≡ true → is_plain (order_text x y rest) ≡ true
  order_plain x y rest p =
      plain_join _ rest (plain_join _ (decimal y) (plain_join _ (codes " before event ")
      (plain_join (codes " (event ") (decimal x) (plain_by _ refl) (plain_decimal x)) (plain_by _ refl))
      (plain_decimal y)) p

  kind_plain : (kind : RaceKind) → is_plain (kind_word kind) ≡ true
  kind_plain Early = plain_by _ refl
  kind_plain TwoQueues = plain_by _ refl
  kind_plain Unordered = plain_by _ refl
  kind_plain Overtaken = plain_by _ refl

  pub title_plain : (k e : ℕ) (cause : Cause) → AreParts (title_parts s k e cause)
  title_plain k e cause =
      (next_part _ _ (plain_by _ refl) (next_part _ _ (plain_decimal k) (next_part _ _ (plain_by _ refl) (next_part _ _ (home_of_event e) (next_part _ _ (plain_join _ (codes ")") (plain_join _ _ (plain_join (codes " (") (kind_word cause.kind)
      (plain_by _ refl) (kind_plain cause.kind))
      (plain_choice cause.always (codes ", always") [] (plain_by _ refl) (plain_by [] refl)))
      (plain_by _ refl)) no_parts)))))

  pub drawn_plain : (e f : ℕ) → AreParts (drawn_parts s e f)
  drawn_plain e f =
      (next_part _ _ (event_there e) (next_part _ _ (number_plain e (codes ") is drawn before ") (plain_by _ refl)) (next_part _ _ (event_there f) (next_part _ _ (number_plain f (codes ").") (plain_by _ refl)) no_parts))))

  two_plain : (e f : ℕ) (way : List ℕ) → is_plain way ≡ true → AreParts (two_parts s e f way)
  two_plain e f way p =
      (next_part _ _ (label_of_event e) (next_part _ _ (plain_by _ refl) (next_part _ _ (other_of_event e) (next_part _ _ (plain_by _ refl) (next_part _ _ (label_of_event f) (next_part _ _ (plain_by _ refl) (next_part _ _ (other_of_event f) (next_part _ _ (plain_by _ refl) (next_part _ _ (home_of_event e) (next_part _ _ p no_parts))))))))))

  can_plain : (e f : ℕ) (kind : RaceKind) → AreParts (can_parts s e f kind)
  can_plain e f Early =
      (next_part _ _ (label_of_event f) (next_part _ _ (plain_by _ refl) (next_part _ _ (other_of_event f) (next_part _ _ (plain_by _ refl) (done_of_event e)))))
  can_plain e f TwoQueues = two_plain e f (way_text TwoQueues) (plain_by _ refl)
  can_plain e f Unordered = two_plain e f (way_text Unordered) (plain_by _ refl)
  can_plain e f Overtaken = two_plain e f (way_text Overtaken) (plain_by _ refl)

  pub reason_plain : (e f : ℕ) (cause : Cause) → AreParts (reason_parts s e f cause)
  reason_plain e f cause =
      parts_join (can_parts s e f cause.kind) _ (can_plain e f cause.kind)
      (one_part (often_text cause.always)
      (plain_choice cause.always _ _ (plain_by _ refl) (plain_by _ refl)))

  -- that one event sends a message, between words
  sent_plain : (o : ℕ) (before sends to after : List ℕ) → is_plain before ≡ true
      → is_plain sends ≡ true → is_plain to ≡ true → is_plain after ≡ true
      → AreParts (words before ∷ code (home s o) ∷ words sends ∷ code (label s o) ∷ words to
      ∷ code (other s o) ∷ words after ∷ [])
  sent_plain o before sends to after p q r t =
      (next_part _ _ p (next_part _ _ (home_of_event o) (next_part _ _ q (next_part _ _ (label_of_event o) (next_part _ _ r (next_part _ _ (other_of_event o) (next_part _ _ t no_parts)))))))

  pub causes_plain : (cause : Cause) → AreParts (causes_parts s cause)
  causes_plain cause =
      let p = cause.needed in
      let o = cause.output in
      parts_choice cause.always (hopeless_parts s p o) (helping_parts s p o)
      (parts_join _ _ (parts_join _ (done s p)
      (sent_plain o (codes "In every run ") (codes " sends ") (codes " to ") (codes " before ")
      (plain_by _ refl) (plain_by _ refl) (plain_by _ refl) (plain_by _ refl)) (done_of_event p))
      (one_part _ (order_plain o p
      (codes "), so no further order can help: the drawing itself has to change.") (plain_by _ refl))))
      (parts_join _ _ (parts_join _ (done s p)
      (sent_plain o (codes "The drawn order would hold if ") (codes " sent ") (codes " to ")
      (codes " only after ") (plain_by _ refl) (plain_by _ refl) (plain_by _ refl) (plain_by _ refl))
      (done_of_event p)) (one_part _ (order_plain p o (codes ").") (plain_by _ refl))))
