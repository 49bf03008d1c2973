-- That the texts of a picture of a chart are plain, where its names are.
use Rattle.std.proofs.Common.{◌≡◌, ℕ, ◌<◌, true, List, [], Some, length, get_or, map, inl, inr, refl, sym, subst, ◌∙◌, arith}
use Rattle.std.specs.Prelude.{slice_get}
use Rattle.std.specs.List.{range_with_len}
use Rattle.std.proofs.lemmas.List.{get_or_past}
use Rattle.std.proofs.lemmas.List.FromFn.{get_or-map-range_with_len, length-map-range_with_len}
use Rattle.std.proofs.lemmas.Option.{get_or_from_slice_get, slice_get-get_or}
use Rattle.std.proofs.lemmas.Bool.{cases_lt}
use Rattle.msc_chart.specs.declared.event.EventKind.{EventKind}
use Rattle.msc_chart.specs.declared.event.EventKind.TheVariants.{Output, Input, Local}
use Rattle.msc_chart.specs.Charts.{kind}
use Rattle.msc_chart.specs.Drawings.{Drawing, label_of}
use Rattle.msc_parser.specs.Grammar.{Tree}
use Rattle.msc_picture.specs.declared.scene.Arrow.{Arrow}
use Rattle.msc_picture.specs.declared.scene.Head.{Head}
use Rattle.msc_picture.specs.declared.scene.Scene.{Scene}
use Rattle.msc_picture.specs.declared.scene.Spot.{Spot}
use Rattle.msc_picture.specs.Columns.{no_head}
use Rattle.msc_picture.specs.Plain.{HasPlainNames, HasPlainTexts, IsPlainAct, is_plain}
use Rattle.msc_picture.specs.Scenes.{IsPopulated, act_by, arrow_of, spot_of}
use Rattle.msc_picture.proofs.PlainBytes.{plain_by, plain_shown}
use Rattle.msc_picture.proofs.Standing.{stands}

-- what stands at a place of a list that is made of numbers
made_at : {X : Type 0} (f : ℕ → X) (n k : ℕ) (x : X)
    → slice_get (map f (range_with_len 0 n)) k ≡ Some x → (k < n) × (f k ≡ x)
made_at {X} f n k x is =
    let inside = (stands (map f (range_with_len 0 n)) k x x is).0 in
    let below : k < n = omega (arith, inside, length-map-range_with_len f 0 n) in (
      below,
      sym (get_or-map-range_with_len f 0 n k k x below (omega arith))
          ∙ get_or_from_slice_get (map f (range_with_len 0 n)) k x x is,
    )

-- what is said of each head is so of what stands at any number
head_at : (heads : List Head) (i : ℕ) (text : Head → List ℕ) → is_plain (text no_head) ≡ true
    → ((h : Head) → slice_get heads i ≡ Some h → is_plain (text h) ≡ true)
    → is_plain (text (get_or heads i no_head)) ≡ true
head_at heads i text none some = elim (cases_lt i (length heads)) [
  | inl inside ↦ some (get_or heads i no_head) (slice_get-get_or heads i no_head inside)
  | inr past ↦
      subst (λ (h : Head). is_plain (text h) ≡ true) (sym (get_or_past heads i no_head past)) none
]

-- what an event does has no text, or one that is masked
plain_doing : (d : Drawing) (e : ℕ) (k : EventKind) → IsPlainAct (act_by d e k)
plain_doing d e Output = plain_by [] refl
plain_doing d e Input = plain_by [] refl
plain_doing d e Local = plain_shown (label_of d e)

pub plain_texts : (draft : Tree) (d : Drawing) (s : Scene) → HasPlainNames draft d
    → IsPopulated draft d s → HasPlainTexts s
plain_texts draft d s names shows =
    let heads = λ (i : ℕ) (h : Head) (is : slice_get s.heads i ≡ Some h).
    names.heads i h (subst (λ (l : List Head). slice_get l i ≡ Some h) shows.heads is) in record {
      name = subst (λ (l : List ℕ). is_plain l ≡ true) (sym shows.name) names.name;
      heads = λ i. head_at s.heads i (λ h. h.name) (plain_by [] refl) (λ h is. (heads i h is).0);
      kinds = λ i. head_at s.heads i (λ h. h.kind) (plain_by [] refl) (λ h is. (heads i h is).1);
      labels = λ m arrow is.
          let at = made_at (arrow_of d) (length d.messages) m arrow
          (subst (λ (l : List Arrow). slice_get l m ≡ Some arrow) shows.arrows is) in
          subst (λ (a : Arrow). is_plain a.label ≡ true) at.1 (names.messages m at.0);
      acts = λ e spot is.
          let at = made_at (spot_of d) (length d.events) e spot
          (subst (λ (l : List Spot). slice_get l e ≡ Some spot) shows.spots is) in
          subst (λ (x : Spot). IsPlainAct x.act) at.1 (plain_doing d e (kind d.events e));
    }
