-- The places of events while they are made.
use Rattle.std.proofs.Common.{◌≡◌, ℕ, ◌+◌, ◌-◌, ◌<◌, ◌≤◌, List, [], ◌∷◌, ◌++◌, codes, length, take, drop, map, get_or, OnOk, Option, Some, None, Result, sym, ap, ◌∙◌, subst, inl, inr, arith, append_assoc, slice_range, length-append, length-drop}
use Rattle.std.proofs.lemmas.Bool.{cases_lt}
use Rattle.std.proofs.lemmas.List.{append-nil, drop-append-le, take-append-le, get_or_append_left, get_or-append-add, get_or-map, length-map}
use Rattle.std.proofs.lemmas.List.Elements.{All-get_or, All-push, All-weaker}
use Rattle.msc_place.specs.EventPositions.{event_position_text, event_positions_line, EventPositionsIn}
use Rattle.msc_report.specs.declared.event_position_texts.EventPositionSpan.{EventPositionSpan}
use Rattle.msc_report.specs.Fitting.{ArePlacesIn}
use Rattle.msc_report.specs.Styles.{at_text}
use Rattle.msc_report.specs.EventPositionTexts.{no_event_position, event_position_at, AreMadeEventPositions, AreEventPositionsOf, HasPutEventPosition, IsEventPositionIn}
use Rattle.msc_report.proofs.MadeTexts.{range_kept, part_put, longer}

-- a place stays where it is when more is put behind it
within_kept : (old rest : List ℕ) (s : EventPositionSpan) → IsEventPositionIn old s → IsEventPositionIn (old ++ rest) s
within_kept old rest s within = record {
  rising = within.rising;
  within = let size = length-append old rest in let end = within.within in omega (arith, size, end);
}

event_position_kept : (old rest : List ℕ) (s : EventPositionSpan) → IsEventPositionIn old s → event_position_at (old ++ rest) s ≡ event_position_at old s
event_position_kept old rest s within = range_kept old rest s.from s.to within.rising within.within

-- the place that was put last stands at the end
pub event_position_put : (event_positions : EventPositionsIn) (e : ℕ) (old new : List ℕ) (s : EventPositionSpan) → new ≡ old ++ event_position_text event_positions e
    → s.from ≡ length old → s.to ≡ length new → HasPutEventPosition event_positions e old new s
event_position_put event_positions e old new s is from_is to_is = record {
  kept = (_, is);
  within = record {
    rising = longer old new (event_position_text event_positions e) s.from s.to is from_is to_is;
    within = omega (arith, to_is);
  };
  text = part_put old (event_position_text event_positions e) new [] new s.from s.to is (sym (append-nil new)) from_is to_is;
}

-- one place more is made
pub event_position_more : (event_positions : EventPositionsIn) (old new : List ℕ) (spans : List EventPositionSpan) (e : ℕ) (s : EventPositionSpan)
    → AreMadeEventPositions event_positions old spans e → HasPutEventPosition event_positions e old new s → AreMadeEventPositions event_positions new (spans ++ s ∷ []) (e + 1)
event_position_more event_positions old new spans e s made put =
    let rest : List ℕ = put.kept.0 in
    let is : new ≡ old ++ rest = put.kept.1 in
    let size = made.size in
    record {
      size = let all = length-append spans (s ∷ []) in omega (arith, all, size);
      within = All-push (IsEventPositionIn new) spans s
          (All-weaker (IsEventPositionIn old) (IsEventPositionIn new) (λ x h. subst (λ b. IsEventPositionIn b x) (sym is) (within_kept old rest x h)) spans made.within)
          put.within;
      each = λ k below. elim (cases_lt k e) [
        | inl before ↦
            let there : k < length spans = omega (arith, before, size) in
            let x : EventPositionSpan = get_or spans k no_event_position in
            ap (event_position_at new) (get_or_append_left spans (s ∷ []) no_event_position k there)
            ∙ ap (λ b. event_position_at b x) is
            ∙ event_position_kept old rest x (All-get_or (IsEventPositionIn old) spans k no_event_position there made.within)
            ∙ made.each k before
        | inr last ↦
            let same : k ≡ length spans + 0 = omega (arith, below, last, size) in
            let own : k ≡ e = omega (arith, below, last) in
            ap (λ i. event_position_at new (get_or (spans ++ s ∷ []) i no_event_position)) same
            ∙ ap (event_position_at new) (get_or-append-add spans (s ∷ []) 0 no_event_position)
            ∙ put.text ∙ ap (event_position_text event_positions) (sym own)
      ];
    }

-- when all are made, they are the places of the events
pub event_position_all : (event_positions : EventPositionsIn) (bytes : List ℕ) (spans : List EventPositionSpan) (e count : ℕ) → e ≡ count
    → AreMadeEventPositions event_positions bytes spans e → AreEventPositionsOf event_positions count (map (event_position_at bytes) spans)
event_position_all event_positions bytes spans e count all made = record {
  size = let size = made.size in let mapped = length-map spans (event_position_at bytes) in omega (arith, size, mapped, all);
  each = λ k below.
      let there : k < length spans = let size = made.size in omega (arith, below, size, all) in
      get_or-map (event_position_at bytes) spans k no_event_position [] there ∙ made.each k (omega (arith, below, all));
}

-- the line that is put together of two places is that of both
pub event_positions_joined : (event_positions : EventPositionsIn) (texts : List (List ℕ)) (e f : ℕ) (page : List ℕ) → AreEventPositionsOf event_positions (length texts) texts
    → e < length texts → f < length texts
    → ((((page ++ codes "at ") ++ get_or texts e []) ++ codes " ") ++ get_or texts f []) ++ codes "\n" ≡ page ++ event_positions_line event_positions e f
event_positions_joined event_positions texts e f page are e_known f_known =
    rw (are.each e e_known, are.each f f_known) (simp append_assoc)

-- places that are printed have the size that they were made of
pub places_size : (o : Option EventPositionsIn) (n : ℕ) (places : List (List ℕ)) → ArePlacesIn o n places → length places ≡ n
places_size None n places are = absurd are
places_size (Some s) n places are = are.size

-- the line that is put together of them is that of the places that are printed
pub at_made : {T E : Type 0} (o : Option EventPositionsIn) (n e f : ℕ) (places : List (List ℕ)) (r : Result T E) (old new : List ℕ)
    → ArePlacesIn o n places
    → ((s : EventPositionsIn) → AreEventPositionsOf s (length places) places → OnOk r (new ≡ old ++ event_positions_line s e f))
    → OnOk r (new ≡ old ++ at_text o [] e f)
at_made None n e f places r old new are put = absurd are
at_made (Some s) n e f places r old new are put = put s (subst (λ (k : ℕ). AreEventPositionsOf s k places) (sym are.size) are)
