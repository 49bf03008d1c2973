-- Which events are ends of the races from a segment, and the bars of these.
use Rattle.std.proofs.Common.{◌≡◌, ℕ, ◌+◌, ◌<◌, Bool, true, false, cond, ◌&&◌, ◌||◌, List, [], ◌∷◌, ◌++◌, length, get_or, Option, None, Some, eqb, inl, inr, refl, sym, ap, ◌∙◌, arith}
use Rattle.std.specs.Prelude.{slice_set}
use Rattle.std.specs.List.{All, range_with_len}
use Rattle.std.proofs.lemmas.Bool.{cases_eq, eq-eqb, ne_eqb}
use Rattle.std.proofs.Math.Bool.{or-false, or-true}
use Rattle.std.proofs.lemmas.List.{get_or-set_other, get_or-set_same}
use Rattle.std.proofs.lemmas.List.Elements.{filter_agree}
use Rattle.std.proofs.lemmas.List.Folds.{list_any-append, list_any_none}
use Rattle.msc_chart.specs.declared.event.ChartEvent.{ChartEvent}
use Rattle.msc_picture.specs.declared.scene.RaceBar.{RaceBar}
use Rattle.msc_picture.specs.Bars.{end_of, ends_of, is_end_of, is_from, bar_at, bar_over}
use Rattle.msc_picture.specs.Rows.{begins_segment, grown, reach_of}
use Rattle.msc_draw.specs.Marking.{bar_by}
use Rattle.msc_draw.specs.Notes.{noted}
use Rattle.msc_draw.proofs.Lists.{reach_push, same_kept}

module _ (events : List ChartEvent) where
  -- where no race leads from the segment of e, no event is an end of such a one
  pub no_end : (races : List (ℕ × ℕ)) (e : ℕ) (lower : Bool) (x : ℕ)
      → All (λ p. is_from events e p ≡ false) races → is_end_of events races e lower x ≡ false
  no_end races e lower x none =
      list_any_none (λ p. is_from events e p && eqb (end_of lower p) x) races
      (λ k d below. ap (λ (b : Bool). b && eqb (end_of lower (get_or races k d)) x) (none k d below))

  -- whether an event is an end of a race, after one more race
  end_more : (races : List (ℕ × ℕ)) (p : ℕ × ℕ) (e : ℕ) (lower : Bool) (x : ℕ)
      → is_end_of events (races ++ p ∷ []) e lower x
      ≡ (is_end_of events races e lower x || ((is_from events e p && eqb (end_of lower p) x) || false))
  end_more races p e lower x =
      list_any-append (λ q. is_from events e q && eqb (end_of lower q) x) races (p ∷ [])

  -- a race from another segment changes nothing
  end_same : (races : List (ℕ × ℕ)) (p : ℕ × ℕ) (e : ℕ) (lower : Bool) → is_from events e p ≡ false
      → (x : ℕ) → is_end_of events (races ++ p ∷ []) e lower x ≡ is_end_of events races e lower x
  end_same races p e lower other x =
      end_more races p e lower x
      ∙ ap (λ (b : Bool). is_end_of events races e lower x || ((b && eqb (end_of lower p) x) || false)) other
      ∙ or-false (is_end_of events races e lower x)

  -- the bar of the same ends over the same range
  over_same : (a b : List (ℕ × ℕ)) (e : ℕ) (o : Option (ℕ × ℕ))
      → ends_of events a e false ≡ ends_of events b e false
      → ends_of events a e true ≡ ends_of events b e true
      → bar_over events a e o ≡ bar_over events b e o
  over_same a b e None upper lower = refl
  over_same a b e (Some reach) upper lower = cc

  -- the bar of a segment, after a race from another one
  pub bar_same : (races : List (ℕ × ℕ)) (p : ℕ × ℕ) (e : ℕ) → is_from events e p ≡ false
      → bar_at events (races ++ p ∷ []) e ≡ bar_at events races e
  bar_same races p e other =
      let test = is_from events e in
      let kept = λ (lower : Bool). filter_agree (is_end_of events (races ++ p ∷ []) e lower)
      (is_end_of events races e lower) (end_same races p e lower other)
      (range_with_len 0 (length events)) in
      let reach : reach_of test (races ++ p ∷ []) ≡ reach_of test races =
      reach_push test None 0 races p
      ∙ ap (λ (b : Bool). cond b (Some (grown (reach_of test races) (0 + length races)))
      (reach_of test races)) other in
      ap (λ (l : List RaceBar). cond (begins_segment events e) l [])
      (ap (bar_over events (races ++ p ∷ []) e) reach
      ∙ over_same (races ++ p ∷ []) races e (reach_of test races) (kept false) (kept true))

  -- the bar of what is noted is that of the races
  pub bar_noted : (races : List (ℕ × ℕ)) (upper lower : List Bool) (e : ℕ) (o : Option (ℕ × ℕ))
      → noted upper (length events) ≡ ends_of events races e false
      → noted lower (length events) ≡ ends_of events races e true
      → bar_by events upper lower e o ≡ bar_over events races e o
  bar_noted races upper lower e None u l = refl
  bar_noted races upper lower e (Some reach) u l = cc

  -- the tables note the ends of the races
  pub noted_ends : (races : List (ℕ × ℕ)) (table : List Bool) (e : ℕ) (lower : Bool)
      → ((x : ℕ) → x < length events → get_or table x false ≡ is_end_of events races e lower x)
      → noted table (length events) ≡ ends_of events races e lower
  noted_ends races table e lower told =
      same_kept (λ x. get_or table x false) (is_end_of events races e lower) (length events) 0
      (λ x low high. told x (omega (arith, high)))

-- a table with one more event noted
pub noted_more : (events : List ChartEvent) (races : List (ℕ × ℕ)) (p : ℕ × ℕ) (begun : ℕ) (lower : Bool)
    (table : List Bool) → is_from events begun p ≡ true → length table ≡ length events
    → end_of lower p < length events
    → ((x : ℕ) → x < length events → get_or table x false ≡ is_end_of events races begun lower x)
    → (x : ℕ) → x < length events
    → get_or (slice_set table (end_of lower p) true) x false
    ≡ is_end_of events (races ++ p ∷ []) begun lower x
noted_more events races p begun lower table own long inside told x below =
    let end = end_of lower p in
    let before = is_end_of events races begun lower x in
    let more = end_more events races p begun lower x
    ∙ ap (λ (b : Bool). before || ((b && eqb end x) || false)) own in
    elim (cases_eq x end) [
      | inl same ↦
          let hit : eqb end x ≡ true = eq-eqb end x (sym same) in
          ap (λ (j : ℕ). get_or (slice_set table end true) j false) same
          ∙ get_or-set_same table end true false (omega (arith, long, inside))
          ∙ sym (more ∙ ap (λ (b : Bool). before || (b || false)) hit ∙ or-true before)
      | inr other ↦
          let miss : eqb end x ≡ false = ne_eqb end x (λ same. other (sym same)) in
          get_or-set_other table end x true false other ∙ told x below
          ∙ sym (more ∙ ap (λ (b : Bool). before || (b || false)) miss ∙ or-false before)
    ]
