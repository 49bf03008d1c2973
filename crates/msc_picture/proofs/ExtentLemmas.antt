-- From which row to which segments reach.
use Rattle.std.proofs.Common.{◌≡◌, ℕ, ◌+◌, ◌<◌, Bool, true, false, cond, ◌&&◌, ◌||◌, List, [], ◌∷◌, ◌++◌, length, get_or, drop, Option, None, Some, nat_lt, inl, inr, refl, sym, ap, subst, ◌∙◌, arith}
use Rattle.std.specs.List.{All}
use Rattle.std.proofs.lemmas.Bool.{and_parts, cases_eq, cases_lt, eq-eqb, false_from_ne_true, ne_eqb}
use Rattle.std.proofs.lemmas.List.{get_or_append_left, get_or_default}
use Rattle.std.proofs.Math.Seq.{get_or-append_seam}
use Rattle.msc_chart.specs.declared.event.ChartEvent.{ChartEvent}
use Rattle.msc_chart.specs.Charts.{line, IsInTextOrder}
use Rattle.msc_chart.proofs.ListLemmas.{by_test, clash}
use Rattle.msc_picture.specs.declared.scene.Band.{Band}
use Rattle.msc_picture.specs.declared.scene.Row.{Row}
use Rattle.msc_picture.specs.Extents.{is_begun_by, AreBegins, IsBeginOf}
use Rattle.msc_picture.specs.Rows.{band_at, band_over, begins_band, begins_segment, grown, reach_from, reach_of, row_passes, second_passes, share_segment, AreKnownRows, IsKnownRow, IsNoneOrBelow}
use Rattle.msc_picture.proofs.Ranges.{drop_at}
use Rattle.msc_picture.proofs.SegmentLemmas.{apart, share_back}

module _ (events : List ChartEvent) where
  -- an event is of the segment that e begins where e is the first event of its segment
  pub begun_same : (begins : List ℕ) → IsInTextOrder events → AreBegins events begins
      → (e x : ℕ) → e < length events → x < length events → begins_segment events e ≡ true
      → share_segment events e x ≡ is_begun_by begins e x
  begun_same begins order are e x known below own =
      let b = get_or begins x 0 in
      let is = are.each x below in
      elim (cases_eq b e) [
        | inl same ↦
            subst (λ (y : ℕ). share_segment events y x ≡ true) same is.shared
            ∙ sym (eq-eqb b e same)
        | inr other ↦ apart_from b is other ∙ sym (ne_eqb b e other)
      ]
    where
      apart_from : (b : ℕ) → IsBeginOf events b x → (b ≡ e → ⊥) → share_segment events e x ≡ false
      apart_from b is other = elim (cases_lt e b) [
        | inl before ↦ apart events order e b x before is.within below is.begins
        | inr behind ↦ elim (cases_lt x e) [
          | inl above ↦ false_from_ne_true _ (λ shared. clash (share_back events e x shared)
              (apart events order x e e above (omega arith) known own))
          | inr from ↦
              clash is.shared (apart events order b e x (omega (arith, behind, other)) from below own)
        ]
      ]

  -- a row has an event of the segment that e begins where e is the first event of the segment of one
  pub row_same : (begins : List ℕ) → IsInTextOrder events → AreBegins events begins → (e : ℕ)
      → e < length events → begins_segment events e ≡ true → (row : Row)
      → IsKnownRow (length events) row
      → row_passes (share_segment events e) row ≡ row_passes (is_begun_by begins e) row
  row_same begins order are e known own row within =
      ap (λ (b : Bool). b || second_passes (share_segment events e) row.second)
      (begun_same begins order are e row.first known within.0 own)
      ∙ ap (λ (b : Bool). is_begun_by begins e row.first || b) (second_same row.second within.1)
    where
      second_same : (o : Option ℕ) → IsNoneOrBelow (length events) o
          → second_passes (share_segment events e) o ≡ second_passes (is_begun_by begins e) o
      second_same None below = refl
      second_same (Some x) below = begun_same begins order are e x known below own

-- the first events of the segments so far, and one more
pub begins_more : (events : List ChartEvent) (begins next : List ℕ) (e b : ℕ) → length begins ≡ e
    → ((x : ℕ) → x < e → IsBeginOf events (get_or begins x 0) x) → IsBeginOf events b e
    → next ≡ begins ++ b ∷ [] → (x : ℕ) → x < e + 1 → IsBeginOf events (get_or next x 0) x
begins_more events begins next e b long each own more x below = elim (cases_lt x e) [
  | inl before ↦
      let same : get_or next x 0 ≡ get_or begins x 0 =
      ap (λ (l : List ℕ). get_or l x 0) more
      ∙ get_or_append_left begins (b ∷ []) 0 x (omega (arith, before, long)) in
      subst (λ (y : ℕ). IsBeginOf events y x) (sym same) (each x before)
  | inr behind ↦
      let here : x ≡ e = omega (arith, below, behind) in
      let at : x ≡ length begins = omega (arith, here, long) in
      let same : get_or next x 0 ≡ b =
      ap (λ (l : List ℕ). get_or l x 0) more ∙ ap (λ (j : ℕ). get_or (begins ++ b ∷ []) j 0) at
      ∙ get_or-append_seam begins b [] 0 in
      subst (λ (y : ℕ). IsBeginOf events y x) (sym same)
      (subst (λ (j : ℕ). IsBeginOf events b j) (sym here) own)
]

-- first events of segments are events
pub begins_below : (events : List ChartEvent) (begins list : List ℕ) (n : ℕ) → AreBegins events begins
    → list ≡ begins → n ≡ length events → All (λ b. b < n) list
begins_below events begins list n are same many = λ k d inside.
    let long : length list ≡ length events = ap (λ (l : List ℕ). length l) same ∙ are.long in
    let here : k < length events = omega (arith, inside, long) in
    let within = (are.each k here).within in
    let at : get_or list k d ≡ get_or begins k 0 =
    get_or_default list k d 0 inside ∙ ap (λ (l : List ℕ). get_or l k 0) same in
    omega (arith, within, here, at, many)

-- what one more row makes of a reach
pub reach_step : (events : List ChartEvent) (begins : List ℕ) (rows : List Row) (k : ℕ) (d : Row)
    (e : ℕ) (old next all : Option (ℕ × ℕ)) → IsInTextOrder events → AreBegins events begins
    → AreKnownRows (length events) rows → k < length rows → e < length events
    → begins_segment events e ≡ true
    → next
    ≡ cond (row_passes (is_begun_by begins e) (get_or rows k d)) (Some (grown old k)) old
    → reach_from (row_passes (share_segment events e)) old k (drop k rows) ≡ all
    → reach_from (row_passes (share_segment events e)) next (k + 1) (drop (k + 1) rows) ≡ all
reach_step events begins rows k d e old next all order are rows_known below known own is so_far =
    let row = get_or rows k d in
    let test = row_passes (share_segment events e) in
    let same = row_same events begins order are e known own row (rows_known k d below) in
    let now : next ≡ cond (test row) (Some (grown old k)) old =
    is ∙ ap (λ (b : Bool). cond b (Some (grown old k)) old) (sym same) in
    ap (λ (o : Option (ℕ × ℕ)). reach_from test o (k + 1) (drop (k + 1) rows)) now
    ∙ sym (ap (reach_from test old k) (drop_at rows k d below)) ∙ so_far

-- the band of what a segment reaches over
pub band_same : (events : List ChartEvent) (rows : List Row) (e : ℕ) (reach : Option (ℕ × ℕ))
    → (begins_segment events e ≡ true
    → reach ≡ reach_of (row_passes (share_segment events e)) rows)
    → cond (begins_band events e) (band_over (line events e) reach) [] ≡ band_at events rows e
band_same events rows e reach same = by_test (begins_band events e)
    (λ yes.
    let parts = and_parts (begins_segment events e)
    (nat_lt (e + 1) (length events) && share_segment events e (e + 1)) yes in
    ap (λ (o : Option (ℕ × ℕ)). cond (begins_band events e) (band_over (line events e) o) [])
    (same parts.0))
    (λ no.
    let none : List Band = [] in
    ap (λ (b : Bool). cond b (band_over (line events e) reach) none) no
    ∙ ap (λ (b : Bool). cond b
    (band_over (line events e) (reach_of (row_passes (share_segment events e)) rows)) none) (sym no))
