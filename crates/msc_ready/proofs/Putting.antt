-- Rows of the ready order while they are made: they have only pairs of it, and keep what they have.
use Rattle.std.proofs.Common.{◌≡◌, ℕ, ◌<◌, Bool, true, false, ◌↔◌, inl, inr, length, List, [], refl, sym, ap, ◌∙◌, subst, eqb, ◌&&◌, ◌||◌}
use Rattle.std.proofs.lemmas.Bool.{eqb-true, eq-eqb, and_parts, and_from, or_cases, or_left, or_right}
use Rattle.std.proofs.lemmas.List.{nil_from_length}
use Rattle.bit_rows.specs.Tables.{with_row}
use Rattle.msc_chart.specs.Orders.{WiredChart, IsWired}
use Rattle.msc_order.specs.Closing.{HoldsOnly}
use Rattle.msc_order.specs.Tables.{orders}
use Rattle.msc_order.proofs.Leading.{row_after, row_cases, row_there}
use Rattle.msc_ready.specs.Held.{HasVisualOrder, ReadyChart, ready_in, ready_of, wiring_of}
use Rattle.msc_ready.specs.Plain.{AreMates, IsPlainUpTo, Plain}
use Rattle.msc_ready.specs.Readiness.{ReadyOrder}
use Rattle.msc_chart.specs.Precedence.Precedes.{joined}
use Rattle.msc_ready.specs.Rows.{AreRowsOf, HasRows}
use Rattle.msc_ready.proofs.Shared.{clash}
use Rattle.msc_chart.proofs.Precedence.{all_ready_is_visual}
use Rattle.msc_ready.proofs.Runs.Fewer.{ready_of_plain, ready_told}
use Rattle.msc_ready.proofs.Runs.Keeping.{HaveOneLine}

-- one test has what another has, and the pair (e, f)
abbrev pub IsPut : (ℕ → ℕ → Bool) → (ℕ → ℕ → Bool) → ℕ → ℕ → Type 0
IsPut test new e f = (x y : ℕ) → new x y ≡ (test x y || (eqb x e && eqb y f))

-- it has that pair
pub put_there : (test new : ℕ → ℕ → Bool) (e f : ℕ) → IsPut test new e f → new e f ≡ true
put_there test new e f put = put e f ∙ or_right (test e f) _ (and_from _ _ (eq-eqb e e refl) (eq-eqb f f refl))

-- and keeps the others
pub put_kept : (test new : ℕ → ℕ → Bool) (e f : ℕ) → IsPut test new e f → (x y : ℕ) → test x y ≡ true → new x y ≡ true
put_kept test new e f put x y h = put x y ∙ or_left (test x y) _ h

module _ (chart : WiredChart) (ready : ℕ → Bool) where
  -- a pair that is put stands in the order
  pub put_sound : (test new : ℕ → ℕ → Bool) (e f : ℕ) → IsPut test new e f → Plain chart ready e f
      → HoldsOnly (ReadyOrder chart ready) test → HoldsOnly (ReadyOrder chart ready) new
  put_sound test new e f put plain sound x y h =
      elim (or_cases (test x y) _ (sym (put x y) ∙ h)) [
        | inl old ↦ sound x y old
        | inr here ↦
            let p = and_parts _ _ here in
            subst (λ (z : ℕ). ReadyOrder chart ready z y) (sym (eqb-true x e p.0))
            (subst (λ (z : ℕ). ReadyOrder chart ready e z) (sym (eqb-true y f p.1)) (ready_of_plain chart ready e f plain))
      ]

  module _ (is_wired : IsWired chart) (lines : HaveOneLine chart) (test new : ℕ → ℕ → Bool) (x u : ℕ)
      (put : (a b : ℕ) → new a b ≡ with_row test x u true a b) where
    -- row x takes in the row of a mate
    pub over_sound : AreMates chart ready x u → HoldsOnly (ReadyOrder chart ready) test → HoldsOnly (ReadyOrder chart ready) new
    over_sound mates sound a b h =
        let behind = (ready_told chart ready is_wired lines x u).1 (inr (u, mates, inl refl)) in
        elim (row_cases test x u true a b (sym (put a b) ∙ h)) [
          | inl old ↦ sound a b old
          | inr more ↦ subst (λ (z : ℕ). ReadyOrder chart ready z b) (sym more.0) (elim more.1 [
            | inl here ↦ subst (λ (z : ℕ). ReadyOrder chart ready x z) (sym here.1) behind
            | inr after ↦ joined behind (sound u b after)
          ])
        ]

    -- and has then what stands behind the mate
    pub over_more : (y : ℕ) → (Plain chart ready u y → test u y ≡ true) → IsPlainUpTo chart ready u y → new x y ≡ true
    over_more y plain up =
        put x y ∙ elim up [
          | inl same ↦ subst (λ (z : ℕ). with_row test x u true x z ≡ true) same (row_there test x u true refl)
          | inr k ↦ row_after test x u true y (plain k)
        ]

-- a list of which it is known that nothing is in it
pub no_lines : (lines : List Bool) (n : ℕ) (empty : Bool) → n ≡ length lines → empty ≡ eqb n 0 → empty ≡ true → lines ≡ []
no_lines lines n empty size told is = nil_from_length lines (sym size ∙ eqb-true n 0 (sym told ∙ is))

module _ (r : ReadyChart) (x y : ℕ) where
  -- with no list the ready order is the visual order
  pub all_visual : HasVisualOrder r → r.lines ≡ [] → x < length r.chart.events → y < length r.chart.events
      → (orders r.order x y ≡ true) ↔ ReadyOrder (wiring_of r) (ready_in r) x y
  all_visual held none below within =
      let both = all_ready_is_visual (wiring_of r) true x y in
      subst (λ (lines : List Bool). (orders r.order x y ≡ true) ↔ ReadyOrder (wiring_of r) (ready_of lines) x y) (sym none)
      (λ h. both.1 (held.visual.holds x y below within h), λ h. held.visual.complete x y (both.0 h))

-- with a list a chart has rows
pub rows_by : (r : ReadyChart) (rows : List ℕ) (n : ℕ) (empty : Bool) → HasRows r rows → n ≡ length r.lines → empty ≡ eqb n 0
    → empty ≡ false → AreRowsOf (wiring_of r) (ready_in r) rows
rows_by r rows n empty has size told is =
    elim has [
      | inl none ↦ clash (told ∙ eq-eqb n 0 (size ∙ ap length none)) is
      | inr are ↦ are
    ]
