-- The earliest event with a property, and events that are not listed.
use Rattle.std.proofs.Common.{◌≡◌, ℕ, ◌+◌, ◌*◌, ◌/◌, ◌%◌, ◌<◌, ◌≤◌, List, length, get_or, Option, None, Some, inl, inr, sym, ap, ◌∙◌, arith}
use Rattle.std.proofs.lemmas.Bool.{cases_lt}
use Rattle.bit_rows.specs.Rows.{bit_of}
use Rattle.bit_rows.proofs.Bits.{bit_zero}
use Rattle.bit_rows.proofs.Rows.{has_at}
use Rattle.msc_chart.specs.Charts.{is_output, IsMatched}
use Rattle.msc_chart.proofs.ListLemmas.{by_test, clash}
use Rattle.msc_picture.specs.declared.ready.Ready.{Ready}
use Rattle.msc_picture.specs.Frames.{Frame, MayFollow}
use Rattle.msc_picture.specs.Ready.{AreListed, HasRoom, IsEarliestTo}
use Rattle.msc_picture.proofs.SearchLemmas.{rests_for, sends_for}

module _ (ranks : List ℕ) (P : ℕ → Type 0) where
  -- events without the property change nothing
  pub earliest_on : (n m : ℕ) (best : Option ℕ) → ((x : ℕ) → n ≤ x → x < m → P x → ⊥) → n ≤ m
      → IsEarliestTo ranks P n best → IsEarliestTo ranks P m best
  earliest_on n m None none on h = λ x below has. elim (cases_lt x n) [
    | inl less ↦ h x less has
    | inr more ↦ none x more below has
  ]
  earliest_on n m (Some e) none on h = record {
    itself = (omega (arith, h.itself.0, on), h.itself.1);
    earliest = λ x has. elim (cases_lt x n) [
      | inl less ↦ h.earliest x (less, has.1)
      | inr more ↦ absurd (none x more has.0 has.1)
    ];
  }

-- where no event is listed in a word, none of it may follow
pub none_listed : {f : Frame} {past : List ℕ} {r : Ready} (k : ℕ) → IsMatched f.events
    → HasRoom (length f.events) r → AreListed f past r → get_or r.rests.items k 0 ≡ 0
    → get_or r.sends.items k 0 ≡ 0
    → (e : ℕ) → 64 * k ≤ e → e < 64 * k + 64 → MayFollow f past e → ⊥
none_listed {f} {past} {r} k matched room listed rests sends e low high may =
    let at : e / 64 ≡ k = omega (arith, low, high) in
    by_test (is_output f.events e)
    (λ out. clash (sym (has_at r.sends.items e k at)
    ∙ (sends_for matched room listed).listed e (may, out))
    (ap (λ (w : ℕ). bit_of w (e % 64)) sends ∙ bit_zero (e % 64)))
    (λ no. clash (sym (has_at r.rests.items e k at)
    ∙ (rests_for matched room listed).listed e (may, no))
    (ap (λ (w : ℕ). bit_of w (e % 64)) rests ∙ bit_zero (e % 64)))
