-- That what fits a rule stands in a row, and none in a word of it that has no bit.
use Rattle.std.proofs.Common.{◌≡◌, ℕ, ◌+◌, ◌*◌, ◌/◌, ◌%◌, ◌<◌, ◌≤◌, false, not, List, [], ◌∷◌, ◌++◌, length, get_or, inl, inr, sym, ap, ◌∙◌, arith}
use Rattle.std.proofs.lemmas.Bool.{and_parts, or_left, or_right, cases_lt, cases_eq, not-true, false_from_ne_true}
use Rattle.bit_rows.specs.Rows.{bit_of}
use Rattle.bit_rows.proofs.Bits.{bit_zero, words_few}
use Rattle.bit_rows.proofs.Rows.{has_at}
use Rattle.msc_chart.specs.declared.TheConstants.{EVENT_LIMIT}
use Rattle.msc_chart.specs.Charts.{partner, is_output, IsMatched}
use Rattle.msc_chart.specs.Lists.{occurs}
use Rattle.msc_chart.proofs.ListLemmas.{clash, occurs_other}
use Rattle.msc_picture.specs.declared.ready.Ready.{Ready}
use Rattle.msc_picture.specs.declared.rule.Rule.{Rule}
use Rattle.msc_picture.specs.declared.rule.Rule.TheVariants.{Rest, Level, Send}
use Rattle.msc_picture.specs.Courses.{IsOpen}
use Rattle.msc_picture.specs.Frames.{Frame, MayFollow, is_above, is_sent_as}
use Rattle.msc_picture.specs.Ready.{AreListed, HasBits, HasNoneTo, HasRoom, IsFree, IsRowFor}
use Rattle.msc_picture.proofs.DrawnLemmas.{fitting_may}
use Rattle.msc_picture.proofs.FollowLemmas.{sent_from}

module _ {f : Frame} {past : List ℕ} {rule : Rule} {row : List ℕ} (of : IsRowFor f past rule row)
    (k : ℕ) (below : HasNoneTo f past rule (64 * k)) where
  -- where the word has no bit below this one, nothing fits below its number
  pub none_under : (bit : ℕ) → bit ≤ 64 → ((i : ℕ) → i < bit → bit_of (get_or row k 0) i ≡ false)
      → HasNoneTo f past rule (64 * k + bit)
  none_under bit small none e less fits = elim (cases_lt e (64 * k)) [
    | inl before ↦ below e before fits
    | inr after ↦
        let at : e / 64 ≡ k = omega (arith, after, less, small) in
        let low : e % 64 < bit = omega (arith, after, less, small) in
        clash (sym (has_at row e k at) ∙ of.listed e fits)
        (none (e % 64) low)
  ]

  -- so nothing fits in an empty word
  pub none_in : get_or row k 0 ≡ 0 → HasNoneTo f past rule (64 * k + 64)
  none_in empty = none_under 64 (omega arith) (λ i low.
      ap (λ (w : ℕ). bit_of w i) empty ∙ bit_zero i)

-- the numbers of a word of a row have 32 bits
pub few_bits : (n : ℕ) (row : List ℕ) (k : ℕ) → HasBits n row → n ≤ EVENT_LIMIT → k < length row
    → 64 * k + 64 < 4294967296
few_bits n row k bits few inside = omega (arith, few, inside, bits.words, words_few n)

-- nothing that is no event fits
pub none_past : (f : Frame) (past : List ℕ) (rule : Rule) (n m : ℕ) → n ≡ length f.events
    → HasNoneTo f past rule n → HasNoneTo f past rule m
none_past f past rule n m same none e less fits =
    none e (omega (arith, same, (fitting_may f past rule e fits).event)) fits

-- what may follow has all over it drawn
follower_open : (f : Frame) (past : List ℕ) (e : ℕ) → MayFollow f past e → IsOpen f past e
follower_open f past e may x known over =
    let both = and_parts (is_above f x e) (not (is_sent_as f x e)) over in
    may.behind x known (or_right (is_sent_as f x e) _ (or_left _ _ both.0))

follower_free : (f : Frame) (past : List ℕ) (e : ℕ) → MayFollow f past e → IsFree f past e
follower_free f past e may = record { left = may.new; over = follower_open f past e may }

-- what fits a rule is listed for it
module _ {f : Frame} {past : List ℕ} {r : Ready} (matched : IsMatched f.events)
    (room : HasRoom (length f.events) r) (listed : AreListed f past r) where
  pub rests_for : IsRowFor f past Rest r.rests.items
  rests_for = record {
    bits = room.rests;
    listed = λ e fits. (listed e fits.0.event).rest (record {
      free = follower_free f past e fits.0;
      kind = fits.1;
      sent = false_from_ne_true _ (λ lacks.
          let parts = and_parts (is_sent_as f (partner f.events e) e)
          (not (occurs past (partner f.events e))) lacks in
          clash (fits.0.behind (partner f.events e) (matched.in_range e fits.0.event)
          (or_left _ _ parts.0)) (not-true _ parts.1));
    });
  }

  pub sends_for : IsRowFor f past Send r.sends.items
  sends_for = record {
    bits = room.sends;
    listed = λ e fits. (listed e fits.0.event).send (record {
      free = follower_free f past e fits.0;
      kind = fits.1;
    });
  }

  pub levels_for : IsRowFor f past Level r.levels.items
  levels_for = record {
    bits = room.levels;
    listed = λ e fits. (listed e fits.0.event).level (record {
      send = record { free = follower_free f past e fits.0; kind = fits.1 };
      taken = λ x known over. elim (cases_eq x e) [
        | inl same ↦
            let both = and_parts (is_above f x (partner f.events e))
            (not (is_sent_as f x (partner f.events e))) over in
            clash (sent_from f x (partner f.events e)
            (ap (λ (w : ℕ). is_output f.events w) same ∙ fits.1)
            (ap (λ (w : ℕ). partner f.events w) same)) (not-true _ both.1)
        | inr other ↦
            sym (occurs_other past e x other)
            ∙ follower_open f (past ++ e ∷ []) (partner f.events e) fits.2 x known over
      ];
    });
  }
