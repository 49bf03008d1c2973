-- The blocked pairs that are first, counted event by event.
use Rattle.std.proofs.Common.{◌≡◌, ℕ, ◌+◌, ◌<◌, ◌≤◌, not, cond, List, ◌++◌, Option, is_some, length, refl, sym, ap, ap₂, ◌∙◌, arith}
use Rattle.std.specs.Prelude.{All}
use Rattle.std.proofs.lemmas.List.{length-append}
use Rattle.std.proofs.lemmas.List.Elements.{All-weaker}
use Rattle.std.proofs.lemmas.List.Sums.{count_by-le-length, sum_by-append}
use Rattle.msc_judge.proofs.Listed.{all_of as all_pairs}
use Rattle.msc_print.specs.Rows.{below}
use Rattle.msc_print.proofs.RowLemmas.{below_first, below_more}
use Rattle.msc_ready.specs.Held.{ready_in, wiring_of, ReadyChart}
use Rattle.msc_ready.specs.BlockedPairs.{is_blocked_pair}
use Rattle.msc_ready.specs.Views.{blocked_pairs_from, blocked_pairs_of, AreBlockedPairs, HasAhead}
use Rattle.msc_text.specs.Readied.{CanPrintStick}
use Rattle.msc_text.specs.Readying.{ahead_in, first_in}
use Rattle.msc_text.proofs.BlockedPairLemmas.{second_below}
use Rattle.msc_text.proofs.Readied.{sticks_printed}

module _ (r : ReadyChart) (ahead : List (Option (ℕ × ℕ))) where
  -- the second events of the blocked pairs of an event are among those of which it is known what is ahead
  pub seconds_known : (e : ℕ) (shown : List (Option (ℕ × ℕ))) (list : List (ℕ × ℕ)) → AreBlockedPairs r (blocked_pairs_of r) → HasAhead r ahead
      → e < length r.chart.events → shown ≡ ahead → list ≡ blocked_pairs_from r e → All (λ p. p.1 < length shown) list
  seconds_known e shown list are has within same is =
      rw is (All-weaker (CanPrintStick r r.chart ahead) (λ p. p.1 < length shown)
      (λ p can. let below = second_below r r.chart ahead p can in let each = has.each in let size = ap length same in omega (arith, below, each, size))
      (blocked_pairs_from r e) (sticks_printed r r.chart ahead e are has refl within))

  -- the number of the first ones of some pairs and then others
  first_append : (xs ys : List (ℕ × ℕ)) → first_in ahead (xs ++ ys) ≡ first_in ahead xs + first_in ahead ys
  first_append xs ys = sum_by-append (λ p. cond (not (is_some (ahead_in ahead p.1))) 1 0) xs ys

  -- those of one event more are counted
  pub counted_more : (e first one : ℕ) (shown : List (Option (ℕ × ℕ))) (list : List (ℕ × ℕ)) → shown ≡ ahead → list ≡ blocked_pairs_from r e
      → first ≡ first_in ahead (below (blocked_pairs_from r) e) → one ≡ first_in shown list
      → first + one ≡ first_in ahead (below (blocked_pairs_from r) (e + 1))
  counted_more e first one shown list same is before own =
      ap₂ (λ (x y : ℕ). x + y) before (own ∙ ap₂ first_in same is)
      ∙ sym (first_append (below (blocked_pairs_from r) e) (blocked_pairs_from r e)) ∙ ap (first_in ahead) (sym (below_more (blocked_pairs_from r) e))

  -- there are no more than all blocked pairs
  pub counted_few : (k count : ℕ) → k ≤ length r.chart.events → count ≡ length (blocked_pairs_of r)
      → first_in ahead (below (blocked_pairs_from r) k) ≤ count
  counted_few k count le number =
      let n : ℕ = length r.chart.events in
      let rest = below_first (blocked_pairs_from r) k n le in
      let most = count_by-le-length (λ p. not (is_some (ahead_in ahead p.1))) (below (blocked_pairs_from r) k) in
      let parts = ap length rest.1 ∙ length-append (below (blocked_pairs_from r) k) rest.0 in
      let all = ap length (all_pairs (is_blocked_pair (wiring_of r) (ready_in r) r.order) n) in
      omega (arith, most, parts, all, number)

  -- and at the end all are counted
  pub counted_all : first_in ahead (below (blocked_pairs_from r) (length r.chart.events)) ≡ first_in ahead (blocked_pairs_of r)
  counted_all = ap (first_in ahead) (all_pairs (is_blocked_pair (wiring_of r) (ready_in r) r.order) (length r.chart.events))
