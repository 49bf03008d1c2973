-- What an order leaves open of an event's row.
use Rattle.std.proofs.Common.{◌≡◌, ℕ, ◌*◌, ◌≤◌, Bool, ◌&&◌, not, List, ap, arith}
use Rattle.std.specs.Prelude.{nat_le}
use Rattle.bit_rows.specs.Rows.{has, word_count, HasNumbersOf32Bits}
use Rattle.bit_rows.proofs.Bits.{words_enough, words_few}
use Rattle.msc_chart.specs.declared.TheConstants.{EVENT_LIMIT}
use Rattle.msc_chart.specs.Lists.{pairs_to}
use Rattle.msc_order.specs.Tables.{Table, orders}
use Rattle.msc_race.specs.Gaps.{is_gap, is_open}
use Rattle.msc_race.proofs.Listing.Pairs.{pairs_same}

-- its words reach each event
pub row_reaches : {n words events end : ℕ} → n ≡ events → words ≡ word_count n → end ≤ events → end ≤ 64 * words
row_reaches {n} same size within = omega (arith, words_enough n, size, same, within)

-- and have few bits
pub row_is_few : {n words events : ℕ} → n ≡ events → words ≡ word_count n → events ≤ EVENT_LIMIT → HasNumbersOf32Bits words
row_is_few {n} same size few = omega (arith, words_few n, size, same, few)

-- an event is left open where the row has a zero
pub gaps_are_open : (order : Table) (row : List ℕ) (e start end : ℕ) → ((f : ℕ) → has row f ≡ orders order e f)
    → pairs_to (is_gap row start) e end ≡ pairs_to (is_open order start) e end
unfolding is_gap is_open
gaps_are_open order row e start end numbers =
    pairs_same (is_gap row start) (is_open order start) e end (λ f below. ap (λ (b : Bool). nat_le start f && not b) (numbers f))
