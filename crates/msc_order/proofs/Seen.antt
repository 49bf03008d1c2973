-- What contracts see of a table.
use Rattle.std.proofs.Common.{◌≡◌, ℕ, ◌<◌, ◌≤◌, Bool, true, false, inl, inr, List, [], length, get_or, map, sym, ap, ◌∙◌, arith}
use Rattle.std.specs.List.{range_with_len}
use Rattle.std.proofs.lemmas.Bool.{cases_lt}
use Rattle.std.proofs.lemmas.List.{get_or_past}
use Rattle.std.proofs.lemmas.List.FromFn.{length-map-range_with_len, get_or-map-range_with_len}
use Rattle.msc_chart.specs.declared.event.ChartEvent.{ChartEvent}
use Rattle.msc_chart.specs.Charts.{IsMatched}
use Rattle.msc_chart.specs.Orders.{WiredChart, IsEnforcedOrder, IsVisualOrder}
use Rattle.bit_rows.specs.Rows.{has}
use Rattle.bit_rows.specs.Tables.{cell}
use Rattle.msc_order.specs.Tables.{table_of, orders}
use Rattle.msc_order.specs.Caused.{Led}
use Rattle.msc_order.specs.Closing.{IsTestOf, IsWellKept}
use Rattle.bit_rows.proofs.Bits.{by_test}
use Rattle.msc_order.proofs.Leading.{led_below}
use Rattle.msc_order.proofs.Between.{enforced_below, led_visual, visual_led}

-- a table has a row for each number
pub length-table_of : (n : ℕ) (test : ℕ → ℕ → Bool) → length (table_of n test) ≡ n
unfolding table_of
length-table_of n test = length-map-range_with_len (λ e. map (λ f. test e f) (range_with_len 0 n)) 0 n

-- a table of a test tells what the test tells
pub orders-table_of : (n : ℕ) (test : ℕ → ℕ → Bool) (x y : ℕ) → x < n → y < n → orders (table_of n test) x y ≡ test x y
unfolding orders table_of
orders-table_of n test x y row column =
    let here : get_or (map (λ e. map (λ f. test e f) (range_with_len 0 n)) (range_with_len 0 n)) x [] ≡ map (λ f. test x f) (range_with_len 0 n) =
    get_or-map-range_with_len (λ e. map (λ f. test e f) (range_with_len 0 n)) 0 n x x [] row (omega arith) in
    ap (λ row. get_or row y false) here ∙ get_or-map-range_with_len (λ f. test x f) 0 n y y false column (omega arith)

-- a table has nothing past its last number
pub orders_past : (n : ℕ) (test : ℕ → ℕ → Bool) (x y : ℕ) → x < n → n ≤ y → orders (table_of n test) x y ≡ false
unfolding orders table_of
orders_past n test x y row out =
    let here : get_or (map (λ e. map (λ f. test e f) (range_with_len 0 n)) (range_with_len 0 n)) x [] ≡ map (λ f. test x f) (range_with_len 0 n) =
    get_or-map-range_with_len (λ e. map (λ f. test e f) (range_with_len 0 n)) 0 n x x [] row (omega arith) in
    ap (λ row. get_or row y false) here ∙ get_or_past (map (λ f. test x f) (range_with_len 0 n)) y false (omega (arith, out, length-map-range_with_len (λ f. test x f) 0 n))

-- the rows that a contract sees
pub rows_seen : (n : ℕ) (words : List ℕ) (table : List (List Bool)) → table_of n (cell n words) ≡ table → length table ≡ n
rows_seen n words table is = sym (ap length is) ∙ length-table_of n (cell n words)

-- rows that hold the enforced order show it
pub enforced_seen : (chart : WiredChart) → IsMatched chart.events → (words : List ℕ) → IsEnforcedOrder chart (cell (length chart.events) words)
    → IsEnforcedOrder chart (orders (table_of (length chart.events) (cell (length chart.events) words)))
enforced_seen chart matched words h =
    let n : ℕ = length chart.events in
    record {
      holds = λ x y x_in y_in k. h.holds x y x_in y_in (sym (orders-table_of n (cell n words) x y x_in y_in) ∙ k);
      complete = λ x y k. let below = enforced_below chart matched x y k in orders-table_of n (cell n words) x y below.0 below.1 ∙ h.complete x y k;
    }

-- rows that hold the visual order show it
pub visual_seen : (events : List ChartEvent) → IsMatched events → (words : List ℕ) → IsTestOf (Led events true) (cell (length events) words)
    → IsVisualOrder events (orders (table_of (length events) (cell (length events) words)))
visual_seen events matched words h =
    let n : ℕ = length events in
    record {
      holds = λ x y x_in y_in k. led_visual events true x y (h.sound x y (sym (orders-table_of n (cell n words) x y x_in y_in) ∙ k));
      complete = λ x y k.
          let there = visual_led events x y k in
          let below = led_below events true matched x y there in
          orders-table_of n (cell n words) x y below.0 below.1 ∙ h.complete x y there;
    }

-- a row shows what the table tells
pub row_seen : (n : ℕ) (words row : List ℕ) (e : ℕ) → e < n → IsWellKept n words
    → ((y : ℕ) → has row y ≡ cell n words e y)
    → (f : ℕ) → has row f ≡ orders (table_of n (cell n words)) e f
row_seen n words row e below kept bits f =
    elim (cases_lt f n) [
      | inl inside ↦ bits f ∙ sym (orders-table_of n (cell n words) e f below inside)
      | inr out ↦
          let none : cell n words e f ≡ false = by_test (cell n words e f) (λ h. let inside = kept.tight e f h in absurd (omega (arith, inside, out))) (λ h. h) in
          bits f ∙ none ∙ sym (orders_past n (cell n words) e f below out)
    ]
