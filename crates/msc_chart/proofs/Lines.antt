-- A line is a contiguous range of event numbers.
use Rattle.std.proofs.Common.{◌≡◌, ℕ, zero, suc, ◌+◌, ◌<◌, ◌≤◌, Bool, true, cond, List, [], ◌∷◌, length, inl, inr, sym, ap, subst, ◌∙◌, arith}
use Rattle.std.specs.Prelude.{nat_lt}
use Rattle.std.proofs.lemmas.Bool.{cases_lt, ltb-true, ltb-false, lt-ltb}
use Rattle.std.proofs.lemmas.List.Sums.{sum_by-cons, count_by-le-length}
use Rattle.msc_chart.specs.declared.event.ChartEvent.{ChartEvent}
use Rattle.msc_chart.specs.Charts.{at, line, line_start, IsInTextOrder}
use Rattle.msc_chart.specs.Drawings.{Drawing, IsAccepted, IsLine}
use Rattle.msc_chart.proofs.ListLemmas.{by_test}

-- lines do not fall along the list
abbrev pub LinesRise : List ChartEvent → Type 0
LinesRise events = (x y : ℕ) → x ≤ y → y < length events → (at events x).line ≤ (at events y).line

-- one event more in front is counted where its line is lower
counted : (i : ℕ) (x : ChartEvent) (xs : List ChartEvent) → line_start (x ∷ xs) i ≡ cond (nat_lt x.line i) 1 0 + line_start xs i
counted i x xs = sum_by-cons (λ (y : ChartEvent). cond (nat_lt y.line i) 1 0) x xs

-- a line starts before it ends
start_le : (i : ℕ) (events : List ChartEvent) → line_start events i ≤ line_start events (i + 1)
start_le i [] = omega arith
start_le i (x ∷ xs) =
    let a = counted i x xs in
    let b = counted (i + 1) x xs in
    let r = start_le i xs in
    by_test (nat_lt x.line i)
    (λ low.
    let more : nat_lt x.line (i + 1) ≡ true = lt-ltb _ _ (let l = ltb-true x.line i low in omega arith) in
    let p = ap (λ (t : Bool). cond {A = ℕ} t 1 0) low in
    let q = ap (λ (t : Bool). cond {A = ℕ} t 1 0) more in
    omega (arith, a, b, r, p, q))
    (λ high. let p = ap (λ (t : Bool). cond {A = ℕ} t 1 0) high in omega (arith, a, b, r, p))

-- and among the events
pub line_within : (i : ℕ) (events : List ChartEvent) → (line_start events i ≤ line_start events (i + 1)) × (line_start events (i + 1) ≤ length events)
line_within i events = (start_le i events, count_by-le-length (λ (x : ChartEvent). nat_lt x.line (i + 1)) events)

-- behind the first event lines do not fall either
rest_rises : (x : ChartEvent) (xs : List ChartEvent) → LinesRise (x ∷ xs) → LinesRise xs
rest_rises x xs rise a b le within = rise (suc a) (suc b) (omega arith) (omega arith)

-- where lines do not fall, the events below a count of lower lines are those of lower lines
pub below_start : (i : ℕ) (events : List ChartEvent) → LinesRise events → (e : ℕ) → e < length events
    → (e < line_start events i → (at events e).line < i) × ((at events e).line < i → e < line_start events i)
below_start i [] rise e within = absurd (omega arith)
below_start i (x ∷ xs) rise e within =
    by_test (nat_lt x.line i)
    (λ low.
    let count = counted i x xs ∙ ap (λ (b : Bool). cond b 1 0 + line_start xs i) low in
    lower i x xs (rest_rises x xs rise) (λ k lt. below_start i xs (rest_rises x xs rise) k lt) (ltb-true _ _ low) (count ∙ omega arith) e within)
    (λ high.
    let count = counted i x xs ∙ ap (λ (b : Bool). cond b 1 0 + line_start xs i) high in
    let up = ltb-false _ _ high in
    let here = rise 0 e (omega arith) within in
    let none = nothing i x xs rise up (λ k lt. below_start i xs (rest_rises x xs rise) k lt) in
    (λ lt. absurd (omega arith), λ lt. absurd (omega arith)))
  where
    -- it holds with one more event in front that is on a lower line
    lower : (i : ℕ) (x : ChartEvent) (xs : List ChartEvent) → LinesRise xs
        → ((k : ℕ) → k < length xs → (k < line_start xs i → (at xs k).line < i) × ((at xs k).line < i → k < line_start xs i))
        → x.line < i → line_start (x ∷ xs) i ≡ 1 + line_start xs i → (e : ℕ) → e < suc (length xs)
        → (e < line_start (x ∷ xs) i → (at (x ∷ xs) e).line < i) × ((at (x ∷ xs) e).line < i → e < line_start (x ∷ xs) i)
    lower i x xs rise rest low count zero within = (λ _. low, λ _. omega arith)
    lower i x xs rise rest low count (suc e) within =
        let r = rest e (omega arith) in
        (λ lt. r.0 (omega arith), λ lt. let k = r.1 lt in omega arith)

    -- behind an event that is not on a lower line there is none that is
    nothing : (i : ℕ) (x : ChartEvent) (xs : List ChartEvent) → LinesRise (x ∷ xs) → i ≤ x.line
        → ((k : ℕ) → k < length xs → (k < line_start xs i → (at xs k).line < i) × ((at xs k).line < i → k < line_start xs i))
        → line_start xs i ≡ 0
    nothing i x xs rise up rest =
        elim (cases_lt 0 (line_start xs i)) [
          | inl some ↦
              let short = count_by-le-length (λ (y : ChartEvent). nat_lt y.line i) xs in
              let first = (rest 0 (omega arith)).0 some in
              let higher = rise 0 1 (omega arith) (omega arith) in
              absurd (omega arith)
          | inr none ↦ omega arith
        ]

-- the events of line i are those from its first to its last number
pub on_range : (events : List ChartEvent) → IsInTextOrder events → (i e : ℕ) → e < length events
    → (line events e ≡ i → (line_start events i ≤ e) × (e < line_start events (i + 1))) × ((line_start events i ≤ e) × (e < line_start events (i + 1)) → line events e ≡ i)
unfolding line
on_range events ordered i e within =
    let low = below_start i events ordered.lines e within in
    let high = below_start (i + 1) events ordered.lines e within in (
      λ same. (elim (cases_lt e (line_start events i)) [ inl lt ↦ let l = low.0 lt in absurd (omega arith) | inr ge ↦ ge ], high.1 (omega arith)),
      λ r. let l = high.0 r.1 in elim (cases_lt (at events e).line i) [ inl lt ↦ let k = low.1 lt in let s = r.0 in absurd (omega arith) | inr ge ↦ omega arith ],
    )

-- so a reader that answers the two counts answers the range of the line
pub seen_range : (d : Drawing) (i start end : ℕ) → IsAccepted d → start ≡ line_start d.events i → end ≡ line_start d.events (i + 1) → IsLine d i start end
seen_range d i start end accepted first last =
    subst (λ (n : ℕ). IsLine d i n end) (sym first)
    (subst (λ (n : ℕ). IsLine d i (line_start d.events i) n) (sym last) (λ e within. on_range d.events accepted.in_text_order i e within))
