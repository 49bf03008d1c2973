-- What is listed event by event is all that is listed.
use Rattle.std.proofs.Common.{◌≡◌, ℕ, Bool, List, [], ◌∷◌, ◌++◌, filter, length, refl, sym, ap, ◌∙◌, ◌<◌, arith}
use Rattle.std.specs.List.{range_with_len, flat_map}
use Rattle.std.proofs.lemmas.List.Elements.{filter-append}
use Rattle.std.proofs.lemmas.List.Elements.{All-filter, All-map}
use Rattle.std.proofs.lemmas.List.FromFn.{get_or-range_with_len, length-range_with_len}
use Rattle.msc_chart.specs.Lists.{pairs_of, pairs_to}
use Rattle.msc_draw.specs.Listed.{listed_at}
use Rattle.msc_draw.specs.Marking.{AreOf}
use Rattle.msc_reason.specs.Selected.{Selected}
use Rattle.msc_race.specs.Wired.{EnforcedChart}
use Rattle.msc_reason.specs.Counting.{listed}
use Rattle.msc_reason.specs.Marked.{cause_in, listed_from}
use Rattle.msc_reason.specs.declared.left_out.LeftOut.{LeftOut}

-- what passes of lists that stand one behind the other
filter_flat : {X Y : Type 0} (p : Y → Bool) (f : X → List Y) (xs : List X)
    → filter p (flat_map f xs) ≡ flat_map (λ x. filter p (f x)) xs
filter_flat p f [] = refl
filter_flat {X} {Y} p f (x ∷ xs) =
    filter-append p (f x) (flat_map f xs)
    ∙ ap (λ (l : List Y). filter p (f x) ++ l) (filter_flat p f xs)

-- the races that are listed of an event lead from it to events
pub listed_are_of : (s : Selected) (x : ℕ) → AreOf (length s.judged.chart.events) x (listed_at s x)
unfolding pairs_to
listed_are_of s x =
    let n = length s.judged.chart.events in
    let Own : ℕ × ℕ → Type 0 = λ p. (p.0 ≡ x) × (p.1 < n) in
    let seconds = range_with_len 0 n in
    All-filter _ Own _ (All-filter _ Own _ (All-map Own (λ f. (x, f)) seconds (λ k d below.
    let inside : k < n = omega (arith, below, length-range_with_len 0 n) in
    (refl, omega (arith, get_or-range_with_len 0 n k d inside, inside)))))

-- what is listed of all events
pub listed_whole : (e : EnforcedChart) (allowed : LeftOut) (closest : Bool)
    → flat_map (listed_from e allowed closest) (range_with_len 0 (length e.chart.events))
    ≡ listed e allowed closest (cause_in e)
unfolding pairs_of
listed_whole e allowed closest = sym (filter_flat _ _ (range_with_len 0 (length e.chart.events)))
