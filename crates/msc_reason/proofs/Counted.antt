-- Races that count, as pairs that pass a test.
use Rattle.std.proofs.Common.{◌≡◌, ℕ, Bool, true, false, not, List, Option, None, Some, length, is_some, refl, ap, ◌∙◌, arith}
use Rattle.std.specs.Option.{option_map_or}
use Rattle.std.specs.List.{filter}
use Rattle.std.proofs.lemmas.Bool.{and_parts, and_from, not_from_false}
use Rattle.msc_chart.specs.Charts.{before}
use Rattle.msc_chart.specs.Lists.{Occurs}
use Rattle.msc_chart.proofs.Drawn.{before_parts}
use Rattle.msc_race.specs.Races.{is_raced}
use Rattle.msc_race.specs.Wired.{EnforcedChart}
use Rattle.msc_race.proofs.Listing.Pairs.{of_from, of_parts, to_from, to_parts}
use Rattle.msc_reason.proofs.Filtered.{filter_all, filter_from, filter_parts}
use Rattle.msc_reason.specs.Counting.{counting, counts}
use Rattle.msc_reason.specs.Kinds.{has_kind, is_empty}
use Rattle.msc_reason.specs.LeftOut.{is_accepted, leaves_none}
use Rattle.msc_reason.specs.PairTables.{has_pair}
use Rattle.msc_reason.specs.declared.kinds.KindSet.{KindSet}
use Rattle.msc_reason.specs.Marked.{counted_from, is_counted, cause_in}
use Rattle.msc_reason.specs.declared.left_out.LeftOut.{LeftOut}
use Rattle.msc_reason.specs.declared.cause.Cause.{Cause}
use Rattle.msc_reason.specs.declared.cause.RaceKind.{RaceKind}
use Rattle.msc_reason.specs.declared.cause.RaceKind.TheVariants.{Early, Queues, Unordered, Overtaken}

-- an empty set has no kind
none_left_out : (kinds : KindSet) (kind : RaceKind) → is_empty kinds ≡ true → has_kind kinds kind ≡ false
none_left_out kinds Early empty = grind (arith, empty)
none_left_out kinds Queues empty = grind (arith, empty)
none_left_out kinds Unordered empty = grind (arith, empty)
none_left_out kinds Overtaken empty = grind (arith, empty)

-- where nothing is left out there are no kinds, and no pair is accepted
pub none_of : (allowed : LeftOut) → leaves_none allowed ≡ true → is_empty allowed.kinds ≡ true
none_of allowed empty = (and_parts (is_empty allowed.kinds) _ empty).0

-- what is not there passes no test
unheld : {T : Type 0} (test : T → Bool) (o : Option T) → not (is_some o) ≡ true → option_map_or test o false ≡ false
unheld test None empty = refl
unheld test (Some x) empty = absurd cc

pub none_accepted : (allowed : LeftOut) (p : ℕ × ℕ) → leaves_none allowed ≡ true → is_accepted allowed p ≡ false
none_accepted allowed p empty = unheld (λ t. has_pair t.now p.0 p.1) allowed.accepted (and_parts (is_empty allowed.kinds) _ empty).1

-- so each race counts
pub all_count : (allowed : LeftOut) (causes : ℕ → ℕ → Cause) (p : ℕ × ℕ) → leaves_none allowed ≡ true → counts allowed causes p ≡ true
all_count allowed causes p empty =
    and_from _ _ (not_from_false _ (none_accepted allowed p empty)) (not_from_false _ (none_left_out allowed.kinds (causes p.0 p.1).kind (none_of allowed empty)))

-- and all of a list do
pub all_counted : (allowed : LeftOut) (causes : ℕ → ℕ → Cause) (pairs : List (ℕ × ℕ)) → leaves_none allowed ≡ true
    → filter (counts allowed causes) pairs ≡ pairs
all_counted allowed causes pairs empty = filter_all (counts allowed causes) pairs (λ p. all_count allowed causes p empty)

module _ (e : EnforcedChart) (allowed : LeftOut) where
  -- a race that counts is drawn in an order
  pub counted_drawn : (x y : ℕ) → is_counted e allowed x y ≡ true → before e.chart.events x y ≡ true
  unfolding is_counted is_raced
  counted_drawn x y h = (and_parts _ _ (and_parts (is_raced e.chart.events e.order x y) (counts allowed (cause_in e) (x, y)) h).0).0

  -- the races of an event that count
  pub counted_parts : (x y z : ℕ) → Occurs (counted_from e allowed x) (y, z) → (y ≡ x) × (is_counted e allowed y z ≡ true)
  unfolding is_counted
  counted_parts x y z there =
      let kept = filter_parts (counts allowed (cause_in e)) _ (y, z) there in
      let parts = to_parts (is_raced e.chart.events e.order) x (length e.chart.events) y z kept.0 in
      let raced : is_raced e.chart.events e.order y z ≡ true = ap (λ (n : ℕ). is_raced e.chart.events e.order n z) parts.0 ∙ parts.2 in
      (parts.0, and_from _ _ raced kept.1)

  -- each of them is among these
  pub counted_in : (x y : ℕ) → is_counted e allowed x y ≡ true → Occurs (counted_from e allowed x) (x, y)
  unfolding is_counted
  counted_in x y h =
      let both = and_parts (is_raced e.chart.events e.order x y) (counts allowed (cause_in e) (x, y)) h in
      let known = before_parts e.chart.events x y (counted_drawn x y h) in
      filter_from (counts allowed (cause_in e)) _ (x, y) (to_from (is_raced e.chart.events e.order) x (length e.chart.events) y known.1 both.0) both.1

  -- what is among all races that count is one
  pub counting_parts : (x y : ℕ) → Occurs (counting e allowed (cause_in e)) (x, y) → is_counted e allowed x y ≡ true
  unfolding is_counted
  counting_parts x y there =
      let kept = filter_parts (counts allowed (cause_in e)) _ (x, y) there in
      let parts = of_parts (is_raced e.chart.events e.order) (length e.chart.events) x y kept.0 in
      and_from _ _ parts.2 kept.1

  -- and each is among them
  pub counting_in : (x y : ℕ) → is_counted e allowed x y ≡ true → Occurs (counting e allowed (cause_in e)) (x, y)
  unfolding is_counted
  counting_in x y h =
      let both = and_parts (is_raced e.chart.events e.order x y) (counts allowed (cause_in e) (x, y)) h in
      let known = before_parts e.chart.events x y (counted_drawn x y h) in
      filter_from (counts allowed (cause_in e)) _ (x, y) (of_from (is_raced e.chart.events e.order) (length e.chart.events) x y known.0 known.1 both.0) both.1
