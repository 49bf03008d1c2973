-- How many races pass a test, event by event.
use Rattle.std.proofs.Common.{◌≡◌, ℕ, ◌+◌, ◌≤◌, Bool, true, false, ◌&&◌, ◌||◌, not, List, [], ◌++◌, length, refl, ap, ◌∙◌, arith}
use Rattle.std.specs.List.{filter}
use Rattle.std.proofs.lemmas.List.{length-append}
use Rattle.std.proofs.lemmas.List.Elements.{filter-append, filter_agree}
use Rattle.std.proofs.lemmas.List.Sums.{count_by-le-length, length-filter}
use Rattle.msc_race.specs.Views.{races_from, races_of}
use Rattle.msc_race.specs.Wired.{EnforcedChart}
use Rattle.msc_race.proofs.Listing.Raced.{no_races_below, races_after, races_below, races_below_all, races_below_more}
use Rattle.msc_reason.proofs.Filtered.{filter_both}
use Rattle.msc_reason.specs.Counting.{counting, counts, is_alone, is_listed}
use Rattle.msc_reason.specs.Marked.{counted_from, cause_in, listed_from}
use Rattle.msc_reason.specs.declared.left_out.LeftOut.{LeftOut}

module _ (e : EnforcedChart) (test : ℕ × ℕ → Bool) where
  -- those of the events below k
  abbrev pub kept_below : ℕ → List (ℕ × ℕ)
  kept_below k = filter test (races_below e k)

  -- none are below the first event
  pub kept_none : kept_below 0 ≡ []
  kept_none = ap (filter test) (no_races_below e)

  -- one event more brings its own
  pub kept_more : (k : ℕ) → kept_below (k + 1) ≡ kept_below k ++ filter test (races_from e k)
  kept_more k = ap (filter test) (races_below_more e k) ∙ filter-append test (races_below e k) (races_from e k)

  -- so many more
  pub count_more : (k n : ℕ) (list : List (ℕ × ℕ)) → n ≡ length (kept_below k) → list ≡ filter test (races_from e k) → n + length list ≡ length (kept_below (k + 1))
  count_more k n list is same =
      let more = ap length (kept_more k) ∙ length-append (kept_below k) (filter test (races_from e k)) in
      let size = ap length same in
      omega (arith, is, more, size)

  -- there are no more than there are races
  pub kept_few : (k : ℕ) → k ≤ length e.chart.events → length (kept_below k) ≤ length (races_of e)
  kept_few k le =
      let after = races_after e k le in
      let all = ap length after.1 ∙ length-append (races_below e k) after.0 in
      let size = length-filter test (races_below e k) in
      let few = count_by-le-length test (races_below e k) in
      omega (arith, all, size, few)

  -- and no more than all that pass
  pub kept_rest : (k : ℕ) → k ≤ length e.chart.events → length (kept_below k) ≤ length (filter test (races_of e))
  kept_rest k le =
      let after = races_after e k le in
      let all = ap (λ (l : List (ℕ × ℕ)). length (filter test l)) after.1 ∙ ap length (filter-append test (races_below e k) after.0)
      ∙ length-append (kept_below k) (filter test after.0) in
      omega (arith, all)

  -- with the last event they are all
  pub kept_all : (k : ℕ) → k ≡ length e.chart.events → kept_below k ≡ filter test (races_of e)
  kept_all k same = ap (filter test) (races_below_all e k same)

-- nothing more is asked where the closest are not alone
pub no_more : (a b : Bool) → a ≡ (a && (not false || b))
no_more true b = refl
no_more false b = refl

-- where not the closest alone are listed, all that count are
pub listed_plain : (e : EnforcedChart) (allowed : LeftOut) (x : ℕ) → counted_from e allowed x ≡ listed_from e allowed false x
listed_plain e allowed x =
    filter_agree (counts allowed (cause_in e)) (is_listed e allowed false (cause_in e))
    (λ p. no_more (counts allowed (cause_in e) p) (is_alone e.chart.events (counting e allowed (cause_in e)) p)) (races_from e x)

-- and otherwise those that no other stands within
pub listed_closest : (e : EnforcedChart) (allowed : LeftOut) (x : ℕ)
    → filter (is_alone e.chart.events (counting e allowed (cause_in e))) (counted_from e allowed x) ≡ listed_from e allowed true x
listed_closest e allowed x =
    filter_both (counts allowed (cause_in e)) (is_alone e.chart.events (counting e allowed (cause_in e))) (races_from e x)
