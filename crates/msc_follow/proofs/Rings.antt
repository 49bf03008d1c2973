-- Rings of the table of steps are rings of steps.
use Rattle.std.proofs.Common.{◌≡◌, ℕ, ◌<◌, Bool, true, List, length, get_or, sym, subst, arith}
use mathlib.Core.Path.{fun_ext}
use Rattle.bit_rows.specs.Tables.{cell}
use Rattle.msc_chart.specs.Orders.{WiredChart, IsWired}
use Rattle.msc_follow.specs.Following.{IsLeastStepRing}
use Rattle.msc_follow.specs.Paths.{HasNoClosedPath, IsLeastOnARing, Path}
use Rattle.msc_follow.specs.Steps.{leads}
use Rattle.msc_follow.specs.Tables.{AreSteps}
use Rattle.rings.specs.Rings.{IsLeastRing, HasNoRing}
use Rattle.msc_follow.proofs.Chains.{path_of_ring, ring_of_path, ring_several}
use Rattle.msc_follow.proofs.Stepping.{same_test}
use Rattle.msc_follow.proofs.Steps.{leads_below, leads_elsewhere}

module _ (chart : WiredChart) (is_wired : IsWired chart) (words : List ℕ) (steps : AreSteps chart words) where
  -- the number of events
  abbrev n : ℕ
  n = length chart.events

  -- the table is the test for steps
  pub table_is : cell n words ≡ leads chart
  table_is = fun_ext (λ (x : ℕ). fun_ext (λ (y : ℕ). same_test (cell n words x y) (leads chart x y) (steps x y).0 (steps x y).1))

  -- its pairs are pairs of events
  pub cells_below : (x y : ℕ) → cell n words x y ≡ true → (x < n) × (y < n)
  cells_below x y h = leads_below chart is_wired x y ((steps x y).0 h)

  -- a path leads from an event
  path_below : (x y : ℕ) → Path (leads chart) x y → x < n
  path_below x y (Path.step h) = (leads_below chart is_wired x y h).0
  path_below x y (Path.joined {y = m} h k) = path_below x m h

  -- a table without a closed path has no ring of steps
  pub none_of_table : HasNoClosedPath (cell n words) → (start : ℕ) → HasNoRing (leads chart) n start
  none_of_table none start ring is_ring =
      subst HasNoClosedPath table_is none start (path_of_ring (leads chart) n start ring is_ring)

  module _ (start : ℕ) (least : IsLeastOnARing (cell n words) start) where
    on_a_ring : IsLeastOnARing (leads chart) start
    on_a_ring = subst (λ (test : ℕ → ℕ → Bool). IsLeastOnARing test start) table_is least

    -- the least number on a ring is an event
    pub start_below : start < n
    start_below = path_below start start on_a_ring.itself

    -- a ring goes through it
    pub some_ring : HasNoRing (cell n words) n start → ⊥
    some_ring none =
        let ring = ring_of_path (cell n words) n (λ x y h. (cells_below x y h).0) start least.itself in
        none ring.0 ring.1

    -- and the least ring of the table through it is the one that is shown
    pub shown : (ring : List ℕ) → IsLeastRing (cell n words) n start ring → IsLeastStepRing chart ring
    shown ring found =
        let by_steps : IsLeastRing (leads chart) n start ring = subst (λ (test : ℕ → ℕ → Bool). IsLeastRing test n start ring) table_is found in
        let begins = by_steps.is_ring.begins in
        let at_first : IsLeastRing (leads chart) n (get_or ring 0 0) ring = subst (λ (z : ℕ). IsLeastRing (leads chart) n z ring) (sym begins) by_steps in
        record {
          is_ring = record {
            is_ring = at_first.is_ring;
            several = ring_several (leads chart) n start ring by_steps.is_ring (leads_elsewhere chart is_wired);
          };
          first = λ e less other is_ring.
              on_a_ring.none_below e (omega (arith, less, begins)) (path_of_ring (leads chart) n e other is_ring);
          least = at_first;
        }
