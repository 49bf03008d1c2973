-- One take more in a round.
use Rattle.std.proofs.Common.{◌≡◌, ℕ, ◌+◌, ◌<◌, ◌≤◌, Bool, true, false, length, get_or, refl, ap, ◌∙◌, arith, inl, inr, All, min, sym}
use Rattle.std.proofs.lemmas.Bool.{cases_eq}
use Rattle.msc_chart.specs.Drawings.{Drawing}
use Rattle.msc_chart.proofs.ListLemmas.{by_test, clash}
use Rattle.msc_fifo.specs.Entries.{greatest_idle}
use Rattle.msc_execution.specs.Roles.{NumberedInlet}
use Rattle.msc_instance.specs.declared.active.Active.{Active}
use Rattle.msc_instance.specs.declared.active.Post.{Post}
use Rattle.msc_instance.specs.Active.{IsSound, logged_by, weight}
use Rattle.msc_instance.specs.Taking.{IsQuiet, IsIdle, IsFound, SomeFound}

-- no take on the first k inlets found anything
pub record HasFoundNothing (d : Drawing) (p : Post) (k : ℕ) (a b : Active) : Type 0 where
  pub kept : logged_by b ≡ logged_by a
  pub once : (j : ℕ) (i : NumberedInlet)
      → (get_or b.inlets.items j i).1.idle ≤ (get_or a.inlets.items j i).1.idle + 1
  pub later : (j : ℕ) (i : NumberedInlet) → k ≤ j
      → get_or b.inlets.items j i ≡ get_or a.inlets.items j i
  pub same : weight d p b ≡ weight d p a
  pub idle : (n : ℕ) → n < greatest_idle → All (λ (i : NumberedInlet). n ≤ i.1.idle) a.inlets.items
      → (j : ℕ) (i : NumberedInlet)
      → j < length a.inlets.items
      → (n ≤ (get_or b.inlets.items j i).1.idle)
      × (j < k → n + 1 ≤ (get_or b.inlets.items j i).1.idle)

-- the last take on one of the first k inlets found something
abbrev pub HasFoundBelow : ℕ → Active → Type 0
HasFoundBelow k b = (j : ℕ) × (j < k) × ((n : NumberedInlet) → (get_or b.inlets.items j n).1.idle ≡ 0)

-- before the take on inlet k
pub record IsTurn (d : Drawing) (p : Post) (k : ℕ) (found : Bool) (a b : Active) : Type 0 where
  pub sound : IsSound d p b
  pub inlets : length b.inlets.items ≡ length a.inlets.items
  pub busy : found ≡ true → weight d p b < weight d p a
  pub below : found ≡ true → HasFoundBelow k b
  pub quiet : found ≡ false → HasFoundNothing d p k a b

-- how many takes in a row have found nothing
abbrev idle_of : NumberedInlet → ℕ
idle_of n = n.1.idle

module _ (d : Drawing) (p : Post) where
  module _ (k : ℕ) (found : Bool) (a b c : Active) (turn : IsTurn d p k found a b)
      (many : length c.inlets.items ≡ length b.inlets.items) where
    -- a take that found nothing
    pub turn_nothing : IsSound d p c → IsQuiet k b c → weight d p c ≡ weight d p b
        → IsTurn d p (k + 1) found a c
    turn_nothing s quiet same = record {
      sound = s;
      inlets = many ∙ turn.inlets;
      busy = λ h. omega (arith, turn.busy h, same);
      below = λ h. let (j, lt, none) = turn.below h in
          (j, omega (arith, lt), λ n. ap idle_of (quiet.others j n (λ is. absurd (omega (arith, is, lt)))) ∙ none n);
      quiet = λ h. let was = turn.quiet h in record {
        kept = quiet.kept ∙ was.kept;
        once = λ j i. elim (cases_eq j k) [
          | inl here ↦
              let now : (get_or c.inlets.items j i).1.idle
              ≡ min ((get_or b.inlets.items j i).1.idle + 1) greatest_idle =
              ap (λ x. (get_or c.inlets.items x i).1.idle) here ∙ quiet.idle i
              ∙ ap (λ x. min ((get_or b.inlets.items x i).1.idle + 1) greatest_idle) (sym here) in
              let old = ap idle_of (was.later j i (omega (arith, here))) in
              omega (arith, now, old)
          | inr other ↦ let now = ap idle_of (quiet.others j i other) in omega (arith, now, was.once j i)
        ];
        later = λ j i le. quiet.others j i (λ is. absurd (omega (arith, is, le)))
            ∙ was.later j i (omega (arith, le));
        same = same ∙ was.same;
        idle = λ n few all j i lt. let low = was.idle n few all j i lt in
            elim (cases_eq j k) [
              | inl here ↦
                  let now : (get_or c.inlets.items j i).1.idle
                  ≡ min ((get_or b.inlets.items j i).1.idle + 1) greatest_idle =
                  ap (λ x. (get_or c.inlets.items x i).1.idle) here ∙ quiet.idle i
                  ∙ ap (λ x. min ((get_or b.inlets.items x i).1.idle + 1) greatest_idle) (sym here) in
                  (omega (arith, now, low.0), λ _. omega (arith, now, low.0))
              | inr other ↦
                  let now = ap (λ (x : NumberedInlet). x.1.idle) (quiet.others j i other) in
                  (omega (arith, now, low.0), λ less. omega (arith, now, low.1 (omega arith)))
            ];
      };
    }

    -- a take that found something
    pub turn_busy : IsSound d p c → weight d p c < weight d p b → IsFound k b c
        → IsTurn d p (k + 1) true a c
    turn_busy s less here = record {
      sound = s;
      inlets = many ∙ turn.inlets;
      busy = λ _. by_test found (λ h. omega (arith, turn.busy h, less))
          (λ h. omega (arith, (turn.quiet h).same, less));
      below = λ _. (k, omega arith, here.idle);
      quiet = λ h. clash refl h;
    }

  -- after all takes
  pub all_idle : (k : ℕ) (a b : Active) → length b.inlets.items ≡ length a.inlets.items
      → length a.inlets.items ≤ k → HasFoundNothing d p k a b → IsIdle a b
  all_idle k a b many all nothing = record {
    kept = nothing.kept;
    many = many;
    once = nothing.once;
    idle = λ n few was j i lt. (nothing.idle n few was j i (omega arith)).1 (omega arith);
  }

  -- and where one found something
  pub some_found : (k : ℕ) (b : Active) → k ≤ length b.inlets.items → HasFoundBelow k b → SomeFound b
  some_found k b few found = let (j, lt, none) = found in (j, omega (arith, lt, few), none)
