-- What is drawn of an arrow on a line.
use Rattle.std.proofs.Common.{◌≡◌, ℕ, Bool, true, false, ◌==◌, List, map, refl, arith}
use Rattle.std.proofs.lemmas.Bool.Decides.{nat_tests}
use Rattle.msc_scenarios.specs.declared.steps.Message.{Message}
use Rattle.msc_scenarios.specs.declared.steps.Step.TheVariants as steps
use Rattle.msc_import.specs.declared.plan.Own.{Own}
use Rattle.msc_import.specs.declared.plan.Own.TheVariants as owns
use Rattle.msc_import.specs.ArrowEnds.{arrow_on}
use Rattle.msc_import.specs.Drafting.{drawn_event}
use Rattle.msc_import.specs.Laws.{ends_on}
use Rattle.msc_import.specs.Plans.{is_exchange, sides_on, single_sides}

-- tests on numbers that cannot be told together
module _ (from to line : ℕ) where
  one_line : (from == to) ≡ true → (from == line) ≡ true → (to == line) ≡ false → ⊥
  one_line s f t = grind (arith, nat_tests)

  other_line : (from == to) ≡ true → (from == line) ≡ false → (to == line) ≡ true → ⊥
  other_line s f t = grind (arith, nat_tests)

  two_lines : (from == to) ≡ false → (from == line) ≡ true → (to == line) ≡ true → ⊥
  two_lines s f t = grind (arith, nat_tests)

module _ (names : List (List ℕ)) (line : ℕ) (m : Message) where
  abbrev IsDrawn : Own → Type 0
  IsDrawn own = map (drawn_event names) (ends_on own line (steps.Meets m)) ≡ arrow_on own names line m

  table : (own : Own) (b l s f t : Bool) → m.both ≡ b → m.lost ≡ l → (m.from == m.to) ≡ s → (m.from == line) ≡ f → (m.to == line) ≡ t → IsDrawn own
  unfolding sides_on single_sides is_exchange drawn_event arrow_on
  table own true true s true t b l e f g = rw (b, l, f) refl
  table own true true s false t b l e f g = rw (b, l, f) refl
  table own false true s true t b l e f g = rw (b, l, f) refl
  table own false true s false t b l e f g = rw (b, l, f) refl
  table owns.Action true false true true true b l e f g = rw (b, l, e, f, g) refl
  table owns.Message true false true true true b l e f g = rw (b, l, e, f, g) refl
  table owns.Action false false true true true b l e f g = rw (b, l, e, f, g) refl
  table owns.Message false false true true true b l e f g = rw (b, l, e, f, g) refl
  table own both false true true false b l e f g = absurd (one_line m.from m.to line e f g)
  table own both false true false true b l e f g = absurd (other_line m.from m.to line e f g)
  table own true false true false false b l e f g = rw (b, l, e, f, g) refl
  table own false false true false false b l e f g = rw (b, l, e, f, g) refl
  table own both false false true true b l e f g = absurd (two_lines m.from m.to line e f g)
  table own true false false true false b l e f g = rw (b, l, e, f) refl
  table own true false false false true b l e f g = rw (b, l, e, f, g) refl
  table own true false false false false b l e f g = rw (b, l, e, f, g) refl
  table own false false false true false b l e f g = rw (b, l, e, f, g) refl
  table own false false false false true b l e f g = rw (b, l, e, f, g) refl
  table own false false false false false b l e f g = rw (b, l, e, f, g) refl

  pub arrow_drawn : (own : Own) → IsDrawn own
  arrow_drawn own = table own m.both m.lost (m.from == m.to) (m.from == line) (m.to == line) refl refl refl refl refl
