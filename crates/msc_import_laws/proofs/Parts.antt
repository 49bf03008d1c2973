-- The ends of a message by themselves: which of them a line has, and what is drawn of them.
use Rattle.std.proofs.Common.{ap, subst, sym, ◌∙◌, arith, ◌≡◌, ℕ, ◌+◌, ◌*◌, Bool, true, false, cond, eqb, List, [], ◌∷◌, ◌++◌, map, codes, refl}
use Rattle.msc_parser.specs.declared.tree.Statement.{Statement as Drawn}
use Rattle.msc_parser.specs.declared.tree.Statement.TheVariants.{Message as Signalled, Action as Acts}
use Rattle.msc_parser.specs.declared.tree.Direction.TheVariants as directions
use Rattle.msc_scenarios.specs.declared.steps.Message.{Message}
use Rattle.msc_scenarios.specs.declared.steps.Step.TheVariants as steps
use Rattle.msc_import.specs.declared.plan.Own.{Own}
use Rattle.msc_import.specs.declared.plan.Own.TheVariants as owns
use Rattle.msc_import.specs.Drafting.{drawn_event, ident_text, line_name, signal}
use Rattle.msc_import.specs.Laws.{ends_on}
use Rattle.msc_import.specs.Plans.{sides_on as ends_of, single_sides as single_ends, is_exchange, Event}
use Rattle.msc_chart.specs.Lists.{StandsAt, Occurs}
use Rattle.msc_chart.proofs.ListLemmas.{by_test}
use Rattle.msc_chart.proofs.Places.{map-place, one_at, place-map}
use Rattle.msc_import_laws.specs.Ends.{fall as drop}

-- an end of an arrow: its output, its input, both as one action, the output of what nobody takes,
-- or an end of the message that its receiver sends back
pub data Side : Type 0 where
  Out : Side
  In : Side
  Alone : Side
  Lost : Side
  OutBack : Side
  InBack : Side

-- how far it is below the first end of its arrow
abbrev pub fall : Side → ℕ
fall Out = 0
fall In = 2
fall Alone = 0
fall Lost = 0
fall OutBack = 1
fall InBack = 3

-- it is of the message that is sent back
abbrev pub is_back : Side → Bool
is_back Out = false
is_back In = false
is_back Alone = false
is_back Lost = false
is_back OutBack = true
is_back InBack = true

-- the ends that a message to oneself has
abbrev pub own_ends : Own → List Side
own_ends owns.Action = Alone ∷ []
own_ends owns.Message = Out ∷ In ∷ []

-- those on a line, by whether the message is lost, from this line, and to it
abbrev pub single_by : Own → Bool → Bool → Bool → List Side
single_by own lost from to = cond lost (cond from (Lost ∷ []) []) (cond from (cond to (own_ends own) (Out ∷ [])) (cond to (In ∷ []) []))

-- and by whether one is sent back
abbrev pub sides_by : Own → Bool → Bool → Bool → Bool → List Side
sides_by own pair lost from to = cond pair (cond from (Out ∷ InBack ∷ []) (cond to (OutBack ∷ In ∷ []) [])) (single_by own lost from to)

abbrev pub sides_on : Own → ℕ → Message → List Side
sides_on own line m = sides_by own (is_exchange m) m.lost (eqb m.from line) (eqb m.to line)

-- what is drawn of them
abbrev pub drawn_part : List (List ℕ) → Message → Side → Drawn
drawn_part names m Out = Signalled (signal directions.Output m (line_name names m.to))
drawn_part names m In = Signalled (signal directions.Input m (line_name names m.from))
drawn_part names m OutBack = Signalled (signal directions.Output m (line_name names m.from))
drawn_part names m InBack = Signalled (signal directions.Input m (line_name names m.to))
drawn_part names m Alone = Acts (ident_text m)
drawn_part names m Lost = Acts (codes "lost " ++ ident_text m ++ codes " to " ++ line_name names m.to)

-- each step has these ends on a line
module _ (own : Own) (line k : ℕ) (m : Message) (names : List (List ℕ)) where
  unfoldable pub Same : Type 0
  Same = (map (drawn_event names) (ends_on own line (steps.Meets m)) ≡ map (drawn_part names m) (sides_on own line m))
      × (map (λ e. 4 * k + drop e) (ends_on own line (steps.Meets m)) ≡ map (λ s. 4 * k + fall s) (sides_on own line m))

module _ (line k : ℕ) (m : Message) (names : List (List ℕ)) where
  both_ways : (own : Own) → is_exchange m ≡ false → m.lost ≡ false → eqb m.from line ≡ true → eqb m.to line ≡ true → Same own line k m names
  unfolding Same ends_of single_ends drawn_event drop
  both_ways owns.Action p l f t = (rw (p, l, f, t) refl, rw (p, l, f, t) refl)
  both_ways owns.Message p l f t = (rw (p, l, f, t) refl, rw (p, l, f, t) refl)

  pub same_ends : (own : Own) → Same own line k m names
  unfolding Same ends_of single_ends drawn_event drop
  same_ends own =
      by_test (is_exchange m)
      (λ p. by_test (eqb m.from line)
      (λ f. (rw (p, f) refl, rw (p, f) refl))
      (λ f. by_test (eqb m.to line) (λ t. (rw (p, f, t) refl, rw (p, f, t) refl)) (λ t. (rw (p, f, t) refl, rw (p, f, t) refl))))
      (λ p. by_test m.lost
      (λ l. by_test (eqb m.from line) (λ f. (rw (p, l, f) refl, rw (p, l, f) refl)) (λ f. (rw (p, l, f) refl, rw (p, l, f) refl)))
      (λ l. by_test (eqb m.from line)
      (λ f. by_test (eqb m.to line) (λ t. both_ways own p l f t) (λ t. (rw (p, l, f, t) refl, rw (p, l, f, t) refl)))
      (λ f. by_test (eqb m.to line) (λ t. (rw (p, l, f, t) refl, rw (p, l, f, t) refl)) (λ t. (rw (p, l, f, t) refl, rw (p, l, f, t) refl)))))

-- each end by itself is an end as the draft has it
pub end_of_part : (line : ℕ) (m : Message) (names : List (List ℕ)) (own : Own) (s : Side) → Occurs (sides_on own line m) s
    → (e : Event) × Occurs (ends_on own line (steps.Meets m)) e × (drawn_event names e ≡ drawn_part names m s) × (drop e ≡ fall s)
unfolding Same
end_of_part line m names own s o =
    let both = same_ends line 0 m names own in
    let a = map-place (drawn_event names) (ends_on own line (steps.Meets m)) o.0 (drawn_part names m s) (subst (λ l. StandsAt l o.0 (drawn_part names m s)) (sym both.0) (place-map (drawn_part names m) (sides_on own line m) o.0 s o.1)) in
    let b = map-place (λ e. 4 * 0 + drop e) (ends_on own line (steps.Meets m)) o.0 (4 * 0 + fall s) (subst (λ l. StandsAt l o.0 (4 * 0 + fall s)) (sym both.1) (place-map (λ s. 4 * 0 + fall s) (sides_on own line m) o.0 s o.1)) in
    let same : a.0 ≡ b.0 = one_at (ends_on own line (steps.Meets m)) o.0 a.0 b.0 a.1 b.1 in
    let falls = b.2 in
    (a.0, (o.0, a.1), a.2, ap drop same ∙ omega (arith, falls))
