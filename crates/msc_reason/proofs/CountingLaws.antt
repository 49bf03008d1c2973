-- Laws of the races that count: which they are, and that each spans a closest one.
use Rattle.std.proofs.Common.{◌≡◌, ℕ, zero, suc, ◌+◌, ◌≤◌, ◌⊎◌, true, not, inl, inr, List, [], ◌∷◌, length, refl, sym, ap, ◌∙◌, subst, arith}
use Rattle.std.specs.Prelude.{◌↔◌}
use Rattle.std.specs.List.{list_any}
use Rattle.std.proofs.lemmas.Bool.{and_parts, and_from, false_from_ne_true, not-true, not_from_false}
use Rattle.msc_chart.proofs.Drawn.{before_parts}
use Rattle.msc_chart.proofs.ListLemmas.{by_test, clash}
use Rattle.msc_chart.specs.Charts.{segment, before}
use Rattle.msc_chart.specs.Drawings.{IsAccepted}
use Rattle.msc_chart.specs.Lists.{Occurs}
use Rattle.msc_chart.specs.Orders.{IsRace, IsWired, WiredChart}
use Rattle.msc_order.specs.Tables.{orders}
use Rattle.msc_race.specs.Races.{is_raced}
use Rattle.msc_race.specs.Views.{races_of, wiring_of}
use Rattle.msc_race.specs.Wired.{EnforcedChart, IsEnforced}
use Rattle.msc_race.proofs.Listing.Pairs.{of_from, of_parts}
use Rattle.msc_reason.proofs.Filtered.{any_in, any_parts, filter_from, filter_parts}
use Rattle.msc_reason.proofs.Spans.{before_trans, parted}
use Rattle.msc_reason.proofs.Within.{before_apart, within_from, within_parts, Within}
use Rattle.msc_reason.specs.Closest.{IsClosest, StandsWithin}
use Rattle.msc_reason.specs.Counting.{counting, counts, is_alone, is_listed, is_within, listed, AreCauses}
use Rattle.msc_reason.specs.CountingLaws.{IsClosestCounting, IsCounting, IsLeftOut}
use Rattle.msc_reason.specs.Kinds.{has_kind, is_empty}
use Rattle.msc_reason.specs.LeftOut.{is_accepted, leaves_none}
use Rattle.msc_reason.specs.declared.kinds.KindSet.{KindSet}
use Rattle.msc_reason.proofs.Counted.{none_accepted, none_of}
use Rattle.msc_reason.specs.Laws.{EachRaceHasOneKind}
use Rattle.msc_reason.specs.declared.left_out.LeftOut.{LeftOut}
use Rattle.msc_reason.specs.declared.cause.Cause.{Cause}
use Rattle.msc_reason.specs.declared.cause.RaceKind.{RaceKind}
use Rattle.msc_reason.specs.declared.cause.RaceKind.TheVariants.{Early, Queues, Unordered, Overtaken}

module _ (e : EnforcedChart) (is : IsEnforced e) (accepted : IsAccepted e.chart) (law : EachRaceHasOneKind)
    (allowed : LeftOut) (causes : ℕ → ℕ → Cause) (are : AreCauses e causes) where
  -- a race is one of the list
  race_in : (x y : ℕ) → IsRace (wiring_of e) x y → Occurs (races_of e) (x, y)
  unfolding is_raced
  race_in x y race =
      let p = before_parts e.chart.events x y race.0 in
      let free = false_from_ne_true (orders e.order x y) (λ held. race.1 (is.enforced.holds x y p.0 p.1 held)) in
      of_from (is_raced e.chart.events e.order) (length e.chart.events) x y p.0 p.1 (and_from _ _ race.0 (not_from_false _ free))

  -- and each of the list is one
  race_of : (x y : ℕ) → Occurs (races_of e) (x, y) → IsRace (wiring_of e) x y
  unfolding is_raced
  race_of x y there =
      let p = of_parts (is_raced e.chart.events e.order) (length e.chart.events) x y there in
      let both = and_parts (before e.chart.events x y) (not (orders e.order x y)) p.2 in
      (both.0, λ held. clash (is.enforced.complete x y held) (not-true (orders e.order x y) both.1))

  -- a race that counts passes
  counts_from : (x y : ℕ) → IsCounting (wiring_of e) allowed x y → counts allowed causes (x, y) ≡ true
  counts_from x y its = and_from _ _
      (not_from_false _ (false_from_ne_true (is_accepted allowed (x, y)) (λ named. its.counts (inr named))))
      (not_from_false _ (false_from_ne_true (has_kind allowed.kinds (causes x y).kind) (λ named.
      its.counts (inl (record { kind = (causes x y).kind; its = (are x y its.race).kind; named = named })))))

  -- and what passes counts
  counts_parts : (x y : ℕ) → IsRace (wiring_of e) x y → counts allowed causes (x, y) ≡ true → IsCounting (wiring_of e) allowed x y
  counts_parts x y race passes =
      let both = and_parts (not (is_accepted allowed (x, y))) (not (has_kind allowed.kinds (causes x y).kind)) passes in
      record {
        race = race;
        counts = λ out. elim out [
          | inl left ↦
              let one = law e.queues e.chart accepted x y race in
              let same = one.2 (causes x y).kind (are x y race).kind ∙ sym (one.2 left.kind left.its) in
              clash (ap (has_kind allowed.kinds) same ∙ left.named) (not-true _ both.1)
          | inr named ↦ clash named (not-true _ both.0)
        ];
      }

  -- the races that count are those of the list
  pub counting_listed : (x y : ℕ) → IsCounting (wiring_of e) allowed x y ↔ Occurs (counting e allowed causes) (x, y)
  counting_listed x y = (
    λ its. filter_from (counts allowed causes) (races_of e) (x, y) (race_in x y its.race) (counts_from x y its),
    λ there. let kept = filter_parts (counts allowed causes) (races_of e) (x, y) there in counts_parts x y (race_of x y kept.0) kept.1,
  )

  -- what stands within a pair is another one, or it
  within_or : (x y g h : ℕ) → StandsWithin e.chart.events x y g h → Within e.chart.events (x, y) (g, h) ⊎ ((g ≡ x) × (h ≡ y))
  within_or x y g h stands = elim stands.first [
    | inl one ↦ elim stands.second [
      | inl two ↦ inr (one, two)
      | inr lower ↦ inl (record { first = inl one; second = inr lower; other = λ _ two. before_apart e.chart.events h y lower two })
    ]
    | inr later ↦ inl (record { first = inr later; second = stands.second; other = λ one _. before_apart e.chart.events x g later (sym one) })
  ]

  -- where no other one of the list stands within, none that counts does
  alone_parts : (x y : ℕ) → is_alone e.chart.events (counting e allowed causes) (x, y) ≡ true
      → (g h : ℕ) → IsCounting (wiring_of e) allowed g h → StandsWithin e.chart.events x y g h → (g ≡ x) × (h ≡ y)
  alone_parts x y alone g h its stands = elim (within_or x y g h stands) [
    | inl other ↦
        let some = any_in (is_within e.chart.events (x, y)) (counting e allowed causes) (g, h) ((counting_listed g h).0 its) (within_from e.chart.events (x, y) (g, h) other) in
        clash some (not-true _ alone)
    | inr same ↦ same
  ]

  -- a closest one
  closest_from : (x y : ℕ) → IsCounting (wiring_of e) allowed x y → is_alone e.chart.events (counting e allowed causes) (x, y) ≡ true
      → IsClosestCounting (wiring_of e) allowed x y
  closest_from x y its alone = record { itself = its; alone = alone_parts x y alone }

  -- the closest ones are those of the other list
  pub closest_listed : (x y : ℕ) → IsClosestCounting (wiring_of e) allowed x y ↔ Occurs (listed e allowed true causes) (x, y)
  closest_listed x y = (
    λ its. filter_from (is_listed e allowed true causes) (races_of e) (x, y) (race_in x y its.itself.race)
        (and_from (counts allowed causes (x, y)) _ (counts_from x y its.itself) (not_from_false _ (false_from_ne_true _ (λ some.
        let q = any_parts (is_within e.chart.events (x, y)) (counting e allowed causes) some in
        let within = within_parts e.chart.events (x, y) q.0 q.2 in
        let same = its.alone q.0.0 q.0.1 ((counting_listed q.0.0 q.0.1).1 q.1) (record { first = within.first; second = within.second }) in
        within.other same.0 same.1)))),
    λ there.
        let kept = filter_parts (is_listed e allowed true causes) (races_of e) (x, y) there in
        let both = and_parts (counts allowed causes (x, y)) _ kept.1 in
        closest_from x y (counts_parts x y (race_of x y kept.0) both.0) both.1,
  )

  -- what stands within a pair that stands within another stands within that
  stands_in : (x y g h k l : ℕ) → StandsWithin e.chart.events x y g h → StandsWithin e.chart.events g h k l → StandsWithin e.chart.events x y k l
  stands_in x y g h k l outer inner = record {
    first = elim inner.first [
      | inl same ↦ subst (λ (n : ℕ). (n ≡ x) ⊎ (before e.chart.events x n ≡ true)) (sym same) outer.first
      | inr later ↦ elim outer.first [
        | inl one ↦ inr (subst (λ (n : ℕ). before e.chart.events n k ≡ true) one later)
        | inr first ↦ inr (before_trans e.chart.events x g k first later)
      ]
    ];
    second = elim inner.second [
      | inl same ↦ subst (λ (n : ℕ). (n ≡ y) ⊎ (before e.chart.events n y ≡ true)) (sym same) outer.second
      | inr lower ↦ elim outer.second [
        | inl one ↦ inr (subst (λ (n : ℕ). before e.chart.events l n ≡ true) one lower)
        | inr last ↦ inr (before_trans e.chart.events l h y lower last)
      ]
    ];
  }

  -- another pair within has fewer segments between its events
  nearer : (x y g h : ℕ) → Within e.chart.events (x, y) (g, h) → segment e.chart.events h + segment e.chart.events x + 1 ≤ segment e.chart.events y + segment e.chart.events g
  nearer x y g h within = elim within.first [
    | inl one ↦ elim within.second [
      | inl two ↦ absurd (within.other one two)
      | inr lower ↦ let p = before_parts e.chart.events h y lower in let level = ap (segment e.chart.events) one in omega (arith, p.3, level)
    ]
    | inr later ↦
        let p = before_parts e.chart.events x g later in
        elim within.second [
          | inl two ↦ let level = ap (segment e.chart.events) two in omega (arith, p.3, level)
          | inr lower ↦ let q = before_parts e.chart.events h y lower in omega (arith, p.3, q.3)
        ]
  ]

  -- a closest one within a pair
  abbrev Spanned : ℕ → ℕ → Type 0
  Spanned x y = (g : ℕ) × (h : ℕ) × IsClosestCounting (wiring_of e) allowed g h × StandsWithin e.chart.events x y g h

  -- by the segments between the two events
  spanned_by : (fuel x y : ℕ) → segment e.chart.events y ≤ segment e.chart.events x + fuel → IsCounting (wiring_of e) allowed x y → Spanned x y
  spanned_by zero x y near its = absurd (let p = before_parts e.chart.events x y its.race.0 in omega (arith, near, p.3))
  spanned_by (suc fuel) x y near its = by_test (list_any (is_within e.chart.events (x, y)) (counting e allowed causes))
      (λ some.
      let q = any_parts (is_within e.chart.events (x, y)) (counting e allowed causes) some in
      let within = within_parts e.chart.events (x, y) q.0 q.2 in
      let less = nearer x y q.0.0 q.0.1 within in
      let inner = spanned_by fuel q.0.0 q.0.1 (omega (arith, near, less)) ((counting_listed q.0.0 q.0.1).1 q.1) in
      (inner.0, inner.1, inner.2, stands_in x y q.0.0 q.0.1 inner.0 inner.1 (record { first = within.first; second = within.second }) inner.3))
      (λ none. (x, y, closest_from x y its (not_from_false _ none), record { first = inl refl; second = inl refl }))

  -- each race that counts spans a closest one
  pub spanned : (x y : ℕ) → IsCounting (wiring_of e) allowed x y → Spanned x y
  spanned x y its = spanned_by (segment e.chart.events y) x y (omega arith) its

  -- where none is listed as closest, none counts
  none_from : (pairs : List (ℕ × ℕ)) → pairs ≡ counting e allowed causes → listed e allowed true causes ≡ [] → pairs ≡ []
  none_from [] same none = refl
  none_from (p ∷ pairs) same none =
      let there : Occurs (counting e allowed causes) p = subst (λ (l : List (ℕ × ℕ)). Occurs l p) same (zero, refl) in
      let inner = spanned p.0 p.1 ((counting_listed p.0 p.1).1 there) in
      let found = subst (λ (l : List (ℕ × ℕ)). Occurs l (inner.0, inner.1)) none ((closest_listed inner.0 inner.1).0 inner.2) in
      absurd (let empty : Occurs {T = ℕ × ℕ} [] (inner.0, inner.1) = found in cc)

  -- and where none counts, none is closest
  none_to : (pairs : List (ℕ × ℕ)) → pairs ≡ listed e allowed true causes → counting e allowed causes ≡ [] → pairs ≡ []
  none_to [] same none = refl
  none_to (p ∷ pairs) same none =
      let there : Occurs (listed e allowed true causes) p = subst (λ (l : List (ℕ × ℕ)). Occurs l p) same (zero, refl) in
      let found = subst (λ (l : List (ℕ × ℕ)). Occurs l p) none ((counting_listed p.0 p.1).0 ((closest_listed p.0 p.1).1 there).itself) in
      absurd (let empty : Occurs {T = ℕ × ℕ} [] p = found in cc)

  -- so both lists are empty together
  pub none_closest : (listed e allowed true causes ≡ []) ↔ (counting e allowed causes ≡ [])
  none_closest = (none_from (counting e allowed causes) refl, none_to (listed e allowed true causes) refl)

-- an empty set leaves no race out
none_had : (kinds : KindSet) (kind : RaceKind) → is_empty kinds ≡ true → has_kind kinds kind ≡ true → ⊥
none_had kinds Early empty has = grind (arith, empty, has)
none_had kinds Queues empty has = grind (arith, empty, has)
none_had kinds Unordered empty has = grind (arith, empty, has)
none_had kinds Overtaken empty has = grind (arith, empty, has)

-- nor does what leaves nothing out
none_out : (chart : WiredChart) (allowed : LeftOut) (e f : ℕ) → leaves_none allowed ≡ true → IsLeftOut chart allowed e f → ⊥
none_out chart allowed e f empty (inl of_kinds) = none_had allowed.kinds of_kinds.kind (none_of allowed empty) of_kinds.named
none_out chart allowed e f empty (inr named) = clash named (none_accepted allowed (e, f) empty)

-- where nothing is left out, the closest races that count are the closest races
pub closest_without : (e : EnforcedChart) → IsWired (wiring_of e) → (allowed : LeftOut) → leaves_none allowed ≡ true
    → (x y : ℕ) → IsClosestCounting (wiring_of e) allowed x y ↔ IsClosest (wiring_of e) x y
closest_without e wired allowed empty x y = (
  λ its. record {
    race = its.itself.race;
    next = λ z low high. elim (parted (wiring_of e) wired x z y its.itself.race low high) [
      | inl first ↦
          let same = its.alone x z (counts first) (record { first = inl refl; second = inr high }) in
          before_apart e.chart.events z y high same.1
      | inr second ↦
          let same = its.alone z y (counts second) (record { first = inr low; second = inl refl }) in
          before_apart e.chart.events x z low (sym same.0)
    ];
  },
  λ its. record {
    itself = counts its.race;
    alone = λ g h other stands. elim stands.first [
      | inl one ↦ elim stands.second [
        | inl two ↦ (one, two)
        | inr lower ↦ absurd (its.next h (subst (λ (n : ℕ). before e.chart.events n h ≡ true) one other.race.0) lower)
      ]
      | inr later ↦ absurd (its.next g later (elim stands.second [
        | inl two ↦ subst (λ (n : ℕ). before e.chart.events g n ≡ true) two other.race.0
        | inr lower ↦ before_trans e.chart.events g h y other.race.0 lower
      ]))
    ];
  },
)
  where
    -- each race counts
    counts : {g h : ℕ} → IsRace (wiring_of e) g h → IsCounting (wiring_of e) allowed g h
    counts race = record { race = race; counts = λ out. none_out (wiring_of e) allowed _ _ empty out }
