-- To take the least event that may follow, again and again, gathers the logs. Where none may follow,
-- no run has these lines.
use Rattle.std.proofs.Common.{◌≡◌, ℕ, zero, suc, ◌<◌, true, false, ◌&&◌, not, ◌⊎◌, inl, inr, List, [], ◌∷◌, ◌++◌, length, refl, sym, ap, subst, ◌∙◌, append_assoc, arith}
use Rattle.std.proofs.lemmas.Bool.{and_parts, and_from, not-true, not_from_false, cases_lt, cases_order}
use Rattle.std.proofs.lemmas.List.{append-nil}
use Rattle.msc_chart.specs.Orders.{WiredChart}
use Rattle.msc_chart.specs.Charts.{line}
use Rattle.msc_chart.specs.Lists.{Steps, occurs}
use Rattle.msc_chart.proofs.ListLemmas.{by_test, clash, until-within, Steps-map, Steps-push}
use Rattle.msc_chart.proofs.Numbers.{count_below, find_below}
use Rattle.msc_chart.proofs.KindTests.{output_below}
use Rattle.msc_chart.proofs.Left.{is_left, left_from, left_parts, left_less}
use Rattle.msc_chart.specs.Runs.{HasNoMerge}
use Rattle.msc_gather.specs.Gathering.{IsNotAfter, IsGathered}
use Rattle.msc_gather.specs.Schedule.{log_of, is_logged, AreLogs, goes_first, MayFollow, HasAll, IsSchedule, IsSeated, FollowsLeast, SomeMissing}
use Rattle.msc_gather.proofs.Once.{occurs-cases, ne_occurs}
use Rattle.msc_gather.proofs.ScheduleLemmas.{logs_of_run, schedule_of_run, run_of_schedule, lines_of_schedule}
use Rattle.msc_gather.proofs.ComesFirst.{first_cases}

-- a schedule that takes the least event each time comes after no schedule
least_not_after : (chart : WiredChart) (logs : List (List ℕ)) (past xs ys : List ℕ)
    → Steps (FollowsLeast chart logs) past xs → Steps (MayFollow chart logs) past ys
    → HasAll chart logs (past ++ ys) → IsNotAfter xs ys
least_not_after chart logs past [] ys least steps all = tt
least_not_after chart logs past (x ∷ xs) [] least steps all =
    let may = least.0.itself in
    clash (subst (λ (l : List ℕ). occurs l x ≡ true) (append-nil past) (all x may.event may.logged))
    may.new
least_not_after chart logs past (x ∷ xs) (y ∷ ys) least steps all =
    elim (cases_order x y) [
      | inl same ↦ inr (
        same,
        least_not_after chart logs (past ++ x ∷ []) xs ys least.1
            (subst (λ (z : ℕ). Steps (MayFollow chart logs) (past ++ z ∷ []) ys) (sym same) steps.1)
            (subst (λ (l : List ℕ). HasAll chart logs l) (sym (append_assoc past (x ∷ []) ys))
            (subst (λ (z : ℕ). HasAll chart logs (past ++ z ∷ ys)) (sym same) all)),
      )
      | inr other ↦ elim other
          [ inl lt ↦ inl lt | inr gt ↦ absurd (least.0.none_below y gt steps.0) ]
    ]

-- so it gathers the logs
pub least_gathers : (chart : WiredChart) (instances : ℕ) (logs : List (List ℕ)) (events : List ℕ)
    → IsSeated chart instances → AreLogs chart instances logs
    → Steps (FollowsLeast chart logs) [] events → HasAll chart logs events
    → IsGathered chart instances logs events
least_gathers chart instances logs events seated sound least all =
    let schedule : IsSchedule chart logs events = (
      Steps-map (FollowsLeast chart logs) (MayFollow chart logs) (λ past x f. f.itself) [] events
          least,
      all,
    ) in
    record {
      run = run_of_schedule seated sound events schedule;
      lines = lines_of_schedule seated sound events schedule;
      least = λ other run lines.
          let s = schedule_of_run seated run lines in
          least_not_after chart logs [] events other least s.0 s.1;
    }

-- Where a schedule has an event that is not among these, an event may follow these.
next_of : (chart : WiredChart) (logs : List (List ℕ)) (past front ys : List ℕ) (e : ℕ)
    → Steps (MayFollow chart logs) front ys
    → ((z : ℕ) → occurs front z ≡ true → occurs past z ≡ true) → occurs (front ++ ys) e ≡ true
    → occurs past e ≡ false
    → (x : ℕ) × MayFollow chart logs past x
next_of chart logs past front [] e steps within there out =
    clash (within e (subst (λ (l : List ℕ). occurs l e ≡ true) (append-nil front) there)) out
next_of chart logs past front (y ∷ ys) e steps within there out =
    by_test (occurs past y)
    (λ old. next_of chart logs past (front ++ y ∷ []) ys e steps.1
    (λ z h. by_test (occurs front z) (λ in_front. within z in_front)
    (λ last. elim (cases_lt y z) [
      | inl lt ↦ clash (occurs-cases front (y ∷ []) z h last) (ne_occurs y z (λ s. omega arith))
      | inr ge ↦ elim (cases_lt z y) [
        | inl gt ↦ clash (occurs-cases front (y ∷ []) z h last) (ne_occurs y z (λ s. omega arith))
        | inr le ↦ let same : y ≡ z = omega arith in subst (λ (w : ℕ). occurs past w ≡ true) same
            old
      ]
    ]))
    (subst (λ (l : List ℕ). occurs l e ≡ true) (sym (append_assoc front (y ∷ []) ys)) there) out)
    (λ fresh. (
      y,
      record {
        event = steps.0.event;
        logged = steps.0.logged;
        new = fresh;
        behind = λ z goes. within z (steps.0.behind z goes);
      },
    ))

-- Where something is missing and nothing may follow, no run has these lines.
pub stuck_has_none : (chart : WiredChart) (instances : ℕ) (logs : List (List ℕ)) (past : List ℕ)
    → IsSeated chart instances
    → SomeMissing chart logs past → ((x : ℕ) → MayFollow chart logs past x → ⊥)
    → HasNoMerge chart instances logs
unfolding occurs
stuck_has_none chart instances logs past seated missing none events run lines =
    let s = schedule_of_run seated run lines in
    let next = next_of chart logs past [] events missing.0 s.0 (λ z h. clash h refl)
    (s.1 missing.0 missing.1 missing.2) missing.3 in
    none next.0 next.1

-- what has to come before an event of the logs is an event of the chart
pub first_below : (chart : WiredChart) (instances : ℕ) (logs : List (List ℕ))
    → IsSeated chart instances → AreLogs chart instances logs
    → (y x : ℕ) → x < length chart.events → goes_first chart logs y x ≡ true
    → y < length chart.events
first_below chart instances logs seated sound y x below goes =
    first_cases chart logs y x goes
    (λ h. (sound.lines.known (line chart.events x) y (seated.on_lines x below)
    (until-within (log_of chart logs x) x y h)).0)
    (λ o p. output_below chart.events y o)
    (λ o p same h. output_below chart.events y o)

-- whether an event may follow can be told
follow_told : (chart : WiredChart) (instances : ℕ) (logs : List (List ℕ)) → IsSeated chart instances
    → AreLogs chart instances logs
    → (past : List ℕ) (x : ℕ) → MayFollow chart logs past x ⊎ (MayFollow chart logs past x → ⊥)
follow_told chart instances logs seated sound past x =
    elim (cases_lt x (length chart.events)) [
      | inr ge ↦ inr (λ may. let h : x < length chart.events = may.event in omega arith)
      | inl below ↦ by_test (is_logged chart logs x)
          (λ logged. by_test (occurs past x)
          (λ old. inr (λ may. clash old may.new))
          (λ new. elim (find_below (λ y. goes_first chart logs y x && not (occurs past y))
          (length chart.events)) [
            | inl found ↦ let p = and_parts _ _ found.2 in inr
                (λ may. clash (may.behind found.0 p.0) (not-true _ p.1))
            | inr none ↦ inl (record {
              event = below;
              logged = logged;
              new = new;
              behind = λ y goes. by_test (occurs past y) (λ there. there)
                  (λ out. clash (and_from _ _ goes (not_from_false _ out))
                  (none y (first_below chart instances logs seated sound y x below goes)));
            })
          ]))
          (λ not_logged. inr (λ may. clash may.logged not_logged))
    ]

-- the least event below a bound that may follow, or that none may
least_below : (chart : WiredChart) (instances : ℕ) (logs : List (List ℕ)) → IsSeated chart instances
    → AreLogs chart instances logs
    → (past : List ℕ) (n : ℕ) → ((x : ℕ) × FollowsLeast chart logs past x)
    ⊎ ((x : ℕ) → x < n → MayFollow chart logs past x → ⊥)
least_below chart instances logs seated sound past zero = inr (λ x below h. omega arith)
least_below chart instances logs seated sound past (suc n) =
    elim (least_below chart instances logs seated sound past n) [
      | inl found ↦ inl found
      | inr none ↦ elim (follow_told chart instances logs seated sound past n) [
        | inl h ↦ inl (n, record { itself = h; none_below = none })
        | inr h ↦ inr (λ x below k. elim (cases_lt x n) [
          | inl lt ↦ none x lt k
          | inr ge ↦ let same : x ≡ n =
              omega arith in h (subst (λ (z : ℕ). MayFollow chart logs past z) same k)
        ])
      ]
    ]

-- one turn
gather_step : (chart : WiredChart) (instances : ℕ) (logs : List (List ℕ)) → IsSeated chart instances
    → AreLogs chart instances logs
    → (past : List ℕ) → Steps (FollowsLeast chart logs) [] past
    → (((events : List ℕ) × IsGathered chart instances logs events)
    ⊎ HasNoMerge chart instances logs) ⊎ ((x : ℕ) × FollowsLeast chart logs past x)
gather_step chart instances logs seated sound past steps =
    elim (find_below (is_left (is_logged chart logs) past) (length chart.events)) [
      | inr none ↦ inl (inl (
        past,
        least_gathers chart instances logs past seated sound steps
            (λ e below logged. by_test (occurs past e) (λ there. there)
            (λ out. clash (left_from (is_logged chart logs) past e logged out) (none e below))),
      ))
      | inl found ↦
          let p = left_parts (is_logged chart logs) past found.0 found.2 in
          elim (least_below chart instances logs seated sound past (length chart.events)) [
            | inl next ↦ inr next
            | inr none ↦ inl (inr
                (stuck_has_none chart instances logs past seated (found.0, found.1, p.0, p.1)
                (λ x may. none x may.event may)))
          ]
    ]

-- going on from a schedule's front, by fuel
gather_from : (chart : WiredChart) (instances : ℕ) (logs : List (List ℕ)) → IsSeated chart instances
    → AreLogs chart instances logs
    → (fuel : ℕ) (past : List ℕ) → count_below (is_left (is_logged chart logs) past)
    (length chart.events) < fuel → Steps (FollowsLeast chart logs) [] past
    → ((events : List ℕ) × IsGathered chart instances logs events) ⊎ HasNoMerge chart instances logs
gather_from chart instances logs seated sound zero past enough steps = absurd (omega arith)
gather_from chart instances logs seated sound (suc fuel) past enough steps =
    elim (gather_step chart instances logs seated sound past steps) [
      | inl done ↦ done
      | inr next ↦
          let may = next.1.itself in
          let less = left_less (is_logged chart logs) past (length chart.events) next.0 may.event
          may.logged may.new in
          gather_from chart instances logs seated sound fuel (past ++ next.0 ∷ []) (omega arith)
          (Steps-push (FollowsLeast chart logs) past next.0 steps next.1)
    ]

-- Logs of a chart have a gathered run, or no run has them as its lines.
pub gathered_or_none : (chart : WiredChart) (instances : ℕ) (logs : List (List ℕ))
    → IsSeated chart instances → AreLogs chart instances logs
    → ((events : List ℕ) × IsGathered chart instances logs events) ⊎ HasNoMerge chart instances logs
gathered_or_none chart instances logs seated sound =
    gather_from chart instances logs seated sound
    (suc (count_below (is_left (is_logged chart logs) []) (length chart.events))) [] (omega arith) tt

-- logs that aren't logs of the chart are no run's lines
pub no_logs_none : (chart : WiredChart) (instances : ℕ) (logs : List (List ℕ))
    → IsSeated chart instances → (AreLogs chart instances logs → ⊥)
    → HasNoMerge chart instances logs
no_logs_none chart instances logs seated bad events run lines = bad (logs_of_run seated run lines)

-- two lists of which neither comes after the other are one
same_of_not_after : (xs ys : List ℕ) → IsNotAfter xs ys → IsNotAfter ys xs → xs ≡ ys
same_of_not_after [] [] h k = refl
same_of_not_after [] (y ∷ ys) h k = absurd k
same_of_not_after (x ∷ xs) [] h k = absurd h
same_of_not_after (x ∷ xs) (y ∷ ys) h k =
    elim h [
      | inl lt ↦ elim k [
        | inl gt ↦ absurd (omega arith)
        | inr e ↦ let same : y ≡ x =
            e.0 in absurd (omega arith)
      ]
      | inr e ↦ elim k [
        | inl gt ↦ let same : x ≡ y = e.0 in absurd (omega arith)
        | inr d ↦ ap (λ z. z ∷ xs) e.0 ∙ ap (λ l. y ∷ l) (same_of_not_after xs ys e.1 d.1)
      ]
    ]

-- there is only one
pub gathered_unique : (chart : WiredChart) (instances : ℕ) (logs : List (List ℕ)) (xs ys : List ℕ)
    → IsGathered chart instances logs xs → IsGathered chart instances logs ys → xs ≡ ys
gathered_unique chart instances logs xs ys h k =
    same_of_not_after xs ys (h.least ys k.run k.lines) (k.least xs h.run h.lines)
