-- Which event may follow is told by the first event that is left in its log, and by one link.
use Rattle.std.proofs.Common.{◌≡◌, ℕ, zero, suc, ◌<◌, true, false, cond, ◌||◌, ◌⊎◌, ◌↔◌, inl, inr, eqb, List, [], ◌∷◌, ◌++◌, length, get_or, Option, Some, None, refl, sym, ap, subst, ◌∙◌, arith}
use Rattle.std.proofs.lemmas.Bool.{eqb-true, or_cases, or_left, or_right, cases_lt, false_from_ne_true}
use Rattle.msc_chart.specs.Orders.{WiredChart}
use Rattle.msc_chart.specs.Charts.{line}
use Rattle.msc_chart.specs.Lists.{Steps, occurs, until}
use Rattle.msc_chart.proofs.ListLemmas.{clash, step_at, until-within, occurs-left, occurs-push, occurs_at}
use Rattle.msc_gather.specs.Schedule.{log_of, AreLogs, goes_first, crosses, MayFollow}
use Rattle.msc_gather.specs.Heads.{IsLink, IsLinkBehind, IsLogFront}
use Rattle.msc_gather.proofs.Once.{IsNew, until-head, until_passes, until_deeper}

-- what crosses comes first
pub crosses_goes : (chart : WiredChart) (logs : List (List ℕ)) (x y : ℕ)
    → crosses chart logs x y ≡ true → goes_first chart logs x y ≡ true
unfolding goes_first
crosses_goes chart logs x y h = or_right _ _ h

-- what comes first stands earlier in the log, or crosses
pub goes_cases : (chart : WiredChart) (logs : List (List ℕ)) (x y : ℕ)
    → goes_first chart logs x y ≡ true → (occurs (until (log_of chart logs y) y) x ≡ true)
    ⊎ (crosses chart logs x y ≡ true)
unfolding goes_first
goes_cases chart logs x y h = or_cases _ _ h

-- what stands earlier in the log comes first
log_goes : (chart : WiredChart) (logs : List (List ℕ)) (x y : ℕ)
    → occurs (until (log_of chart logs y) y) x ≡ true → goes_first chart logs x y ≡ true
unfolding goes_first
log_goes chart logs x y h = or_left _ _ h

-- what crosses to an event has occurred where its link has
pub link_tells : (chart : WiredChart) (logs : List (List ℕ)) (past : List ℕ) (x : ℕ)
    (link : Option ℕ) → Steps (MayFollow chart logs) [] past → IsLink chart logs x link
    → IsLinkBehind past link → (z : ℕ) → crosses chart logs z x ≡ true → occurs past z ≡ true
link_tells chart logs past x None steps link done z h = absurd (link z h)
link_tells chart logs past x (Some y) steps link done z h =
    elim (link.1 z h) [
      | inl same ↦ subst (λ (w : ℕ). occurs past w ≡ true) (sym same) done
      | inr first ↦
          let at_y = step_at (MayFollow chart logs) past y steps done in
          until-within past y z (at_y.1.behind z (crosses_goes chart logs z y first))
    ]

-- and only there
pub link_done : (chart : WiredChart) (logs : List (List ℕ)) (past : List ℕ) (x : ℕ)
    (link : Option ℕ) → IsLink chart logs x link
    → ((z : ℕ) → crosses chart logs z x ≡ true → occurs past z ≡ true) → IsLinkBehind past link
link_done chart logs past x None link all = tt
link_done chart logs past x (Some y) link all = all y link.0

-- the place of an event in a list
place_in : (xs : List ℕ) (e : ℕ) → occurs xs e ≡ true
    → (k : ℕ) × (k < length xs) × (get_or xs k 0 ≡ e)
unfolding occurs
place_in [] e h = clash h refl
place_in (x ∷ xs) e h =
    elim (or_cases (eqb x e) (occurs xs e) h) [
      | inl same ↦ (zero, omega arith, eqb-true x e same)
      | inr later ↦ let found = place_in xs e
          later in (suc found.0, omega (arith, found.1), found.2)
    ]

-- what a list of new events has is new
fresh_at : (past xs : List ℕ) (k : ℕ) → Steps IsNew past xs → k < length xs
    → occurs past (get_or xs k 0) ≡ false
fresh_at past [] k once below = let f : ⊥ = omega arith in absurd f
fresh_at past (x ∷ xs) zero once below = once.0
fresh_at past (x ∷ xs) (suc k) once below =
    false_from_ne_true _
    (λ old. clash (occurs-left past (x ∷ []) (get_or xs k 0) old)
    (fresh_at (past ++ x ∷ []) xs k once.1 (omega arith)))

-- in a list that holds nothing twice, what stands before an element are those of smaller places
pub before_at : (past xs : List ℕ) (k j : ℕ) → Steps IsNew past xs → k < length xs → j < k
    → occurs (until xs (get_or xs k 0)) (get_or xs j 0) ≡ true
unfolding occurs until
before_at past [] k j once below less = let f : ⊥ = omega arith in absurd f
before_at past (x ∷ xs) zero j once below less = let f : ⊥ = omega arith in absurd f
before_at past (x ∷ xs) (suc k) zero once below less =
    until_passes x xs (get_or xs k 0) (λ same. clash (occurs-push past (get_or xs k 0))
    (subst (λ (w : ℕ). occurs (past ++ w ∷ []) (get_or xs k 0) ≡ false) same
    (fresh_at (past ++ x ∷ []) xs k once.1 (omega arith))))
before_at past (x ∷ xs) (suc k) (suc j) once below less =
    until_deeper x xs (get_or xs k 0) (get_or xs j 0)
    (λ same. clash (occurs-push past (get_or xs k 0))
    (subst (λ (w : ℕ). occurs (past ++ w ∷ []) (get_or xs k 0) ≡ false) same
    (fresh_at (past ++ x ∷ []) xs k once.1 (omega arith))))
    (before_at (past ++ x ∷ []) xs k j once.1 (omega arith) (omega arith))

-- what stands before another event is the head, or stands before it behind the head
until_inner : (z : ℕ) (zs : List ℕ) (x y : ℕ) → occurs (until (z ∷ zs) x) y ≡ true
    → (eqb z y || occurs (until zs x) y) ≡ true
unfolding occurs until
until_inner z zs x y h =
    (elim (eqb z x) as (λ b. occurs (cond b [] (z ∷ until zs x)) y ≡ true
    → (eqb z y || occurs (until zs x) y) ≡ true) [
      | true ↦ λ k. clash k refl
      | false ↦ λ k. k
    ]) h

-- and no other elements
place_before : (past xs : List ℕ) (k : ℕ) (y : ℕ) → Steps IsNew past xs → k < length xs
    → occurs (until xs (get_or xs k 0)) y ≡ true → (j : ℕ) × (j < k) × (get_or xs j 0 ≡ y)
unfolding occurs until
place_before past [] k y once below h = let f : ⊥ = omega arith in absurd f
place_before past (x ∷ xs) zero y once below h =
    clash (ap (λ l. occurs l y) (sym (until-head xs x)) ∙ h) refl
place_before past (x ∷ xs) (suc k) y once below h =
    elim (or_cases (eqb x y) (occurs (until xs (get_or xs k 0)) y)
    (until_inner x xs (get_or xs k 0) y h)) [
      | inl same ↦ (zero, omega arith, eqb-true x y same)
      | inr later ↦ let found = place_before (past ++ x ∷ []) xs k y once.1 (omega arith)
          later in (suc found.0, omega (arith, found.1), found.2)
    ]

module _ (chart : WiredChart) (instances : ℕ) (logs : List (List ℕ))
    (sound : AreLogs chart instances logs) (past : List ℕ)
    (steps : Steps (MayFollow chart logs) [] past) where
  -- an event that may follow is the first that is left in its log
  pub head_of_follower : (x k : ℕ) → line chart.events x < instances
      → IsLogFront past (log_of chart logs x) k → MayFollow chart logs past x
      → (k < length (log_of chart logs x)) × (get_or (log_of chart logs x) k 0 ≡ x)
  head_of_follower x k seat front may =
      let log : List ℕ = log_of chart logs x in
      let place = place_in log x may.logged in
      let p : ℕ = place.0 in
      let p_below : p < length log = place.1 in
      elim (cases_lt p k) [
        | inl early ↦ clash (subst (λ (w : ℕ). occurs past w ≡ true) place.2 (front.gone p early))
            may.new
        | inr late ↦ elim (cases_lt k p) [
          | inl less ↦
              let stands = before_at [] log p k (sound.lines.once (line chart.events x) seat)
              p_below less in
              let named : occurs (until log x) (get_or log k 0) ≡ true =
              subst (λ (w : ℕ). occurs (until log w) (get_or log k 0) ≡ true) place.2 stands in
              clash (may.behind (get_or log k 0) (log_goes chart logs (get_or log k 0) x named))
              (front.left k (omega arith) (omega arith))
          | inr ge ↦ let same : p ≡ k = omega
              arith in subst (λ (w : ℕ). (w < length log) × (get_or log w 0 ≡ x)) same
              (p_below, place.2)
        ]
      ]

  -- the first that is left in its log may follow exactly where its link has occurred
  pub head_follows : (i k : ℕ) (link : Option ℕ) → i < instances → IsLogFront past (get_or logs i []) k
      → k < length (get_or logs i [])
      → IsLink chart logs (get_or (get_or logs i []) k 0) link
      → IsLinkBehind past link ↔ MayFollow chart logs past (get_or (get_or logs i []) k 0)
  head_follows i k link seat front below is_link =
      let log : List ℕ = get_or logs i [] in
      let x : ℕ = get_or log k 0 in
      let there = occurs_at log k below in
      let known = sound.lines.known i x seat there in
      let log_same : log_of chart logs x ≡ log = ap (λ (j : ℕ). get_or logs j []) known.1 in (
        λ done. record {
          event = known.0;
          logged = ap (λ l. occurs l x) log_same ∙ there;
          new = front.left k (omega arith) below;
          behind = λ y goes. elim (goes_cases chart logs y x goes) [
            | inl earlier ↦
                let found = place_before [] log k y (sound.lines.once i seat) below
                (ap (λ l. occurs (until l x) y) (sym log_same) ∙ earlier) in
                subst (λ (w : ℕ). occurs past w ≡ true) found.2 (front.gone found.0 found.1)
            | inr crossing ↦ link_tells chart logs past x link steps is_link done y crossing
          ];
        },
        λ may. link_done chart logs past x link is_link
            (λ z h. may.behind z (crosses_goes chart logs z x h)),
      )
