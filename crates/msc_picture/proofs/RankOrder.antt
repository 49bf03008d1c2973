-- By ranks that do not fall along some order of all events, they are drawn in the order of ranks.
use Rattle.std.proofs.Common.{◌≡◌, ℕ, zero, suc, ◌<◌, ◌≤◌, true, false, List, [], ◌∷◌, ◌++◌, length, get_or, Option, None, Some, inl, inr, refl, sym, ap, subst, ◌∙◌, arith}
use Rattle.std.specs.List.Sorted.{IsNonDecreasingBy}
use Rattle.std.proofs.lemmas.Bool.{and_parts, eqb-true, false≢true, false_from_ne_true, or_cases}
use Rattle.std.proofs.lemmas.List.{get_or_default}
use Rattle.msc_chart.specs.declared.event.ChartEvent.{ChartEvent}
use Rattle.msc_chart.specs.Charts.{Follows, IsLinearOrder}
use Rattle.msc_chart.specs.Lists.{occurs, Steps}
use Rattle.msc_chart.proofs.ListLemmas.{by_test, clash, occurs-left, occurs-push, occurs-right, Steps-map}
use Rattle.msc_picture.specs.Frames.{Frame, MayFollow, IsDrawnNext, IsDrawingOrder, IsNoLater, answering, ranking, resting, levelling, sending, answers, is_sent_as, last_of, chart_frame, rank_of}
use Rattle.msc_picture.specs.Laws.{EndsShareRanks}
use Rattle.msc_picture.proofs.DrawnLemmas.{next_may}
use Rattle.msc_picture.proofs.Laying.{place_where}
use Rattle.msc_picture.proofs.Wholes.{drawn_to_it, follower_may, occurs_cases}

-- an event that answers is the input of the last one
answered : (f : Frame) (last : Option ℕ) (e : ℕ) → answers f last e ≡ true
    → (s : ℕ) × (last ≡ Some s) × (is_sent_as f s e ≡ true)
answered f None e h = absurd (false≢true h)
answered f (Some s) e h = (s, refl, h)

-- which is one of those that are drawn
last_there : (past : List ℕ) (s : ℕ) → last_of past ≡ Some s → occurs past s ≡ true
last_there [] s is = let f : ⊥ = cc in absurd f
last_there (x ∷ []) s is =
    let same : x ≡ s = cc in
    subst (λ (w : ℕ). occurs (x ∷ []) w ≡ true) same (occurs-push [] x)
last_there (x ∷ y ∷ ys) s is = occurs-right (x ∷ []) (y ∷ ys) s (last_there (y ∷ ys) s is)

module _ (f : Frame) (ranks : List ℕ) where
  -- of a list in which each event may follow those before it, and along which ranks do not fall,
  -- some event may follow what is drawn, and its rank is not above that of one that is left
  first_left : (past prior xs : List ℕ) (y : ℕ) → Steps (MayFollow f) prior xs
      → ((x : ℕ) → occurs prior x ≡ true → occurs past x ≡ true)
      → IsNonDecreasingBy (rank_of ranks) xs → occurs xs y ≡ true → occurs past y ≡ false
      → (x : ℕ) × MayFollow f past x × (rank_of ranks x ≤ rank_of ranks y)
  unfolding occurs
  first_left past prior [] y steps has ascend there left = absurd (false≢true there)
  first_left past prior (x ∷ xs) y steps has ascend there left = by_test (occurs past x)
      (λ old.
      first_left past (prior ++ x ∷ []) xs y steps.1 (drawn_to_it past prior x has old)
      (λ i j d low inside. ascend (suc i) (suc j) d (omega (arith, low)) (omega (arith, inside)))
      (elim (or_cases _ _ there) [
        | inl same ↦ clash (subst (λ (w : ℕ). occurs past w ≡ true) (eqb-true _ _ same) old) left
        | inr later ↦ later
      ]) left)
      (λ fresh.
      let at = place_where (x ∷ xs) y there in
      let up = ascend 0 at.0 0 (omega arith) at.1 in (
        x,
        record {
          event = steps.0.event;
          new = fresh;
          behind = λ z inside h. has z (steps.0.behind z inside h);
        },
        subst (λ (w : ℕ). rank_of ranks x ≤ rank_of ranks w) at.2 up,
      ))

  -- no event that is left has a smaller rank than one that is drawn
  IsBelowLeft : List ℕ → Type 0
  IsBelowLeft past =
      (x y : ℕ) → occurs past x ≡ true → y < length f.events → occurs past y ≡ false
      → rank_of ranks x ≤ rank_of ranks y

  -- what is drawn later is left
  left_later : (past xs : List ℕ) → Steps (IsDrawnNext f (Some ranks)) past xs → (k : ℕ)
      → k < length xs → (get_or xs k 0 < length f.events) × (occurs past (get_or xs k 0) ≡ false)
  left_later past [] steps k inside = absurd (omega (arith, inside))
  left_later past (x ∷ xs) steps zero inside =
      let may = next_may steps.0 in (may.event, may.new)
  left_later past (x ∷ xs) steps (suc k) inside =
      let on = left_later (past ++ x ∷ []) xs steps.1 k (omega (arith, inside)) in (
        on.0,
        false_from_ne_true _ (λ there. clash (occurs-left past (x ∷ []) _ there) on.1),
      )

  module _ (text : List ℕ) (steps : Steps (MayFollow f) [] text)
      (all : (e : ℕ) → e < length f.events → occurs text e ≡ true)
      (ascend : IsNonDecreasingBy (rank_of ranks) text) (ends : EndsShareRanks f.events ranks) where
    -- no event that is left has a smaller rank than the next one
    next_least : (past : List ℕ) (e : ℕ) → IsBelowLeft past → IsDrawnNext f (Some ranks) past e
        → (y : ℕ) → y < length f.events → occurs past y ≡ false
        → rank_of ranks e ≤ rank_of ranks y
    unfolding IsBelowLeft occurs
    next_least past e below (answering h) y known left =
        let sent = answered f (last_of past) e h.itself.1 in
        let parts = and_parts _ _ sent.2 in
        let same : rank_of ranks e ≡ rank_of ranks sent.0 =
        ap (rank_of ranks) (sym (eqb-true _ _ parts.1)) ∙ ends sent.0 parts.0 in
        omega (arith, same, below sent.0 y (last_there past sent.0 sent.1) known left)
    next_least past e below (ranking given is none h) y known left =
        let same : given ≡ ranks = cc in
        let first = first_left past [] text y steps (λ x no. absurd (false≢true no)) ascend
        (all y known) left in
        let early : IsNoLater ranks e first.0 =
        subst (λ (l : List ℕ). IsNoLater l e first.0) same (h.earliest first.0 first.1) in
        elim early [
          | inl less ↦ omega (arith, less, first.2)
          | inr level ↦ omega (arith, level.0, first.2)
        ]
    next_least past e below (resting none p h) y known left = let f : ⊥ = cc in absurd f
    next_least past e below (levelling none p q h) y known left = let f : ⊥ = cc in absurd f
    next_least past e below (sending none p q r h) y known left = let f : ⊥ = cc in absurd f

    -- nor than one of those with it
    below_next : (past : List ℕ) (e : ℕ) → IsBelowLeft past → IsDrawnNext f (Some ranks) past e
        → IsBelowLeft (past ++ e ∷ [])
    unfolding IsBelowLeft occurs
    below_next past e below next x y there known left =
        let old : occurs past y ≡ false =
        false_from_ne_true _ (λ h. clash (occurs-left past (e ∷ []) y h) left) in
        elim (occurs_cases past (e ∷ []) x there) [
          | inl before ↦ below x y before known old
          | inr here ↦ elim (or_cases _ _ here) [
            | inl same ↦ subst (λ (w : ℕ). rank_of ranks w ≤ rank_of ranks y) (eqb-true _ _ same)
                (next_least past e below next y known old)
            | inr none ↦ absurd (false≢true none)
          ]
        ]

    -- so ranks do not fall
    ranks_rise : (past xs : List ℕ) → IsBelowLeft past → Steps (IsDrawnNext f (Some ranks)) past xs
        → IsNonDecreasingBy (rank_of ranks) xs
    unfolding IsBelowLeft
    ranks_rise past [] below drawn i j d low inside = absurd (omega (arith, inside))
    ranks_rise past (x ∷ xs) below drawn zero zero d low inside = omega arith
    ranks_rise past (x ∷ xs) below drawn zero (suc j) d low inside =
        let on = left_later (past ++ x ∷ []) xs drawn.1 j (omega (arith, inside)) in
        subst (λ (w : ℕ). rank_of ranks x ≤ rank_of ranks w)
        (get_or_default xs j 0 d (omega (arith, inside)))
        (below_next past x below drawn.0 x (get_or xs j 0) (occurs-push past x) on.0 on.1)
    ranks_rise past (x ∷ xs) below drawn (suc i) zero d low inside = absurd (omega (arith, low))
    ranks_rise past (x ∷ xs) below drawn (suc i) (suc j) d low inside =
        ranks_rise (past ++ x ∷ []) xs (below_next past x below drawn.0) drawn.1 i j d
        (omega (arith, low)) (omega (arith, inside))

    pub ranks_from_nothing : (xs : List ℕ) → Steps (IsDrawnNext f (Some ranks)) [] xs
        → IsNonDecreasingBy (rank_of ranks) xs
    unfolding IsBelowLeft occurs
    ranks_from_nothing xs drawn =
        ranks_rise [] xs (λ x y none known left. absurd (false≢true none)) drawn

-- of a chart: ranks that do not fall along an order which keeps the visual order do not fall along
-- that in which it is drawn
pub ranks_kept : (events : List ChartEvent) (ranks text order : List ℕ) → IsLinearOrder events text
    → IsNonDecreasingBy (rank_of ranks) text → EndsShareRanks events ranks
    → IsDrawingOrder (chart_frame events) (Some ranks) order
    → IsNonDecreasingBy (rank_of ranks) order
ranks_kept events ranks text order linear ascend ends drawn =
    ranks_from_nothing (chart_frame events) ranks text
    (Steps-map (Follows events) (MayFollow (chart_frame events)) (follower_may events) [] text
    linear.steps) linear.whole ascend ends order drawn.steps
