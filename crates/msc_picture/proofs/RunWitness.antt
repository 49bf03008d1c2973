-- A run keeps what its picture keeps, so its picture has all events.
use Rattle.std.proofs.Common.{◌≡◌, ℕ, suc, ◌+◌, ◌<◌, true, false, cond, ◌||◌, List, [], ◌∷◌, ◌++◌, length, get_or, Option, None, Some, All, eqb, nat_eq, nat_lt, inl, inr, sym, ap, subst, ◌∙◌, refl, append_assoc, arith}
use Rattle.std.proofs.lemmas.Bool.{and_parts, or_left, or_right, or_cases, eqb-true, eq-eqb, ltb-true}
use Rattle.std.proofs.lemmas.List.Elements.{All-cons, All-nil}
use Rattle.std.proofs.lemmas.List.FromFn.{get_or-map-range_with_len}
use Rattle.msc_chart.specs.Charts.{line, partner, is_output, is_input, IsMatched}
use Rattle.msc_chart.specs.Lists.{Steps, occurs}
use Rattle.msc_chart.specs.Orders.{WiredChart, queue}
use Rattle.msc_chart.specs.Runs.{Run, IsWhole, MayCome, is_waiting}
use Rattle.msc_chart.proofs.ListLemmas.{by_test, clash, first_occurs}
use Rattle.msc_picture.specs.Frames.{Frame, level, is_sent_as, is_above, is_queued_before, MayFollow, IsDrawingOrder, IsDrawnNext}
use Rattle.msc_picture.specs.RunFrames.{place_of, are_queued, queued_from, queued_before, run_frame}
use Rattle.msc_picture.proofs.Events.{some_is}
use Rattle.msc_picture.proofs.Wholes.{whole_by}

-- a new event stands behind these
pub place_here : (past : List ℕ) (e : ℕ) (rest : List ℕ) → occurs past e ≡ false
    → place_of (past ++ e ∷ rest) e ≡ length past
unfolding occurs
place_here [] e rest new = rw (eq-eqb e e refl) refl
place_here (x ∷ xs) e rest new = by_test (eqb x e)
    (λ same. clash (or_left (eqb x e) (occurs xs e) same) new)
    (λ off. let later : occurs xs e ≡ false = rw off at new in
    rw off (omega (arith, place_here xs e rest later)))

-- what has a place among these is one of them
place_among : (past : List ℕ) (x : ℕ) (rest : List ℕ) → place_of (past ++ rest) x < length past
    → occurs past x ≡ true
unfolding occurs
place_among [] x rest h = absurd (omega arith)
place_among (y ∷ ys) x rest h = by_test (eqb y x)
    (λ same. or_left (eqb y x) (occurs ys x) same)
    (λ off. let less : place_of (ys ++ rest) x + 1 < suc (length ys) = rw off at h in
    or_right (eqb y x) (occurs ys x) (place_among ys x rest (omega arith)))

-- the output before e is one of these
queued_among : (chart : WiredChart) (past : List ℕ) (e : ℕ) (rest : List ℕ) (last : Option ℕ) (x : ℕ)
    → occurs past e ≡ false → queued_from chart last (past ++ e ∷ rest) e ≡ Some x
    → (last ≡ Some x → ⊥) → occurs past x ≡ true
unfolding occurs
queued_among chart [] e rest last x new is other =
    absurd (other (rw (eq-eqb e e refl) at is))
queued_among chart (y ∷ ys) e rest last x new is other = by_test (eqb y e)
    (λ same. clash (or_left (eqb y e) (occurs ys e) same) new)
    (λ off.
    let later : occurs ys e ≡ false = rw off at new in
    let on : queued_from chart (cond (are_queued chart y e) (Some y) last) (ys ++ e ∷ rest) e
    ≡ Some x = rw off at is in
    by_test (are_queued chart y e)
    (λ yes. by_test (eqb y x) (λ same. or_left (eqb y x) (occurs ys x) same)
    (λ apart. or_right (eqb y x) (occurs ys x)
    (queued_among chart ys e rest (Some y) x later (rw yes at on)
    (λ same. let equal : y ≡ x = cc in clash (eq-eqb y x equal) apart))))
    (λ no. or_right (eqb y x) (occurs ys x)
    (queued_among chart ys e rest last x later (rw no at on) other)))

-- an event of a run may follow those before it in the picture of the run
run_may : (chart : WiredChart) → IsMatched chart.events → (past : List ℕ) (e : ℕ) (rest : List ℕ)
    → MayCome chart past e → MayFollow (run_frame chart (past ++ e ∷ rest)) past e
run_may chart matched past e rest may = record {
  event = may.event;
  new = may.new;
  behind = λ x inside first.
      let run = past ++ e ∷ rest in
      let f = run_frame chart run in
      elim (or_cases (is_sent_as f x e) (is_above f x e || is_queued_before f x e) first) [
        | inl sent ↦
            let parts = and_parts _ _ sent in
            let to : partner chart.events x ≡ e = eqb-true _ _ parts.1 in
            let own : partner chart.events e ≡ x =
            ap (λ (w : ℕ). partner chart.events w) (sym to) ∙ matched.to_and_fro x inside in
            let taken : is_input chart.events e ≡ true =
            sym (matched.other_kind e may.event)
            ∙ ap (λ (w : ℕ). is_output chart.events w) own ∙ parts.0 in
            let waiting = first_occurs (is_waiting chart (queue chart e) past) past
            (partner chart.events e) (may.input taken) in
            subst (λ (w : ℕ). occurs past w ≡ true) own waiting.0
        | inr kept ↦ elim (or_cases (is_above f x e) (is_queued_before f x e) kept) [
          | inl above ↦
              let parts = and_parts (nat_eq (line f.events x) (line f.events e))
              (nat_lt (level f x) (level f e)) above in
              let less = ltb-true (level f x) (level f e) parts.1 in
              let at_x : level (run_frame chart run) x ≡ place_of run x =
              get_or-map-range_with_len (place_of run) 0 (length chart.events) x x 0 inside
              (omega arith) in
              let at_e : level (run_frame chart run) e ≡ place_of run e =
              get_or-map-range_with_len (place_of run) 0 (length chart.events) e e 0 may.event
              (omega arith) in
              let here = place_here past e rest may.new in
              place_among past x (e ∷ rest) (omega (arith, less, at_x, at_e, here))
          | inr queued ↦
              let at_e : get_or (run_frame chart run).after e None ≡ queued_before chart run e =
              get_or-map-range_with_len (queued_before chart run) 0 (length chart.events) e e None
              may.event (omega arith) in
              queued_among chart past e rest None x may.new
              (sym at_e ∙ some_is (get_or f.after e None) x queued) (λ none. cc)
        ]
      ];
}

-- so the run is a list in which each event may follow those before it
run_follows : (chart : WiredChart) → IsMatched chart.events → (run past xs : List ℕ)
    → past ++ xs ≡ run → Steps (MayCome chart) past xs
    → Steps (MayFollow (run_frame chart run)) past xs
run_follows chart matched run past [] same steps = tt
run_follows chart matched run past (e ∷ es) same steps = (
  subst (λ (r : List ℕ). MayFollow (run_frame chart r) past e) same
      (run_may chart matched past e es steps.0),
  run_follows chart matched run (past ++ e ∷ []) es
      (append_assoc past (e ∷ []) es ∙ same) steps.1,
)

-- and its picture has all events
pub run_drawn : (chart : WiredChart) (f : Frame) (ranks : Option (List ℕ)) (run past : List ℕ) → IsMatched chart.events
    → f ≡ run_frame chart run → Run chart run → IsWhole chart run
    → Steps (IsDrawnNext f ranks) [] past → ((e : ℕ) → MayFollow f past e → ⊥)
    → IsDrawingOrder (run_frame chart run) ranks past
run_drawn chart f ranks run past matched is steps whole drawn none = record {
  steps = subst (λ (g : Frame). Steps (IsDrawnNext g ranks) [] past) is drawn;
  whole = λ e below.
      whole_by (run_frame chart run) past run
      (run_follows chart matched run [] run refl steps)
      (subst (λ (g : Frame). (e : ℕ) → MayFollow g past e → ⊥) is none) e (whole e below);
}

-- the events of a run are those of the chart
pub run_known : (chart : WiredChart) (past xs : List ℕ) → Steps (MayCome chart) past xs
    → All (λ e. e < length chart.events) xs
run_known chart past [] steps = All-nil (λ e. e < length chart.events)
run_known chart past (e ∷ es) steps =
    All-cons (λ x. x < length chart.events) e es steps.0.event
    (run_known chart (past ++ e ∷ []) es steps.1)
