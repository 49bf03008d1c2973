-- The courses of charts and runs: all events, those of each line by their levels.
use Rattle.std.proofs.Common.{◌≡◌, ℕ, suc, ◌+◌, ◌<◌, ◌≤◌, true, false, List, [], ◌∷◌, ◌++◌, length, get_or, take, drop, Option, eqb, inl, inr, refl, sym, ap, subst, ◌∙◌, arith}
use Rattle.std.specs.List.{range_with_len}
use Rattle.std.proofs.lemmas.Bool.{or_cases, eqb-true, false≢true}
use Rattle.std.proofs.lemmas.List.{length-take-le, take-append-drop}
use Rattle.std.proofs.lemmas.List.FromFn.{get_or-range_with_len, get_or-map-range_with_len, length-range_with_len}
use Rattle.std.proofs.lemmas.Grind.{get_or_default_zero}
use Rattle.msc_chart.specs.declared.event.ChartEvent.{ChartEvent}
use Rattle.msc_chart.specs.Charts.{line, segment, is_output, is_local, IsInTextOrder}
use Rattle.msc_chart.specs.Lists.{occurs, Steps}
use Rattle.msc_chart.specs.Orders.{WiredChart, queue}
use Rattle.msc_chart.specs.Runs.{Run, IsWhole, MayCome}
use Rattle.msc_chart.proofs.ListLemmas.{Steps-parts}
use Rattle.msc_picture.specs.Courses.{event_at, IsCourse, ShareLevel}
use Rattle.msc_picture.specs.Frames.{Frame, level, chart_frame}
use Rattle.msc_picture.specs.RunFrames.{place_of, run_frame}
use Rattle.msc_picture.proofs.Events.{output_quiet}
use Rattle.msc_chart.proofs.EndLemmas.{drop-at as drop_next}
use Rattle.msc_picture.proofs.RunWitness.{place_here}

-- a course of a frame, and of what the code holds of it
pub course_as : (f g : Frame) (xs ys : List ℕ) → f.events ≡ g.events → f.levels ≡ g.levels
    → f.after ≡ g.after → xs ≡ ys → IsCourse g ys → IsCourse f xs
course_as f g xs ys e l a same laid =
    subst (λ (o : List (Option ℕ)). IsCourse (record {
      events = f.events;
      levels = f.levels;
      after = o;
    }) xs) (sym a)
    (subst (λ (k : List ℕ). IsCourse (record {
      events = f.events;
      levels = k;
      after = g.after;
    }) xs) (sym l)
    (subst (λ (es : List ChartEvent). IsCourse (record {
      events = es;
      levels = g.levels;
      after = g.after;
    }) xs) (sym e) (subst (λ (k : List ℕ). IsCourse g k) (sym same) laid)))

-- of a chart they stand by their numbers
module _ (events : List ChartEvent) (ordered : IsInTextOrder events) where
  abbrev n : ℕ
  n = length events

  number_at : (p : ℕ) → p < length (range_with_len 0 n) → event_at (range_with_len 0 n) p ≡ p
  number_at p inside =
      let at = get_or-range_with_len 0 n p 0 (omega (arith, inside, length-range_with_len 0 n)) in
      omega (arith, at)

  level_at : (x : ℕ) → x < n → level (chart_frame events) x ≡ segment events x
  level_at x known = get_or-map-range_with_len (segment events) 0 n x x 0 known (omega arith)

  -- the levels of a line do not fall with the numbers
  rises : (p q : ℕ) → p ≤ q → q < n → line events p ≡ line events q
      → level (chart_frame events) p ≤ level (chart_frame events) q
  rises p q low high on =
      omega (arith, level_at p (omega (arith, low, high)), level_at q high, ordered.rising p q low high on)

  -- so between two events of one level there are others of it alone
  holds_together : (p q r : ℕ) → p ≤ q → q ≤ r → r < n → ShareLevel (chart_frame events) p r
      → ShareLevel (chart_frame events) p q
  holds_together p q r low high inside share =
      let up = ordered.lines p q low (omega (arith, high, inside)) in
      let on = ordered.lines q r high inside in
      let here : line events p ≡ line events q = omega (arith, up, on, share.line) in
      let there : line events q ≡ line events r = sym here ∙ share.line in
      let first = rises p q low (omega (arith, high, inside)) here in
      let second = rises q r high inside there in
      record { line = here; level = omega (arith, first, second, share.level) }

  pub chart_course : IsCourse (chart_frame events) (range_with_len 0 n)
  chart_course =
      let long = length-range_with_len 0 n in record {
        known = λ p inside. omega (arith, number_at p inside, inside, long);
        all = λ e known. (e, omega (arith, known, long), number_at e (omega (arith, known, long)));
        once = λ p q less inside same.
            omega (arith, less, same, number_at p (omega (arith, less, inside)), number_at q inside);
        rising = λ p q less inside.
            rw (number_at p (omega (arith, less, inside)), number_at q inside)
            (rises p q (omega (arith, less)) (omega (arith, inside, long)));
        together = λ p q r low high inside.
            rw (
              number_at p (omega (arith, low, high, inside)),
              number_at q (omega (arith, high, inside)),
              number_at r inside,
            )
            (holds_together p q r low high (omega (arith, inside, long)));
      }

-- what occurs has a place
pub place_where : (xs : List ℕ) (e : ℕ) → occurs xs e ≡ true
    → (p : ℕ) × (p < length xs) × (get_or xs p 0 ≡ e)
unfolding occurs
place_where [] e there = absurd (false≢true there)
place_where (x ∷ xs) e there = elim (or_cases (eqb x e) (occurs xs e) there) [
  | inl same ↦ (0, omega arith, eqb-true x e same)
  | inr later ↦ let on = place_where xs e later in (suc on.0, omega (arith, on.1), on.2)
]

-- an event of a run is new where it stands
module _ (chart : WiredChart) (run : List ℕ) (steps : Run chart run) where
  pub stands_new : (p x : ℕ) → p < length run → x ≡ get_or run p x
      → (run ≡ take p run ++ x ∷ drop (p + 1) run) × MayCome chart (take p run) x
  stands_new p x inside is =
      let cut : take p run ++ x ∷ drop (p + 1) run ≡ run =
      ap (λ (l : List ℕ). take p run ++ l) (sym (drop_next run p x inside is))
      ∙ take-append-drop p run in (
        sym cut,
        (Steps-parts (MayCome chart) [] (take p run) (x ∷ drop (p + 1) run)
            (subst (λ (l : List ℕ). Steps (MayCome chart) [] l) (sym cut) steps)).1.0,
      )

  -- it is an event of the chart, and was not there before
  pub event_there : (p : ℕ) → p < length run → event_at run p < length chart.events
  event_there p inside =
      (stands_new p (event_at run p) inside
      (sym (get_or_default_zero run p (event_at run p) inside))).1.event

  pub event_new : (p : ℕ) → p < length run → occurs (take p run) (event_at run p) ≡ false
  event_new p inside =
      (stands_new p (event_at run p) inside
      (sym (get_or_default_zero run p (event_at run p) inside))).1.new

  -- the queue of an output is one of so many
  pub queue_there : (p q count many : ℕ) → p < length run
      → is_output chart.events (event_at run p) ≡ true
      → ((e : ℕ) → e < length chart.events → is_local chart.events e ≡ false → queue chart e < count)
      → q ≡ queue chart (event_at run p) → count ≡ many → q < many
  queue_there p q count many inside out below is same =
      let on = below (event_at run p) (event_there p inside)
      (output_quiet chart.events (event_at run p) true (event_there p inside) (sym out) refl) in
      omega (arith, on, is, same)

  -- so its first place is that
  place_at : (p : ℕ) → p < length run → place_of run (event_at run p) ≡ p
  place_at p inside =
      let x = event_at run p in
      let at = stands_new p x inside (sym (get_or_default_zero run p (event_at run p) inside)) in
      ap (λ (l : List ℕ). place_of l x) at.0
      ∙ place_here (take p run) x (drop (p + 1) run) at.1.new
      ∙ length-take-le p run (omega (arith, inside))

  -- and its level
  level_there : (p : ℕ) → p < length run → event_at run p < length chart.events
      → level (run_frame chart run) (event_at run p) ≡ p
  level_there p inside known =
      get_or-map-range_with_len (place_of run) 0 (length chart.events) (event_at run p)
      (event_at run p) 0 known (omega arith)
      ∙ place_at p inside

  -- so they stand by the run
  pub run_course : IsWhole chart run → IsCourse (run_frame chart run) run
  run_course whole =
      record {
        known = event_there;
        all = λ e event. place_where run e (whole e event);
        once = λ p q less inside same.
            let place = ap (place_of run) same in
            omega (arith, less, place, place_at p (omega (arith, less, inside)), place_at q inside);
        rising = λ p q less inside on.
            omega (
              arith,
              less,
              level_there p (omega (arith, less, inside))
                  (event_there p (omega (arith, less, inside))),
              level_there q inside (event_there q inside),
            );
        together = λ p q r low high inside share.
            let at_p = level_there p (omega (arith, low, high, inside))
            (event_there p (omega (arith, low, high, inside))) in
            let at_r = level_there r inside (event_there r inside) in
            let one : p ≡ r = omega (arith, share.level, at_p, at_r) in
            let same : p ≡ q = omega (arith, one, low, high) in
            subst (λ (w : ℕ). ShareLevel (run_frame chart run) (event_at run p) (event_at run w))
            same (record { line = refl; level = refl });
      }
