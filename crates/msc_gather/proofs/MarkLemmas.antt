-- The marks of logged events, and what they tell of logs.
use Rattle.std.proofs.Common.{◌≡◌, ℕ, zero, suc, ◌+◌, ◌<◌, Bool, true, false, ◌||◌, inl, inr, List, [], ◌∷◌, ◌++◌, length, get_or, take, set, refl, sym, ap, subst, ◌∙◌, arith}
use Rattle.std.proofs.Math.Bool.{or-false}
use Rattle.std.proofs.lemmas.Bool.{cases_lt, cases_eq, false_from_ne_true}
use Rattle.std.proofs.lemmas.List.{take_more, length-set, get_or-set_same, get_or-set_other}
use Rattle.msc_chart.specs.Charts.{line, partner, is_controlled, before, IsInTextOrder}
use Rattle.msc_chart.specs.Lists.{Steps, occurs, until, IsOnce}
use Rattle.msc_chart.specs.Orders.{WiredChart}
use Rattle.msc_chart.proofs.ListLemmas.{clash, occurs-push, occurs_other, step_at, Steps-map, Steps-push, Steps-parts, until-self}
use Rattle.msc_chart.proofs.Drawn.{before_from, before_parts}
use Rattle.msc_gather.specs.Schedule.{log_of, AreLogs, IsSeated}
use Rattle.msc_gather.specs.Marks.{MayComeOnLine, IsLineLog, AreLineLogs, is_marked, MayBeMarked, IsFirstOpen, AreMarkedBeside, IsLineFrom, IsUnmarked, AreMarkedTo, AreMarks, HasOutput}
use Rattle.msc_gather.proofs.Once.{IsNew, steps_from}

-- where the first event of a line that is not marked is not drawn before e, all that is drawn before e
-- is marked: along a line segments do not fall
pub drawn_marked : (chart : WiredChart) (i : ℕ) {start front : ℕ} {marks : List Bool} (e : ℕ)
    → IsInTextOrder chart.events → IsLineFrom chart i start → IsFirstOpen marks start front
    → line chart.events e ≡ i → before chart.events front e ≡ false
    → (x : ℕ) → before chart.events x e ≡ true → is_marked marks x ≡ true
drawn_marked chart i {start} {front} {marks} e ordered range first here last x h =
    let p = before_parts chart.events x e h in
    let x_here : line chart.events x ≡ i = p.2 ∙ here in
    let x_in = (range.1 x p.0).0 x_here in
    elim (cases_lt x front) [
      | inl early ↦ first.gone x x_in.0 early
      | inr late ↦
          let front_below : front < length chart.events = omega (arith, late, p.0) in
          let front_here : line chart.events front ≡ i =
          (range.1 front front_below).1 (first.later, omega (arith, late, x_in.1)) in
          let rises = ordered.rising front x late p.0 (front_here ∙ sym x_here) in
          let drawn = before_from chart.events front e front_below p.1 (front_here ∙ sym here)
          (omega (arith, rises, p.3)) in
          clash drawn last
    ]

-- and where it is drawn before e, e may not be marked
pub not_last : {chart : WiredChart} {i start front e : ℕ} {marks : List Bool}
    → IsFirstOpen marks start front → front < length marks → MayBeMarked chart i marks e
    → is_controlled chart.events e ≡ true → before chart.events front e ≡ false
not_last {chart} {i} {start} {front} {e} first inside may controlled =
    false_from_ne_true _ (λ b. clash (may.drawn controlled front b) (first.clear inside))

-- Line i with marks now, after k events of its log.
pub record IsMarking (chart : WiredChart) (i start : ℕ) (log : List ℕ) (old now : List Bool)
    (k open_at : ℕ) : Type 0 where
  pub steps : IsLineLog chart i (take k log)
  pub marked : AreMarkedBeside old now (take k log)
  pub front : IsFirstOpen now start open_at

-- before any event the marks are what they were
pub marking_begins : (chart : WiredChart) (i start : ℕ) (log : List ℕ) (old : List Bool) (front : ℕ)
    → IsFirstOpen old start front → IsMarking chart i start log old old 0 front
unfolding occurs
marking_begins chart i start log old front first = record {
  steps = tt;
  marked = record { long = refl; told = λ e below. sym (or-false (is_marked old e)) };
  front = first;
}

-- the list is its first events, the next one, and a rest
pub split_at : (xs : List ℕ) (k : ℕ) → k < length xs
    → (rest : List ℕ) × (xs ≡ take k xs ++ get_or xs k 0 ∷ rest)
split_at [] k below = absurd (omega arith)
split_at (x ∷ xs) zero below = (xs, refl)
split_at (x ∷ xs) (suc k) below = let p = split_at xs k (omega arith) in (p.0, ap (λ l. x ∷ l) p.1)

-- on a line of which nothing was marked before, the marks are the events of its log
module _ {chart : WiredChart} {i start : ℕ} {log : List ℕ} {old now : List Bool} {k front : ℕ}
    (open_line : IsUnmarked chart i old) (long : length old ≡ length chart.events)
    (m : IsMarking chart i start log old now k front) where
  -- a mark on the line tells of the log
  marked_is : (e : ℕ) → e < length chart.events → line chart.events e ≡ i
      → is_marked now e ≡ occurs (take k log) e
  marked_is e below here =
      m.marked.told e (omega (arith, long, below))
      ∙ ap (λ b. b || occurs (take k log) e) (open_line e below here)

  -- so what may be marked may be logged
  pub may_log : (e : ℕ) → MayBeMarked chart i now e → MayComeOnLine chart i (take k log) e
  may_log e may = record {
    event = may.event;
    on_line = may.on_line;
    new = sym (marked_is e may.event may.on_line) ∙ may.new;
    drawn = λ controlled x b.
        let p = before_parts chart.events x e b in
        sym (marked_is x p.0 (p.2 ∙ may.on_line)) ∙ may.drawn controlled x b;
  }

  -- and the other way round
  pub may_mark : (e : ℕ) → MayComeOnLine chart i (take k log) e → MayBeMarked chart i now e
  may_mark e may = record {
    event = may.event;
    on_line = may.on_line;
    new = marked_is e may.event may.on_line ∙ may.new;
    drawn = λ controlled x b.
        let p = before_parts chart.events x e b in
        marked_is x p.0 (p.2 ∙ may.on_line) ∙ may.drawn controlled x b;
  }

  -- a log is none of its line where the next event may not be marked
  pub marking_fails : k < length log → (MayBeMarked chart i now (get_or log k 0) → ⊥)
      → IsLineLog chart i log → ⊥
  marking_fails below never steps =
      let split = split_at log k below in
      let both = Steps-parts (MayComeOnLine chart i) [] (take k log) (get_or log k 0 ∷ split.0)
      (subst (λ (l : List ℕ). Steps (MayComeOnLine chart i) [] l) split.1 steps) in
      never (may_mark (get_or log k 0) both.1.0)

  -- the next event is marked
  marked_next : k < length log → MayBeMarked chart i now (get_or log k 0)
      → AreMarkedBeside old (set now (get_or log k 0) true) (take (k + 1) log)
  marked_next below may =
      let e : ℕ = get_or log k 0 in
      let more = take_more log k 0 below in
      record {
        long = length-set now e true ∙ m.marked.long;
        told = λ x inside. elim (cases_eq x e) [
          | inl same ↦
              let e_in : e < length now = omega (arith, may.event, long, m.marked.long) in
              ap (λ (w : ℕ). get_or (set now e true) w false) same
              ∙ get_or-set_same now e true false e_in
              ∙ sym (ap (λ b. is_marked old x || b) (ap (λ l. occurs l x) more
              ∙ ap (λ w. occurs (take k log ++ e ∷ []) w) same ∙ occurs-push (take k log) e)
              ∙ or_true (is_marked old x))
          | inr other ↦
              get_or-set_other now e x true false other ∙ m.marked.told x inside
              ∙ sym (ap (λ b. is_marked old x || b) (ap (λ l. occurs l x) more
              ∙ occurs_other (take k log) e x other))
        ];
      }
    where
      -- what is marked now is marked, whatever it was before
      or_true : (b : Bool) → (b || true) ≡ true
      or_true true = refl
      or_true false = refl

  -- one more event is marked
  pub marking_more : (next : ℕ) → k < length log → MayBeMarked chart i now (get_or log k 0)
      → IsFirstOpen (set now (get_or log k 0) true) front next
      → IsMarking chart i start log old (set now (get_or log k 0) true) (k + 1) next
  marking_more next below may first =
      let e : ℕ = get_or log k 0 in
      record {
        steps = subst (λ (l : List ℕ). Steps (MayComeOnLine chart i) [] l)
            (sym (take_more log k 0 below))
            (Steps-push (MayComeOnLine chart i) (take k log) e m.steps (may_log e may));
        marked = marked_next below may;
        front = record {
          later = omega (arith, m.front.later, first.later);
          within = first.within;
          gone = λ x late early. elim (cases_lt x front) [
            | inr ge ↦ first.gone x ge early
            | inl lt ↦ elim (cases_eq x e) [
              | inl same ↦
                  let e_in : e < length now = omega (arith, may.event, long, m.marked.long) in
                  ap (λ (w : ℕ). get_or (set now e true) w false) same
                  ∙ get_or-set_same now e true false e_in
              | inr other ↦ get_or-set_other now e x true false other ∙ m.front.gone x late lt
            ]
          ];
          clear = first.clear;
        };
      }

-- what is in a log of a line is on the line
line_log_known : (chart : WiredChart) (i : ℕ) (log : List ℕ) (e : ℕ) → IsLineLog chart i log
    → occurs log e ≡ true → line chart.events e ≡ i
line_log_known chart i log e steps there =
    (step_at (MayComeOnLine chart i) log e steps there).1.on_line

-- and then the next log
pub marks_more : {chart : WiredChart} {logs : List (List ℕ)} {n : ℕ} {old new : List Bool}
    → AreMarkedTo chart logs n old → IsLineLog chart n (get_or logs n [])
    → AreMarkedBeside old new (get_or logs n []) → AreMarkedTo chart logs (n + 1) new
marks_more {chart} {logs} {n} {old} {new} m steps beside =
    let away : (e : ℕ) → (line chart.events e ≡ n → ⊥) → occurs (get_or logs n []) e ≡ false =
    λ e other.
    false_from_ne_true _
    (λ there. other (line_log_known chart n (get_or logs n []) e steps there)) in
    record {
      long = beside.long ∙ m.long;
      done = λ e below early.
          let told = beside.told e (omega (arith, below, m.long)) in
          elim (cases_eq (line chart.events e) n) [
            | inl here ↦
                told ∙ ap (λ b. b || occurs (get_or logs n []) e)
                (m.later n (omega arith) e below here)
                ∙ ap (λ (i : ℕ). occurs (get_or logs i []) e) (sym here)
            | inr other ↦
                told ∙ ap (λ b. is_marked old e || b) (away e other) ∙ or-false (is_marked old e)
                ∙ m.done e below (omega (arith, early, other))
          ];
      later = λ i late e below here.
          let told = beside.told e (omega (arith, below, m.long)) in
          let other : line chart.events e ≡ n → ⊥ = λ same. omega (arith, late, here, same) in
          told ∙ ap (λ b. is_marked old e || b) (away e other) ∙ or-false (is_marked old e)
          ∙ m.later i (omega (arith, late)) e below here;
    }

-- logs of the lines, of which each input has its output, are logs of the chart
pub logs_from : {chart : WiredChart} {n : ℕ} {logs : List (List ℕ)} {marks : List Bool}
    → length logs ≡ n → IsSeated chart n → AreLineLogs chart n logs → AreMarks chart logs marks
    → ((r : ℕ) → r < length chart.events → HasOutput chart marks r) → AreLogs chart n logs
logs_from {chart} {n} {logs} {marks} many seated lines m outputs =
    let at : (i e : ℕ) → i < n → occurs (get_or logs i []) e ≡ true
    → MayComeOnLine chart i (until (get_or logs i []) e) e = λ i e below there.
    (step_at (MayComeOnLine chart i) (get_or logs i []) e (lines i below) there).1 in
    record {
      lines = record {
        as_many = many;
        known = λ i e below there. let may = at i e below there in (may.event, may.on_line);
        once = λ i below. Steps-map (MayComeOnLine chart i) IsNew (λ past x may. may.new) []
            (get_or logs i []) (lines i below);
        drawn = λ s x below logged controlled b.
            (at (line chart.events s) s (seated.on_lines s below) logged).drawn controlled x b;
      };
      sent = λ r below logged i.
          sym (m.told (partner chart.events r) (seated.is_wired.matched.in_range r below))
          ∙ outputs r below (m.told r below ∙ logged) i;
    }

-- logs of the chart are logs of its lines
pub line_logs_of : {chart : WiredChart} {n : ℕ} {logs : List (List ℕ)} → AreLogs chart n logs
    → AreLineLogs chart n logs
line_logs_of {chart} {n} {logs} sound i below =
    let log : List ℕ = get_or logs i [] in
    steps_from (MayComeOnLine chart i) [] log (sound.lines.once i below) (λ e there.
    let known = sound.lines.known i e below there in
    let same : log_of chart logs e ≡ log = ap (λ (j : ℕ). get_or logs j []) known.1 in
    record {
      event = known.0;
      on_line = known.1;
      new = until-self log e;
      drawn = λ controlled x b.
          ap (λ l. occurs (until l e) x) (sym same)
          ∙ sound.lines.drawn e x known.0 (ap (λ l. occurs l e) same ∙ there) controlled b;
    })

-- what stands at a place of a list that holds nothing twice is not among what stands before
pub once_at : (xs : List ℕ) (k : ℕ) → IsOnce xs → k < length xs
    → occurs (take k xs) (get_or xs k 0) ≡ false
once_at xs k once below =
    let split = split_at xs k below in
    (Steps-parts IsNew [] (take k xs) (get_or xs k 0 ∷ split.0)
    (subst (λ (l : List ℕ). Steps IsNew [] l) split.1 once)).1.0
