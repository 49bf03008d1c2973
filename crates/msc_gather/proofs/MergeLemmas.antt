-- One more event of the least run.
use Rattle.std.proofs.Common.{◌≡◌, ℕ, ◌+◌, ◌<◌, Bool, true, false, inl, inr, List, [], ◌∷◌, ◌++◌, length, get_or, set, replicate, sym, ap, subst, ◌∙◌, arith}
use Rattle.std.proofs.lemmas.Bool.{cases_lt, cases_eq, false_from_ne_true}
use Rattle.std.proofs.lemmas.List.{length-replicate, get_or-replicate, length-set, get_or-set_same, get_or-set_other}
use Rattle.msc_chart.specs.Charts.{line}
use Rattle.msc_chart.specs.Lists.{Steps, occurs, until, IsOnce}
use Rattle.msc_chart.specs.Orders.{WiredChart}
use Rattle.msc_chart.proofs.ListLemmas.{by_test, clash, occurs-left, occurs-push, Steps-push, occurs_at, until-self}
use Rattle.msc_chart.proofs.Numbers.{count_below}
use Rattle.msc_gather.specs.Schedule.{log_of, is_logged, AreLogs, IsSeated, FollowsLeast}
use Rattle.msc_gather.specs.Heads.{IsLogFront}
use Rattle.msc_gather.specs.Merges.{IsMerging}
use Rattle.msc_chart.proofs.Left.{is_left, left_less}
use Rattle.msc_gather.proofs.Once.{occurs-cases}
use Rattle.msc_gather.proofs.HeadLemmas.{head_of_follower, before_at}
use Rattle.msc_gather.proofs.TakenLemmas.{single}
use Rattle.msc_gather.proofs.ReadyLemmas.{schedule_steps}

-- before any event nothing is done
pub merge_begins : (chart : WiredChart) (logs : List (List ℕ)) (past heads : List ℕ)
    (done : List Bool) (n : ℕ) → length logs ≡ n → past ≡ [] → heads ≡ replicate n 0
    → done ≡ replicate (length chart.events) false → IsMerging chart logs past heads done
unfolding occurs
merge_begins chart logs past heads done n many p h d = record {
  steps = subst (λ (l : List ℕ). Steps (FollowsLeast chart logs) [] l) (sym p) tt;
  many = ap (λ (l : List ℕ). length l) h ∙ length-replicate n 0 ∙ sym many;
  fronts = λ i below.
      let at_i : get_or heads i 0 ≡ 0 = ap (λ (l : List ℕ). get_or l i 0) h
      ∙ get_or-replicate n i 0 0 (omega arith) in
      record {
        within = omega arith;
        gone = λ j less. let f : ⊥ = omega arith in absurd f;
        left = λ j late inside. ap (λ (l : List ℕ). occurs l (get_or (get_or logs i []) j 0)) p;
      };
  long = ap (λ (l : List Bool). length l) d ∙ length-replicate (length chart.events) false;
  told = λ e below. ap (λ (l : List Bool). get_or l e false) d
      ∙ get_or-replicate (length chart.events) e false false below
      ∙ ap (λ (l : List ℕ). occurs l e) (sym p);
}

-- the front of the log of an event that follows grows
front_more : (past log : List ℕ) (k x : ℕ) → IsLogFront past log k → IsOnce log → k < length log
    → get_or log k 0 ≡ x → IsLogFront (past ++ x ∷ []) log (k + 1)
front_more past log k x front once below here = record {
  within = omega arith;
  gone = λ j less. elim (cases_lt j k) [
    | inl old ↦ occurs-left past (x ∷ []) (get_or log j 0) (front.gone j old)
    | inr ge ↦
        let same : k ≡ j = omega arith in
        let is_x : x ≡ get_or log j 0 = sym here ∙ ap (λ (i : ℕ). get_or log i 0) same in
        subst (λ (w : ℕ). occurs (past ++ x ∷ []) w ≡ true) is_x (occurs-push past x)
  ];
  left = λ j late inside. false_from_ne_true _ (λ there.
      let is_x : x ≡ get_or log j 0 = single x (get_or log j 0)
      (occurs-cases past (x ∷ []) (get_or log j 0) there (front.left j (omega arith) inside)) in
      let stands = before_at [] log j k once inside (omega arith) in
      clash (subst (λ (w : ℕ). occurs (until log (get_or log j 0)) w ≡ true) (here ∙ is_x) stands)
      (until-self log (get_or log j 0)));
}

-- and another front stays
front_other : (past log : List ℕ) (k x : ℕ) → IsLogFront past log k
    → ((j : ℕ) → j < length log → x ≡ get_or log j 0 → ⊥) → IsLogFront (past ++ x ∷ []) log k
front_other past log k x front apart = record {
  within = front.within;
  gone = λ j less. occurs-left past (x ∷ []) (get_or log j 0) (front.gone j less);
  left = λ j late inside. false_from_ne_true _ (λ there.
      apart j inside (single x (get_or log j 0)
      (occurs-cases past (x ∷ []) (get_or log j 0) there (front.left j late inside))));
}

-- what happens when the least event that may follow does
module _ {chart : WiredChart} {n : ℕ} {logs : List (List ℕ)} {past heads : List ℕ}
    {done : List Bool} {x : ℕ}
    (sound : AreLogs chart n logs) (seated : IsSeated chart n)
    (m : IsMerging chart logs past heads done) (follows : FollowsLeast chart logs past x) where
  -- the event has a log
  line_in : line chart.events x < length logs
  line_in =
      let on : line chart.events x < n = seated.on_lines x follows.itself.event in
      let many : length logs ≡ n = sound.lines.as_many in omega arith

  -- and is the first left of it
  pub head_there : (get_or heads (line chart.events x) 0 < length (log_of chart logs x))
      × (get_or (log_of chart logs x) (get_or heads (line chart.events x) 0) 0 ≡ x)
  head_there =
      head_of_follower chart n logs sound past (schedule_steps chart logs past m.steps) x
      (get_or heads (line chart.events x) 0) (seated.on_lines x follows.itself.event)
      (m.fronts (line chart.events x) line_in) follows.itself

  -- it has a head
  pub head_in : line chart.events x < length heads
  head_in = let many : length heads ≡ length logs =
      m.many in let on : line chart.events x < length logs = line_in in omega arith

  -- and a place among the done
  pub event_in : x < length done
  event_in = let long : length done ≡ length chart.events =
      m.long in let below : x < length chart.events = follows.itself.event in omega arith

  -- with it the part is longer
  pub merge_more : (next : List ℕ) (k : ℕ) → next ≡ past ++ x ∷ []
      → k ≡ get_or heads (line chart.events x) 0 + 1
      → IsMerging chart logs next (set heads (line chart.events x) k) (set done x true)
  merge_more next k same k_is =
      let i : ℕ = line chart.events x in
      let many : length logs ≡ n = sound.lines.as_many in
      subst (λ (l : List ℕ). IsMerging chart logs l (set heads i k) (set done x true)) (sym same)
      (record {
        steps = Steps-push (FollowsLeast chart logs) past x m.steps follows;
        many = length-set heads i k ∙ m.many;
        fronts = λ j below. elim (cases_eq j i) [
          | inl here ↦
              let at_i : get_or (set heads i k) j 0 ≡ get_or heads i 0 + 1 =
              ap (λ (w : ℕ). get_or (set heads i k) w 0) here
              ∙ get_or-set_same heads i k 0 head_in ∙ k_is in
              let front = front_more past (get_or logs i []) (get_or heads i 0) x
              (m.fronts i line_in) (sound.lines.once i (seated.on_lines x follows.itself.event))
              head_there.0 head_there.1 in
              rw at_i (subst (λ (w : ℕ). IsLogFront (past ++ x ∷ []) (get_or logs w [])
              (get_or heads i 0 + 1)) (sym here) front)
          | inr other ↦
              let at_j : get_or (set heads i k) j 0 ≡ get_or heads j 0 =
              get_or-set_other heads i j k 0 other in
              rw at_j (front_other past (get_or logs j []) (get_or heads j 0) x (m.fronts j below)
              (λ p inside is_x.
              let there : occurs (get_or logs j []) x ≡ true =
              subst (λ (w : ℕ). occurs (get_or logs j []) w ≡ true) (sym is_x)
              (occurs_at (get_or logs j []) p inside) in
              other (sym (sound.lines.known j x (omega arith) there).1)))
        ];
        long = length-set done x true ∙ m.long;
        told = λ e below. elim (cases_eq e x) [
          | inl here ↦
              ap (λ (w : ℕ). get_or (set done x true) w false) here
              ∙ get_or-set_same done x true false event_in
              ∙ sym (ap (λ (w : ℕ). occurs (past ++ x ∷ []) w) here ∙ occurs-push past x)
          | inr other ↦
              get_or-set_other done x e true false other ∙ m.told e below
              ∙ by_test (occurs past e) (λ old. old ∙ sym (occurs-left past (x ∷ []) e old))
              (λ new. new ∙ sym (false_from_ne_true _
              (λ there. other (sym (single x e (occurs-cases past (x ∷ []) e there new))))))
        ];
      })

-- less is left
pub least_less : (chart : WiredChart) (logs : List (List ℕ)) (past next : List ℕ) (x : ℕ)
    → FollowsLeast chart logs past x → next ≡ past ++ x ∷ []
    → count_below (is_left (is_logged chart logs) next) (length chart.events)
    < count_below (is_left (is_logged chart logs) past) (length chart.events)
least_less chart logs past next x h same =
    let may = h.itself in
    rw same (left_less (is_logged chart logs) past (length chart.events) x may.event may.logged
    may.new)
