-- The link of an event is the output that was taken from its queue right before it.
use Rattle.std.proofs.Common.{◌≡◌, ℕ, zero, suc, ◌+◌, ◌<◌, true, false, inl, inr, eqb, List, [], ◌∷◌, ◌++◌, length, get_or, take, map, append_assoc, filter, Option, Some, None, refl, sym, ap, subst, ◌∙◌, Bool, arith}
use Rattle.std.specs.List.{concat}
use Rattle.std.proofs.lemmas.Bool.{eq-eqb, ne_eqb, false_from_ne_true}
use Rattle.std.proofs.lemmas.List.{append-nil}
use Rattle.std.proofs.lemmas.List.Elements.{filter-append}
use Rattle.msc_chart.specs.Charts.{line, partner, is_output, is_input, is_local}
use Rattle.msc_chart.specs.Lists.{occurs, until, IsOnce}
use Rattle.msc_chart.specs.Orders.{WiredChart, queue}
use Rattle.msc_chart.proofs.ListLemmas.{clash, occurs-head, occurs-tail}
use Rattle.msc_chart.proofs.Drawn.{not_both, partner_of_output, partner_of_input, output_not_local, input_not_local}
use Rattle.msc_gather.specs.Schedule.{log_of, is_logged, AreLogs, IsSeated, crosses}
use Rattle.msc_gather.specs.Heads.{IsLink}
use Rattle.msc_gather.specs.Links.{IsLastTaken, HoldsTaken}
use Rattle.msc_gather.specs.Marks.{is_marked, AreMarks}
use Rattle.msc_chart.proofs.KindTests.{output_below, input_below}
use Rattle.msc_gather.proofs.Once.{until-until, until-append-new}
use Rattle.msc_gather.proofs.ComesFirst.{crosses_sent, crosses_queued, crosses_cases}
use Rattle.msc_gather.proofs.Filters.{until-filter}
use Rattle.msc_gather.proofs.Distinct.{distinct_of_once, once_of_distinct, IsDistinct-concat, of_concat, in_concat}
use Rattle.msc_gather.proofs.TakenLemmas.{taken_filtered}

-- a list of which all pass is its filter
filter_all : (p : ℕ → Bool) (xs : List ℕ) → ((e : ℕ) → occurs xs e ≡ true → p e ≡ true)
    → filter p xs ≡ xs
filter_all p [] all = refl
filter_all p (x ∷ xs) all =
    rw (all x (occurs-head x xs))
    (ap (λ l. x ∷ l) (filter_all p xs (λ e h. all e (occurs-tail x xs e h))))

-- and where none passes, the filter is empty
filter_none : (p : ℕ → Bool) (xs : List ℕ) → ((e : ℕ) → occurs xs e ≡ true → p e ≡ false)
    → filter p xs ≡ []
filter_none p [] none = refl
filter_none p (x ∷ xs) none =
    rw (none x (occurs-head x xs)) (filter_none p xs (λ e h. none e (occurs-tail x xs e h)))

-- of logs of which one passes and no other does, joined, that one passes
filter_concat : (p : ℕ → Bool) (logs : List (List ℕ)) (i : ℕ) → i < length logs
    → ((e : ℕ) → occurs (get_or logs i []) e ≡ true → p e ≡ true)
    → ((j e : ℕ) → j < length logs → (j ≡ i → ⊥) → occurs (get_or logs j []) e ≡ true → p e ≡ false)
    → filter p (concat logs) ≡ get_or logs i []
filter_concat p [] i below all none = absurd (omega arith)
filter_concat p (log ∷ logs) zero below all none =
    let later : filter p (concat logs) ≡ [] = filter_none p (concat logs) (λ e h.
    let found = of_concat logs e h in none (suc found.0) e (omega (arith, found.1))
    (λ s. omega arith) found.2) in
    filter-append p log (concat logs) ∙ ap (λ l. l ++ filter p (concat logs)) (filter_all p log all)
    ∙ ap (λ l. log ++ l) later ∙ append-nil log
filter_concat p (log ∷ logs) (suc i) below all none =
    let first : filter p log ≡ [] = filter_none p log
    (λ e h. none zero e (omega arith) (λ s. omega arith) h) in
    filter-append p log (concat logs) ∙ ap (λ l. l ++ filter p (concat logs)) first
    ∙ filter_concat p logs i (omega arith) all
    (λ j e inside other h. none (suc j) e (omega arith) (λ s. other (omega arith)) h)

-- one more log joined
joined_suc : {V : Type 0} (f : V → List ℕ) (logs : List V) (k : ℕ) (d : V) → k < length logs
    → concat (map f (take (suc k) logs)) ≡ concat (map f (take k logs)) ++ f (get_or logs k d)
joined_suc f [] k d below = absurd (omega arith)
joined_suc f (log ∷ logs) zero d below = append-nil (f log)
joined_suc f (log ∷ logs) (suc k) d below =
    ap (λ l. f log ++ l) (joined_suc f logs k d (omega arith))
    ∙ sym (append_assoc (f log) (concat (map f (take k logs))) (f (get_or logs k d)))

-- the same of the items of a loop
pub joined_more : {V : Type 0} (f : V → List ℕ) (logs : List V) (k : ℕ) (item : V)
    (all next slice : List ℕ)
    → k < length logs → item ≡ get_or logs k item → all ≡ concat (map f (take k logs))
    → next ≡ all ++ slice → slice ≡ f item → next ≡ concat (map f (take (k + 1) logs))
joined_more f logs k item all next slice below here so_far pushed is_item =
    let e : suc k ≡ k + 1 = omega arith in
    let value : slice ≡ f (get_or logs k item) = is_item ∙ ap f here in
    pushed ∙ ap (λ l. l ++ slice) so_far ∙ ap (λ l. concat (map f (take k logs)) ++ l) value
    ∙ sym (joined_suc f logs k item below) ∙ ap (λ (n : ℕ). concat (map f (take n logs))) e

-- the test of a line
abbrev pub on : WiredChart → ℕ → ℕ → Bool
on chart i e = eqb (line chart.events e) i

-- the logs joined have each log on its line, and nothing twice
module _ {chart : WiredChart} {n : ℕ} {logs : List (List ℕ)} (sound : AreLogs chart n logs) where
  -- each log is what the joined logs have on its line
  pub log_on_line : (i : ℕ) → i < n → filter (on chart i) (concat logs) ≡ get_or logs i []
  log_on_line i below =
      let many = sound.lines.as_many in
      filter_concat (on chart i) logs i (omega arith)
      (λ e h. eq-eqb _ _ (sound.lines.known i e below h).1)
      (λ j e inside other h. ne_eqb _ _
      (λ s. other (sym (sound.lines.known j e (omega arith) h).1 ∙ s)))

  -- they hold nothing twice
  pub joined_once : IsOnce (concat logs)
  unfolding occurs
  joined_once =
      let many = sound.lines.as_many in
      once_of_distinct [] (concat logs)
      (IsDistinct-concat logs (λ i below.
      (distinct_of_once [] (get_or logs i []) (sound.lines.once i (omega arith))).0)
      (λ i j e bi bj hi hj. sym (sound.lines.known i e (omega arith) hi).1
      ∙ (sound.lines.known j e (omega arith) hj).1))
      (λ e h. refl)

  -- and have the logged events
  pub joined_known : (e : ℕ) → occurs (concat logs) e ≡ true
      → (e < length chart.events) × (is_logged chart logs e ≡ true)
  joined_known e h =
      let found = of_concat logs e h in
      let many = sound.lines.as_many in
      let known = sound.lines.known found.0 e (omega (arith, found.1)) found.2 in
      (known.0, ap (λ (j : ℕ). occurs (get_or logs j []) e) known.1 ∙ found.2)

module _ {chart : WiredChart} {n : ℕ} (logs : List (List ℕ)) (seated : IsSeated chart n) where
  -- nothing crosses to a local event
  pub link_local : (x : ℕ) → is_local chart.events x ≡ true → IsLink chart logs x None
  link_local x own = λ y h. crosses_cases chart logs y x h
      (λ o p.
      let i = subst (λ (w : ℕ). is_input chart.events w ≡ true) p
      (partner_of_output chart.events seated.is_wired.matched y o) in
      clash own (input_not_local chart.events x i))
      (λ o ox same b. clash own (output_not_local chart.events x ox))

  -- its output alone crosses to an input
  pub link_input : (x : ℕ) → is_input chart.events x ≡ true
      → IsLink chart logs x (Some (partner chart.events x))
  link_input x i = (
    crosses_sent chart logs (partner chart.events x) x
        (partner_of_input chart.events seated.is_wired.matched x i)
        (seated.is_wired.matched.to_and_fro x (input_below chart.events x i)),
    λ z h. crosses_cases chart logs z x h
        (λ o p. inl (sym (seated.is_wired.matched.to_and_fro z (output_below chart.events z o))
        ∙ ap (λ w. partner chart.events w) p))
        (λ o ox same b. absurd (not_both chart.events x ox i)),
  )

  -- what crosses to an output is an output of its queue that is taken before it
  seen : (x z : ℕ) → is_output chart.events x ≡ true → crosses chart logs z x ≡ true
      → (is_output chart.events z ≡ true) × (queue chart z ≡ queue chart x)
      × (occurs (until (log_of chart logs (partner chart.events x)) (partner chart.events x))
      (partner chart.events z) ≡ true)
  seen x z ox h =
      let m = seated.is_wired.matched in
      crosses_cases chart logs z x h
      (λ o p. absurd (not_both chart.events x ox
      (subst (λ (w : ℕ). is_input chart.events w ≡ true) p
      (partner_of_output chart.events m z o))))
      (λ o oy same b.
      let one = receives x z ox o same in (
        o,
        same,
        ap (λ (i : ℕ). occurs (until (get_or logs i []) (partner chart.events x))
            (partner chart.events z)) (sym one) ∙ b,
      ))
    where
      -- the inputs of two outputs to one queue are on one line
      receives : (x z : ℕ) → is_output chart.events x ≡ true → is_output chart.events z ≡ true
          → queue chart z ≡ queue chart x
          → line chart.events (partner chart.events z) ≡ line chart.events (partner chart.events x)
      receives x z ox oz same =
          let m = seated.is_wired.matched in
          seated.one_receiver (partner chart.events z) (partner chart.events x)
          (partner_of_output chart.events m z oz)
          (partner_of_output chart.events m x ox)
          (seated.is_wired.one_queue z (output_below chart.events z oz) ∙ same
          ∙ sym (seated.is_wired.one_queue x (output_below chart.events x ox)))

  -- what was last taken from the queue of an output before it is its link
  pub link_output : (x : ℕ) (last : Option ℕ) → is_output chart.events x ≡ true
      → IsLastTaken chart (queue chart x)
      (until (log_of chart logs (partner chart.events x)) (partner chart.events x)) last
      → IsLink chart logs x last
  link_output x None ox taken = λ z h.
      let s = seen x z ox h in
      taken (partner chart.events z) s.2
      (partner_of_output chart.events seated.is_wired.matched z s.0)
      (seated.is_wired.one_queue z (output_below chart.events z s.0) ∙ s.1)
  link_output x (Some y) ox taken =
      let m = seated.is_wired.matched in
      let u : ℕ = partner chart.events x in
      let ui = partner_of_output chart.events m x ox in
      let uq : queue chart u ≡ queue chart x =
      seated.is_wired.one_queue x (output_below chart.events x ox) in
      let log : List ℕ = log_of chart logs u in
      let r : ℕ = taken.0 in
      let r_below = input_below chart.events r taken.2 in
      let oy : is_output chart.events y ≡ true =
      subst (λ (w : ℕ). is_output chart.events w ≡ true) taken.4
      (partner_of_input chart.events m r taken.2) in
      let back : partner chart.events y ≡ r = ap (λ w. partner chart.events w) (sym taken.4)
      ∙ m.to_and_fro r r_below in
      let y_queue : queue chart y ≡ queue chart x =
      ap (λ w. queue chart w) (sym taken.4) ∙ seated.is_wired.one_queue r r_below ∙ taken.3 in
      let one : line chart.events r ≡ line chart.events u =
      seated.one_receiver r u taken.2 ui (taken.3 ∙ sym uq) in
      let log_r : log_of chart logs r ≡ log = ap (λ (i : ℕ). get_or logs i []) one in (
        crosses_queued chart logs y x oy ox y_queue
            (subst (λ (w : ℕ). occurs (until (log_of chart logs w) u) w ≡ true) (sym back)
            (ap (λ l. occurs (until l u) r) log_r ∙ taken.1)),
        λ z h.
            let s = seen x z ox h in
            let z_below = output_below chart.events z s.0 in
            let t : ℕ = partner chart.events z in
            let ti = partner_of_output chart.events m z s.0 in
            let tq : queue chart t ≡ queue chart x = seated.is_wired.one_queue z z_below ∙ s.1 in
            elim (taken.5 t s.2 ti tq) [
              | inl same ↦ inl (sym (m.to_and_fro z z_below) ∙ ap (λ w. partner chart.events w) same
                  ∙ taken.4)
              | inr earlier ↦
                  let one_t : line chart.events t ≡ line chart.events u =
                  seated.one_receiver t u ti ui (tq ∙ sym uq) in
                  let log_t : log_of chart logs t ≡ log = ap (λ (i : ℕ). get_or logs i []) one_t in
                  let before_r : occurs (until log r) t ≡ true =
                  ap (λ l. occurs l t) (sym (until-until log r u taken.1)) ∙ earlier in
                  inr (crosses_queued chart logs z y s.0 oy (s.1 ∙ sym y_queue)
                  (subst (λ (w : ℕ). occurs (until (log_of chart logs t) w) t ≡ true) (sym back)
                  (ap (λ l. occurs (until l r) t) log_t ∙ before_r)))
            ],
      )

  -- and it can be told from the logs joined
  pub link_joined : (x : ℕ) (last : Option ℕ) → AreLogs chart n logs
      → is_output chart.events x ≡ true
      → IsLastTaken chart (queue chart x) (until (concat logs) (partner chart.events x)) last
      → IsLink chart logs x last
  link_joined x last sound ox taken =
      let m = seated.is_wired.matched in
      let u : ℕ = partner chart.events x in
      let ui = partner_of_output chart.events m x ox in
      let uq : queue chart u ≡ queue chart x =
      seated.is_wired.one_queue x (output_below chart.events x ox) in
      let i : ℕ = line chart.events u in
      let own = log_on_line sound i (seated.on_lines u (input_below chart.events u ui)) in
      let front : filter (on chart i) (until (concat logs) u) ≡ until (log_of chart logs u) u =
      sym (until-filter (on chart i) (concat logs) u (eq-eqb _ _ refl)) ∙ ap (λ l. until l u) own in
      link_output x last ox
      (subst (λ (l : List ℕ). IsLastTaken chart (queue chart x) l last) front
      (taken_filtered chart (queue chart x) (on chart i) (until (concat logs) u) last
      (λ r ri rq. eq-eqb _ _ (seated.one_receiver r u ri ui (rq ∙ sym uq))) taken))

  -- of an output whose input is marked, what was taken before it
  pub link_marked : (x : ℕ) {before last : List (Option ℕ)} {marks : List Bool}
      → AreLogs chart n logs
      → AreMarks chart logs marks → HoldsTaken chart (concat logs) before last
      → is_output chart.events x ≡ true
      → is_marked marks (partner chart.events x) ≡ true → IsLink chart logs x (get_or before x None)
  link_marked x {before} {last} {marks} sound m h ox marked =
      let u : ℕ = partner chart.events x in
      let u_below = seated.is_wired.matched.in_range x (output_below chart.events x ox) in
      let many = sound.lines.as_many in
      let there : occurs (concat logs) u ≡ true =
      in_concat logs (line chart.events u) u (omega (arith, many, seated.on_lines u u_below))
      (sym (m.told u u_below) ∙ marked) in
      link_joined x (get_or before x None) sound ox (h.own x ox there)

  -- and of another output what was last taken from its queue
  pub link_left : (x : ℕ) {before last : List (Option ℕ)} {marks : List Bool} → AreLogs chart n logs
      → AreMarks chart logs marks → HoldsTaken chart (concat logs) before last
      → is_output chart.events x ≡ true
      → is_marked marks (partner chart.events x) ≡ false
      → IsLink chart logs x (get_or last (queue chart x) None)
  unfolding until
  link_left x {before} {last} {marks} sound m h ox unmarked =
      let u : ℕ = partner chart.events x in
      let x_below = output_below chart.events x ox in
      let u_below = seated.is_wired.matched.in_range x x_below in
      let q_below = h.queues x x_below (output_not_local chart.events x ox) in
      let absent : occurs (concat logs) u ≡ false = false_from_ne_true _
      (λ there. clash (m.told u u_below ∙ (joined_known sound u there).1) unmarked) in
      let all : until (concat logs) u ≡ concat logs =
      ap (λ l. until l u) (sym (append-nil (concat logs)))
      ∙ until-append-new (concat logs) [] u absent ∙ append-nil (concat logs) in
      link_joined x (get_or last (queue chart x) None) sound ox
      (subst (λ (l : List ℕ). IsLastTaken chart (queue chart x) l
      (get_or last (queue chart x) None)) (sym all) (h.ends (queue chart x) q_below))
