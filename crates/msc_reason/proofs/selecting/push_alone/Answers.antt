use Rattle.std.proofs.Common.{◌≡◌, ℕ, ◌<◌, ◌≤◌, ◌⊎◌, ◌++◌, ◌+◌, Bool, cond, not, true, false, take, List, [], ◌∷◌, length, get_or, sym, ap, ◌∙◌, subst, append_assoc, arith}
use Rattle.std.specs.List.{filter, All}
use Rattle.std.proofs.lemmas.List.{append-nil, take_all}
use Rattle.std.proofs.lemmas.List.Elements.{filter_more}
use Rattle.std.proofs.lemmas.Option.{slice_get-get_or}
use Rattle.msc_chart.specs.Lists.{Occurs}
use Rattle.msc_race.specs.Wired.{EnforcedChart}
use Rattle.msc_reason.proofs.Counted.{counted_parts}
use Rattle.msc_reason.proofs.Marking.{is_least_second}
use Rattle.msc_reason.specs.Counting.{counting, is_alone}
use Rattle.msc_reason.specs.Marked.{counted_from, is_counted, cause_in, AreOfOneEvent, IsMarked}
use Rattle.msc_reason.specs.declared.left_out.LeftOut.{LeftOut}
use Rattle.msc_reason.proofs.selecting.push_alone.Goals as goal
use Rattle.msc_reason.proofs.selecting.push_alone.Goals.{then-not-has_within+in_ok-push, else-not-has_within}

-- each of these races is one of an event, and counts
counted_at : (e : EnforcedChart) (allowed : LeftOut) (x i : ℕ) (pairs : List (ℕ × ℕ)) → pairs ≡ counted_from e allowed x → i < length pairs
    → ((get_or pairs i (0, 0)).0 ≡ x) × (is_counted e allowed (get_or pairs i (0, 0)).0 (get_or pairs i (0, 0)).1 ≡ true)
counted_at e allowed x i pairs are inside =
    let there : Occurs pairs (get_or pairs i (0, 0)) = (i, slice_get-get_or pairs i (0, 0) inside) in
    counted_parts e allowed x (get_or pairs i (0, 0)).0 (get_or pairs i (0, 0)).1 (subst (λ (l : List (ℕ × ℕ)). Occurs l (get_or pairs i (0, 0))) are there)

-- so what the marks tell of one of them is asked for rightly
asked_at : (e : EnforcedChart) (allowed : LeftOut) (last least : List ℕ) (past low i : ℕ) (pairs : List (ℕ × ℕ))
    → AreOfOneEvent e allowed last least past pairs → All (λ p. low ≤ p.1) pairs
    → (low ≡ length e.chart.events) ⊎ ((x : ℕ) × Occurs pairs (x, low)) → i < length pairs
    → IsMarked e allowed last least low past (get_or pairs i (0, 0))
asked_at e allowed last least past low i pairs of below itself inside =
    let at = counted_at e allowed of.event i pairs of.races inside in
    record {
      marks = of.marks;
      race = at.1;
      first = rw at.0 (is_least_second e allowed (length e.chart.events) of.event low pairs of.races below itself);
      end = rw at.0 of.end;
    }

-- one race more is kept where it passes
one_more : (test : ℕ × ℕ → Bool) (old list xs : List (ℕ × ℕ)) (i : ℕ) (b : Bool) → i < length xs → list ≡ old ++ filter test (take i xs)
    → test (get_or xs i (0, 0)) ≡ b → list ++ cond b (get_or xs i (0, 0) ∷ []) [] ≡ old ++ filter test (take (i + 1) xs)
one_more test old list xs i b inside so_far is =
    let one = λ (b : Bool). cond b (get_or xs i (0, 0) ∷ []) [] in
    ap (λ (l : List (ℕ × ℕ)). l ++ one b) so_far ∙ append_assoc old (filter test (take i xs)) (one b)
    ∙ ap (λ (l : List (ℕ × ℕ)). old ++ l) (sym (filter_more test xs i (0, 0) inside ∙ ap (λ (b : Bool). filter test (take i xs) ++ one b) is))

pub has_within-requires : goal.has_within-requires
has_within-requires c =
    let e = c.args.enforced.now in
    let first = c.least_second-first.ensures in
    let itself = rw c.events.ensures at first.itself in (
      c.requires.0,
      asked_at e c.requires.0 _ _ c.args.end c.least_second-first.result c.loop-race.race-index c.args.races.now c.requires.1
          first.none_below itself c.loop-race-test.true,
    )

pub loop-race-preserved : goal.loop-race-preserved
loop-race-preserved c allowed of =
    let e = c.args.enforced.now in
    let test = is_alone e.chart.events (counting e allowed (cause_in e)) in
    let i = c.loop-race.race-index in
    let first = c.least_second-first.ensures in
    let itself = rw c.events.ensures at first.itself in
    let told = c.has_within.ensures allowed (asked_at e allowed _ _ c.args.end c.least_second-first.result i c.args.races.now of
    first.none_below itself c.loop-race-test.true) in
    let more = one_more test c.args.list.now.items c.loop-race.list.items c.args.races.now i in
    elim c.if-not-has_within.branch [
      | then-not-has_within+in_ok-push w ↦
          rw w.list-is (w.in_ok-push.ensures.items ∙ more true c.loop-race-test.true (c.loop-race.invariant allowed of)
          (ap not (sym told ∙ w.if-not-has_within.true)))
      | else-not-has_within w ↦
          rw w.list-is (sym (append-nil c.loop-race.list.items) ∙ more false c.loop-race-test.true (c.loop-race.invariant allowed of)
          (ap not (sym told ∙ w.if-not-has_within.false)))
    ]

pub returns : goal.returns
returns c allowed of =
    let e = c.args.enforced.now in
    let test = is_alone e.chart.events (counting e allowed (cause_in e)) in
    c.loop-race.invariant allowed of ∙ ap (λ (l : List (ℕ × ℕ)). c.args.list.now.items ++ filter test l)
    (let end = c.loop-race.auto.race-index-end in let past = c.loop-race-test.false in take_all c.loop-race.race-index c.args.races.now (omega (arith, end, past)))
