-- Sticks and races that are left, as they are printed.
use Rattle.std.proofs.Common.{◌≡◌, ℕ, ◌<◌, Bool, List, [], ◌∷◌, ◌++◌, Option, None, Some, Result, Ok, Err, true, false, ◌&&◌, cond, nat_eq, inr, length, get_or, refl, sym, ap, ◌∙◌, subst, arith}
use Rattle.std.specs.Option.{option_copied}
use Rattle.std.specs.Prelude.{◌↔◌, All, IfOk, IsTrue}
use Rattle.std.specs.List.{flat_map}
use Rattle.std.proofs.Math.Path.{fun_ext}
use Rattle.std.proofs.lemmas.List.Elements.{All-from_get_or}
use Rattle.std.proofs.lemmas.Result.{IfOk-weaker}
use Rattle.std.specs.declared.alloc.AllocError.{AllocError}
use Rattle.std.proofs.lemmas.Option.{slice_get-get_or}
use Rattle.msc_chart.specs.declared.queue.Queues.{Queues}
use Rattle.msc_chart.specs.Drawings.{Drawing, IsAccepted}
use Rattle.msc_chart.specs.Lists.{pairs_of, Occurs}
use Rattle.msc_chart.specs.Orders.{IsWired}
use Rattle.msc_chart.specs.Rounds.{two_rounds}
use Rattle.msc_race.proofs.Listing.Pairs.{of_from, to_parts}
use Rattle.msc_print.specs.Pages.{Tells, Writes}
use Rattle.msc_print.specs.Printed.{Printed}
use Rattle.msc_print.specs.Prints.{Prints}
use Rattle.msc_print.specs.Rows.{below, rows_from}
use Rattle.msc_print.proofs.PrintLemmas.{prints_then}
use Rattle.msc_print.specs.declared.page.WriteFault.{WriteFault}
use Rattle.msc_print.specs.declared.page.WriteFault.TheVariants.{Memory, Device}
use Rattle.msc_ready.specs.Held.{ready_chart, ready_in, wiring_of, HasVisualOrder, ReadyChart}
use Rattle.msc_ready.specs.Finishing.{MayFinish}
use Rattle.msc_ready.specs.Laws.{EachFirstBlockedPairHasARun, RacesLeftAreTold}
use Rattle.msc_ready.specs.Rounds.{between_from, between_of, is_between, AreBetween}
use Rattle.msc_ready.specs.Running.{AreBlockedPairRuns}
use Rattle.msc_ready.specs.BlockedPairs.{is_blocked_pair, AreLeft, IsBlockedPair}
use Rattle.msc_ready.specs.Views.{blocked_pairs_from, blocked_pairs_of, AreAhead, AreBlockedPairs, HasAhead}
use Rattle.msc_ready.proofs.Left.{left_test}
use Rattle.msc_text.specs.LeftRaces.{left_from, left_in}
use Rattle.msc_text.specs.Readied.{between_number, AreRoundsOf, AreUnrolled, CanPrintStick, IsReadyOf, IsReadyText}
use Rattle.msc_text.specs.StickFormats.{again_count_in, again_texts, closing_in, comes_left_last, left_count_in, left_race_in, once_texts, runs_in}
use Rattle.msc_text.specs.declared.stick_format.StickFormat.{StickFormat}
use Rattle.msc_text.specs.Readying.{again_text, finishes, is_none_of, left_behind, left_number, left_pairs, left_text, lines_of, more_after, readiness_of, ready_text, rest_in, told_left, told_sticks, AreStickFacts, StickFacts, PrintsAgain, PrintsBetween, PrintsReady}
use Rattle.msc_text.specs.declared.readying.ReadyAnswer.{ReadyAnswer}
use Rattle.msc_text.specs.declared.readying.StickTable.{StickTable}
use Rattle.msc_wording.specs.declared.readying.SpokenReadiness.{SpokenReadiness}
use Rattle.msc_judge.proofs.Listed.{all_of as all_pairs}

-- what is printed of the blocked pairs between two rounds, by what is known of them
pub prints_between : (d : Drawing) (queues : Queues) (only : Option (List Bool)) (more : ℕ) (format : StickFormat) (r : ReadyChart)
    (ahead : List (Option (ℕ × ℕ))) (runs : ℕ → List ℕ) → IsReadyOf (two_rounds d) queues only r
    → HasVisualOrder r → AreBetween r d (between_of r d) → AreAhead r ahead (length r.chart.events)
    → AreBlockedPairRuns (wiring_of r) (ready_in r) runs
    → PrintsBetween d queues only more format (Some (length (between_of r d))) (again_text format d r ahead runs more)
prints_between d queues only more format r ahead runs its visual blocked_pairs are_ahead are_runs =
    let same : r ≡ ready_chart (two_rounds d) queues (lines_of only) r.order =
    ap (λ (c : Drawing). ready_chart c r.queues r.lines r.order) its.chart
    ∙ ap (λ (q : Queues). ready_chart (two_rounds d) q r.lines r.order) its.queues
    ∙ ap (λ (l : List Bool). ready_chart (two_rounds d) queues l r.order) its.lines in
    record {
      order = r.order;
      visual = subst HasVisualOrder same visual;
      blocked_pairs = subst (λ (x : ReadyChart). AreBetween x d (between_of x d)) same blocked_pairs;
      ahead = ahead;
      are_ahead = subst (λ (x : ReadyChart). AreAhead x ahead (length x.chart.events)) same are_ahead;
      runs = runs;
      are_runs = subst (λ (x : ReadyChart). AreBlockedPairRuns (wiring_of x) (ready_in x) runs) same are_runs;
      answered = ap (λ (x : ReadyChart). Some (length (between_of x d))) same;
      text = ap (λ (x : ReadyChart). again_text format d x ahead runs more) same;
    }

module _ (d : Drawing) (queues : Queues) (only : Option (List Bool)) (again : Bool) (show : ℕ) (format : StickFormat) where
  -- what is printed of a chart with ready instances, by what is known of it, and of two rounds
  pub prints : (r : ReadyChart) (k : StickFacts) → IsReadyOf d queues only r
      → IsAccepted r.chart → HasVisualOrder r → AreBlockedPairs r (blocked_pairs_of r) → AreStickFacts r k
      → (between : Option ℕ) (behind : List ℕ) → PrintsAgain again d queues only (more_after r (runs_in format show) k) format between behind
      → PrintsReady d queues only again show format (finishes r only k && is_none_of between)
      (ready_text format r only (runs_in format show) k
      ++ (rest_in format (left_text format r only k) behind ++ closing_in format (readiness_of r only k between)))
  prints r k its accepted visual blocked_pairs is between behind rounds =
      let same : r ≡ ready_chart d queues (lines_of only) r.order =
      ap (λ (c : Drawing). ready_chart c r.queues r.lines r.order) its.chart
      ∙ ap (λ (q : Queues). ready_chart d q r.lines r.order) its.queues
      ∙ ap (λ (l : List Bool). ready_chart d queues l r.order) its.lines in
      record {
        accepted = subst IsAccepted its.chart accepted;
        order = r.order;
        visual = subst HasVisualOrder same visual;
        blocked_pairs = subst (λ (x : ReadyChart). AreBlockedPairs x (blocked_pairs_of x)) same blocked_pairs;
        known = k;
        is = subst (λ (x : ReadyChart). AreStickFacts x k) same is;
        between = between;
        behind = behind;
        rounds = subst (λ (x : ReadyChart). PrintsAgain again d queues only (more_after x (runs_in format show) k) format between behind) same rounds;
        answered = ap (λ (x : ReadyChart). finishes x only k && is_none_of between) same;
        text = ap (λ (x : ReadyChart). ready_text format x only (runs_in format show) k
            ++ (rest_in format (left_text format x only k) behind ++ closing_in format (readiness_of x only k between))) same;
      }

-- what is known of a chart of which these are: whether some ready run is whole, and which blocked
-- pair is ahead of each event
pub known_so : (r : ReadyChart) → IsAccepted r.chart → EachFirstBlockedPairHasARun → RacesLeftAreTold → (may : Bool)
    → IsTrue may ↔ MayFinish (wiring_of r) (ready_in r) → (ahead : List (Option (ℕ × ℕ))) → AreAhead r ahead (length r.chart.events)
    → (k : StickFacts) × AreStickFacts r k × (k.ahead ≡ ahead) × (k.may ≡ may)
known_so r accepted run left may may_is ahead are_ahead =
    let runs = run r.queues r.chart accepted (ready_in r) in
    let lefts = left r.queues r.chart accepted (ready_in r) in (
      record { may = may; ahead = ahead; runs = runs.0; left = lefts.0 },
      record { may = may_is; ahead = are_ahead; runs = runs.1; left = lefts.1 },
      refl,
      refl,
    )

-- each pair of a list that occurs in it so has a property that each occurring pair has
all_occurring : (P : ℕ × ℕ → Type 0) (list : List (ℕ × ℕ)) → ((x y : ℕ) → Occurs list (x, y) → P (x, y)) → All P list
all_occurring P list each = All-from_get_or P list (0, 0) (λ k inside.
    let p = get_or list k (0, 0) in each p.0 p.1 (k, slice_get-get_or list k (0, 0) inside))

-- the blocked pairs of an event can be printed
pub sticks_printed : (r : ReadyChart) (d : Drawing) (ahead : List (Option (ℕ × ℕ))) (e : ℕ) → AreBlockedPairs r (blocked_pairs_of r) → HasAhead r ahead
    → r.chart ≡ d → e < length r.chart.events → All (CanPrintStick r d ahead) (blocked_pairs_from r e)
sticks_printed r d ahead e are has named within =
    let test = is_blocked_pair (wiring_of r) (ready_in r) r.order in
    let n : ℕ = length r.chart.events in
    all_occurring (CanPrintStick r d ahead) (blocked_pairs_from r e) (λ x y there.
    let parts = to_parts test e n x y there in
    let here = (are e y).1 (of_from test n e y within parts.1 parts.2) in
    record { blocked_pair = subst (λ (z : ℕ). IsBlockedPair (wiring_of r) (ready_in r) z y) (sym parts.0) here; has_ahead = has; same = named })

-- and so can those between two rounds
pub between_printed : (r : ReadyChart) (d named : Drawing) (ahead : List (Option (ℕ × ℕ))) (e : ℕ) → AreBetween r d (between_of r d) → HasAhead r ahead
    → r.chart ≡ named → e < length r.chart.events → All (CanPrintStick r named ahead) (between_from r d e)
between_printed r d named ahead e are has same within =
    let test = is_between r d in
    let n : ℕ = length r.chart.events in
    all_occurring (CanPrintStick r named ahead) (between_from r d e) (λ x y there.
    let parts = to_parts test e n x y there in
    let here = (are e y).1 (of_from test n e y within parts.1 parts.2) in
    record { blocked_pair = subst (λ (z : ℕ). IsBlockedPair (wiring_of r) (ready_in r) z y) (sym parts.0) here.blocked_pair; has_ahead = has; same = same })

-- the races that are left are those of the test
pub left_told : (r : ReadyChart) (wired : IsWired (wiring_of r)) → AreLeft (wiring_of r) (ready_in r) (left_in r wired)
left_told r wired = (left_test (wiring_of r) wired (ready_in r)).1

-- they can be printed
pub left_printed : (r : ReadyChart) (wired : IsWired (wiring_of r)) (d : Drawing) (e : ℕ) → r.chart ≡ d → e < length r.chart.events
    → All (λ p. (p.0 < length d.events) × (p.1 < length d.events)) (left_from r wired e)
left_printed r wired d e same within =
    let n : ℕ = length r.chart.events in
    let size = ap (λ (c : Drawing). length c.events) same in
    all_occurring (λ p. (p.0 < length d.events) × (p.1 < length d.events)) (left_from r wired e) (λ x y there.
    let parts = to_parts (left_in r wired) e n x y there in
    let first = parts.0 in
    let second = parts.1 in
    (omega (arith, first, within, size), omega (arith, second, size)))

-- two tests for them are one
pub one_left : (r : ReadyChart) (left other : ℕ → ℕ → Bool) → AreLeft (wiring_of r) (ready_in r) left → AreLeft (wiring_of r) (ready_in r) other → left ≡ other
one_left r left other these those = fun_ext (λ e. fun_ext (λ f. same (left e f) (other e f)
    (λ h. (those e f).1 ((these e f).0 h)) (λ h. (these e f).1 ((those e f).0 h))))
  where
    -- tests that pass together are equal
    same : (a b : Bool) → (IsTrue a → IsTrue b) → (IsTrue b → IsTrue a) → a ≡ b
    same true b to from = sym (to refl)
    same false true to from = from refl
    same false false to from = refl

-- rows that leave the count as it is
pub rows_alone : (row : ℕ × ℕ → List ℕ) (n : ℕ) (pairs : List (ℕ × ℕ)) → rows_from (λ m p. row p) (λ m p. m) n pairs ≡ flat_map row pairs
rows_alone row n [] = refl
rows_alone row n (p ∷ pairs) = ap (λ (t : List ℕ). row p ++ t) (rows_alone row n pairs)

-- so the races that are left are printed by any test
pub left_rows : (r : ReadyChart) (wired : IsWired (wiring_of r)) (row : ℕ × ℕ → List ℕ) (left : ℕ → ℕ → Bool) → AreLeft (wiring_of r) (ready_in r) left
    → rows_from (λ m p. row p) (λ m p. m) 0 (below (left_from r wired) (length r.chart.events)) ≡ flat_map row (pairs_of left (length r.chart.events))
left_rows r wired row left are =
    rows_alone row 0 (below (left_from r wired) (length r.chart.events))
    ∙ ap (flat_map row) (all_pairs (left_in r wired) (length r.chart.events))
    ∙ ap (λ (test : ℕ → ℕ → Bool). flat_map row (pairs_of test (length r.chart.events))) (one_left r (left_in r wired) left (left_told r wired) are)

-- what is written of a right answer is told
pub tells : {W : Type 0} (contents : W → Option (List ℕ)) (says : Bool → List ℕ → Type 0) (result : Result Bool WriteFault) (old new : W)
    (right : Bool) (text : List ℕ) → says right text → IfOk result (λ answer. answer ≡ right)
    → Writes result (contents old) (contents new) text → Tells contents says result old new
tells contents says (Ok answer) old new right text is same written = (text, subst (λ (a : Bool). says a text) (sym same) is, written)
tells contents says (Err Memory) old new right text is same written = inr (right, text, is, written)
tells contents says (Err Device) old new right text is same written = tt

module _ (a b : Printed) (format : StickFormat) (r : ReadyChart) (ahead list : List (Option (ℕ × ℕ))) (same : ahead ≡ list) (runs : ℕ → List ℕ) (show : ℕ) where
  -- the blocked pairs that a source of pairs gives are all blocked pairs
  pub blocked_pairs_rows : (d : Drawing) → d ≡ r.chart
      → Prints a b (told_sticks (once_texts format d) ahead runs show (below (blocked_pairs_from r) (length r.chart.events)))
      → Prints a b (told_sticks (once_texts format r.chart) list runs show (blocked_pairs_of r))
  blocked_pairs_rows d chart put =
      subst (λ (x : Drawing). Prints a b (told_sticks (once_texts format x) list runs show (blocked_pairs_of r))) chart
      (subst (λ (l : List (Option (ℕ × ℕ))). Prints a b (told_sticks (once_texts format d) l runs show (blocked_pairs_of r))) same
      (subst (λ (pairs : List (ℕ × ℕ)). Prints a b (told_sticks (once_texts format d) ahead runs show pairs))
      (all_pairs (is_blocked_pair (wiring_of r) (ready_in r) r.order) (length r.chart.events)) put))

  -- and so it is between two rounds, after their number
  pub between_rows : (c : Printed) (d : Drawing) (count : ℕ) → count ≡ length (between_of r d) → Prints c a (again_count_in format count)
      → Prints a b (told_sticks (again_texts format d) ahead runs show (below (between_from r d) (length r.chart.events)))
      → Prints c b (again_text format d r list runs show)
  between_rows c d count number head put =
      prints_then c a b (again_count_in format (length (between_of r d))) (told_sticks (again_texts format d) list runs show (between_of r d))
      (subst (λ (n : ℕ). Prints c a (again_count_in format n)) number head)
      (subst (λ (l : List (Option (ℕ × ℕ))). Prints a b (told_sticks (again_texts format d) l runs show (between_of r d))) same
      (subst (λ (pairs : List (ℕ × ℕ)). Prints a b (told_sticks (again_texts format d) ahead runs show pairs))
      (all_pairs (is_between r d) (length r.chart.events)) put))

-- how many more runs are shown after all blocked pairs
pub blocked_pairs_count : (r : ReadyChart) (ahead list : List (Option (ℕ × ℕ))) (show : ℕ) (result : Result ℕ AllocError) → ahead ≡ list
    → IfOk result (λ next. next ≡ left_behind ahead show (below (blocked_pairs_from r) (length r.chart.events)))
    → IfOk result (λ more. more ≡ left_behind list show (blocked_pairs_of r))
blocked_pairs_count r ahead list show result same =
    IfOk-weaker result _ _ (λ next is. is
    ∙ ap (left_behind ahead show) (all_pairs (is_blocked_pair (wiring_of r) (ready_in r) r.order) (length r.chart.events))
    ∙ ap (λ (l : List (Option (ℕ × ℕ))). left_behind l show (blocked_pairs_of r)) same)

-- the races that are left are printed after their number
pub left_prints : (a b c : Printed) (format : StickFormat) (r : ReadyChart) (wired : IsWired (wiring_of r)) (d : Drawing) (count : ℕ) → d ≡ r.chart
    → ((left : ℕ → ℕ → Bool) → AreLeft (wiring_of r) (ready_in r) left → count ≡ length (pairs_of left (length r.chart.events)))
    → Prints a b (left_count_in format count)
    → Prints b c (rows_from (λ m p. left_race_in format d p) (λ m p. m) 0 (below (left_from r wired) (length r.chart.events)))
    → (left : ℕ → ℕ → Bool) → AreLeft (wiring_of r) (ready_in r) left
    → Prints a c (told_left format r.chart (pairs_of left (length r.chart.events)))
left_prints a b c format r wired d count chart number head put left are =
    let pairs = pairs_of left (length r.chart.events) in
    prints_then a b c (left_count_in format (length pairs)) (flat_map (left_race_in format r.chart) pairs)
    (subst (λ (n : ℕ). Prints a b (left_count_in format n)) (number left are) head)
    (subst (λ (x : Drawing). Prints b c (flat_map (left_race_in format x) pairs)) chart
    (subst (Prints b c) (left_rows r wired (left_race_in format d) left are) put))

-- a system finishes if it has no blocked pair, and no race is left where these are told
pub finishes_so : (r : ReadyChart) (only : Option (List Bool)) (k : StickFacts)
    → (nat_eq (length (blocked_pairs_of r)) 0 && is_none_of (left_number r only k)) ≡ finishes r only k
finishes_so r None k = alone (nat_eq (length (blocked_pairs_of r)) 0)
  where
    -- without a list, no race is told
    alone : (all : Bool) → (all && true) ≡ all
    alone true = refl
    alone false = refl
finishes_so r (Some lines) k = both (nat_eq (length (blocked_pairs_of r)) 0) (length (left_pairs r k))
  where
    -- with one, races are told where no blocked pair is
    both : (all : Bool) (left : ℕ) → (all && is_none_of (cond all (Some left) None)) ≡ (all && nat_eq left 0)
    both true left = refl
    both false left = refl

-- what is known of two rounds is of the chart of two rounds
pub rounds_unrolled : (d : Drawing) (queues : Queues) (only : Option (List Bool)) (two : Option StickTable) → AreRoundsOf d queues only two → AreUnrolled d two
rounds_unrolled d queues only None are = tt
rounds_unrolled d queues only (Some two) are = (are.0.chart, are.1)

-- what is printed of races that are left and of two rounds, in the order of the format
pub last_prints : (a b c : Printed) (format : StickFormat) (left again : List ℕ) → comes_left_last format ≡ true
    → Prints a b again → Prints b c left → Prints a c (rest_in format left again)
last_prints a b c format left again last first then =
    subst (λ (l : Bool). Prints a c (cond l (again ++ left) (left ++ again))) (sym last) (prints_then a b c again left first then)

pub above_prints : (a b c : Printed) (format : StickFormat) (left again : List ℕ) → comes_left_last format ≡ false
    → Prints a b left → Prints b c again → Prints a c (rest_in format left again)
above_prints a b c format left again above first then =
    subst (λ (l : Bool). Prints a c (cond l (again ++ left) (left ++ again))) (sym above) (prints_then a b c left again first then)

-- what is printed of a chart, and what follows it, are the answer
pub answer_begins : (a b c : Printed) (answer : ReadyAnswer) (text : List ℕ) (is : IsReadyText answer text)
    → Prints a b (ready_text answer.query.format answer.one.now.blocked_pairs (option_copied answer.query.only) answer.query.show is.known)
    → Prints b c (rest_in answer.query.format (left_text answer.query.format answer.one.now.blocked_pairs (option_copied answer.query.only) is.known) is.behind
    ++ closing_in answer.query.format (readiness_of answer.one.now.blocked_pairs (option_copied answer.query.only) is.known (between_number answer.names.chart.now (option_copied answer.two))))
    → Prints a c text
answer_begins a b c answer text is first then =
    subst (Prints a c) (sym is.same)
    (prints_then a b c (ready_text answer.query.format answer.one.now.blocked_pairs (option_copied answer.query.only) answer.query.show is.known)
    (rest_in answer.query.format (left_text answer.query.format answer.one.now.blocked_pairs (option_copied answer.query.only) is.known) is.behind
    ++ closing_in answer.query.format (readiness_of answer.one.now.blocked_pairs (option_copied answer.query.only) is.known (between_number answer.names.chart.now (option_copied answer.two)))) first then)

-- and so is that with what closes it
pub answer_prints : (a b c e : Printed) (answer : ReadyAnswer) (text : List ℕ) (is : IsReadyText answer text)
    → Prints a b (ready_text answer.query.format answer.one.now.blocked_pairs (option_copied answer.query.only) answer.query.show is.known)
    → Prints b c (rest_in answer.query.format (left_text answer.query.format answer.one.now.blocked_pairs (option_copied answer.query.only) is.known) is.behind)
    → Prints c e (closing_in answer.query.format (readiness_of answer.one.now.blocked_pairs (option_copied answer.query.only) is.known (between_number answer.names.chart.now (option_copied answer.two))))
    → Prints a e text
answer_prints a b c e answer text is first then last =
    answer_begins a b e answer text is first
    (prints_then b c e (rest_in answer.query.format (left_text answer.query.format answer.one.now.blocked_pairs (option_copied answer.query.only) is.known) is.behind)
    (closing_in answer.query.format (readiness_of answer.one.now.blocked_pairs (option_copied answer.query.only) is.known (between_number answer.names.chart.now (option_copied answer.two)))) then last)

-- what both numbers are, by what each of them is
pub rest_left : {A B : Type 0} (P : A → Type 0) (left : Result A AllocError) (rest : Result B AllocError) (number : B → A)
    → IfOk rest (λ found. left ≡ Ok (number found)) → IfOk left P → IfOk rest (λ found. P (number found))
rest_left P left (Ok found) number is said = subst (λ (r : Result _ AllocError). IfOk r P) is said
rest_left P left (Err e) number is said = tt

-- what closes the answer, by what each number is
pub closing_prints : (a b : Printed) (format : StickFormat) (r : ReadyChart) (only : Option (List Bool)) (k : StickFacts) (between : Option ℕ) (found : SpokenReadiness)
    → found.blocked ≡ length (blocked_pairs_of r) → found.between ≡ between → found.finishes ≡ k.may → found.left ≡ left_number r only k
    → Prints a b (closing_in format found) → Prints a b (closing_in format (readiness_of r only k between))
closing_prints a b format r only k between found blocked is may left =
    subst (λ (x : SpokenReadiness). Prints a b (closing_in format x)) (
    ap (λ (n : ℕ). record { blocked = n; between = found.between; finishes = found.finishes; left = found.left }) blocked
    ∙ ap (λ (n : Option ℕ). record { blocked = length (blocked_pairs_of r); between = n; finishes = found.finishes; left = found.left }) is
    ∙ ap (λ (m : Bool). record { blocked = length (blocked_pairs_of r); between = between; finishes = m; left = found.left }) may
    ∙ ap (λ (n : Option ℕ). record { blocked = length (blocked_pairs_of r); between = between; finishes = k.may; left = n }) left
    )
