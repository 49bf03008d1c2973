-- That each event which may come next is listed once one more is drawn: what only that lets come is
-- its input, or on the level that its line has reached, or the other end of one of these.
use Rattle.std.proofs.Common.{◌≡◌, ℕ, ◌<◌, ◌≤◌, true, false, not, List, [], ◌∷◌, ◌++◌, length, get_or, Option, inl, inr, refl, sym, ap, subst, ◌∙◌, arith}
use Rattle.std.proofs.lemmas.Bool.{and_parts, and_from, or_left, eqb-true, eq-eqb, ltb-true, lt-ltb, cases_eq, cases_lt, not-true, not_from_false, false_from_ne_true}
use Rattle.bit_rows.specs.Rows.{has}
use Rattle.msc_chart.specs.Charts.{line, partner, is_output, IsMatched}
use Rattle.msc_chart.specs.Lists.{occurs, Steps}
use Rattle.msc_chart.proofs.ListLemmas.{by_test, clash, occurs-push, occurs_other, step_at, until-within}
use Rattle.msc_picture.specs.declared.ready.Ready.{Ready}
use Rattle.msc_picture.specs.Frames.{Frame, level, is_above, is_sent_as, IsDrawnNext}
use Rattle.msc_picture.specs.Courses.{event_at, IsCourse, IsBehind, IsReached, IsOpen, ShareLevel, is_over}
use Rattle.msc_picture.specs.Drawn.{lacks_output}
use Rattle.msc_picture.specs.Ready.{IsFree, MayRest, MaySend, MayLevel, IsListed, AreListed, IsFromListed, KeepsBut}
use Rattle.msc_picture.proofs.DrawnLemmas.{next_may}
use Rattle.msc_picture.proofs.Events.{not_both}
use Rattle.msc_picture.proofs.FollowLemmas.{sent_from}
use Rattle.msc_picture.proofs.OpenLemmas.{first_least, stands_from}

-- an output is drawn before its input
taken_after : (f : Frame) (ranks : Option (List ℕ)) (past : List ℕ) (s r : ℕ)
    → Steps (IsDrawnNext f ranks) [] past → s < length f.events → is_sent_as f s r ≡ true → occurs past r ≡ true → occurs past s ≡ true
taken_after f ranks past s r steps known sent there =
    until-within past r s
    ((next_may (step_at (IsDrawnNext f ranks) past r steps there).1).behind s known (or_left _ _ sent))

module _ (past before : List ℕ) (e : ℕ) (is : past ≡ before ++ e ∷ []) where
  -- what else is drawn was drawn before
  new_or : (x : ℕ) → (x ≡ e → ⊥) → occurs past x ≡ occurs before x
  new_or x other = ap (λ (l : List ℕ). occurs l x) is ∙ occurs_other before e x other

  -- e is drawn
  drawn_now : occurs past e ≡ true
  drawn_now = ap (λ (l : List ℕ). occurs l e) is ∙ occurs-push before e

  -- so what is left is another event
  left_other : (x : ℕ) → occurs past x ≡ false → x ≡ e → ⊥
  left_other x left same = clash (ap (λ (w : ℕ). occurs past w) same ∙ drawn_now) left

  left_before : (x : ℕ) → occurs past x ≡ false → occurs before x ≡ false
  left_before x left = sym (new_or x (left_other x left)) ∙ left

  -- where e is not over an event, all over it were drawn before
  open_before : (f : Frame) (x : ℕ) → is_over f e x ≡ false → IsOpen f past x → IsOpen f before x
  open_before f x apart free y known over = elim (cases_eq y e) [
    | inl same ↦ clash (subst (λ (w : ℕ). is_over f w x ≡ true) same over) apart
    | inr other ↦ sym (new_or y other) ∙ free y known over
  ]

  free_before : (f : Frame) (x : ℕ) → is_over f e x ≡ false → IsFree f past x → IsFree f before x
  free_before f x apart free = record {
    left = left_before x free.left;
    over = open_before f x apart free.over;
  }

-- the first event that is left of a line, and one that all over are drawn, are on one level
module _ {f : Frame} {course past firsts seconds : List ℕ} (laid : IsCourse f course) (i : ℕ)
    (behind : IsBehind f course past firsts seconds i)
    (reached : IsReached f course past firsts seconds i) where
  abbrev front : ℕ
  front = event_at course (get_or firsts i 0)

  -- its output is not the first one that is left
  abbrev NotOwn : ℕ → Type 0
  NotOwn x = get_or firsts i 0 < length course → is_sent_as f front x ≡ false

  pub on_level : (e x : ℕ) → line f.events e ≡ i → x < length f.events → is_over f e x ≡ true
      → occurs past x ≡ false → IsOpen f past x → NotOwn x
      → (get_or firsts i 0 < length course) × (is_above f e front ≡ true)
      × ((q : ℕ) × (get_or firsts i 0 ≤ q) × (q < length course) × (event_at course q ≡ x)
      × ShareLevel f front x)
  on_level e x on_e known over left free own =
      let above = and_parts _ _ (and_parts (is_above f e x) (not (is_sent_as f e x)) over).0 in
      let on : line f.events x ≡ i = sym (eqb-true _ _ above.0) ∙ on_e in
      let least = first_least laid i behind reached x known on left in
      let at = stands_from laid i behind reached x known on left in
      let on_front = (reached.first least.0).0 in
      let same : level f front ≡ level f x = elim (cases_lt (level f front) (level f x)) [
        | inl less ↦ clash (free front (laid.known _ least.0)
            (and_from _ _ (and_from _ _ (eq-eqb _ _ (on_front ∙ sym on)) (lt-ltb _ _ less))
            (not_from_false _ (own least.0)))) (reached.first least.0).1
        | inr more ↦ omega (arith, more, least.1)
      ] in
      let lower = ltb-true _ _ above.1 in (
        least.0,
        and_from _ _ (eq-eqb _ _ (on_e ∙ sym on_front)) (lt-ltb _ _ (omega (arith, lower, same))),
        (at.0, at.3, at.1, at.2, record { line = on_front ∙ sym on; level = same }),
      )

module _ {f : Frame} (ranks : Option (List ℕ)) {course past before firsts seconds : List ℕ} {e : ℕ}
    {old new : Ready}
    (matched : IsMatched f.events) (is : past ≡ before ++ e ∷ []) (laid : IsCourse f course)
    (behind : IsBehind f course past firsts seconds (line f.events e))
    (reached : IsReached f course past firsts seconds (line f.events e))
    (steps : Steps (IsDrawnNext f ranks) [] past) (listed : AreListed f before old)
    (kept : KeepsBut e old new) (other : IsListed f past new (partner f.events e))
    (from : IsFromListed f course past new e (get_or firsts (line f.events e) 0)) where
  -- the first event of the line of e that is left
  abbrev reached_event : ℕ
  reached_event = event_at course (get_or firsts (line f.events e) 0)

  -- an event that e was over is listed, and the other end of its message
  freed : (x : ℕ) → x < length f.events → is_over f e x ≡ true → occurs past x ≡ false
      → IsOpen f past x
      → (get_or firsts (line f.events e) 0 < length course → is_sent_as f reached_event x ≡ false)
      → IsListed f past new x × IsListed f past new (partner f.events x)
  freed x known over left free own =
      let at = on_level laid (line f.events e) behind reached e x refl known over left free own in
      let here = at.2 in
      subst (λ (w : ℕ). IsListed f past new w × IsListed f past new (partner f.events w)) here.3
      ((from at.0).1 at.1 here.0 here.1 here.2
      (subst (λ (w : ℕ). ShareLevel f reached_event w) (sym here.3) here.4))

  -- an output is not the input of one
  output_own : (x : ℕ) → is_output f.events x ≡ true
      → get_or firsts (line f.events e) 0 < length course → is_sent_as f reached_event x ≡ false
  output_own x o inside = false_from_ne_true _ (λ sent.
      let parts = and_parts _ _ sent in
      not_both f.events reached_event parts.0
      (sym (matched.other_kind reached_event (laid.known _ inside))
      ∙ ap (λ (w : ℕ). is_output f.events w) (eqb-true _ _ parts.1) ∙ o))

  rests_next : (x : ℕ) → x < length f.events → MayRest f past x → has new.rests.items x ≡ true
  rests_next x known may = by_test (is_over f e x)
      (λ over. (freed x known over may.free.left may.free.over
      (λ inside. false_from_ne_true _ (λ sent.
      let same : partner f.events x ≡ reached_event =
      ap (λ (w : ℕ). partner f.events w) (sym (eqb-true _ _ (and_parts _ _ sent).1))
      ∙ matched.to_and_fro reached_event (laid.known _ inside) in
      clash (and_from _ _ (subst (λ (w : ℕ). is_sent_as f w x ≡ true) (sym same) sent)
      (not_from_false _ (ap (λ (w : ℕ). occurs past w) same ∙ (reached.first inside).1)))
      may.sent))).0.rest may)
      (λ apart. by_test (lacks_output f before x)
      (λ lacked.
      let parts = and_parts (is_sent_as f (partner f.events x) x)
      (not (occurs before (partner f.events x))) lacked in
      let own : partner f.events x ≡ e = elim (cases_eq (partner f.events x) e) [
        | inl same ↦ same
        | inr off ↦ clash (and_from _ _ parts.0 (not_from_false _
            (new_or past before e is (partner f.events x) off ∙ not-true _ parts.1))) may.sent
      ] in
      let to : partner f.events e ≡ x =
      ap (λ (w : ℕ). partner f.events w) (sym own) ∙ matched.to_and_fro x known in
      (subst (λ (w : ℕ). IsListed f past new w) to other).rest may)
      (λ there. kept.rests x (left_other past before e is x may.free.left)
      ((listed x known).rest (record {
        free = free_before past before e is f x apart may.free;
        kind = may.kind;
        sent = there;
      }))))

  sends_next : (x : ℕ) → x < length f.events → MaySend f past x → has new.sends.items x ≡ true
  sends_next x known may = by_test (is_over f e x)
      (λ over. (freed x known over may.free.left may.free.over (output_own x may.kind)).0.send may)
      (λ apart. kept.sends x (left_other past before e is x may.free.left)
      ((listed x known).send (record {
        free = free_before past before e is f x apart may.free;
        kind = may.kind;
      })))

  -- an output whose input e was over
  level_freed : (x : ℕ) → x < length f.events → MayLevel f past x
      → is_over f e (partner f.events x) ≡ true → IsListed f past new x
  level_freed x known may over =
      let r = partner f.events x in
      let inside = matched.in_range x known in
      let sent : is_sent_as f x r ≡ true = sent_from f x r may.send.kind refl in
      let left : occurs past r ≡ false = false_from_ne_true _ (λ there.
      clash (taken_after f ranks past x r steps known sent there) may.send.free.left) in
      by_test (is_sent_as f reached_event r)
      (λ own.
      let above = and_parts _ _ (and_parts (is_above f e r) (not (is_sent_as f e r)) over).0 in
      let within = (first_least laid (line f.events e) behind reached r inside
      (sym (eqb-true _ _ above.0)) left).0 in
      let same : reached_event ≡ x =
      sym (matched.to_and_fro reached_event (laid.known _ within))
      ∙ ap (λ (w : ℕ). partner f.events w) (eqb-true _ _ (and_parts _ _ own).1)
      ∙ matched.to_and_fro x known in
      subst (λ (w : ℕ). IsListed f past new w) same (from within).0)
      (λ off.
      subst (λ (w : ℕ). IsListed f past new w) (matched.to_and_fro x known)
      (freed r inside over left may.taken (λ within. off)).1)

  levels_next : (x : ℕ) → x < length f.events → MayLevel f past x → has new.levels.items x ≡ true
  levels_next x known may = by_test (is_over f e x)
      (λ over. (freed x known over may.send.free.left may.send.free.over
      (output_own x may.send.kind)).0.level may)
      (λ apart. by_test (is_over f e (partner f.events x))
      (λ over. (level_freed x known may over).level may)
      (λ off. kept.levels x (left_other past before e is x may.send.free.left)
      ((listed x known).level (record {
        send = record { free = free_before past before e is f x apart may.send.free; kind = may.send.kind };
        taken = open_before past before e is f (partner f.events x) off may.taken;
      }))))

  -- so each event that may come next is listed
  pub all_listed : AreListed f past new
  all_listed x known = record {
    rest = rests_next x known;
    send = sends_next x known;
    level = levels_next x known;
  }
