-- Whether all events over an event are drawn, told by the first two events of its line that are left.
use Rattle.std.proofs.Common.{◌≡◌, ℕ, ◌<◌, ◌≤◌, Bool, true, false, not, List, length, get_or, ◌↔◌, IsTrue, inl, inr, sym, ap, subst, ◌∙◌, refl, arith}
use Rattle.std.proofs.lemmas.Bool.{cases_lt, cases_eq, and_parts, and_from, eqb-true, eq-eqb, ltb-true, lt-ltb, not_from_false, not-true}
use Rattle.std.proofs.lemmas.Grind.{get_or_default_zero}
use Rattle.msc_chart.specs.Charts.{line, partner, IsMatched}
use Rattle.msc_chart.specs.Lists.{occurs}
use Rattle.msc_chart.proofs.ListLemmas.{by_test, clash}
use Rattle.msc_picture.specs.Frames.{Frame, level, is_above, is_sent_as}
use Rattle.msc_picture.specs.Courses.{event_at, IsCourse, IsBehind, AreBehind, IsReached, IsFirstOther, IsOpen}

module _ {f : Frame} {course past firsts seconds : List ℕ} (laid : IsCourse f course) (i : ℕ)
    (behind : IsBehind f course past firsts seconds i)
    (reached : IsReached f course past firsts seconds i) where
  -- the first place of the line, and the second one
  abbrev first : ℕ
  first = get_or firsts i 0

  abbrev second : ℕ
  second = get_or seconds i 0

  -- an event of the line that is left stands at the first place or behind it
  pub stands_from : (x : ℕ) → x < length f.events → line f.events x ≡ i → occurs past x ≡ false
      → (q : ℕ) × (q < length course) × (event_at course q ≡ x) × (first ≤ q)
  stands_from x known on new =
      let at = laid.all x known in (
        at.0,
        at.1,
        at.2,
        elim (cases_lt at.0 first) [
          | inl before ↦
              clash (subst (λ (w : ℕ). occurs past w ≡ true) at.2
              (behind.first at.0 (omega arith) before
              (ap (λ (w : ℕ). line f.events w) at.2 ∙ on))) new
          | inr after ↦ after
        ],
      )

  -- the level at a place of the line is no greater than that at a later one
  level_rises : (p q : ℕ) → p ≤ q → q < length course → line f.events (event_at course p) ≡ i
      → line f.events (event_at course q) ≡ i
      → level f (event_at course p) ≤ level f (event_at course q)
  level_rises p q low high on_p on_q = elim (cases_eq p q) [
    | inl same ↦ subst (λ (w : ℕ). level f (event_at course p) ≤ level f (event_at course w)) same
        (omega arith)
    | inr apart ↦ laid.rising p q (omega (arith, low, apart)) high (on_p ∙ sym on_q)
  ]

  -- so the first one is on the least level of those that are left
  pub first_least : (x : ℕ) → x < length f.events → line f.events x ≡ i → occurs past x ≡ false
      → (first < length course) × (level f (event_at course first) ≤ level f x)
  first_least x known on new =
      let at = stands_from x known on new in
      let inside : first < length course = omega (arith, at.1, at.3) in (
        inside,
        subst (λ (w : ℕ). level f (event_at course first) ≤ level f w) at.2
            (level_rises first at.0 at.3 at.1 (reached.first inside).0
            (ap (λ (w : ℕ). line f.events w) at.2 ∙ on)),
      )

  module _ (e : ℕ) (line_e : i ≡ line f.events e) where
    -- where the first is not the output of e
    pub first_other : (first < length course → is_sent_as f (event_at course first) e ≡ false)
        → IsFirstOther f course past e first
    first_other other = record {
      least = λ x known on new apart. first_least x known (on ∙ sym line_e) new;
      line = λ inside. (reached.first inside).0 ∙ line_e;
      left = λ inside. (reached.first inside).1;
      other = other;
    }

    -- and where it is
    pub second_other : IsMatched f.events → first < length course
        → is_sent_as f (event_at course first) e ≡ true → IsFirstOther f course past e second
    second_other matched inside own = record {
      least = λ x known on new apart.
          let at = stands_from x known (on ∙ sym line_e) new in
          let off : first ≡ at.0 → ⊥ = λ same.
          clash (subst (λ (w : ℕ). is_sent_as f w e ≡ true)
          (ap (λ (w : ℕ). event_at course w) same ∙ at.2) own) apart in
          let late : second ≤ at.0 = elim (cases_lt at.0 second) [
            | inl before ↦
                clash (subst (λ (w : ℕ). occurs past w ≡ true) at.2
                (behind.second at.0 (omega (arith, at.3, off)) before
                (ap (λ (w : ℕ). line f.events w) at.2 ∙ on ∙ sym line_e))) new
            | inr after ↦ after
          ] in
          let within : second < length course = omega (arith, late, at.1) in (
            within,
            subst (λ (w : ℕ). level f (event_at course second) ≤ level f w) at.2
                (level_rises second at.0 late at.1 (reached.second within).0
                (ap (λ (w : ℕ). line f.events w) at.2 ∙ on ∙ sym line_e)),
          );
      line = λ within. (reached.second within).0 ∙ line_e;
      left = λ within. (reached.second within).1;
      other = λ within. by_test (is_sent_as f (event_at course second) e)
          (λ too.
          let one = eqb-true _ _ (and_parts _ _ own).1 in
          let two = eqb-true _ _ (and_parts _ _ too).1 in
          absurd (laid.once first second (reached.apart inside) within
          (sym (matched.to_and_fro (event_at course first) (laid.known first inside))
          ∙ ap (λ (w : ℕ). partner f.events w) (one ∙ sym two)
          ∙ matched.to_and_fro (event_at course second) (laid.known second within))))
          (λ no. no);
    }

-- a place of a line, as it was read
place_read : (places : List ℕ) (i line place : ℕ) → i < length places → line ≡ i
    → place ≡ get_or places line place → place ≡ get_or places i 0
place_read places i line place below same is =
    is ∙ get_or_default_zero places line place (omega (arith, below, same))
    ∙ ap (λ (w : ℕ). get_or places w 0) same

module _ {f : Frame} {course past firsts seconds : List ℕ} {lines : ℕ} (laid : IsCourse f course)
    (behind : AreBehind f course past firsts seconds lines)
    (reached : (i : ℕ) → i < lines → IsReached f course past firsts seconds i)
    (e line_e : ℕ) (known : e < length f.events) (same : line_e ≡ line f.events e) where
  -- the first place of the line of e, where it is not that of its output
  pub first_other_read : (p : ℕ) → p ≡ get_or firsts line_e p
      → (p < length course → is_sent_as f (event_at course p) e ≡ false)
      → IsFirstOther f course past e p
  first_other_read p is other =
      let below = behind.on_line e known in
      let at : p ≡ get_or firsts (line f.events e) 0 =
      place_read firsts _ line_e p (omega (arith, below, behind.firsts_long)) same is in
      subst (λ (w : ℕ). IsFirstOther f course past e w) (sym at)
      (first_other laid (line f.events e) (behind.behind _ below) (reached _ below) e refl
      (subst (λ (w : ℕ). w < length course → is_sent_as f (event_at course w) e ≡ false) at other))

  -- and the second one, where it is
  pub second_other_read : IsMatched f.events → (p q : ℕ) → p ≡ get_or firsts line_e p
      → q ≡ get_or seconds line_e q → p < length course
      → is_sent_as f (event_at course p) e ≡ true → IsFirstOther f course past e q
  second_other_read matched p q is then inside own =
      let below = behind.on_line e known in
      let at : p ≡ get_or firsts (line f.events e) 0 =
      place_read firsts _ line_e p (omega (arith, below, behind.firsts_long)) same is in
      let behind_it : q ≡ get_or seconds (line f.events e) 0 =
      place_read seconds _ line_e q (omega (arith, below, behind.seconds_long)) same then in
      subst (λ (w : ℕ). IsFirstOther f course past e w) (sym behind_it)
      (second_other laid (line f.events e) (behind.behind _ below) (reached _ below) e refl matched
      (subst (λ (w : ℕ). w < length course) at inside)
      (subst (λ (w : ℕ). is_sent_as f (event_at course w) e ≡ true) at own))

module _ {f : Frame} {course past : List ℕ} (laid : IsCourse f course) (e p : ℕ)
    (h : IsFirstOther f course past e p) where
  -- no event is over e that is left where that one is not above e
  pub open_at : (above : p < length course → is_above f (event_at course p) e ≡ false)
      → IsOpen f past e
  open_at above x known over = by_test (occurs past x) (λ old. old) (λ new.
      let both = and_parts (is_above f x e) (not (is_sent_as f x e)) over in
      let parts = and_parts _ _ both.0 in
      let least = h.least x known (eqb-true _ _ parts.0) new (not-true _ both.1) in
      let less = ltb-true _ _ parts.1 in
      clash (and_from _ _ (eq-eqb _ _ (h.line least.0))
      (lt-ltb _ _ (omega (arith, least.1, less)))) (above least.0))

  -- and some is where it is
  pub open_not : p < length course → is_above f (event_at course p) e ≡ true → IsOpen f past e → ⊥
  open_not inside above free =
      clash (free (event_at course p) (laid.known p inside)
      (and_from _ _ above (not_from_false _ (h.other inside)))) (h.left inside)

  -- so that is the test, as it was read
  pub open_when : (x : ℕ) (above : Bool) → p < length course → x ≡ get_or course p x
      → above ≡ is_above f x e → IsTrue (not above) ↔ IsOpen f past e
  open_when x above inside read is =
      let at : x ≡ event_at course p = read ∙ get_or_default_zero course p x inside in
      let tells : above ≡ is_above f (event_at course p) e =
      is ∙ ap (λ (w : ℕ). is_above f w e) at in (
        λ no. open_at (λ within. sym tells ∙ not-true _ no),
        λ free. by_test above (λ yes. absurd (open_not inside (sym tells ∙ yes) free))
            (λ no. not_from_false _ no),
      )
