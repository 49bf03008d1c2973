-- Pairs that stand within one another, and how marks tell of them.
use Rattle.std.proofs.Common.{◌≡◌, ℕ, ◌<◌, ◌≤◌, ◌⊎◌, Bool, true, ◌||◌, inl, inr, List, length, get_or, eqb, refl, sym, ap, ◌∙◌, subst, arith}
use Rattle.std.proofs.lemmas.Bool.{and_parts, and_from, cases_lt, eqb-true, eq-eqb, false_from_ne_true, not-true, not_from_false, or_cases, or_left, or_right}
use Rattle.msc_chart.specs.declared.event.ChartEvent.{ChartEvent}
use Rattle.msc_chart.specs.Charts.{line, segment, before, IsInTextOrder, IsSegmentEnd}
use Rattle.msc_chart.proofs.Drawn.{before_from, before_parts}
use Rattle.msc_chart.proofs.ListLemmas.{clash}
use Rattle.msc_order.proofs.Drawing.{before_later}
use Rattle.msc_reason.specs.Counting.{is_within}
use Rattle.msc_reason.specs.Marked.{AreMarks, IsLeastSecond}

-- what it is to stand within a pair, and to be another one
pub record Within (events : List ChartEvent) (p q : ℕ × ℕ) : Type 0 where
  pub first : (q.0 ≡ p.0) ⊎ (before events p.0 q.0 ≡ true)
  pub second : (q.1 ≡ p.1) ⊎ (before events q.1 p.1 ≡ true)
  pub other : q.0 ≡ p.0 → q.1 ≡ p.1 → ⊥

-- an equation, or a test
either : (x y : ℕ) (b : Bool) → (eqb x y || b) ≡ true → (x ≡ y) ⊎ (b ≡ true)
either x y b h = elim (or_cases (eqb x y) b h) [
  | inl same ↦ inl (eqb-true x y same)
  | inr passes ↦ inr passes
]

-- and back
either_from : (x y : ℕ) (b : Bool) → (x ≡ y) ⊎ (b ≡ true) → (eqb x y || b) ≡ true
either_from x y b (inl same) = or_left (eqb x y) b (eq-eqb x y same)
either_from x y b (inr passes) = or_right (eqb x y) b passes

-- the test says so
pub within_parts : (events : List ChartEvent) (p q : ℕ × ℕ) → is_within events p q ≡ true → Within events p q
unfolding is_within
within_parts events p q h =
    let all = and_parts _ _ h in
    let both = and_parts _ _ all.0 in
    record {
      first = either q.0 p.0 (before events p.0 q.0) both.0;
      second = either q.1 p.1 (before events q.1 p.1) both.1;
      other = λ one two. clash (and_from _ _ (eq-eqb q.0 p.0 one) (eq-eqb q.1 p.1 two)) (not-true _ all.1);
    }

-- and passes then
pub within_from : (events : List ChartEvent) (p q : ℕ × ℕ) → Within events p q → is_within events p q ≡ true
unfolding is_within
within_from events p q w =
    and_from _ _ (and_from _ _ (either_from q.0 p.0 (before events p.0 q.0) w.first) (either_from q.1 p.1 (before events q.1 p.1) w.second))
    (not_from_false _ (false_from_ne_true _ (λ h. let both = and_parts (eqb q.0 p.0) (eqb q.1 p.1) h in w.other (eqb-true q.0 p.0 both.0) (eqb-true q.1 p.1 both.1))))

-- nothing is drawn before itself
pub before_apart : (events : List ChartEvent) (x y : ℕ) → before events x y ≡ true → x ≡ y → ⊥
before_apart events x y h same = let p = before_parts events x y h in let level = ap (segment events) same in omega (arith, p.3, level)

module _ (events : List ChartEvent) (text : IsInTextOrder events) where
  -- of the events of a line a lower number is drawn before what a higher one is
  earlier : (x y z : ℕ) → x ≤ y → line events x ≡ line events z → before events y z ≡ true → before events x z ≡ true
  earlier x y z le same h =
      let p = before_parts events y z h in
      let up = text.rising x y le p.0 (same ∙ sym p.2) in
      before_from events x z (omega (arith, le, p.0)) p.1 same (omega (arith, up, p.3))

  -- and what is drawn before a lower number is drawn before a higher one
  later : (z y x : ℕ) → y ≤ x → x < length events → line events z ≡ line events x → before events z y ≡ true → before events z x ≡ true
  later z y x le known same h =
      let p = before_parts events z y h in
      let up = text.rising y x le known (sym p.2 ∙ same) in
      before_from events z x p.0 known same (omega (arith, p.3, up))

  module _ (test : ℕ → ℕ → Bool) (drawn : (x y : ℕ) → test x y ≡ true → before events x y ≡ true) (last least : List ℕ)
      (marks : AreMarks test (length events) last least) (e f first end : ℕ) (passes : test e f ≡ true)
      (ahead : IsLeastSecond test (length events) e first) (past : IsSegmentEnd events e end) where
    -- one that passes and stands within the pair
    abbrev Found : Type 0
    Found = (q : ℕ × ℕ) × (test q.0 q.1 ≡ true) × Within events (e, f) q

    -- one of the same first event that ends before
    pub found_first : before events first f ≡ true → Found
    found_first h =
        let p = before_parts events first f h in (
          (e, first),
          ahead.itself p.0,
          record { first = inl refl; second = inr h; other = λ one two. before_apart events first f h two },
        )

    -- one that begins later and ends before
    pub found_least : get_or least end 0 < length events → before events (get_or least end 0) f ≡ true → Found
    found_least some h =
        let x = marks.itself end past.within some in
        let p = before_parts events (get_or least end 0) f h in
        let over = before_parts events x.0 (get_or least end 0) (drawn x.0 (get_or least end 0) x.2) in
        let own = before_parts events e f (drawn e f passes) in
        let below = past.past x.0 x.1 over.0 (own.2 ∙ sym p.2 ∙ sym over.2) in (
          (x.0, get_or least end 0),
          x.2,
          record { first = inr below; second = inr h; other = λ one two. before_apart events (get_or least end 0) f h two },
        )

    -- one that begins later and ends in the same event
    pub found_last : before events e (get_or last f 0) ≡ true → Found
    found_last h =
        let end = marks.end e f passes in (
          (get_or last f 0, f),
          end.1,
          record { first = inr h; second = inl refl; other = λ one two. before_apart events e (get_or last f 0) h (sym one) },
        )

    -- one of these three is told of each
    pub told_by : Found → (before events first f ≡ true)
        ⊎ (((get_or least end 0 < length events) × (before events (get_or least end 0) f ≡ true)) ⊎ (before events e (get_or last f 0) ≡ true))
    told_by ((g, h), its, w) =
        let own = before_parts events e f (drawn e f passes) in
        let over = before_parts events g h (drawn g h its) in
        elim w.first [
          | inl same ↦ elim w.second [
            | inl level ↦ absurd (w.other same level)
            | inr higher ↦
                let here : test e h ≡ true = subst (λ (n : ℕ). test n h ≡ true) same its in
                let le = ahead.none_below h here in
                let known : first < length events = omega (arith, le, over.1) in
                let line = before_parts events e first (drawn e first (ahead.itself known)) in
                inl (earlier first h f le (sym line.2 ∙ own.2) higher)
          ]
          | inr lower ↦ elim w.second [
            | inl level ↦
                let here : test g f ≡ true = subst (λ (n : ℕ). test g n ≡ true) level its in
                let end = marks.end g f here in
                let line = before_parts events (get_or last f 0) f (drawn (get_or last f 0) f end.1) in
                inr (inr (later e g (get_or last f 0) end.0 line.0 (own.2 ∙ sym line.2) lower))
            | inr higher ↦
                let behind : end ≤ g = elim (cases_lt g end) [
                  | inl inside ↦
                      let after = before_later events text e g lower in
                      let level = past.together g (omega (arith, after)) inside in
                      let p = before_parts events e g lower in
                      absurd (omega (arith, level.1, p.3))
                  | inr out ↦ out
                ] in
                let le = marks.none_below end g h behind its in
                let known : get_or least end 0 < length events = omega (arith, le, over.1) in
                let x = marks.itself end past.within known in
                let p = before_parts events x.0 (get_or least end 0) (drawn x.0 (get_or least end 0) x.2) in
                let q = before_parts events h f higher in
                let up = text.lines e x.0 (let l = past.later in omega (arith, l, x.1)) p.0 in
                let down = text.lines (get_or least end 0) h le over.1 in
                inr (inl (known, earlier (get_or least end 0) h f le (omega (arith, up, down, p.2, q.2, own.2)) higher))
          ]
        ]
