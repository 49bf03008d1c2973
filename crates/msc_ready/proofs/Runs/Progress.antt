-- From a ready run, while an event of a set is left, an event of the set may come, or the input of the
-- first message of a queue in which one for an input of the set waits.
use Rattle.std.proofs.Common.{◌≡◌, ◌≢◌, ℕ, ◌<◌, ◌≤◌, Bool, true, false, ◌⊎◌, inl, inr, List, length, sym, ap, ◌∙◌, subst, arith}
use Rattle.std.proofs.lemmas.Bool.{cases_lt, false_from_ne_true}
use Rattle.std.proofs.Math.Nat.{le_refl}
use Rattle.msc_chart.specs.Lists.{occurs, until, IsFirst}
use Rattle.msc_chart.specs.Charts.{line, segment, partner, is_output, is_input, is_controlled, before}
use Rattle.msc_chart.specs.Orders.{WiredChart, IsWired, queue}
use Rattle.msc_chart.specs.Runs.{is_waiting, state}
use Rattle.msc_ready.specs.Readiness.{MayComeReady}
use Rattle.msc_chart.proofs.Drawn.{before_from}
use Rattle.msc_ready.proofs.Runs.Keeping.{HaveOneLine}
use Rattle.msc_ready.proofs.Shared.{by_test, clash, count_below, descend, first_occurs, before_first_fails, filter-first, is_left, left_from, left_parts, waiting_from, waiting_parts, before_parts, controlled_no_input, controlled_or_input, input_below, output_below, partner_of_input, partner_of_output, until_swapped}

-- What a set has to keep so that all of it can come: a test says what needs what; what is needed by an
-- event of the set is of the set; and nothing needs itself, over however many steps.
pub record CanCome (chart : WiredChart) (ready : ℕ → Bool) (inside : ℕ → Bool) (needs : ℕ → ℕ → Bool)
    (R : ℕ → ℕ → Type 0) : Type 0 where
  pub base : (x y : ℕ) → needs x y ≡ true → R x y
  pub trans : (x y z : ℕ) → R x y → R y z → R x z
  pub irreflexive : (x : ℕ) → x < length chart.events → R x x → ⊥
  pub known : (x y : ℕ) → needs x y ≡ true → x < length chart.events
  pub closed : (x y : ℕ) → needs x y ≡ true → inside y ≡ true → inside x ≡ true
  pub drawn : (x y : ℕ) → before chart.events x y ≡ true → is_controlled chart.events y ≡ true
      → needs x y ≡ true
  pub awaited : (x y : ℕ) → before chart.events x y ≡ true → is_input chart.events y ≡ true
      → ready (line chart.events y) ≡ true → needs x y ≡ true
  pub sent : (x : ℕ) → is_input chart.events x ≡ true → needs (partner chart.events x) x ≡ true

-- no input of the set on a ready line that is left, has its output stand behind that of an input of its
-- queue that is drawn below it
abbrev pub AreInTurn : WiredChart → (ℕ → Bool) → (ℕ → Bool) → List ℕ → Type 0
AreInTurn chart ready inside past =
    (x r : ℕ) → is_input chart.events x ≡ true → is_input chart.events r ≡ true
    → queue chart x ≡ queue chart r → before chart.events x r ≡ true → ready (line chart.events r) ≡ true
    → inside x ≡ true → occurs (until past (partner chart.events x)) (partner chart.events r) ≡ true → ⊥

module _ (chart : WiredChart) (is_wired : IsWired chart) (one_line : HaveOneLine chart) (ready : ℕ → Bool)
    (inside : ℕ → Bool) (needs : ℕ → ℕ → Bool) (R : ℕ → ℕ → Type 0)
    (can : CanCome chart ready inside needs R) (past : List ℕ) where
  -- r is an input of the set that is left while its message was sent
  pub record IsSentTo (r : ℕ) : Type 0 where
    pub input : is_input chart.events r ≡ true
    pub member : inside r ≡ true
    pub left : occurs past r ≡ false
    pub sent : occurs past (partner chart.events r) ≡ true

  -- x is the input of the first message of the queue of such an input
  pub record IsFirstFor (x r : ℕ) : Type 0 where
    pub input : is_input chart.events x ≡ true
    pub queues : queue chart x ≡ queue chart r
    pub left : occurs past x ≡ false
    pub for : IsSentTo r
    pub first : IsFirst (state chart (queue chart r) past) (partner chart.events x)

  -- x may come next; it is of the set or such an input, and a controlled one has all that it needs
  -- behind it
  pub record ComesNext (x : ℕ) : Type 0 where
    pub may : MayComeReady chart ready past x
    pub member : (inside x ≡ true) ⊎ ((r : ℕ) × IsFirstFor x r)
    pub served : is_controlled chart.events x ≡ true → (y : ℕ) → needs y x ≡ true → occurs past y ≡ true

  -- what is known of the first of the queue of an input whose output was sent
  record IsHead (r s : ℕ) : Type 0 where
    pub first : IsFirst (state chart (queue chart r) past) s
    pub output : is_output chart.events s ≡ true
    pub queues : queue chart s ≡ queue chart r
    pub there : occurs past s ≡ true
    pub out : occurs past (partner chart.events s) ≡ false
    pub input : is_input chart.events (partner chart.events s) ≡ true
    pub line : line chart.events (partner chart.events s) ≡ line chart.events r

  -- an input whose output was sent, and that is left, has such a first
  head : (r : ℕ) → is_input chart.events r ≡ true → occurs past r ≡ false
      → occurs past (partner chart.events r) ≡ true → (s : ℕ) × IsHead r s
  head r input new sent =
      let below = input_below chart.events r input in
      let s : ℕ = partner chart.events r in
      let q : ℕ = queue chart r in
      let o = partner_of_input chart.events is_wired.matched r input in
      let waits : is_waiting chart q past s ≡ true =
      waiting_from chart q past s o (is_wired.one_queue r below) (rw (is_wired.matched.to_and_fro r below) new) in
      let found = filter-first (is_waiting chart q past) past s sent waits in
      let first = first_occurs (is_waiting chart q past) past found.0 found.1 in
      let facts = waiting_parts chart q past found.0 first.1 in
      let s0_below = output_below chart.events found.0 facts.0 in
      let i0 = partner_of_output chart.events is_wired.matched found.0 facts.0 in (
        found.0,
        record {
          first = found.1;
          output = facts.0;
          queues = facts.1;
          there = first.0;
          out = facts.2;
          input = i0;
          line = one_line _ r i0 input (is_wired.one_queue found.0 s0_below ∙ facts.1);
        },
      )

  -- the input of such a first may come, where it has what it awaits behind it
  comes : (r s : ℕ) → IsSentTo r → IsHead r s
      → (ready (line chart.events r) ≡ true → (y : ℕ) → before chart.events y (partner chart.events s) ≡ true → occurs past y ≡ true)
      → ComesNext (partner chart.events s)
  comes r s to h served =
      let below = output_below chart.events s h.output in
      let queues : queue chart (partner chart.events s) ≡ queue chart r = is_wired.one_queue s below ∙ h.queues in
      let back : partner chart.events (partner chart.events s) ≡ s = is_wired.matched.to_and_fro s below in
      record {
        may = record {
          may = record {
            event = is_wired.matched.in_range s below;
            new = h.out;
            controlled = λ c. absurd (controlled_no_input chart.events _ c h.input);
            input = λ i. rw (queues, back) h.first;
          };
          awaited = λ i l. served (subst (λ (z : ℕ). ready z ≡ true) h.line l);
        };
        member = inr (
          r,
          record {
            input = h.input;
            queues = queues;
            left = h.out;
            for = to;
            first = rw back h.first;
          },
        );
        served = λ c. absurd (controlled_no_input chart.events _ c h.input);
      }

  -- an input x on a ready line, that has all that it needs behind it, may come, or the first of its
  -- queue may: its input shares the segment of x
  first_of : AreInTurn chart ready inside past → (x : ℕ) → is_input chart.events x ≡ true → inside x ≡ true
      → ready (line chart.events x) ≡ true → occurs past x ≡ false
      → ((y : ℕ) → needs y x ≡ true → occurs past y ≡ true) → (z : ℕ) × ComesNext z
  first_of turn x input member set new served =
      let below = input_below chart.events x input in
      let s : ℕ = partner chart.events x in
      let s_there = served s (can.sent x input) in
      let h = head x input new s_there in
      let s0 : ℕ = h.0 in
      let r0 : ℕ = partner chart.events s0 in
      let s0_below = output_below chart.events s0 h.1.output in
      let r0_below = is_wired.matched.in_range s0 s0_below in
      let back : partner chart.events r0 ≡ s0 = is_wired.matched.to_and_fro s0 s0_below in
      let queues : queue chart x ≡ queue chart r0 = sym (is_wired.one_queue s0 s0_below ∙ h.1.queues) in
      let behind : before chart.events x r0 ≡ true → ⊥ = λ drawn.
      let other : s0 ≢ s = λ same.
      before_differs_here x r0 drawn (sym (is_wired.matched.to_and_fro x below) ∙ ap (partner chart.events) (sym same)) in
      let q : ℕ = queue chart x in
      let waits : is_waiting chart q past s ≡ true =
      waiting_from chart q past s (partner_of_input chart.events is_wired.matched x input) (is_wired.one_queue x below) (rw (is_wired.matched.to_and_fro x below) new) in
      let not_before : occurs (until past s0) s ≡ false =
      false_from_ne_true _ (λ k. clash waits (before_first_fails (is_waiting chart q past) past s0 s h.1.first k)) in
      let early : occurs (until past s) s0 ≡ true = until_swapped past s s0 other h.1.there not_before in
      turn x r0 input h.1.input queues drawn (rw h.1.line set) member (rw back early) in
      let above : before chart.events r0 x ≡ true → ⊥ = λ drawn. clash (served r0 (can.awaited r0 x drawn input set)) h.1.out in (
        r0,
        comes x s0 (record { input = input; member = member; left = new; sent = s_there }) h.1 (λ again y drawn.
            let parts = before_parts chart.events y r0 drawn in
            let level : segment chart.events r0 ≤ segment chart.events x = not_below x r0 below r0_below (sym h.1.line) behind in
            let lines : line chart.events y ≡ line chart.events x = parts.2 ∙ h.1.line in
            let lower : segment chart.events y < segment chart.events r0 = parts.3 in
            let rises : segment chart.events y < segment chart.events x = omega arith in
            served y (can.awaited y x (before_from chart.events y x parts.0 below lines rises) input set)),
      )
    where
      -- what is drawn before an event is another one
      before_differs_here : (a b : ℕ) → before chart.events a b ≡ true → a ≢ b
      before_differs_here a b h same =
          let lower : segment chart.events a < segment chart.events b = (before_parts chart.events a b h).3 in
          let level : segment chart.events a ≡ segment chart.events b = ap (λ (z : ℕ). segment chart.events z) same in
          omega arith

      -- of two events of a line, where the first is not drawn before the second, the second is no deeper
      not_below : (a b : ℕ) → a < length chart.events → b < length chart.events → line chart.events a ≡ line chart.events b
          → (before chart.events a b ≡ true → ⊥) → segment chart.events b ≤ segment chart.events a
      not_below a b a_in b_in same none =
          elim (cases_lt (segment chart.events a) (segment chart.events b)) [
            | inl less ↦ absurd (none (before_from chart.events a b a_in b_in same less))
            | inr more ↦ more
          ]

  -- While an event of the set is left, something comes next.
  pub progress : AreInTurn chart ready inside past → (g : ℕ) → g < length chart.events → inside g ≡ true
      → occurs past g ≡ false → (x : ℕ) × ComesNext x
  progress turn g below member new =
      let fuel : ℕ = count_below (is_left inside past) (length chart.events) in
      let d = descend (length chart.events) needs R can.base can.trans can.irreflexive fuel (is_left inside past) (le_refl fuel) g below (left_from inside past g member new) in
      let x : ℕ = d.0 in
      let x_left = left_parts inside past x d.2 in
      let served : (y : ℕ) → needs y x ≡ true → occurs past y ≡ true = λ y need. by_test (occurs past y) (λ there. there)
      (λ out. clash need (d.4 y (can.known y x need) (left_from inside past y (can.closed y x need x_left.0) out))) in
      elim (controlled_or_input chart.events x d.1) [
        | inl c ↦ (
          x,
          record {
            may = record {
              may = record {
                event = d.1;
                new = x_left.1;
                controlled = λ again y drawn. served y (can.drawn y x drawn c);
                input = λ i. absurd (controlled_no_input chart.events x c i);
              };
              awaited = λ i. absurd (controlled_no_input chart.events x c i);
            };
            member = inl x_left.0;
            served = λ again. served;
          },
        )
        | inr i ↦ by_test (ready (line chart.events x))
            (λ set. first_of turn x i x_left.0 set x_left.1 served)
            (λ loose.
            let there = served (partner chart.events x) (can.sent x i) in
            let h = head x i x_left.1 there in
            let to : IsSentTo x = record { input = i; member = x_left.0; left = x_left.1; sent = there } in
            (partner chart.events h.0, comes x h.0 to h.1 (λ set. clash set loose)))
      ]
