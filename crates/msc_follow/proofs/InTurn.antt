-- The following run is the finishing run of a chart whose lines are all ready.
use Rattle.std.proofs.Common.{◌≡◌, ℕ, true, inl, inr, List, [], refl, sym, ◌∙◌, subst}
use Rattle.msc_chart.specs.Charts.{partner, is_input}
use Rattle.msc_chart.specs.Lists.{occurs, IsLeast, Steps}
use Rattle.msc_chart.specs.Orders.{WiredChart, IsWired, queue}
use Rattle.msc_chart.specs.Precedence.{all_ready}
use Rattle.msc_chart.specs.Runs.{is_waiting}
use Rattle.msc_follow.specs.Following.{MayFollow}
use Rattle.msc_follow.specs.Paths.{HasNoClosedPath}
use Rattle.msc_follow.specs.Steps.{leads}
use Rattle.msc_ready.specs.Finishing.{HasNoWholeRing, IsFinishingRun, MayComeInTurn}
use Rattle.msc_follow.proofs.Shared.{Steps-map, before_parts, controlled_or_input, first_occurs, output_below, partner_of_output}
use Rattle.msc_follow.proofs.Steps.{ahead_parts, drawn_leads, leads_cases, sent_parts, turn_leads, whole_path}

module _ (chart : WiredChart) (is_wired : IsWired chart) where
  -- what may come in turn may follow: each step to it is from an event that has come
  in_turn_follows : (past : List ℕ) (x : ℕ) → MayComeInTurn chart all_ready past x → MayFollow chart past x
  in_turn_follows past x comes = record {
    may = comes.may.may;
    awaited = λ y h. elim (leads_cases chart y x h) [
      | inl s ↦
          let p = sent_parts chart y x s in
          let input : is_input chart.events x ≡ true = subst (λ (z : ℕ). is_input chart.events z ≡ true) p.1 (partner_of_output chart.events is_wired.matched y p.0) in
          let first = comes.may.may.input input in
          let there = (first_occurs (is_waiting chart (queue chart x) past) past (partner chart.events x) first).0 in
          let back : partner chart.events x ≡ y = subst (λ (z : ℕ). partner chart.events z ≡ y) p.1 (is_wired.matched.to_and_fro y (output_below chart.events y p.0)) in
          subst (λ (z : ℕ). occurs past z ≡ true) back there
      | inr other ↦ elim other [
        | inl b ↦ elim (controlled_or_input chart.events x (before_parts chart.events y x b).1) [
          | inl c ↦ comes.may.may.controlled c y b
          | inr i ↦ comes.may.awaited i refl y b
        ]
        | inr a ↦
            let p = ahead_parts chart y x a in
            let y_below = output_below chart.events y p.first in
            let x_below = output_below chart.events x p.second in
            let found = comes.turn (partner chart.events y) (partner chart.events x)
            (partner_of_output chart.events is_wired.matched y p.first) (partner_of_output chart.events is_wired.matched x p.second)
            (is_wired.one_queue y y_below ∙ p.one_queue ∙ sym (is_wired.one_queue x x_below)) p.inputs refl
            (is_wired.matched.to_and_fro x x_below) in
            subst (λ (z : ℕ). occurs past z ≡ true) (is_wired.matched.to_and_fro y y_below) found
      ]
    ];
  }

  -- and what may follow may come in turn
  follows_in_turn : (past : List ℕ) (x : ℕ) → MayFollow chart past x → MayComeInTurn chart all_ready past x
  follows_in_turn past x follows = record {
    may = record { may = follows.may; awaited = λ i set y b. follows.awaited y (drawn_leads chart y x b) };
    turn = λ r u ir iu same b set is.
        follows.awaited (partner chart.events r)
        (subst (λ (z : ℕ). leads chart (partner chart.events r) z ≡ true) is (turn_leads chart is_wired r u ir iu same b));
  }

  -- so the least are the same
  least_follows : (past : List ℕ) (x : ℕ) → IsLeast (MayComeInTurn chart all_ready past) x → IsLeast (MayFollow chart past) x
  least_follows past x least = record {
    itself = in_turn_follows past x least.itself;
    none_below = λ y less follows. least.none_below y less (follows_in_turn past y follows);
  }

  pub finishing_follows : (run : List ℕ) → IsFinishingRun chart all_ready run → Steps (λ past. IsLeast (MayFollow chart past)) [] run
  finishing_follows run finishing = Steps-map (λ past. IsLeast (MayComeInTurn chart all_ready past)) (λ past. IsLeast (MayFollow chart past)) least_follows [] run finishing.least

  -- without a path back to its start the whole order has no ring
  pub no_whole_ring : HasNoClosedPath (leads chart) → HasNoWholeRing chart all_ready
  no_whole_ring none e h = none e (whole_path chart is_wired e e h)
