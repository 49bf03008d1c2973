use Rattle.std.proofs.Common.{◌++◌, ◌∷◌, [], ℕ, List, ap, sym, ◌∙◌, arith}
use Rattle.std.proofs.lemmas.List.{append-nil, append_assoc}
use Rattle.msc_chart.specs.Lists.{pairs_to}
use Rattle.msc_race.proofs.Listing.Pairs.{pairs_more, pairs_skip}
use Rattle.msc_ready.proofs.Listing.{test, none_of, none_up_to, none_past}
use Rattle.msc_ready.proofs.ready.Ready.push_blocked_pairs.Goals as goal
use Rattle.msc_ready.proofs.ready.Ready.push_blocked_pairs.Goals.{then-is_blocked_pair+in_ok-push, else-is_blocked_pair}

pub returns-then-not-is_input : goal.returns-then-not-is_input
returns-then-not-is_input c =
    let none = none_of c.args.self.now c.args.e (sym c.is_input.ensures ∙ c.if-not-is_input.true) in
    sym (ap (λ (l : List (ℕ × ℕ)). c.args.list.now.items ++ l) none ∙ append-nil c.args.list.now.items)

pub loop-f-init : goal.loop-f-init
loop-f-init c =
    let none = none_up_to c.args.self.now c.facts.ensures.chart.in_text_order c.args.e in
    sym (ap (λ (l : List (ℕ × ℕ)). c.args.list.now.items ++ l) none ∙ append-nil c.args.list.now.items)

pub loop-f-preserved : goal.loop-f-preserved
loop-f-preserved c =
    let self = c.args.self.now in
    let e : ℕ = c.args.e in
    let f : ℕ = c.loop-f.f in
    elim c.if-is_blocked_pair.branch [
      | then-is_blocked_pair+in_ok-push w ↦
          let more = pairs_more (test self) e f (sym c.is_blocked_pair.ensures.value ∙ w.if-is_blocked_pair.true) in
          rw w.list-is (w.in_ok-push.ensures.items ∙ ap (λ (l : List (ℕ × ℕ)). l ++ (e, f) ∷ []) c.loop-f.invariant
          ∙ append_assoc c.args.list.now.items (pairs_to (test self) e f) ((e, f) ∷ [])
          ∙ ap (λ (l : List (ℕ × ℕ)). c.args.list.now.items ++ l) (sym more))
      | else-is_blocked_pair w ↦
          let same = pairs_skip (test self) e f (sym c.is_blocked_pair.ensures.value ∙ w.if-is_blocked_pair.false) in
          rw w.list-is (c.loop-f.invariant ∙ ap (λ (l : List (ℕ × ℕ)). c.args.list.now.items ++ l) (sym same))
    ]

pub returns : goal.returns
returns c =
    let self = c.args.self.now in
    let ends = rw c.chart.ensures at c.line_end-end.ensures in
    let past = none_past self c.facts.ensures.chart.in_text_order c.args.e c.line_end-end.result ends in
    let last = c.loop-f-test.false in
    let auto = c.loop-f.auto in
    let later = ends.later in
    c.loop-f.invariant ∙ ap (λ (n : ℕ). c.args.list.now.items ++ pairs_to (test self) c.args.e n) (omega arith)
    ∙ ap (λ (l : List (ℕ × ℕ)). c.args.list.now.items ++ l) (sym past)
