use Rattle.std.proofs.Common.{◌++◌, ◌∷◌, [], ℕ, List, ap, sym, ◌∙◌, arith}
use Rattle.std.proofs.lemmas.Bool.{false_from_ne_true}
use Rattle.std.proofs.lemmas.List.{append-nil, append_assoc}
use Rattle.msc_chart.specs.Lists.{pairs_to}
use Rattle.msc_race.proofs.Listing.Pairs.{pairs_more, pairs_none, pairs_skip}
use Rattle.msc_ready.proofs.Shared.{clash}
use Rattle.msc_ready.proofs.ready.Ready.push_left.Goals as goal
use Rattle.msc_ready.proofs.ready.Ready.push_left.Goals.{then-is_race_left+in_ok-push, else-is_race_left}

pub loop-f-init : goal.loop-f-init
loop-f-init c left told =
    sym (ap (λ (l : List (ℕ × ℕ)). c.args.list.now.items ++ l) (pairs_none left c.args.e) ∙ append-nil c.args.list.now.items)

pub loop-f-preserved : goal.loop-f-preserved
loop-f-preserved c left told =
    let e : ℕ = c.args.e in
    let f : ℕ = c.loop-f.f in
    let before = c.loop-f.invariant left told in
    elim c.if-is_race_left.branch [
      | then-is_race_left+in_ok-push w ↦
          let more = pairs_more left e f ((told e f).1 (c.is_race_left.ensures.0 w.if-is_race_left.true)) in
          rw w.list-is (w.in_ok-push.ensures.items ∙ ap (λ (l : List (ℕ × ℕ)). l ++ (e, f) ∷ []) before
          ∙ append_assoc c.args.list.now.items (pairs_to left e f) ((e, f) ∷ [])
          ∙ ap (λ (l : List (ℕ × ℕ)). c.args.list.now.items ++ l) (sym more))
      | else-is_race_left w ↦
          let out = false_from_ne_true _ (λ h. clash (c.is_race_left.ensures.1 ((told e f).0 h)) w.if-is_race_left.false) in
          rw w.list-is (before ∙ ap (λ (l : List (ℕ × ℕ)). c.args.list.now.items ++ l) (sym (pairs_skip left e f out)))
    ]

pub returns : goal.returns
returns c left told =
    let last = c.loop-f-test.false in
    let auto = c.loop-f.auto in
    let all = c.events-f-end.ensures in
    c.loop-f.invariant left told ∙ ap (λ (n : ℕ). c.args.list.now.items ++ pairs_to left c.args.e n) (omega arith)
