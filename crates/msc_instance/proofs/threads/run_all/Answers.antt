use Rattle.std.proofs.Common.{arith, refl, inl, inr}
use Rattle.std.proofs.lemmas.List.{nil_from_length}
use Rattle.std.proofs.lemmas.List.Sorted.{All-permutation}
use Rattle.msc_instance.specs.Threads.{IsReady, rule}
use Rattle.msc_instance.proofs.Answered.{all_run, few_answers, if_err, if_ok, refused_is_known}
use Rattle.msc_instance.proofs.threads.run_all.Goals as goal

pub all_left-requires-clause-room : goal.all_left-requires-clause-room
all_left-requires-clause-room g c =
    let few = few_answers c.args.chart.now (rule g.G.Gate.is_open (g.G.Gate.lets c.args.gate.now)) c.args.patience c.reverse.new.self.items
    c.in_scope-answers.result c.in_scope-answers.ensures.answered in
    omega (arith, few, c.reverse.ensures.len, c.requires.room.1)

pub returns-in-Some-clause-refused : goal.returns-in-Some-clause-refused
returns-in-Some-clause-refused g c = (
  c.in_scope-answers.result,
  (rw c.reverse.ensures.items at c.in_scope-answers.ensures.answered),
  inl (c.pop.new.self.items, c.in-Some.first, c.in-Some.ensures.items, refl),
)

pub returns-in-Some-clause-known : goal.returns-in-Some-clause-known
returns-in-Some-clause-known g c =
    refused_is_known c.args.chart.now (rule g.G.Gate.is_open (g.G.Gate.lets c.args.gate.now)) c.args.patience c.reverse.new.self.items
    c.in_scope-answers.result _
    (All-permutation (IsReady c.args.chart.now) _ _ c.reverse.ensures.permutation c.requires.jobs) c.in_scope-answers.ensures.answered
    (inl (c.pop.new.self.items, c.in-Some.first, c.in-Some.ensures.items, refl))

pub returns-in-None-clause-runs : goal.returns-in-None-clause-runs
returns-in-None-clause-runs g c =
    let none = nil_from_length c.in_scope-answers.result.unstarted.items (omega (arith, c.in-None.ensures.cases.0)) in
    if_ok _ _ c.all_left.result
    (λ ran left. all_run c.args.chart.now (rule g.G.Gate.is_open (g.G.Gate.lets c.args.gate.now)) c.args.patience c.args.jobs.items
    c.reverse.new.self.items ran.items c.in_scope-answers.result c.reverse.ensures.items
    c.in_scope-answers.ensures.answered none left)
    c.all_left.ensures.left

pub returns-in-None-clause-refused : goal.returns-in-None-clause-refused
returns-in-None-clause-refused g c =
    let none = nil_from_length c.in_scope-answers.result.unstarted.items (omega (arith, c.in-None.ensures.cases.0)) in
    if_err _ _ c.all_left.result
    (λ i told. (
      c.in_scope-answers.result,
      (rw c.reverse.ensures.items at c.in_scope-answers.ensures.answered),
      inr (none, told),
    ))
    c.all_left.ensures.told

pub returns-in-None-clause-known : goal.returns-in-None-clause-known
returns-in-None-clause-known g c =
    let none = nil_from_length c.in_scope-answers.result.unstarted.items (omega (arith, c.in-None.ensures.cases.0)) in
    if_err _ _ c.all_left.result
    (λ i told. refused_is_known c.args.chart.now (rule g.G.Gate.is_open (g.G.Gate.lets c.args.gate.now)) c.args.patience c.reverse.new.self.items
    c.in_scope-answers.result i
    (All-permutation (IsReady c.args.chart.now) _ _ c.reverse.ensures.permutation c.requires.jobs) c.in_scope-answers.ensures.answered (inr (none, told)))
    c.all_left.ensures.told
