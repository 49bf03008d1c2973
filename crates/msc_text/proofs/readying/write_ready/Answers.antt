use Rattle.std.proofs.Common.{ℕ, List, Option, ◌++◌, ◌&&◌, is_some, sym, ap, ap₂, ◌∙◌, subst, length}
use Rattle.std.specs.Option.{option_copied}
use Rattle.std.proofs.lemmas.Result.{IfOk-weaker}
use Rattle.msc_chart.specs.Drawings.{Drawing}
use Rattle.msc_text.specs.StickFormats.{closing_in, runs_in}
use Rattle.msc_text.specs.Readied.{between_number, IsAgainText}
use Rattle.msc_text.specs.Readying.{finishes, is_none_of, left_text, more_after, readiness_of, ready_text, rest_in, PrintsReady}
use Rattle.msc_text.proofs.Readied.{known_so, prints, rounds_unrolled, tells}
use Rattle.msc_text.specs.declared.readying.StickTable.{StickTable}
use Rattle.msc_text.proofs.readying.write_ready.Goals as goal

pub round_facts-requires : goal.round_facts-requires
round_facts-requires g c =
    rounds_unrolled c.args.chart.now c.args.query.queues (option_copied c.args.query.only) c.in_ok-two.two
    (c.in_ok-two.ensures.rounds c.args.chart.now c.requires.rounds)

pub write_by-requires : goal.write_by-requires
write_by-requires g c =
    let its = c.in_ok-one.ensures in record {
      lines = λ l is. c.requires.lines l is ∙ ap (λ (d : Drawing). length d.instances) (sym its.of.chart);
      ahead = its.ahead;
      texts = rw its.of.chart c.in_ok-texts.ensures;
      two = rw c.as_ref-both.ensures.value (rounds_unrolled c.args.chart.now c.args.query.queues (option_copied c.args.query.only) c.in_ok-two.two
          (c.in_ok-two.ensures.rounds c.args.chart.now c.requires.rounds));
      count = c.count.ensures.number;
    }

pub returns : goal.returns
returns g c =
    let d = c.args.chart.now in
    let query = c.args.query in
    let only = option_copied query.only in
    let shown : ℕ = runs_in query.format query.show in
    let table = c.in_ok-one.one in
    let r = table.blocked_pairs in
    let two = c.in_ok-two.two in
    let accepted = rw c.ready-ready.ensures at c.facts-2.ensures.chart in
    let visual = rw c.ready-ready.ensures at c.facts-2.ensures.order in
    let may = rw c.ready-ready.ensures at c.in_ok-may.ensures in
    let k = known_so r accepted c.each_first_blocked_pair_has_one_run.ensures.exists c.races_left_are_told.ensures c.in_ok-may.may may table.ahead.items c.in_ok-one.ensures.ahead.ahead in
    let again = c.round_facts.ensures query.queues only (c.in_ok-two.ensures.rounds d c.requires.rounds) (more_after r shown k.0) query.format in
    let between = between_number d two in
    let right = finishes r only k.0 && is_none_of between in
    let closing : List ℕ = closing_in query.format (readiness_of r only k.0 between) in
    let text : List ℕ = ready_text query.format r only shown k.0 ++ (rest_in query.format (left_text query.format r only k.0) again.0 ++ closing) in
    let behind = rw c.in_ok-two.ensures.some at again.2 in
    tells g.W.Write.contents (PrintsReady d query.queues only (is_some c.args.rounds) query.show query.format) c.write_by.result c.args.writer.now c.write_by.new.writer right text
    (prints d query.queues only (is_some c.args.rounds) query.show query.format r k.0 c.in_ok-one.ensures.of accepted visual c.facts.ensures k.1 between again.0 behind)
    (IfOk-weaker c.write_by.result _ _ (λ a is. rw c.as_ref-both.ensures.value at (is k.0 k.1)) c.write_by.ensures.answer)
    (c.write_by.ensures.written text (record {
      known = k.0;
      is = k.1;
      ahead = k.2;
      may = k.3;
      behind = again.0;
      again = rw c.as_ref-both.ensures.value (subst (λ (n : ℕ). IsAgainText query.format d two (more_after r n k.0) again.0) (sym c.runs_shown-show.ensures) again.1);
      same = ap₂ (λ (n : ℕ) (t : Option StickTable). ready_text query.format r only n k.0
          ++ (rest_in query.format (left_text query.format r only k.0) again.0 ++ closing_in query.format (readiness_of r only k.0 (between_number d t))))
          (sym c.runs_shown-show.ensures) (sym c.as_ref-both.ensures.value);
    }))
