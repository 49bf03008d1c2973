use Rattle.msc_diagram.proofs.Seen.{seen_counts, seen_stale, seen_tally}
use Rattle.msc_diagram.proofs.counting.answer_of.Goals as goal

pub returns : goal.returns
returns g c =
    let s = c.in_ok-see_cases.ensures in let none = c.in_ok-answer.ensures in
    let scenarios = g.S.Source.scenarios c.args.scenarios.now in
    let old = c.in_ok-answer.answer in let new = c.see_cases.new.answer in
    let q = c.args.check in let tallies = c.args.tallies in
    record {
      cases = s.cases;
      are = s.are;
      counts = seen_counts scenarios q tallies old new s none.all none.named none.counting none.listed;
      stale = seen_stale scenarios q tallies old new s none.idle;
      counted = seen_tally scenarios q tallies old new s none.tally;
    }
