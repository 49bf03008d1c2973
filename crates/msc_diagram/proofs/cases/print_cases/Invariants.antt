use Rattle.std.proofs.Common.{◌≤◌, take}
use Rattle.msc_diagram.specs.Telling.{PutsCases}
use Rattle.msc_diagram.proofs.cases.print_cases.Given as goal

-- the scenarios so far are put
abbrev pub invariant-loop-i : goal.invariant-loop-i
invariant-loop-i g l = record {
  few : l.passed ≤ l.i;
  put : PutsCases l.asked (take l.i (g.S.Source.scenarios l.scenarios)) l.fn.reported l.reported (g.W.Write.contents l.fn.writer) (g.W.Write.contents l.writer)
      l.fn.page.bytes.items l.page.bytes.items l.passed;
}
