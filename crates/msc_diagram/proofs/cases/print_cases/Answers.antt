use Rattle.std.proofs.Common.{◌≡◌, ℕ, ◌+◌, ◌<◌, Bool, cond, nat_eq, [], get_or, length, refl, Err, Some, ◌∙◌, ap, subst, sym, eq-eqb, arith}
use Rattle.std.proofs.lemmas.Option.{get_or_from_slice_get}
use Rattle.std.proofs.lemmas.Bool.{ne_eqb}
use Rattle.std.proofs.lemmas.List.{append-nil}
use Rattle.msc_print.proofs.Putting.{pages_in}
use Rattle.std.proofs.lemmas.Result.{err_from_is_err_and}
use Rattle.msc_diagram.proofs.Growing.{cases_grow, cases_stop}
use Rattle.msc_diagram.specs.Telling.{PutsCase, TellsCase}
use Rattle.msc_diagram.specs.declared.scenario.Scenario.{Scenario}
use Rattle.msc_diagram.proofs.cases.print_cases.Goals as goal
use Rattle.msc_diagram.proofs.cases.print_cases.Goals.{then-counting-eq0, else-counting-eq0}

pub returns-in_err-counting : goal.returns-in_err-counting
returns-in_err-counting g c =
    let exit = err_from_is_err_and c.from_residual-in_err-counting.result c.from_residual-in_err-counting.ensures.1 in
    let i = c.loop-i.i in
    let scenarios = g.S.Source.scenarios c.args.scenarios.now in
    let scenario = c.get.result.now in
    let within : i < length scenarios = subst (λ n. i < n) c.len-i-end.ensures c.loop-i-test.true in
    let its : scenario ≡ get_or scenarios i scenario = sym (get_or_from_slice_get scenarios i scenario scenario (c.in_ok-scenario.ensures ∙ ap Some (sym c.get.ensures))) in
    let mid = g.W.Write.contents c.loop-i.writer in
    let after = g.W.Write.contents c.print_case.new.writer in
    let one = c.loop-i.page.bytes.items in
    let new = c.print_case.new.page.bytes.items in
    rw (exit.1, exit.2) (cases_stop c.args.asked scenarios i scenario within c.args.reported.now c.loop-i.reported _ mid after c.args.page.now.bytes.items one
    c.print_case.new.reported c.print_case.new.reported new new c.loop-i.passed c.in_err-counting.field-0.0 c.loop-i.invariant.put
    (subst (λ (s : Scenario). TellsCase c.args.asked (i + 1) s c.loop-i.reported c.print_case.new.reported mid after one new (Err c.in_err-counting.field-0.0)) its c.in_err-counting.ensures))

pub loop-i-preserved : goal.loop-i-preserved
loop-i-preserved g c =
    let i = c.loop-i.i in
    let count = c.in_ok-counting.counting in
    let scenarios = g.S.Source.scenarios c.args.scenarios.now in
    let scenario = c.get.result.now in
    let within : i < length scenarios = subst (λ n. i < n) c.len-i-end.ensures c.loop-i-test.true in
    let its : scenario ≡ get_or scenarios i scenario = sym (get_or_from_slice_get scenarios i scenario scenario (c.in_ok-scenario.ensures ∙ ap Some (sym c.get.ensures))) in
    let mid = g.W.Write.contents c.loop-i.writer in
    let after = g.W.Write.contents c.print_case.new.writer in
    let one = c.loop-i.page.bytes.items in
    let new = c.print_case.new.page.bytes.items in
    let few = c.loop-i.invariant.few in
    let more : c.if-counting-eq0.passed ≡ c.loop-i.passed + cond (nat_eq count 0) 1 0 = elim c.if-counting-eq0.branch [
      | then-counting-eq0 w ↦ let is = ap {B = ℕ} (λ (t : Bool). cond t 1 0) (eq-eqb count 0 w.if-counting-eq0.true) in omega (arith, is, w.passed-is)
      | else-counting-eq0 w ↦ let is = ap {B = ℕ} (λ (t : Bool). cond t 1 0) (ne_eqb count 0 w.if-counting-eq0.false) in omega (arith, is, w.passed-is)
    ] in
    record {
      few = elim c.if-counting-eq0.branch [ then-counting-eq0 w ↦ omega (arith, few, w.passed-is) | else-counting-eq0 w ↦ omega (arith, few, w.passed-is) ];
      put = cases_grow c.args.asked scenarios i scenario within c.args.reported.now c.loop-i.reported _ mid after c.args.page.now.bytes.items one
          c.print_case.new.reported new c.loop-i.passed count c.if-counting-eq0.passed c.loop-i.invariant.put
          (subst (λ (s : Scenario). PutsCase c.args.asked (i + 1) s c.loop-i.reported c.print_case.new.reported mid after one new count) its c.in_ok-counting.ensures) more;
    }

pub loop-i-init : goal.loop-i-init
loop-i-init g c = record {
  few = omega arith;
  put = record {
    cases = [];
    are = record { each = refl; all = λ k d within. absurd (omega (arith, within)) };
    counted = refl;
    reported = refl;
    told = tt;
    put = pages_in (g.W.Write.contents c.args.writer.now) c.args.page.now.bytes.items c.args.page.now.bytes.items [] (sym (append-nil c.args.page.now.bytes.items));
  };
}
