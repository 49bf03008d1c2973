use Rattle.std.proofs.Common.{◌≡◌, ℕ, List, [], None, Some, sym, ◌∙◌, subst}
use Rattle.std.proofs.lemmas.List.{append-nil}
use Rattle.msc_print.specs.Prints.{Prints}
use Rattle.msc_print.proofs.PrintLemmas.{prints_then}
use Rattle.msc_ready.specs.Held.{ready_in}
use Rattle.msc_reason.specs.Named.{AreEventsOf}
use Rattle.msc_text.specs.Readied.{AreRuns}
use Rattle.msc_text.specs.declared.blocked_pairs.KnownRun.{KnownRun}
use Rattle.msc_text.proofs.BlockedPairLemmas.{pushed, shown_events, with_run}
use Rattle.msc_text.proofs.blocked_pairs.StickRows.print_run.Goals as goal

pub print_with-requires : goal.print_with-requires
print_with-requires g c =
    let self = c.args.self.now in
    let r = self.blocked_pairs.now in
    let accepted = rw c.ready-ready.ensures at c.facts.ensures.chart in
    let law = c.each_first_blocked_pair_has_one_run.ensures.exists r.queues r.chart accepted (ready_in r) in
    let its = c.in-Some.ensures law.0 (subst (AreRuns law.0) (sym c.as_slice.ensures.value) (c.requires.known law.0 law.1)) in
    with_run r (g.N.StickNames.drawing self.names) self.ahead.now c.args.blocked_pair c.requires.pair c.in-Some.run'.now
    (subst (AreEventsOf r.chart) (sym its)
    (shown_events r c.ready_runs_keep_ready_lines.ensures.lines c.args.blocked_pair.0 c.args.blocked_pair.1 (law.0 c.args.blocked_pair.1) (law.1 c.args.blocked_pair.0 c.args.blocked_pair.1 c.requires.blocked_pair)))

pub returns-in-Some-clause-printed : goal.returns-in-Some-clause-printed
returns-in-Some-clause-printed g c runs are =
    let self = c.args.self.now in
    let its = c.in-Some.ensures runs (subst (AreRuns runs) (sym c.as_slice.ensures.value) (c.requires.known runs are)) in
    subst (λ (run : List ℕ). Prints c.args.printer.now c.print_with.new.printer
    (g.N.StickNames.text self.names self.format c.args.blocked_pair None (Some run))) its c.print_with.ensures

pub print_with-requires-in-Ok : goal.print_with-requires-in-Ok
print_with-requires-in-Ok g c =
    let self = c.args.self.now in
    let r = self.blocked_pairs.now in
    let is = rw c.ready-ready.ensures at c.in-Ok.ensures in
    with_run r (g.N.StickNames.drawing self.names) self.ahead.now c.args.blocked_pair c.requires.pair c.as_slice-in-Ok.result.now
    (subst (AreEventsOf r.chart) (sym c.as_slice-in-Ok.ensures.value)
    (shown_events r c.ready_runs_keep_ready_lines.ensures.lines c.args.blocked_pair.0 c.args.blocked_pair.1 c.in-Ok.run'.items is))

pub returns-then-is_err-clause-known : goal.returns-then-is_err-clause-known
returns-then-is_err-clause-known g c = λ runs are.
    let r = c.args.self.now.blocked_pairs.now in
    let is = rw c.ready-ready.ensures at c.in-Ok.ensures in
    let e : ℕ = c.args.blocked_pair.0 in
    let f : ℕ = c.args.blocked_pair.1 in
    let own = c.each_first_blocked_pair_has_one_run.ensures.unique r.queues r.chart (ready_in r) e e f c.in-Ok.run'.items (runs f) is (are e f c.requires.blocked_pair) in
    pushed (λ (known : KnownRun). known.run.items ≡ runs known.second) _ c.args.known.now.items _ _ c.push.ensures.items (c.requires.known runs are) own

pub returns-else-is_err-clause-known : goal.returns-else-is_err-clause-known
returns-else-is_err-clause-known g c = λ runs are.
    let r = c.args.self.now.blocked_pairs.now in
    let is = rw c.ready-ready.ensures at c.in-Ok.ensures in
    let e : ℕ = c.args.blocked_pair.0 in
    let f : ℕ = c.args.blocked_pair.1 in
    let own = c.each_first_blocked_pair_has_one_run.ensures.unique r.queues r.chart (ready_in r) e e f c.in-Ok.run'.items (runs f) is (are e f c.requires.blocked_pair) in
    pushed (λ (known : KnownRun). known.run.items ≡ runs known.second) _ c.args.known.now.items _ _ c.push.ensures.items (c.requires.known runs are) own

pub returns-then-is_err-clause-printed : goal.returns-then-is_err-clause-printed
returns-then-is_err-clause-printed g c runs are =
    let self = c.args.self.now in
    let r = self.blocked_pairs.now in
    let is = rw c.ready-ready.ensures at c.in-Ok.ensures in
    let e : ℕ = c.args.blocked_pair.0 in
    let f : ℕ = c.args.blocked_pair.1 in
    let own = c.each_first_blocked_pair_has_one_run.ensures.unique r.queues r.chart (ready_in r) e e f c.in-Ok.run'.items (runs f) is (are e f c.requires.blocked_pair) in
    let text : List ℕ → List ℕ = λ run. g.N.StickNames.text self.names self.format c.args.blocked_pair None (Some run) in
    let put = subst (λ (run : List ℕ). Prints c.args.printer.now c.print_with-in-Ok.new.printer (text run)) (c.as_slice-in-Ok.ensures.value ∙ own) c.print_with-in-Ok.ensures in
    subst (Prints c.args.printer.now c.stop.new.self) (append-nil (text (runs f)))
    (prints_then c.args.printer.now c.print_with-in-Ok.new.printer c.stop.new.self (text (runs f)) [] put (c.stop.ensures []))
