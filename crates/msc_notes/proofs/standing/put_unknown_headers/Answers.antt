use Rattle.std.proofs.Common.{length, map, refl, sym, ap, subst, ◌∙◌}
use Rattle.std.specs.Map.Iter.{deref}
use Rattle.std.proofs.lemmas.Bool.{not-true, not_from_false}
use Rattle.std.proofs.lemmas.Option.{slice_get_read}
use Rattle.msc_parser.specs.declared.tree.Decl.{Decl}
use Rattle.msc_chart.specs.declared.fault.ChartFault.TheVariants.{HeaderWithoutBody}
use Rattle.msc_chart.specs.Faults.{HoldsAt, IsUnknown}
use Rattle.msc_chart.proofs.ListLemmas.{clash}
use Rattle.msc_chart.proofs.MatchingLemmas.{unknown_test}
use Rattle.msc_chart.proofs.Places.{place-map}
use Rattle.msc_notes.specs.Putting.{decl_names}
use Rattle.msc_notes.proofs.Putting.{put_passed, put_taken}
use Rattle.msc_notes.proofs.Sets.{holds_here, holds_not}
use Rattle.msc_notes.proofs.standing.put_unknown_headers.Goals as goal
use Rattle.msc_notes.proofs.standing.put_unknown_headers.Goals.{then-not-contains+in_ok-push, else-not-contains}

pub loop-k-preserved : goal.loop-k-preserved
loop-k-preserved c =
    let ds = c.args.header.now in let names = decl_names ds in let k = c.loop-k.k in
    let d = c.index-header-k.result in let keys = c.args.names.now.keys in
    let Unknown = IsUnknown (map deref keys) in
    let here = place-map (λ (x : Decl). x.name) ds k d (slice_get_read ds (length ds) k d refl c.loop-k-test.true c.index-header-k.is) in
    let old = c.args.faults.now.items in let now = c.loop-k.faults.items in
    let test = unknown_test keys c.as_slice.result.now c.contains.result c.contains.ensures in
    elim c.if-not-contains.branch [
      | then-not-contains+in_ok-push w ↦
          rw (ap (λ v. v.items) w.faults-is ∙ w.in_ok-push.ensures.items)
          (put_taken HeaderWithoutBody (HoldsAt Unknown names) k old now c.loop-k.invariant
          (holds_here Unknown names k d.name here (subst Unknown c.as_slice.ensures (test.0 (not_from_false _ w.if-not-contains.true)))))
      | else-not-contains w ↦
          rw w.faults-is
          (put_passed HeaderWithoutBody (HoldsAt Unknown names) k old now c.loop-k.invariant
          (holds_not Unknown names k d.name here (λ u. clash w.if-not-contains.false (not-true _ (test.1 (subst Unknown (sym c.as_slice.ensures) u))))))
    ]
