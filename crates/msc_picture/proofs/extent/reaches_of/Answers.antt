use Rattle.std.proofs.Common.{rules, ◌≡◌, ℕ, List, Option, None, length, get_or, ap, subst, ◌∙◌, sym, arith}
use Rattle.std.proofs.lemmas.List.{get_or-replicate, length-replicate}
use Rattle.msc_picture.specs.Extents.{AreBegins}
use Rattle.msc_picture.specs.Rows.{reach_from, row_passes, share_segment}
use Rattle.msc_picture.proofs.ExtentLemmas.{begins_below, reach_step}
use Rattle.msc_picture.proofs.extent.reaches_of.Goals as goal

pub loop-k-init : goal.loop-k-init
loop-k-init c =
    let events = c.args.chart.now.events in
    let rows = c.args.rows.now in
    let n = c.events.result in
    let many : n ≡ length events = omega (arith, c.events.ensures.number) in
    let blank = c.in_ok-reaches.ensures.items_if_clones_equal (λ y e. search rules) in
    record {
      long = ap length blank ∙ length-replicate n None ∙ many;
      each = λ e known own.
          ap (λ (o : Option (ℕ × ℕ)). reach_from (row_passes (share_segment events e)) o 0 rows)
          (ap (λ (l : List (Option (ℕ × ℕ))). get_or l e None) blank
          ∙ get_or-replicate n e None None (omega (arith, known, many)));
    }

pub widen_to-requires-clause-begins : goal.widen_to-requires-clause-begins
widen_to-requires-clause-begins c =
    begins_below c.args.chart.now.events c.in_ok-begins.begins.items c.as_slice.result.now
    (length c.loop-k.reaches.items) c.in_ok-begins.ensures c.as_slice.ensures.value c.loop-k.invariant.long

pub loop-k-preserved : goal.loop-k-preserved
loop-k-preserved c =
    let events = c.args.chart.now.events in
    let begins = c.in_ok-begins.begins.items in
    let inv = c.loop-k.invariant in
    record {
      long = c.widen_to.ensures.long ∙ inv.long;
      each = λ e known own.
          reach_step events c.as_slice.result.now c.args.rows.now c.loop-k.k _ e
          (get_or c.loop-k.reaches.items e None) _ _ c.facts.ensures.in_text_order
          (subst (AreBegins events) (sym c.as_slice.ensures.value) c.in_ok-begins.ensures)
          c.requires (omega (arith, c.loop-k-test.true)) known own
          (c.widen_to.ensures.each e (omega (arith, known, inv.long))) (inv.each e known own);
    }
