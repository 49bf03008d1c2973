-- What is printed of a chart is told of it.
use Rattle.std.proofs.Common.{◌≡◌, ◌<◌, ℕ, All, Bool, true, false, ◌&&◌, List, ◌++◌, length, nat_eq, Option, None, Some, Result, Ok, Err, refl, sym, ap, ap₂, ◌∙◌, subst, inr, arith}
use Rattle.std.specs.Borrow.{Bor}
use Rattle.std.specs.List.{range_with_len}
use Rattle.std.proofs.lemmas.List.Elements.{All-filter, All-from_get_or}
use Rattle.std.proofs.lemmas.List.FromFn.{get_or-range_with_len, length-range_with_len}
use Rattle.msc_chart.specs.declared.queue.Queues.{Queues}
use Rattle.msc_chart.specs.Drawings.{Drawing, IsAccepted}
use Rattle.msc_chart.specs.Rounds.{two_rounds}
use Rattle.msc_order.specs.Tables.{Table}
use Rattle.msc_race.specs.Views.{races_of, wiring_of}
use Rattle.msc_race.specs.Wired.{enforced_chart, EnforcedChart, IsEnforced}
use Rattle.msc_reason.proofs.CausesIn.{all_causes}
use Rattle.msc_reason.specs.Counting.{counting, listed, AreCauses}
use Rattle.msc_reason.specs.Marked.{cause_in}
use Rattle.msc_reason.specs.PairTables.{has_pair, PairTable}
use Rattle.msc_reason.specs.declared.kinds.KindSet.{KindSet}
use Rattle.msc_chart.specs.Lists.{Occurs}
use Rattle.msc_mark.specs.Accepting.{acceptance, accepts_race, is_stale, stale_events, Acceptance}
use Rattle.msc_mark.specs.declared.mark.Mark.{Mark}
use Rattle.msc_judge.specs.declared.marking.Marking.{Marking}
use Rattle.msc_judge.specs.Findings.{answer_text, heading_of, left_of, totals_in, Answers}
use Rattle.msc_judge.specs.declared.renderer.Totals.{Totals}
use Rattle.msc_judge.specs.Rounds.{rounds_text, AnswersRounds, AreRoundRaces}
use Rattle.msc_print.specs.Pages.{Tells}
use Rattle.msc_print.specs.declared.page.WriteFault.{WriteFault}
use Rattle.msc_print.specs.declared.page.WriteFault.TheVariants as writing
use Rattle.msc_judge.specs.declared.options.CheckOptions.{CheckOptions}
use Rattle.msc_report.specs.Following.{ring_steps}
use Rattle.msc_text.specs.Judging.{and_between, asked, has_ring, left_out, round_texts_in, texts_in, IsMarking, IsRingIn, JudgesChart, JudgesUnrolled, PassesOnce, PassesRounds}
use Rattle.msc_text.specs.declared.judging.ChartFormat.{ChartFormat}
use Rattle.msc_text.specs.declared.judging.Judged.{Judged}

-- what was found, and whether there is a ring
abbrev pub with_never : Bool → Result Totals WriteFault → Result Judged WriteFault
with_never never (Ok totals) = Ok (record { totals = totals; never = never })
with_never never (Err fault) = Err fault

-- what a renderer wrote of a chart is told of it
pub told_once : {W : Type 0} (contents : W → Option (List ℕ)) (e : EnforcedChart) (q : CheckOptions) (marks : Option (List Mark)) (m : Marking) (format : ChartFormat) (ring : List ℕ) (never : Bool) (r : Result Totals WriteFault) (old new : W)
    → IsAccepted e.chart → IsEnforced e → IsMarking e marks m → IsRingIn format (wiring_of e) ring → never ≡ has_ring ring
    → Answers e (asked format q) m (texts_in format (ring_steps ring) e.chart) r (contents old) (contents new)
    → Tells contents (JudgesChart e.chart e.queues q marks false format) (with_never never r) old new
told_once contents e q marks m format ring never (Ok totals) old new accepted is marked barred has said = (
  answer_text (texts_in format (ring_steps ring) e.chart) e (asked format q) m said.tables true,
  record { accepted = accepted; order = e.order; by_order = is; marking = m; marked = marked; tables = said.tables; are = said.are; ring = ring; barred = barred; never = has; answered = said.found; text = refl },
  said.written,
)
told_once contents e q marks m format ring never (Err writing.Memory) old new accepted is marked barred has said = inr (
  record {
    totals = totals_in (asked format q).most (length m.stale.now) None (heading_of e (asked format q).closest (left_of (asked format q) m) said.tables.causes);
    never = never;
  },
  answer_text (texts_in format (ring_steps ring) e.chart) e (asked format q) m said.tables true,
  record { accepted = accepted; order = e.order; by_order = is; marking = m; marked = marked; tables = said.tables; are = said.are; ring = ring; barred = barred; never = has; answered = refl; text = refl },
  said.written,
)
told_once contents e q marks m format ring never (Err writing.Device) old new accepted is marked barred has said = tt

module _ (e : EnforcedChart) (order : Table) (q : CheckOptions) (marks : Option (List Mark)) (m : Marking) (format : ChartFormat) (ring : List ℕ)
    (accepted : IsAccepted e.chart) (is : IsEnforced e) (is_two : IsEnforced (enforced_chart (two_rounds e.chart) e.queues order)) (marked : IsMarking e marks m)
    (barred : IsRingIn format (wiring_of e) ring) (never : Bool) (has : never ≡ has_ring ring) where
  -- two rounds of the chart
  abbrev two : EnforcedChart
  two = enforced_chart (two_rounds e.chart) e.queues order

  -- what was written of both is what is printed of the chart and of two rounds of it
  module _ {r : Result Totals WriteFault} {before after : Option (List ℕ)} (said : AnswersRounds e two (asked format q) m (texts_in format (ring_steps ring) e.chart) (round_texts_in format (ring_steps ring) e.chart) r before after) where
    -- the text of one round
    abbrev above : List ℕ
    above = answer_text (texts_in format (ring_steps ring) e.chart) e (asked format q) m said.tables false

    -- and of two
    abbrev below : List ℕ
    below = rounds_text (round_texts_in format (ring_steps ring) e.chart) two (asked format q) said.of_two
        (length (listed e (left_of (asked format q) m) (asked format q).closest said.tables.causes))
        (totals_in (asked format q).most (length m.stale.now) (Some (length said.pairs)) (heading_of e (asked format q).closest (left_of (asked format q) m) said.tables.causes)) said.pairs

    -- what was found of one round
    abbrev found_once : Judged
    found_once = record {
      totals = totals_in (asked format q).most (length m.stale.now) None (heading_of e (asked format q).closest (left_of (asked format q) m) said.tables.causes);
      never = never;
    }

    -- and of both
    abbrev found_both : Judged
    found_both = and_between found_once (length said.pairs)

    judged_unrolled : (found : Judged) → found ≡ found_both → JudgesUnrolled e.chart e.queues q marks format found (above ++ below)
    judged_unrolled found answered = record {
      first = found_once;
      above = above;
      once = record { accepted = accepted; order = e.order; by_order = is; marking = m; marked = marked; tables = said.tables; are = said.are; ring = ring; barred = barred; never = has; answered = refl; text = refl };
      between = length said.pairs;
      below = below;
      rounds = record { order = order; by_order = is_two; tables = said.of_two; are = said.are_two; pairs = said.pairs; told = said.told; answered = refl; text = refl };
      answered = answered;
      text = refl;
    }

  -- so it is told
  told_both : {W : Type 0} (contents : W → Option (List ℕ)) (r : Result Totals WriteFault) (old new : W)
      → AnswersRounds e two (asked format q) m (texts_in format (ring_steps ring) e.chart) (round_texts_in format (ring_steps ring) e.chart) r (contents old) (contents new)
      → Tells contents (JudgesChart e.chart e.queues q marks true format) (with_never never r) old new
  told_both contents (Ok totals) old new said =
      (above said ++ below said, judged_unrolled said (record { totals = totals; never = never }) (ap (λ (x : Totals). record { totals = x; never = never }) said.found), said.written)
  told_both contents (Err writing.Memory) old new said =
      inr (found_both said, above said ++ below said, judged_unrolled said (found_both said) refl, said.written)
  told_both contents (Err writing.Device) old new said = tt

-- the same of any chart that is that of two rounds
pub told_unrolled : {W : Type 0} (contents : W → Option (List ℕ)) (e two : EnforcedChart) (q : CheckOptions) (marks : Option (List Mark)) (m : Marking) (format : ChartFormat) (ring : List ℕ) (never : Bool) (r : Result Totals WriteFault) (old new : W)
    → IsAccepted e.chart → IsEnforced e → IsMarking e marks m → IsRingIn format (wiring_of e) ring → never ≡ has_ring ring → two.chart ≡ two_rounds e.chart → two.queues ≡ e.queues → IsEnforced two
    → AnswersRounds e two (asked format q) m (texts_in format (ring_steps ring) e.chart) (round_texts_in format (ring_steps ring) e.chart) r (contents old) (contents new)
    → Tells contents (JudgesChart e.chart e.queues q marks true format) (with_never never r) old new
told_unrolled contents e two q marks m format ring never r old new accepted is marked barred has chart_is queues_is is_two said =
    let same : two ≡ enforced_chart (two_rounds e.chart) e.queues two.order = ap₂ (λ (c : Drawing) (a : Queues). enforced_chart c a two.order) chart_is queues_is in
    told_both e two.order q marks m format ring accepted is (subst IsEnforced same is_two) marked barred never has contents r old new
    (subst (λ (x : EnforcedChart). AnswersRounds e x (asked format q) m (texts_in format (ring_steps ring) e.chart) (round_texts_in format (ring_steps ring) e.chart) r (contents old) (contents new)) same said)

-- what is told of a chart under an architecture is told of the chart that was asked for
pub told_of_chart : {W : Type 0} (contents : W → Option (List ℕ)) (e : EnforcedChart) (d : Drawing) (queues : Queues) (q : CheckOptions) (marks : Option (List Mark)) (again : Bool) (format : ChartFormat) (r : Result Judged WriteFault) (old new : W)
    → e.chart ≡ d → e.queues ≡ queues → Tells contents (JudgesChart e.chart e.queues q marks again format) r old new
    → Tells contents (JudgesChart d queues q marks again format) r old new
told_of_chart contents e d queues q marks again format r old new chart_is queues_is told =
    subst (λ (c : Drawing). Tells contents (JudgesChart c queues q marks again format) r old new) chart_is
    (subst (λ (a : Queues). Tells contents (JudgesChart e.chart a q marks again format) r old new) queues_is told)

-- what marks accept of a chart, and which of them accept none, is what they say
pub marking_of : (e : EnforcedChart) (marks : List Mark) (a : Acceptance) (d : Drawing) (queues : Queues) (pairs : Bor PairTable) (m : Marking)
    → a.marks ≡ marks → a.chart ≡ d → a.queues ≡ queues → e.chart ≡ d → e.queues ≡ queues → m.accepted ≡ Some pairs
    → ((p : ℕ × ℕ) → Occurs (races_of e) p → has_pair pairs.now p.0 p.1 ≡ accepts_race a p) → m.stale.now ≡ stale_events a (races_of e)
    → IsMarking e (Some marks) m
marking_of e marks a d queues pairs m marks_is chart_is queues_is its_chart its_queues accepted has stale =
    let same : a ≡ acceptance marks e.chart e.queues =
    ap (λ (l : List Mark). acceptance l a.chart a.queues) marks_is
    ∙ ap (λ (x : Drawing). acceptance marks x a.queues) (chart_is ∙ sym its_chart)
    ∙ ap (λ (q : Queues). acceptance marks e.chart q) (queues_is ∙ sym its_queues) in
    (pairs, accepted, λ p there. has p there ∙ ap (λ x. accepts_race x p) same, stale ∙ ap (λ x. stale_events x (races_of e)) same)

-- events whose marks accept no race are events of the chart
pub stale_known : (a : Acceptance) (races : List (ℕ × ℕ)) → All (λ e. e < length a.chart.events) (stale_events a races)
stale_known a races =
    All-filter (is_stale a races) (λ e. e < length a.chart.events) (range_with_len 0 (length a.chart.events))
    (All-from_get_or (λ e. e < length a.chart.events) (range_with_len 0 (length a.chart.events)) 0 (λ k within.
    let long = length-range_with_len 0 (length a.chart.events) in
    let less : k < length a.chart.events = omega (arith, within, long) in
    let is = get_or-range_with_len 0 (length a.chart.events) k 0 less in
    omega (arith, less, is)))

-- whether no race of a chart counts, by its enforced order
pub passes_at : (e : EnforcedChart) (allowed : KindSet) (marks : Option (List Mark)) (m : Marking) (none : Bool)
    → IsAccepted e.chart → IsEnforced e → IsMarking e marks m
    → none ≡ (nat_eq (length (counting e (left_out allowed m) (cause_in e))) 0 && nat_eq (length m.stale.now) 0)
    → PassesOnce e.chart e.queues allowed marks none
passes_at e allowed marks m none accepted is marked told = record {
  order = e.order;
  by_order = is;
  marking = m;
  marked = marked;
  causes = cause_in e;
  are = all_causes e is accepted;
  answered = told;
}

-- the same of the chart that was asked for
pub passes_by : (e : EnforcedChart) (d : Drawing) (queues : Queues) (allowed : KindSet) (marks : Option (List Mark)) (m : Marking) (none : Bool) → e.chart ≡ d → e.queues ≡ queues
    → IsAccepted e.chart → IsEnforced e
    → none ≡ (nat_eq (length (counting e (left_out allowed m) (cause_in e))) 0 && nat_eq (length m.stale.now) 0)
    → IsMarking e marks m → PassesOnce d queues allowed marks none
passes_by e d queues allowed marks m none chart_is queues_is accepted is told marked =
    subst (λ (c : Drawing). PassesOnce c queues allowed marks none) chart_is
    (subst (λ (a : Queues). PassesOnce e.chart a allowed marks none) queues_is (passes_at e allowed marks m none accepted is marked told))

-- whether no race is between two rounds, by their enforced order
pub passes_between : (d : Drawing) (two : EnforcedChart) (queues : Queues) (allowed : KindSet) (pairs : List (ℕ × ℕ)) (none : Bool)
    → two.chart ≡ two_rounds d → two.queues ≡ queues → IsAccepted two.chart → IsEnforced two
    → AreRoundRaces d two allowed (cause_in two) pairs → none ≡ nat_eq (length pairs) 0 → PassesRounds d queues allowed none
passes_between d two queues allowed pairs none chart_is queues_is accepted is told answered =
    let same : two ≡ enforced_chart (two_rounds d) queues two.order = ap₂ (λ (c : Drawing) (a : Queues). enforced_chart c a two.order) chart_is queues_is in
    record {
      order = two.order;
      by_order = subst IsEnforced same is;
      causes = cause_in two;
      are = subst (λ (x : EnforcedChart). AreCauses x (cause_in two)) same (all_causes two is accepted);
      pairs = pairs;
      told = subst (λ (x : EnforcedChart). AreRoundRaces d x allowed (cause_in two) pairs) same told;
      answered = answered;
    }
