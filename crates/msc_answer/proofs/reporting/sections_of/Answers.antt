use Rattle.std.proofs.Common.{◌≡◌, ◌<◌, ◌+◌, ◌++◌, ◌∷◌, [], ℕ, List, take, length, refl, sym, ap, subst, ◌∙◌, arith}
use Rattle.std.proofs.lemmas.Bool.{eqb-true}
use Rattle.std.proofs.lemmas.List.{length-take, nil_from_length, take_more}
use Rattle.std.proofs.lemmas.Option.{get_or_from_slice_get, slice_get_read}
use Rattle.msc_html.specs.DiagramReports.{races_in}
use Rattle.msc_html.specs.declared.diagram.ReportSection.{ReportSection}
use Rattle.msc_answer.proofs.ReportLemmas.{passed_more, races_more, some_from_test, told_more}
use Rattle.msc_answer.specs.Reported.{AreSections}
use Rattle.msc_answer.specs.Reported.AreSectionsFrom.{none}
use Rattle.msc_answer.proofs.reporting.sections_of.Goals as goal

pub loop-i-init : goal.loop-i-init
loop-i-init c =
    let empty = c.new-sections.ensures.items in
    record {
      are = subst (λ (l : List ReportSection). AreSections c.args.words c.args.told c.args.scenarios.now [] l) (sym empty) none;
      first = ap races_in (sym empty);
    }

pub loop-i-preserved-then-is_empty : goal.loop-i-preserved-then-is_empty
loop-i-preserved-then-is_empty c =
    let new = c.args.new.now in
    let i = c.loop-i.i in
    let x : List (ℕ × ℕ) = c.index-new-i.result in
    let within : i < length new = c.loop-i-test.true in
    let here = slice_get_read new (length new) i x refl within c.index-new-i.is in
    let none : x ≡ [] = nil_from_length x (ap length (sym c.as_slice-races.ensures) ∙ eqb-true _ _ (sym c.is_empty.ensures ∙ c.if-is_empty.true)) in
    let more = take_more new i [] within ∙ ap (λ (l : List (ℕ × ℕ)). take i new ++ l ∷ []) (get_or_from_slice_get new i x [] here ∙ none) in
    record {
      are = subst (λ (l : List (List (ℕ × ℕ))). AreSections c.args.words c.args.told c.args.scenarios.now l c.loop-i.sections.items) (sym more)
          (passed_more c.args.words c.args.told c.args.scenarios.now 0 0 0 (take i new) c.loop-i.sections.items c.loop-i.invariant.are);
      first = c.loop-i.invariant.first;
    }

pub loop-i-preserved : goal.loop-i-preserved
loop-i-preserved c =
    let new = c.args.new.now in
    let i = c.loop-i.i in
    let scenarios = c.args.scenarios.now in
    let sections = c.loop-i.sections.items in
    let s = c.in_ok-section.section in
    let x : List (ℕ × ℕ) = c.index-new-i.result in
    let races : List (ℕ × ℕ) = c.as_slice-races.result.now in
    let within : i < length new = c.loop-i-test.true in
    let here = slice_get_read new (length new) i x refl within c.index-new-i.is in
    let more = take_more new i [] within ∙ ap (λ (l : List (ℕ × ℕ)). take i new ++ l ∷ []) (get_or_from_slice_get new i x [] here ∙ sym c.as_slice-races.ensures) in
    let some : 0 < length races = some_from_test races (sym c.is_empty.ensures ∙ c.if-is_empty.false) in
    let long = length-take i new in
    let is = c.in_ok-section.ensures in
    let counted = is.is.races_are ∙ ap length is.races_are in
    let before = c.loop-i.invariant.first in
    let told = told_more c.args.words c.args.told scenarios 0 0 0 i c.loop-i.first c.len-pictured.result (take i new) sections races s c.loop-i.invariant.are
    (omega (arith, long, within)) (omega (arith, before)) (omega (arith, c.len-pictured.ensures)) some is in
    let sum = races_more sections s in
    let next = c.in_ok-first.ensures in
    record {
      are = subst (λ (l : List ReportSection). AreSections c.args.words c.args.told scenarios (take (i + 1) new) l) (sym c.in_ok-push.ensures.items)
          (subst (λ (l : List (List (ℕ × ℕ))). AreSections c.args.words c.args.told scenarios l (sections ++ s ∷ [])) (sym more) told);
      first = next ∙ (omega (arith, before, counted, sum)) ∙ ap races_in (sym c.in_ok-push.ensures.items);
    }
