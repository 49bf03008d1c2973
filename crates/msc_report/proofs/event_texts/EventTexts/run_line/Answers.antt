use Rattle.std.proofs.Common.{◌≡◌, ℕ, ◌+◌, ◌<◌, List, [], ◌∷◌, ◌++◌, codes, length, take, get_or, sym, ap, ◌∙◌, arith}
use Rattle.std.specs.List.{flat_map}
use Rattle.std.proofs.lemmas.List.{flat_map_more, take_all, take_more}
use Rattle.std.proofs.lemmas.List.Elements.{All-get_or}
use Rattle.msc_chart.specs.Drawings.{Drawing}
use Rattle.msc_report.specs.EventTexts.{EventText, no_text, AreTextsOf}
use Rattle.msc_report.specs.Verdicts.{spaced}
use Rattle.msc_report.proofs.event_texts.EventTexts.run_line.Goals as goal

-- the number of one event more is put behind those of the first k
number_put : (d : Drawing) (texts : List EventText) (run old new : List ℕ) (k : ℕ) → AreTextsOf d texts
    → k < length run → get_or run k 0 < length texts → old ≡ codes "run" ++ flat_map spaced (take k run)
    → new ≡ old ++ (get_or texts (get_or run k 0) no_text).number
    → new ≡ codes "run" ++ flat_map spaced (take (k + 1) run)
number_put d texts run old new k are more known before put =
    let size = are.size in
    let number = ap (λ (t : EventText). t.number) (are.each (get_or run k 0) (omega (arith, known, size))) in
    put ∙ ap (λ (l : List ℕ). l ++ (get_or texts (get_or run k 0) no_text).number) before
    ∙ ap (λ (l : List ℕ). (codes "run" ++ flat_map spaced (take k run)) ++ l) number
    ∙ flat_map_more spaced (codes "run") (take k run) (get_or run k 0)
    ∙ ap (λ (l : List ℕ). codes "run" ++ flat_map spaced l) (sym (take_more run k 0 more))

pub print_number-requires : goal.print_number-requires
print_number-requires c = record {
  known = All-get_or (λ (e : ℕ). e < length c.args.self.now) c.args.run.now c.loop-e.e-index 0 c.loop-e-test.true c.requires;
  room = c.loop-e.invariant.within;
}

pub loop-e-preserved : goal.loop-e-preserved
loop-e-preserved c =
    let run = c.args.run.now in
    let known = All-get_or (λ (e : ℕ). e < length c.args.self.now) run c.loop-e.e-index 0 c.loop-e-test.true c.requires in
    record {
      within = c.in_ok-end.ensures.within;
      put = λ d texts.
          number_put d c.args.self.now run _ _ c.loop-e.e-index texts c.loop-e-test.true known (c.loop-e.invariant.put d texts) c.in_ok-end.ensures.put;
    }

pub returns : goal.returns
returns c = λ d texts.
    let all = take_all c.loop-e.e-index c.args.run.now (omega (arith, c.loop-e-test.false)) in
    c.in_ok-extend_from_slice.ensures.items
    ∙ ap (λ (l : List ℕ). l ++ 10 ∷ []) (c.truncate.ensures.items ∙ c.loop-e.invariant.put d texts ∙ ap (λ (l : List ℕ). codes "run" ++ flat_map spaced l) all)
