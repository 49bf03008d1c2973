-- What is printed of several faults, fault by fault.
use Rattle.std.proofs.Common.{◌≡◌, ℕ, List, [], ◌∷◌, ◌++◌, refl, sym, ap, ◌∙◌}
use Rattle.std.proofs.lemmas.List.{append-nil, append_assoc}
use Rattle.msc_chart.specs.declared.fault.ChartFault.{ChartFault}
use Rattle.msc_chart.specs.declared.fault.ChartFault.TheVariants as charts
use Rattle.msc_parser.specs.Grammar.{Tree}
use Rattle.msc_refusals.specs.Charts.{AreBlocks, IsChartBlock, IsWordsBlock}
use Rattle.msc_refusals.specs.declared.answer.RefusedText.{RefusedText}

-- one fault more is printed
pub blocks_more : (r : RefusedText) (t : Tree) (fs : List ChartFault) (f : ChartFault) (p b : List ℕ)
    → AreBlocks r t fs p → IsChartBlock r t f b → AreBlocks r t (fs ++ f ∷ []) (p ++ b)
blocks_more r t [] f p b none is = (b, [], is, refl, ap (λ (l : List ℕ). l ++ b) none ∙ sym (append-nil b))
blocks_more r t (x ∷ fs) f p b (first, rest, first_is, rest_are, whole) is =
    (first, rest ++ b, first_is, blocks_more r t fs f rest b rest_are is, ap (λ (l : List ℕ). l ++ b) whole ∙ append_assoc first rest b)

-- a fault that is no ring is printed in words
pub in_words : (r : RefusedText) (t : Tree) (fault : ChartFault) (p : List ℕ)
    → ((e : ℕ) → fault ≡ charts.Cyclic e → ⊥) → IsWordsBlock r t fault p → IsChartBlock r t fault p
in_words r t charts.TooManyInstances p never words = words
in_words r t (charts.TwiceInstance i) p never words = words
in_words r t (charts.HeaderWithoutBody k) p never words = words
in_words r t (charts.UnknownAddress e) p never words = words
in_words r t charts.TooManyMessages p never words = words
in_words r t charts.TooManyActions p never words = words
in_words r t (charts.TwiceEvent e) p never words = words
in_words r t (charts.UnmatchedOut e) p never words = words
in_words r t (charts.UnmatchedIn e) p never words = words
in_words r t (charts.Cyclic e) p never words = absurd (never e refl)
in_words r t charts.Memory p never words = words
