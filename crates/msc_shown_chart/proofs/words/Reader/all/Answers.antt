use Rattle.std.proofs.Common.{◌≡◌, ℕ, ◌+◌, List, ◌∷◌, [], ◌++◌, length, map, ap, sym, ◌∙◌, subst, arith}
use Rattle.std.proofs.lemmas.List.{length-append, map_push}
use Rattle.msc_parser.specs.Grammar.{Tree}
use Rattle.msc_parser.specs.Parsing.{HasDraft}
use Rattle.msc_shown_chart.specs.Words.{plain_words, AreEventWords, Words}
use Rattle.msc_shown_chart.proofs.WordLemmas.{words_more}
use Rattle.msc_shown_chart.proofs.words.Reader.all.Goals as goal

pub loop-e-preserved : goal.loop-e-preserved
loop-e-preserved c =
    let d = c.args.self.now.chart.now in
    let file = c.args.self.now.file.now in
    let text = c.args.self.now.places.now.text in
    let e = c.loop-e.e in
    let ws : List Words = map plain_words c.loop-e.all.items in
    let w : Words = plain_words c.in_ok-words.field-0 in
    let words : map plain_words c.push.new.self.items ≡ ws ++ w ∷ [] =
    ap (map plain_words) c.in_ok-push.ensures.items ∙ map_push plain_words c.loop-e.all.items c.in_ok-words.field-0 in
    let long = ap length words in
    let size = length-append ws (w ∷ []) in
    let before = c.loop-e.invariant.0 in (
      omega (arith, long, size, before),
      λ t draft. subst (AreEventWords d file text t (e + 1)) (sym words)
          (words_more d file text t e ws w (c.loop-e.invariant.1 t draft) (c.in_ok-words.ensures t draft)),
    )

pub returns : goal.returns
returns c =
    let d = c.args.self.now.chart.now in
    let ws : List Words = map plain_words c.loop-e.all.items in
    let all : c.loop-e.e ≡ length d.events =
    let past = c.loop-e-test.false in let most = c.loop-e.auto.e-end in let number = c.events-e-end.ensures.number in omega (arith, past, most, number) in
    subst (λ (n : ℕ). (length ws ≡ n)
    × ((t : Tree) → HasDraft c.args.self.now.places.now.text t → AreEventWords d c.args.self.now.file.now c.args.self.now.places.now.text t n ws)) all c.loop-e.invariant
