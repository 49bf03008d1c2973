use Rattle.std.proofs.Common.{◌≡◌, ℕ, ◌<◌, ◌≤◌, List, ◌∷◌, [], ◌++◌, length, get_or, map, ap, ap₂, sym, ◌∙◌, arith}
use Rattle.std.proofs.lemmas.List.{get_or-map, length-map, map_push, take_all}
use Rattle.std.specs.List.{enumerate_from}
use Rattle.msc_shown_chart.specs.Shown.{plain_event, shown_as, PlainEvent}
use Rattle.msc_shown_chart.specs.Words.{no_words, plain_words, Words}
use Rattle.msc_shown_chart.proofs.WordLemmas.{one_more}
use Rattle.msc_shown_chart.proofs.words.ChartWords.shown.Goals as goal

pub loop-e-preserved : goal.loop-e-preserved
loop-e-preserved c =
    let d = c.args.chart.now in
    let q = c.args.queues in
    let e = c.loop-e.e in
    let items = c.args.self.now.events.items in
    let ws : List Words = map plain_words items in
    let long = length-map items plain_words in
    let size = c.requires in
    let number = c.events-e-end.ensures.number in
    let within : e < length ws = let less = c.loop-e-test.true in omega (arith, less, size, number) in
    let f : ℕ × Words → PlainEvent = λ at. shown_as d q at.1 at.0 in
    let x = c.index-words.result.now in
    let there : e < length items = omega (arith, within, long) in
    let word : plain_words x ≡ get_or ws e no_words = ap plain_words c.index-words.ensures ∙ sym (get_or-map plain_words items e x no_words there) in
    ap (map plain_event) c.in_ok-push.ensures.items
    ∙ map_push plain_event c.loop-e.shown.items c.shown_as.result
    ∙ ap₂ (λ (l : List PlainEvent) (x : PlainEvent). l ++ x ∷ []) c.loop-e.invariant (c.shown_as.ensures ∙ ap (λ (w : Words). shown_as d q w e) word)
    ∙ sym (one_more f ws e no_words within)

pub returns : goal.returns
returns c =
    let d = c.args.chart.now in
    let q = c.args.queues in
    let ws : List Words = map plain_words c.args.self.now.events.items in
    let all : length ws ≤ c.loop-e.e =
    let past = c.loop-e-test.false in let number = c.events-e-end.ensures.number in let size = c.requires in omega (arith, past, number, size) in
    c.loop-e.invariant ∙ ap (λ (l : List Words). map (λ at. shown_as d q at.1 at.0) (enumerate_from 0 l)) (take_all c.loop-e.e ws all)
