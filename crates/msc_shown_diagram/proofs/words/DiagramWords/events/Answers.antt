use Rattle.std.proofs.Common.{◌≡◌, ℕ, List, ◌∷◌, [], ◌++◌, length, map, ap, ap₂, sym, ◌∙◌, arith}
use Rattle.std.specs.List.{range_with_len}
use Rattle.std.proofs.lemmas.List.{map_push}
use Rattle.std.proofs.lemmas.List.FromFn.{map-range_with_len_more}
use Rattle.msc_shown_chart.specs.Shown.{plain_event, PlainEvent}
use Rattle.msc_shown_diagram.specs.Shown.{shown_at}
use Rattle.msc_shown_diagram.specs.Words.{plain_arrow}
use Rattle.msc_shown_diagram.specs.declared.words.ArrowWords.{ArrowWords}
use Rattle.msc_shown_diagram.proofs.words.DiagramWords.events.Goals as goal

pub loop-e-preserved : goal.loop-e-preserved
loop-e-preserved c =
    let e = c.loop-e.e in
    let f : ℕ → PlainEvent = shown_at c.args.chart.now c.args.queues (map plain_arrow c.as_slice-words.result.now) c.args.arrows.now in
    ap (map plain_event) c.in_ok-push.ensures.items
    ∙ map_push plain_event c.loop-e.events.items c.shown_at.result
    ∙ ap₂ (λ (l : List PlainEvent) (x : PlainEvent). l ++ x ∷ []) c.loop-e.invariant c.shown_at.ensures
    ∙ sym (map-range_with_len_more f 0 e e (omega arith))

pub returns : goal.returns
returns c =
    let d = c.args.chart.now in
    let f : List ArrowWords → ℕ → PlainEvent = λ ws. shown_at d c.args.queues (map plain_arrow ws) c.args.arrows.now in
    let all : c.loop-e.e ≡ length d.events =
    let past = c.loop-e-test.false in let most = c.loop-e.auto.e-end in let number = c.events-e-end.ensures.number in omega (arith, past, most, number) in
    c.loop-e.invariant
    ∙ ap (λ n. map (f c.as_slice-words.result.now) (range_with_len 0 n)) all
    ∙ ap (λ (ws : List ArrowWords). map (f ws) (range_with_len 0 (length d.events))) c.as_slice-words.ensures.value
