use Rattle.std.proofs.Common.{sym, ap, ◌∙◌, refl}
use Rattle.std.proofs.lemmas.List.{take_rest}
use Rattle.msc_lexer.specs.Lexemes.{lexemes}
use Rattle.msc_place.specs.Standing.{begins_event}
use Rattle.msc_place.specs.Collecting.{never, event_place}
use Rattle.msc_place.proofs.Collected.{seen_more, collects_one, collects_none, collects_all}
use Rattle.msc_place.proofs.statements.event_places.Goals as goal
use Rattle.msc_place.proofs.statements.event_places.Goals.{then-begins_event+in_ok-push, else-begins_event}

pub loop-i-preserved : goal.loop-i-preserved
loop-i-preserved c = λ text.
    let ts = c.args.tokens.now in let i = c.loop-i.i in let places = c.loop-i.places.items in
    let so_far = c.loop-i.invariant text in let inside = c.loop-i-test.true in
    let is = sym (c.begins_event.ensures text) in
    elim c.if-begins_event.branch [
      | then-begins_event+in_ok-push w ↦
          let place = w.event_place.ensures text ∙ ap (λ us. event_place (lexemes text us)) (take_rest ts i) ∙ ap event_place (seen_more text ts i inside) in
          let pushed = ap (λ v. v.items) w.places-is ∙ w.in_ok-push.ensures.items in
          rw pushed (collects_one begins_event never event_place text ts i places w.event_place.result so_far inside refl (is ∙ w.if-begins_event.true) place)
      | else-begins_event w ↦
          rw w.places-is (collects_none begins_event never event_place text ts i places so_far inside refl (is ∙ w.if-begins_event.false))
    ]

pub returns : goal.returns
returns c = λ text.
    collects_all begins_event never event_place text c.args.tokens.now c.loop-i.i c.loop-i.places.items (c.loop-i.invariant text) c.loop-i-test.false
