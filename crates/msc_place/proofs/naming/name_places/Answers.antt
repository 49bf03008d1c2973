use Rattle.std.proofs.Common.{◌+◌, sym, ap, ◌∙◌}
use Rattle.std.proofs.lemmas.List.{take_rest}
use Rattle.msc_lexer.specs.Lexemes.{lexemes}
use Rattle.msc_place.specs.Collecting.{leads_name, stops_part, first_place, second_place}
use Rattle.msc_place.proofs.Collected.{collects_one, collects_none, collects_stop, collects_all}
use Rattle.msc_place.proofs.naming.name_places.Goals as goal
use Rattle.msc_place.proofs.naming.name_places.Goals.{then-leads_name+in_ok-push, else-leads_name}

pub returns-then-stops_part : goal.returns-then-stops_part
returns-then-stops_part c = λ text.
    let part = c.args.part in
    collects_stop (leads_name part) (stops_part part) second_place text c.args.tokens.now c.loop-i.i c.loop-i.places.items (c.loop-i.invariant text) c.loop-i-test.true (sym (c.stops_part.ensures text) ∙ c.if-stops_part.true)

pub loop-i-preserved : goal.loop-i-preserved
loop-i-preserved c = λ text.
    let part = c.args.part in let ts = c.args.tokens.now in let i = c.loop-i.i in let places = c.loop-i.places.items in
    let so_far = c.loop-i.invariant text in let inside = c.loop-i-test.true in
    let go = sym (c.stops_part.ensures text) ∙ c.if-stops_part.false in
    let is = sym (c.leads_name.ensures text) in
    elim c.if-leads_name.branch [
      | then-leads_name+in_ok-push w ↦
          let place = w.first_place.ensures text ∙ ap (λ us. first_place (lexemes text us)) (take_rest ts (i + 1)) in
          let pushed = ap (λ v. v.items) w.places-is ∙ w.in_ok-push.ensures.items in
          rw pushed (collects_one (leads_name part) (stops_part part) second_place text ts i places w.first_place.result so_far inside go (is ∙ w.if-leads_name.true) place)
      | else-leads_name w ↦
          rw w.places-is (collects_none (leads_name part) (stops_part part) second_place text ts i places so_far inside go (is ∙ w.if-leads_name.false))
    ]

pub returns : goal.returns
returns c = λ text.
    let part = c.args.part in
    collects_all (leads_name part) (stops_part part) second_place text c.args.tokens.now c.loop-i.i c.loop-i.places.items (c.loop-i.invariant text) c.loop-i-test.false
