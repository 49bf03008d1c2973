use Rattle.std.proofs.Common.{◌+◌, ◌++◌, ◌∷◌, ap, sym, ◌∙◌, append_assoc, append-nil, drop}
use Rattle.std.proofs.lemmas.List.{at_drop_all, at_drop_more}
use Rattle.json.specs.Token.{begin_array, end_array}
use Rattle.json.specs.Tree.{items_tokens}
use Rattle.msc_record.specs.Results.{step_json}
use Rattle.msc_record.specs.SarifLent.{plain_step}
use Rattle.msc_record.proofs.MarkLemmas.{steps_tokens}
use Rattle.msc_record.proofs.MemberLemmas.{items_of_plain, items_then_end}
use Rattle.msc_record.proofs.WritingLemmas.{adds_last}
use Rattle.msc_record.proofs.flow.write_steps.Goals as goal

pub loop-step-preserved : goal.loop-step-preserved
loop-step-preserved c =
    let l = c.loop-step in
    let uri = c.args.uri.now in
    let steps = c.args.steps.now in
    let rest = steps_tokens uri (drop (l.step-index + 1) steps) in
    record {
      before = c.in_ok-write_object.ensures.before ∙ l.invariant.before;
      tokens = ap (λ ts. ts ++ rest) c.in_ok-write_object.ensures.ok
          ∙ append_assoc l.writer.tokens _ rest
          ∙ ap (λ ts. l.writer.tokens ++ ts) (sym (at_drop_more (steps_tokens uri) steps l.step-index _ c.loop-step-test.true))
          ∙ l.invariant.tokens;
    }

-- the events, between two brackets
pub returns : goal.returns
returns c =
    let l = c.loop-step in
    let uri = c.args.uri.now in
    let steps = c.args.steps.now in
    let none = at_drop_all (steps_tokens uri) steps l.step-index c.loop-step-test.false in
    adds_last c.end_array.result c.args.writer.now l.writer c.end_array.new.self (begin_array ∷ steps_tokens uri steps) _ end_array
    l.invariant.before
    (sym (append-nil l.writer.tokens) ∙ ap (λ ts. l.writer.tokens ++ ts) (sym none) ∙ l.invariant.tokens)
    c.end_array.ensures.room.0 c.end_array.ensures.ok
    (ap (λ ts. begin_array ∷ ts)
    (sym (items_then_end (λ s. step_json uri (plain_step s)) steps) ∙ ap items_tokens (sym (items_of_plain (step_json uri) plain_step steps))))
