use Rattle.std.proofs.Common.{◌+◌, ◌++◌, ◌∷◌, ap, sym, ◌∙◌, append_assoc, append-nil, drop, map}
use Rattle.std.proofs.lemmas.List.{at_drop_all, at_drop_more}
use Rattle.std.specs.List.{enumerate_from}
use Rattle.json.specs.Token.{begin_array, end_array}
use Rattle.msc_record.specs.Results.{related_json}
use Rattle.msc_record.specs.SarifLent.{plain_mark}
use Rattle.msc_record.proofs.MarkLemmas.{numbered_tokens}
use Rattle.msc_record.proofs.MemberLemmas.{items_then_end}
use Rattle.msc_record.proofs.WritingLemmas.{adds_last}
use Rattle.msc_record.proofs.result.write_numbered.Goals as goal

pub loop-id-preserved : goal.loop-id-preserved
loop-id-preserved c =
    let l = c.loop-id in
    let uri = c.args.uri.now in
    let marks = c.args.marks.now in
    let rest = numbered_tokens uri (l.id + 1) (drop (l.id + 1) marks) in
    record {
      before = c.in_ok-write_object.ensures.before ∙ l.invariant.before;
      tokens = ap (λ ts. ts ++ rest) c.in_ok-write_object.ensures.ok
          ∙ append_assoc l.writer.tokens _ rest
          ∙ ap (λ ts. l.writer.tokens ++ ts) (sym (at_drop_more (numbered_tokens uri l.id) marks l.id _ c.loop-id-test.true))
          ∙ l.invariant.tokens;
    }

-- the marks, between two brackets
pub returns : goal.returns
returns c =
    let l = c.loop-id in
    let uri = c.args.uri.now in
    let marks = c.args.marks.now in
    let none = at_drop_all (numbered_tokens uri l.id) marks l.id c.loop-id-test.false in
    adds_last c.end_array.result c.args.writer.now l.writer c.end_array.new.self (begin_array ∷ numbered_tokens uri 0 marks) _ end_array
    l.invariant.before
    (sym (append-nil l.writer.tokens) ∙ ap (λ ts. l.writer.tokens ++ ts) (sym none) ∙ l.invariant.tokens)
    c.end_array.ensures.room.0 c.end_array.ensures.ok
    (ap (λ ts. begin_array ∷ ts) (sym (items_then_end (related_json uri) (enumerate_from 0 (map plain_mark marks)))))
