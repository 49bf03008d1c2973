use Rattle.std.proofs.Common.{◌++◌, ◌∷◌, [], ap, ◌∙◌, append_assoc, sym}
use Rattle.json.specs.Token.{begin_object, end_object}
use Rattle.msc_record.specs.Members.{tokens_of}
use Rattle.msc_record.proofs.MemberLemmas.{members_then_end}
use Rattle.msc_record.proofs.WritingLemmas.{adds_last}
use Rattle.msc_record.proofs.value.write_object.Goals as goal

-- the members, between two braces
pub returns : goal.returns
returns g c =
    let ms = g.T.Object.members c.args.object.now in
    let old = c.args.writer.now in
    let begun = c.in_ok-begin_object.ensures in
    let inside = c.in_ok-write_members.ensures in
    adds_last c.end_object.result old c.write_members.new.writer c.end_object.new.self (begin_object ∷ tokens_of ms) _ end_object
    (inside.before ∙ begun.room.0)
    (inside.ok ∙ ap (λ l. l ++ tokens_of ms) begun.ok ∙ append_assoc old.tokens (begin_object ∷ []) (tokens_of ms))
    c.end_object.ensures.room.0 c.end_object.ensures.ok
    (ap (λ l. begin_object ∷ l) (sym (members_then_end ms)))
