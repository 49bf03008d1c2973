use Rattle.std.proofs.Common.{◌≡◌, ℕ, List, map, refl, sym, ap, ◌∙◌, subst}
use Rattle.std.specs.Borrow.{Bor}
use Rattle.std.specs.Prelude.{MatchResult}
use Rattle.msc_links.specs.declared.comment.OwnFault.TheVariants.{Expected}
use Rattle.msc_links.specs.Comments.{Reading, own_reading, unreadable}
use Rattle.msc_links.proofs.Clauses.{read_empty, read_other, read_word}
use Rattle.msc_links.proofs.comment.own_queues.Goals as goal

pub returns-in_default : goal.returns-in_default
returns-in_default c =
    read_empty c.args.comment.now c.as_slice.result.now (ap (map (λ (x : Bor (List ℕ)). x.now)) c.as_slice.ensures.value ∙ c.in_ok-parts.ensures) c.in_default.len_below

pub returns-then-not-begins_with_queues : goal.returns-then-not-begins_with_queues
returns-then-not-begins_with_queues c =
    read_other c.args.comment.now c.as_slice.result.now (ap (map (λ (x : Bor (List ℕ)). x.now)) c.as_slice.ensures.value ∙ c.in_ok-parts.ensures)
    _ c.in-len1-up.len_at_least (sym c.begins_with_queues.ensures ∙ c.if-not-begins_with_queues.true)

pub returns : goal.returns
returns c =
    let is = read_word c.args.comment.now c.as_slice.result.now (ap (map (λ (x : Bor (List ℕ)). x.now)) c.as_slice.ensures.value ∙ c.in_ok-parts.ensures)
    _ c.word_of.result.now _ c.in-len1-up.len_at_least (sym c.begins_with_queues.ensures ∙ c.if-not-begins_with_queues.false) c.word_of.ensures refl in
    subst (λ (r : Reading). MatchResult c.own_of_word.result (λ own. own_reading own ≡ r) (λ fault. (fault ≡ Expected) → r ≡ unreadable)) is c.own_of_word.ensures
