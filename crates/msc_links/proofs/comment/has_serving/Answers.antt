use Rattle.std.proofs.Common.{List, ℕ, sym, ap, ◌∙◌}
use Rattle.std.specs.Borrow.{Bor}
use Rattle.std.specs.List.{list_any}
use Rattle.msc_links.specs.Comments.{has_serving, is_serving}
use Rattle.msc_links.proofs.Reading.{any_map}
use Rattle.msc_links.proofs.comment.has_serving.Goals as goal

pub returns : goal.returns
unfolding has_serving
returns c =
    c.has_serving_in.ensures
    ∙ ap (list_any (λ (x : Bor (List ℕ)). is_serving x.now)) c.deref.ensures.value
    ∙ sym (any_map is_serving (λ (x : Bor (List ℕ)). x.now) c.in_ok-parts.parts.items)
    ∙ ap (list_any is_serving) c.in_ok-parts.ensures
