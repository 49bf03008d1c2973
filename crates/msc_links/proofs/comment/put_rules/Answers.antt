use Rattle.std.proofs.Common.{ℕ, List, ◌++◌, map, ap, sym, ◌∙◌}
use Rattle.std.specs.Borrow.{Bor}
use Rattle.std.proofs.lemmas.List.{take_all}
use Rattle.msc_links.specs.Comments.{KindRule, plain_rules}
use Rattle.msc_links.proofs.Reading.{map_map}
use Rattle.msc_links.proofs.comment.put_rules.Goals as goal

pub returns : goal.returns
returns c =
    let links = c.args.links.now in
    let old : List KindRule = plain_rules c.args.rules.now.items in
    let rule = λ (link : List ℕ). let r : KindRule = record { kind = c.args.kind; link = link } in r in
    c.loop-link.invariant
    ∙ ap (λ (l : List (Bor (List ℕ))). old ++ map (λ link. rule link.now) l) (take_all c.loop-link.link-index links c.loop-link-test.false)
    ∙ ap (λ (l : List KindRule). old ++ l) (sym (map_map rule (λ (link : Bor (List ℕ)). link.now) links))
