use Rattle.std.proofs.Common.{map}
use Rattle.std.proofs.lemmas.List.{length-map}
use Rattle.msc_chart.specs.Wirings.{wired_by}
use Rattle.msc_gather.proofs.MergeLemmas.{merge_begins}
use Rattle.msc_gather.proofs.merging.Merge.start.Goals as goal

pub returns : goal.returns
returns c =
    let heads = c.in_ok-vec.ensures.items_if_clones_equal (λ y e. e) in
    let done = c.in_ok-vec-2.ensures.items_if_clones_equal (λ y e. e) in
    merge_begins (wired_by c.args.w.now) (map (λ v. v.items) c.args.logs.now) _ _ _ _
    (length-map c.args.logs.now (λ v. v.items))
    c.new.ensures.items heads (rw c.events.ensures.number at done)
