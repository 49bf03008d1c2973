use Rattle.std.proofs.Common.{◌+◌, get_or, ap, ◌∙◌}
use Rattle.msc_gather.proofs.ReadyLemmas.{head_read}
use Rattle.msc_gather.proofs.MergeLemmas.{merge_more, head_there}
use Rattle.msc_gather.proofs.merging.Merge.follow.Goals as goal

pub place_after-k-requires : goal.place_after-k-requires
place_after-k-requires c =
    let i = c.instance_of-i.ensures in
    let on = c.requires.seated.on_lines c.args.x c.requires.follows.itself.event in
    let read = head_read c.requires.logs c.requires.merging (rw i on) c.index.ensures in
    let there = head_there c.requires.logs c.requires.seated c.requires.merging
    c.requires.follows in
    rw (read, c.log_at.ensures, i) there.0

pub returns-clause-merging : goal.returns-clause-merging
returns-clause-merging c =
    let i = c.instance_of-i.ensures in
    let on = c.requires.seated.on_lines c.args.x c.requires.follows.itself.event in
    let read = head_read c.requires.logs c.requires.merging (rw i on) c.index.ensures in
    let next = c.place_after-k.ensures ∙ ap (λ n. n + 1)
    (read ∙ ap (λ j. get_or c.args.self.now.heads.items j 0) i) in
    rw i (merge_more c.requires.logs c.requires.seated c.requires.merging c.requires.follows _ _
    c.in_ok-push.ensures.items next)
