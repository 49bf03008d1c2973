use Rattle.std.proofs.Common.{ap, false, Some, None, sym, ◌∙◌, arith}
use Rattle.std.proofs.lemmas.List.{get_or_default}
use Rattle.msc_chart.proofs.ListLemmas.{clash}
use Rattle.msc_gather.proofs.ReadyLemmas.{head_known, head_read, only_head, follows_where, behind_where, linked_below, done_tells}
use Rattle.msc_gather.proofs.merging.Merge.head.Goals as goal

pub returns-then-k-log-clause-least : goal.returns-then-k-log-clause-least
returns-then-k-log-clause-least c = λ x h.
    let k = head_read c.requires.logs c.requires.merging c.requires.i c.index-k.ensures in
    let only = only_head c.requires.logs c.requires.links c.requires.merging c.requires.i
    c.log_at-log.ensures k x h in
    absurd (omega (arith, only.0, c.if-k-log.true))

pub bounds : goal.bounds
bounds c =
    let k = head_read c.requires.logs c.requires.merging c.requires.i c.index-k.ensures in
    let known = head_known c.requires.logs c.requires.links c.requires.merging c.requires.i
    c.log_at-log.ensures k c.if-k-log.false in
    omega (arith, known.0, c.requires.links.long)

pub index-requires : goal.index-requires
index-requires c =
    let k = head_read c.requires.logs c.requires.merging c.requires.i c.index-k.ensures in
    let inside = linked_below c.requires.logs c.requires.links c.requires.merging c.requires.i
    c.log_at-log.ensures k c.in-Some.y c.if-k-log.false c.in-Some.is in
    omega (arith, inside, c.args.self.now.done.ok.0)

pub returns-in-None-clause-some : goal.returns-in-None-clause-some
returns-in-None-clause-some c =
    let k = head_read c.requires.logs c.requires.merging c.requires.i c.index-k.ensures in
    follows_where c.requires.logs c.requires.links c.requires.merging c.requires.i
    c.log_at-log.ensures k None c.if-k-log.false c.in-None.is tt

pub returns-in-None-clause-least : goal.returns-in-None-clause-least
returns-in-None-clause-least c = λ x h.
    let k = head_read c.requires.logs c.requires.merging c.requires.i c.index-k.ensures in
    ap Some (only_head c.requires.logs c.requires.links c.requires.merging c.requires.i
    c.log_at-log.ensures k x h).1

pub returns-then-index-clause-some : goal.returns-then-index-clause-some
returns-then-index-clause-some c =
    let k = head_read c.requires.logs c.requires.merging c.requires.i c.index-k.ensures in
    let inside = linked_below c.requires.logs c.requires.links c.requires.merging c.requires.i
    c.log_at-log.ensures k c.in-Some.y c.if-k-log.false c.in-Some.is in
    let read = c.index.ensures ∙ get_or_default c.args.self.now.done.items c.in-Some.y
    c.index.result.now false inside in
    let behind = done_tells c.in-Some.y c.requires.merging inside (sym read ∙ c.if-index.true) in
    follows_where c.requires.logs c.requires.links c.requires.merging c.requires.i
    c.log_at-log.ensures k (Some c.in-Some.y) c.if-k-log.false c.in-Some.is behind

pub returns-then-index-clause-least : goal.returns-then-index-clause-least
returns-then-index-clause-least c = λ x h.
    let k = head_read c.requires.logs c.requires.merging c.requires.i c.index-k.ensures in
    ap Some (only_head c.requires.logs c.requires.links c.requires.merging c.requires.i
    c.log_at-log.ensures k x h).1

pub returns-else-index-clause-some : goal.returns-else-index-clause-some
returns-else-index-clause-some c = tt

pub returns-else-index-clause-least : goal.returns-else-index-clause-least
returns-else-index-clause-least c = λ x h.
    let k = head_read c.requires.logs c.requires.merging c.requires.i c.index-k.ensures in
    let inside = linked_below c.requires.logs c.requires.links c.requires.merging c.requires.i
    c.log_at-log.ensures k c.in-Some.y c.if-k-log.false c.in-Some.is in
    let read = c.index.ensures ∙ get_or_default c.args.self.now.done.items c.in-Some.y
    c.index.result.now false inside in
    let missing = done_tells c.in-Some.y c.requires.merging inside (sym read ∙ c.if-index.false) in
    clash (behind_where c.requires.logs c.requires.links c.requires.merging c.requires.i
    c.log_at-log.ensures k (Some c.in-Some.y) x c.in-Some.is h) missing
