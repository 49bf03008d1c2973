use Rattle.std.proofs.Common.{subst}
use Rattle.msc_scanning.proofs.Folding.{all_done, at_end, at_place, one_more}
use Rattle.msc_scanning.proofs.Written.{made_there}
use Rattle.msc_scanning.specs.Files.{PutsItem}
use Rattle.msc_scanning.specs.declared.files.Item.{Item}
use Rattle.msc_scanning.proofs.rounds.put_chunk.Goals as goal

pub put_item-requires : goal.put_item-requires
put_item-requires g c =
    made_there c.args.plan c.args.input c.args.items.now c.args.blocks.now c.requires c.loop-i.i c.index-items-i.result c.loop-i-test.true c.index-items-i.is _ c.made_of-made.ensures

pub loop-i-preserved : goal.loop-i-preserved
loop-i-preserved g c =
    let l = c.loop-i in let y = c.in_ok-progress.ensures in let contents = g.O.Write.contents in let step = PutsItem c.args.plan c.args.input in let all = c.args.items.now in
    let item = c.index-items-i.result in
    one_more contents step all _ c.args.progress l.progress c.args.output.now l.output _ c.in_ok-progress.progress y.0 c.put_item.new.output
    (at_place contents step all c.args.progress l.progress l.i c.args.output.now l.output item c.loop-i-test.true l.invariant)
    (subst (λ (it : Item). step it l.progress c.in_ok-progress.progress y.0) c.index-items-i.is y.1) y.2

pub returns : goal.returns
returns g c =
    let l = c.loop-i in let contents = g.O.Write.contents in let step = PutsItem c.args.plan c.args.input in let all = c.args.items.now in
    all_done contents step all c.args.progress l.progress c.args.output.now l.output
    (at_end contents step all c.args.progress l.progress l.i c.args.output.now l.output c.loop-i-test.false l.invariant)
