use Rattle.std.proofs.Common.{List, drop, subst, sym, take}
use Rattle.std.proofs.lemmas.List.{take-append-drop}
use Rattle.msc_scanning.proofs.Folding.{some_more, the_rest, SoFar}
use Rattle.msc_scanning.proofs.Written.{next_chunk}
use Rattle.msc_scanning.specs.Files.{PutsItem}
use Rattle.msc_scanning.specs.declared.files.Item.{Item}
use Rattle.msc_scanning.specs.declared.rounds.TheConstants.{CHUNK}
use Rattle.msc_scanning.proofs.rounds.put_chunks.Goals as goal

pub loop-blocks-preserved : goal.loop-blocks-preserved
loop-blocks-preserved g c =
    let l = c.loop-blocks in let y = rw c.first_items-chunk.ensures at c.in_ok-progress.ensures in let contents = g.O.Write.contents in
    let step = PutsItem c.args.plan c.args.input in let all = c.args.items.now in let rest = l.rest.now in
    rw c.items_behind-rest.ensures record {
      so_far = some_more contents step all (drop CHUNK rest) c.args.progress l.progress c.args.output.now l.output (take CHUNK rest) c.in_ok-progress.progress y.0 c.put_chunk.new.output
          (subst (λ (left : List Item). SoFar contents step all left c.args.progress l.progress c.args.output.now l.output) (sym (take-append-drop CHUNK rest)) l.invariant.so_far)
          y.1 y.2;
      chunks = next_chunk c.args.plan c.args.input rest c.args.made.now l.blocks-index c.blocks-item.result c.loop-blocks-test.true l.invariant.chunks;
    }

pub returns : goal.returns
returns g c =
    let l = c.loop-blocks in let contents = g.O.Write.contents in let step = PutsItem c.args.plan c.args.input in
    the_rest contents step c.args.items.now l.rest.now c.args.progress l.progress c.put_chunk-2.result c.args.output.now l.output c.put_chunk-2.new.output
    l.invariant.so_far c.put_chunk-2.ensures
