use Rattle.std.proofs.Common.{◌&&◌, ◌||◌, Bool, nat_eq, ap, ◌∙◌}
use Rattle.msc_picture.proofs.PutLemmas.{put_more}
use Rattle.msc_picture.proofs.signs.Signs.put.Goals as goal

pub returns : goal.returns
returns c = λ x i.
    put_more c.reach.new.self.instances.items c.args.place c.index_mut.result.now c.push.new.self
    c.args.instance c.in_ok-reach.ensures.within c.index_mut.ensures.value c.in_ok-push.ensures.items x i
    ∙ ap (λ (b : Bool). b || (nat_eq x c.args.place && nat_eq i c.args.instance))
    (c.in_ok-reach.ensures.same x i)
