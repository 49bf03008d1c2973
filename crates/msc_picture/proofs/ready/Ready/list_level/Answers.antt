use Rattle.std.proofs.Common.{ℕ, ◌<◌, length, subst, sym, ◌∙◌, arith}
use Rattle.std.proofs.lemmas.Bool.{false≢true}
use Rattle.msc_chart.specs.Charts.{partner}
use Rattle.msc_picture.specs.Courses.{event_at, frame_of, ShareLevel}
use Rattle.msc_picture.specs.Ready.{IsListed}
use Rattle.msc_picture.proofs.CourseLemmas.{read_at}
use Rattle.msc_picture.proofs.ReadyLemmas.{listed_kept, level_kept, level_more, level_ends, keeps_both}
use Rattle.msc_picture.proofs.ready.Ready.list_level.Goals as goal

pub returns-then-not-share_level-clause-listed : goal.returns-then-not-share_level-clause-listed
returns-then-not-share_level-clause-listed c =
    let inside : c.loop-q.q < length c.args.f.now.course.items =
    omega (arith, c.loop-q-test.true, c.len-q-end.ensures) in
    let x = read_at c.args.f.now.course.items c.args.p _ c.requires.within c.index-x.ensures in
    let y = read_at c.args.f.now.course.items c.loop-q.q _ inside c.index-y.ensures in
    level_ends (frame_of c.args.f.now) c.args.f.now.course.items c.args.d.now.past.items
    c.loop-q.self c.requires.laid.course c.args.p c.loop-q.q c.loop-q.auto.q inside
    (λ share. false≢true (sym c.if-not-share_level.true
    ∙ c.share_level.ensures.1
    (subst (λ (w : ℕ). ShareLevel (frame_of c.args.f.now) w c.index-y.result.now) (sym x)
    (subst (λ (w : ℕ). ShareLevel (frame_of c.args.f.now)
    (event_at c.args.f.now.course.items c.args.p) w) (sym y) share))))
    c.loop-q.invariant.listed

pub loop-q-preserved : goal.loop-q-preserved
loop-q-preserved c =
    let inside : c.loop-q.q < length c.args.f.now.course.items =
    omega (arith, c.loop-q-test.true, c.len-q-end.ensures) in
    let y = read_at c.args.f.now.course.items c.loop-q.q _ inside c.index-y.ensures in
    let both = keeps_both c.list.ensures.kept c.list_other.ensures.kept in
    record {
      room = c.list_other.ensures.room;
      kept = keeps_both c.loop-q.invariant.kept both;
      listed = level_more (frame_of c.args.f.now) c.args.f.now.course.items c.args.d.now.past.items
          c.list_other.new.self c.args.p c.loop-q.q
          (level_kept both c.args.f.now.course.items c.args.p c.loop-q.q c.loop-q.invariant.listed)
          (subst (λ (w : ℕ). IsListed (frame_of c.args.f.now) c.args.d.now.past.items
          c.list_other.new.self w) y
          (listed_kept c.list_other.ensures.kept c.index-y.result.now c.list.ensures.listed))
          (subst (λ (w : ℕ). IsListed (frame_of c.args.f.now) c.args.d.now.past.items
          c.list_other.new.self (partner c.args.f.now.chart.now.events w)) y
          c.list_other.ensures.listed);
    }

pub returns-clause-listed : goal.returns-clause-listed
returns-clause-listed c q low high share =
    c.loop-q.invariant.listed q low (omega (arith, high, c.loop-q-test.false, c.len-q-end.ensures)) share
