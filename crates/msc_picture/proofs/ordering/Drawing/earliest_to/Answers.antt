use Rattle.std.proofs.Common.{ℕ, ◌≡◌, ◌*◌, List, length, get_or, ap, sym, ◌∙◌, arith}
use Rattle.bit_rows.proofs.Bits.{words_few}
use Rattle.msc_picture.specs.Courses.{frame_of}
use Rattle.msc_picture.specs.Frames.{MayFollow}
use Rattle.msc_picture.proofs.RankLemmas.{earliest_on, none_listed}
use Rattle.msc_picture.proofs.SearchLemmas.{few_bits}
use Rattle.msc_picture.proofs.ordering.Drawing.earliest_to.Goals as goal

pub returns-then-sends-k-eq0 : goal.returns-then-sends-k-eq0
returns-then-sends-k-eq0 c =
    let may = MayFollow (frame_of c.args.f.now) c.args.self.now.drawn.past.items in
    let k = c.args.k in
    let rests : get_or c.args.self.now.ready.rests.items k 0 ≡ 0 =
    ap (λ (l : List ℕ). get_or l k 0) (sym c.rests.ensures) ∙ c.if-rests-k-eq0.true in
    let sends : get_or c.args.self.now.ready.sends.items k 0 ≡ 0 =
    ap (λ (l : List ℕ). get_or l k 0) (sym c.sends.ensures) ∙ c.if-sends-k-eq0.true in
    earliest_on c.args.ranks.now may (64 * k) _ c.args.best
    (none_listed k c.facts.ensures.matched c.requires.held.room c.requires.held.listed rests sends)
    (omega arith) c.requires.best

pub overflow_mul-k : goal.overflow_mul-k
overflow_mul-k c =
    omega (
      arith,
      few_bits _ c.args.self.now.ready.rests.items c.args.k c.requires.held.room.rests
          c.facts.ensures.few_events c.requires.known,
    )

pub overflow_add-k : goal.overflow_add-k
overflow_add-k c =
    omega (
      arith,
      few_bits _ c.args.self.now.ready.rests.items c.args.k c.requires.held.room.rests
          c.facts.ensures.few_events c.requires.known,
    )

pub overflow_mul-k-2 : goal.overflow_mul-k-2
overflow_mul-k-2 c =
    omega (
      arith,
      few_bits _ c.args.self.now.ready.rests.items c.args.k c.requires.held.room.rests
          c.facts.ensures.few_events c.requires.known,
    )

pub earliest_between-requires-clause-ordered : goal.earliest_between-requires-clause-ordered
earliest_between-requires-clause-ordered c =
    omega (
      arith,
      c.requires.held.room.rests.words,
      words_few (length c.args.f.now.chart.now.events),
      c.requires.known,
      c.events.ensures.number,
      c.min-end.ensures,
    )
