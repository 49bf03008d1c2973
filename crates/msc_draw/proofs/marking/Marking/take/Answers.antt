use Rattle.std.proofs.Common.{◌≡◌, ◌<◌, ◌+◌, ◌++◌, true, [], ◌∷◌, List, ℕ, length, take, get_or, Some, arith, sym, subst, ap, ◌∙◌, append-nil, append_assoc}
use Rattle.std.specs.Prelude.{slice_set}
use Rattle.msc_picture.specs.Rows.{grown}
use Rattle.std.proofs.lemmas.List.{length-set, take_more}
use Rattle.msc_draw.specs.Marking.{HoldsMarking}
use Rattle.msc_draw.proofs.MarkingLemmas.{added, same_marking}
use Rattle.msc_draw.proofs.marking.Marking.take.Goals as goal

pub loop-race-init : goal.loop-race-init
loop-race-init c =
    let tables = c.in_ok-turn.ensures.tables in
    record {
      upper = tables.upper;
      lower = tables.lower;
      held = λ told h.
          subst (λ (l : List (ℕ × ℕ)). HoldsMarking c.args.chart.now.events (c.args.e + 1) l c.turn.new.self)
          (sym (append-nil told)) (c.in_ok-turn.ensures.told told h);
    }

pub loop-race-preserved : goal.loop-race-preserved
loop-race-preserved c =
    let events = c.args.chart.now.events in
    let e = c.args.e in
    let races = c.args.races.now in
    let k = c.loop-race.race-index in
    let m = c.loop-race.self in
    let next = c.add.new.self in
    let p : ℕ × ℕ = get_or races k (0, 0) in
    let below : k < length races = omega arith in
    let is = c.in_ok-add.ensures in
    let own = c.requires.races k (0, 0) below in
    let pair : (e, p.1) ≡ p = ap (λ (x : ℕ). (x, p.1)) (sym own.0) in
    let so_far = take k races in
    let upper : next.upper ≡ slice_set m.upper e true =
    is.upper ∙ ap (λ (x : ℕ). slice_set m.upper x true) own.0 in
    record {
      upper = ap length is.upper ∙ length-set m.upper p.0 true ∙ c.loop-race.invariant.upper;
      lower = ap length is.lower ∙ length-set m.lower p.1 true ∙ c.loop-race.invariant.lower;
      held = λ told h.
          let more = added events e p.1 (told ++ so_far) m.bars.items m.upper m.lower m.begun
          m.reach m.told c.facts.ensures.in_text_order c.requires.known own.1
          (c.loop-race.invariant.held told h) in
          let list : (told ++ so_far) ++ (e, p.1) ∷ [] ≡ told ++ take (k + 1) races =
          append_assoc told so_far ((e, p.1) ∷ [])
          ∙ ap (λ (q : ℕ × ℕ). told ++ (so_far ++ q ∷ [])) pair
          ∙ ap (λ (l : List (ℕ × ℕ)). told ++ l) (sym (take_more races k (0, 0) below)) in
          subst (λ (l : List (ℕ × ℕ)). HoldsMarking events (e + 1) l next) list
          (same_marking events (e + 1) ((told ++ so_far) ++ (e, p.1) ∷ []) m.bars.items
          next.bars.items (slice_set m.upper e true) next.upper
          (slice_set m.lower p.1 true) next.lower m.begun next.begun
          (Some (grown m.reach m.told)) next.reach (m.told + 1) next.told is.bars upper is.lower
          is.begun is.reach is.told more);
    }
