use Rattle.std.proofs.Common.{ℕ, List, option_copied, ap, subst, sym}
use Rattle.msc_picture.specs.declared.rule.Rule.TheVariants.{Rest, Level, Send}
use Rattle.msc_picture.specs.Courses.{frame_of}
use Rattle.msc_picture.specs.Frames.{answering, resting, levelling}
use Rattle.msc_picture.specs.Ready.{IsRowFor}
use Rattle.msc_picture.proofs.DrawnLemmas.{ranks_if, sends_if}
use Rattle.msc_picture.proofs.SearchLemmas.{rests_for, sends_for, levels_for}
use Rattle.msc_picture.proofs.ordering.Drawing.next.Goals as goal

pub returns-in-Some-clause-some : goal.returns-in-Some-clause-some
returns-in-Some-clause-some c = answering c.in-Some.ensures.some

pub returns-in-Some-ranks-clause-some : goal.returns-in-Some-ranks-clause-some
returns-in-Some-ranks-clause-some c =
    ranks_if c.earliest.result c.in-Some-ranks.ranks.now
    (ap option_copied c.in-Some-ranks.is) c.in_default.ensures.none c.earliest.ensures.some

pub least-requires-clause-row : goal.least-requires-clause-row
least-requires-clause-row c =
    subst (λ (row : List ℕ). IsRowFor (frame_of c.args.f.now) c.args.self.now.drawn.past.items Rest row)
    (sym c.rests.ensures)
    (rests_for c.facts.ensures.matched c.requires.held.room c.requires.held.listed)

pub returns-in-Some-least-clause-some : goal.returns-in-Some-least-clause-some
returns-in-Some-least-clause-some c = resting (ap option_copied c.in_default-ranks.is) c.in_default.ensures.none c.in-Some-least.ensures.some

pub least-requires-2-clause-row : goal.least-requires-2-clause-row
least-requires-2-clause-row c =
    subst (λ (row : List ℕ). IsRowFor (frame_of c.args.f.now) c.args.self.now.drawn.past.items Level row)
    (sym c.levels.ensures)
    (levels_for c.facts.ensures.matched c.requires.held.room c.requires.held.listed)

pub returns-in-Some-least-2-clause-some : goal.returns-in-Some-least-2-clause-some
returns-in-Some-least-2-clause-some c =
    levelling (ap option_copied c.in_default-ranks.is) c.in_default.ensures.none c.in_default-least.ensures.none
    c.in-Some-least-2.ensures.some

pub least-requires-3-clause-row : goal.least-requires-3-clause-row
least-requires-3-clause-row c =
    subst (λ (row : List ℕ). IsRowFor (frame_of c.args.f.now) c.args.self.now.drawn.past.items Send row)
    (sym c.sends.ensures)
    (sends_for c.facts.ensures.matched c.requires.held.room c.requires.held.listed)

pub returns-clause-some : goal.returns-clause-some
returns-clause-some c =
    sends_if c.least-3.result (ap option_copied c.in_default-ranks.is) c.in_default.ensures.none c.in_default-least.ensures.none
    c.in_default-least-2.ensures.none c.least-3.ensures.some
