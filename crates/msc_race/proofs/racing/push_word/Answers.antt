use Rattle.std.proofs.Common.{ℕ, ◌+◌, ◌-◌, ◌*◌, List, ◌++◌, sym, ap, ◌∙◌, arith, bit_and}
use Rattle.std.proofs.Math.Facts.{Fits-lt-pow}
use Rattle.std.proofs.lemmas.List.{append-nil, append_assoc}
use Rattle.msc_chart.specs.Lists.{pairs_to}
use Rattle.msc_race.specs.Words.{is_in_word}
use Rattle.msc_race.proofs.Listing.Words.{lowest_first, none_of_word}
use Rattle.msc_race.proofs.racing.push_word.Goals as goal

pub loop-left-preserved : goal.loop-left-preserved
loop-left-preserved c =
    let some = c.loop-left-test.true in
    let rest = pairs_to (is_in_word (bit_and c.loop-left.left (c.loop-left.left - 1)) c.args.k) c.args.e (64 * c.args.k + 64) in
    let first = lowest_first c.loop-left.left c.args.k c.args.e (omega (arith, some)) (Fits-lt-pow c.loop-left.auto.left-fits) in
    ap (λ (l : List (ℕ × ℕ)). l ++ rest) c.in_ok-push.ensures.items
    ∙ append_assoc c.loop-left.list.items _ rest
    ∙ ap (λ (l : List (ℕ × ℕ)). c.loop-left.list.items ++ l) (sym first)
    ∙ c.loop-left.invariant

pub returns : goal.returns
returns c =
    let none = ap (λ (w : ℕ). pairs_to (is_in_word w c.args.k) c.args.e (64 * c.args.k + 64)) c.loop-left-test.false ∙ none_of_word c.args.k c.args.e in
    sym (append-nil c.loop-left.list.items) ∙ ap (λ (l : List (ℕ × ℕ)). c.loop-left.list.items ++ l) (sym none) ∙ c.loop-left.invariant
