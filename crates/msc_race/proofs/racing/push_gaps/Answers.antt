use Rattle.std.proofs.Common.{◌≡◌, ℕ, ◌*◌, ◌/◌, ◌+◌, ◌++◌, List, min, sym, ap, ◌∙◌, arith}
use Rattle.std.proofs.lemmas.Grind.{div_ceil_times}
use Rattle.std.proofs.lemmas.List.{append-nil, append_assoc}
use Rattle.msc_chart.specs.Lists.{pairs_to}
use Rattle.msc_race.specs.Gaps.{is_gap}
use Rattle.msc_race.specs.Words.{is_in_word}
use Rattle.msc_race.proofs.Listing.Gaps.{gaps_more, no_gaps_yet}
use Rattle.msc_race.proofs.racing.push_gaps.Goals as goal

pub returns-then-start-end : goal.returns-then-start-end
returns-then-start-end c =
    let none = no_gaps_yet c.args.row.now c.args.start c.args.end c.args.e c.args.end c.if-start-end.true in
    sym (ap (λ (l : List (ℕ × ℕ)). c.args.list.now.items ++ l) none ∙ append-nil c.args.list.now.items)

pub loop-k-init : goal.loop-k-init
loop-k-init c =
    let none = no_gaps_yet c.args.row.now c.args.start c.args.end c.args.e (min (64 * (c.args.start / 64)) c.args.end) (omega arith) in
    sym (ap (λ (l : List (ℕ × ℕ)). c.args.list.now.items ++ l) none ∙ append-nil c.args.list.now.items)

pub loop-k-preserved : goal.loop-k-preserved
loop-k-preserved c =
    let gap = is_gap c.args.row.now c.args.start in
    let words = div_ceil_times c.args.end 64 (omega arith) in
    let test = c.loop-k-test.true in
    let count = c.div_ceil-k-end.ensures in
    let more = gaps_more c.args.row.now c.args.start c.args.end c.args.e c.loop-k.k c.zeros_in.result (omega (arith, words, test, count)) c.zeros_in.ensures in
    c.in_ok-push_word.ensures ∙ ap (λ (l : List (ℕ × ℕ)). l ++ pairs_to (is_in_word c.zeros_in.result c.loop-k.k) c.args.e (64 * c.loop-k.k + 64)) c.loop-k.invariant
    ∙ append_assoc c.args.list.now.items (pairs_to gap c.args.e (min (64 * c.loop-k.k) c.args.end)) _
    ∙ ap (λ (l : List (ℕ × ℕ)). c.args.list.now.items ++ l) (sym more)

pub returns : goal.returns
returns c =
    let words = div_ceil_times c.args.end 64 (omega arith) in
    let last = c.loop-k-test.false in
    let count = c.div_ceil-k-end.ensures in
    let all : min (64 * c.loop-k.k) c.args.end ≡ c.args.end = omega (arith, words, last, count) in
    c.loop-k.invariant ∙ ap (λ (n : ℕ). c.args.list.now.items ++ pairs_to (is_gap c.args.row.now c.args.start) c.args.e n) all
