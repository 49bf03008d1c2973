use Rattle.std.proofs.Common.{ℕ, ◌-◌, ◌+◌, ◌<◌, ◌≡◌, ◌≤◌, List, length, get_or, min, refl, ap₂, ◌∙◌, arith}
use Rattle.std.proofs.lemmas.List.{length-set}
use Rattle.msc_race.proofs.Making.LinkLemmas.{any_default}
use Rattle.msc_reason.proofs.Marking.{sunk_more}
use Rattle.msc_reason.proofs.marks.sink_least.Goals as goal

pub loop-k-init : goal.loop-k-init
loop-k-init c = record {
  size = refl;
  sunk = record {
    none_below = λ s x low le inside. let same : s ≡ x = omega (arith, low, le, inside) in rw same (omega arith);
    itself = λ s low inside. (s, omega arith, inside, refl);
    rest = λ s more. refl;
  };
}

-- the less of what stands at two places
less_is : (xs : List ℕ) (at x y m : ℕ) → at + 1 < length xs → x ≡ get_or xs at x → y ≡ get_or xs (at + 1) y → m ≡ min x y
    → m ≡ min (get_or xs at 0) (get_or xs (at + 1) 0)
less_is xs at x y m inside one two is =
    is ∙ ap₂ min (one ∙ any_default xs at x 0 (omega (arith, inside))) (two ∙ any_default xs (at + 1) y 0 inside)

pub loop-k-preserved : goal.loop-k-preserved
loop-k-preserved c =
    let size : ℕ = c.len-size.result in
    let k : ℕ = c.loop-k.k in
    let some : 1 ≤ k = omega (arith, c.loop-k.auto.k) in
    let within = c.loop-k-test.true in
    let size_is = c.loop-k.invariant.size in
    let long : length c.loop-k.least.items ≡ size = omega (arith, size_is, c.len-size.ensures) in
    let place : (size - 1 - k) + 1 + k ≡ size = omega (arith, within, some) in
    let less = less_is c.loop-k.least.items (size - 1 - k) c.index.result.now c.index-in-loop-k.result.now c.min.result (omega (arith, long, place, some))
    c.index.ensures c.index-in-loop-k.ensures c.min.ensures in
    record {
      size = length-set c.loop-k.least.items (size - 1 - k) c.min.result ∙ c.loop-k.invariant.size;
      sunk = sunk_more _ c.loop-k.least.items size k (size - 1 - k) c.min.result long some place less c.loop-k.invariant.sunk;
    }

pub returns-clause-none_below : goal.returns-clause-none_below
returns-clause-none_below c s x le inside =
    let past = c.loop-k-test.false in
    c.loop-k.invariant.sunk.none_below s x (omega (arith, past)) le (omega (arith, inside, c.len-size.ensures))

pub returns-clause-itself : goal.returns-clause-itself
returns-clause-itself c s inside =
    let past = c.loop-k-test.false in
    let one = c.loop-k.invariant.sunk.itself s (omega (arith, past)) (omega (arith, inside, c.len-size.ensures)) in
    (one.0, one.1, let h = one.2 in omega (arith, h, c.len-size.ensures), one.3)
