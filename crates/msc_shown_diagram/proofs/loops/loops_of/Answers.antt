use Rattle.std.proofs.Common.{ℕ, ◌+◌, List, ◌∷◌, [], ◌++◌, drop, sym, ap, ap₂, ◌∙◌, append_assoc}
use Rattle.msc_shown_diagram.specs.Loops.{loops_from, loops_in}
use Rattle.msc_shown_diagram.specs.declared.loops.OpenBlock.{OpenBlock}
use Rattle.msc_shown_diagram.proofs.LoopLemmas.{from_end, from_next}
use Rattle.msc_shown_diagram.proofs.loops.loops_of.Goals as goal

pub loop-k-preserved : goal.loop-k-preserved
loop-k-preserved c =
    let l = c.loop-k in
    let ps = c.args.statements.now in
    let all : List (List ℕ) = l.all.items in
    let rest = drop (l.k + 1) ps in
    let here : List ℕ = loops_in l.blocks.items in
    let pushed = c.in_ok-push.ensures.items ∙ ap (λ (x : List ℕ). all ++ x ∷ []) (c.from_vec.ensures ∙ c.in_ok-loops.ensures ∙ ap loops_in c.as_slice.ensures.value) in
    ap₂ (λ (a : List (List ℕ)) (b : List OpenBlock). a ++ loops_from (l.k + 1) b rest) pushed c.in_ok-follow.ensures
    ∙ append_assoc all (here ∷ []) (loops_from (l.k + 1) _ rest)
    ∙ ap (λ x. all ++ x) (sym (from_next ps l.k l.blocks.items c.index-statements-k.result c.loop-k-test.true))
    ∙ l.invariant

pub returns : goal.returns
returns c =
    let l = c.loop-k in
    sym (from_end c.args.statements.now l.k l.blocks.items l.all.items c.loop-k-test.false) ∙ l.invariant
