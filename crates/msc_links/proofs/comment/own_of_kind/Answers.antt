use Rattle.std.proofs.Common.{ℕ, List, map, refl, ap, ◌∙◌, take}
use Rattle.std.specs.Borrow.{Bor}
use Rattle.std.proofs.lemmas.List.{take_all}
use Rattle.msc_links.specs.Comments.{is_clause, plain_rules, reading_of_kind, rules_in, serves_in}
use Rattle.msc_links.proofs.Clauses.{all_more, not_all, read_all, read_none, said_more}
use Rattle.msc_links.proofs.comment.own_of_kind.Goals as goal

pub loop-clause-init : goal.loop-clause-init
loop-clause-init c = record {
  usual = refl;
  all = refl;
  rules = ap plain_rules c.new.ensures.items;
  serves = ap (map (λ (x : Bor (List ℕ)). x.now)) c.new-2.ensures.items;
}

pub returns-in-Err : goal.returns-in-Err
returns-in-Err c expected =
    read_none c.args.usual (map (λ (x : Bor (List ℕ)). x.now) c.args.clauses.now)
    (not_all is_clause (λ (x : Bor (List ℕ)). x.now) c.args.clauses.now c.loop-clause.clause-index _ c.loop-clause-test.true (c.in-Err.ensures expected))

pub loop-clause-preserved : goal.loop-clause-preserved
loop-clause-preserved c =
    let taken = c.in-Ok.ensures in
    let clauses = c.args.clauses.now in
    let i : ℕ = c.loop-clause.clause-index in
    record {
      usual = taken.usual ∙ c.loop-clause.invariant.usual;
      all = all_more (λ (x : Bor (List ℕ)). x.now) clauses i _ c.loop-clause-test.true is_clause c.loop-clause.invariant.all taken.is;
      rules = said_more (λ (x : Bor (List ℕ)). x.now) clauses i _ c.loop-clause-test.true rules_in _ _ c.loop-clause.invariant.rules taken.rules;
      serves = said_more (λ (x : Bor (List ℕ)). x.now) clauses i _ c.loop-clause-test.true serves_in _ _ c.loop-clause.invariant.serves taken.serves;
    }

pub returns : goal.returns
returns c =
    let clauses = c.args.clauses.now in
    let texts = λ (l : List (Bor (List ℕ))). map (λ (x : Bor (List ℕ)). x.now) l in
    read_all c.args.usual (texts (take c.loop-clause.clause-index clauses)) c.loop-clause.own c.loop-clause.invariant.all c.loop-clause.invariant.usual
    c.loop-clause.invariant.rules c.loop-clause.invariant.serves
    ∙ ap (λ (l : List (Bor (List ℕ))). reading_of_kind c.args.usual (texts l)) (take_all c.loop-clause.clause-index clauses c.loop-clause-test.false)
