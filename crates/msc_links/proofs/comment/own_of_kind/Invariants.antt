use Rattle.std.proofs.Common.{◌≡◌, true, map, take, flat_map}
use Rattle.std.specs.List.{list_all}
use Rattle.msc_links.specs.Comments.{is_clause, plain_rules, rules_in, serves_in}
use Rattle.msc_links.proofs.comment.own_of_kind.Given as goal

-- each part so far is a clause, and what they say is there
abbrev pub invariant-loop-clause : goal.invariant-loop-clause
invariant-loop-clause l = record {
  usual : l.own.usual ≡ l.fn.usual;
  all : list_all is_clause (map (λ clause. clause.now) (take l.clause-index l.clauses)) ≡ true;
  rules : plain_rules l.own.rules.items ≡ flat_map rules_in (map (λ clause. clause.now) (take l.clause-index l.clauses));
  serves : map (λ name. name.now) l.own.serves.items ≡ flat_map serves_in (map (λ clause. clause.now) (take l.clause-index l.clauses));
}
