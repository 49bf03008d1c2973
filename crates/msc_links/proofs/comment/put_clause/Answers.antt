use Rattle.std.proofs.Common.{◌≡◌, ℕ, List, ◌++◌, true, false, Some, map, refl, sym, ap, ◌∙◌}
use Rattle.std.specs.Borrow.{Bor}
use Rattle.std.specs.List.{list_any}
use Rattle.std.specs.Str.{bytes_eq}
use Rattle.std.proofs.lemmas.List.{append-nil}
use Rattle.msc_chart.specs.Architectures.{link_kind_of_word}
use Rattle.msc_links.specs.Comments.{KindRule, is_empty, is_serving, items_in, kind_in, parts_by, plain_rules, rules_by}
use Rattle.msc_links.proofs.Clauses.{kind_names, kind_rules, of_kind, serving, serving_names, serving_rules, with_empty, without_word}
use Rattle.msc_links.proofs.Reading.{any_map}
use Rattle.msc_links.proofs.comment.put_clause.Goals as goal

pub returns-then-has_empty : goal.returns-then-has_empty
returns-then-has_empty c expected =
    let clause = c.args.clause.now in
    let items = c.in_ok-items.items.items in
    let are : map (λ (x : Bor (List ℕ)). x.now) items ≡ items_in clause = c.in_ok-items.ensures ∙ ap (parts_by 44) c.after_word.ensures in
    with_empty clause
    (ap (list_any is_empty) (sym are)
    ∙ any_map is_empty (λ (x : Bor (List ℕ)). x.now) items
    ∙ ap (list_any (λ (x : Bor (List ℕ)). is_empty x.now)) (sym c.deref.ensures.value)
    ∙ sym c.has_empty.ensures
    ∙ c.if-has_empty.true)

pub returns-then-eq : goal.returns-then-eq
returns-then-eq c =
    let clause = c.args.clause.now in
    let items = c.in_ok-items.items.items in
    let are : map (λ (x : Bor (List ℕ)). x.now) items ≡ items_in clause = c.in_ok-items.ensures ∙ ap (parts_by 44) c.after_word.ensures in
    let full : list_any is_empty (items_in clause) ≡ false =
    ap (list_any is_empty) (sym are)
    ∙ any_map is_empty (λ (x : Bor (List ℕ)). x.now) items
    ∙ ap (list_any (λ (x : Bor (List ℕ)). is_empty x.now)) (sym c.deref.ensures.value)
    ∙ sym c.has_empty.ensures
    ∙ c.if-has_empty.false in
    let is : is_serving clause ≡ true =
    (λ i. bytes_eq (sym c.first_word-word.ensures i) (sym c.as_bytes.ensures.value i)) ∙ sym c.eq.ensures ∙ c.if-eq.true in
    record {
      is = serving clause is full;
      usual = refl;
      rules = sym (ap (λ (l : List KindRule). plain_rules c.args.own.now.rules.items ++ l) (serving_rules clause is) ∙ append-nil (plain_rules c.args.own.now.rules.items));
      serves =
          c.in_ok-put_names.ensures
          ∙ ap (λ (l : List (List ℕ)). map (λ (x : Bor (List ℕ)). x.now) c.args.own.now.serves.items ++ l)
          (ap (map (λ (x : Bor (List ℕ)). x.now)) c.deref-then-eq.ensures.value ∙ are ∙ sym (serving_names clause is));
    }

pub returns-in_default : goal.returns-in_default
returns-in_default c expected =
    let clause = c.args.clause.now in
    let other : is_serving clause ≡ false =
    (λ i. bytes_eq (sym c.first_word-word.ensures i) (sym c.as_bytes.ensures.value i)) ∙ sym c.eq.ensures ∙ c.if-eq.false in
    without_word clause other (ap link_kind_of_word (sym c.first_word-word.ensures) ∙ sym c.kind_of.ensures ∙ c.in_default.is)

pub returns : goal.returns
returns c =
    let clause = c.args.clause.now in
    let items = c.in_ok-items.items.items in
    let are : map (λ (x : Bor (List ℕ)). x.now) items ≡ items_in clause = c.in_ok-items.ensures ∙ ap (parts_by 44) c.after_word.ensures in
    let full : list_any is_empty (items_in clause) ≡ false =
    ap (list_any is_empty) (sym are)
    ∙ any_map is_empty (λ (x : Bor (List ℕ)). x.now) items
    ∙ ap (list_any (λ (x : Bor (List ℕ)). is_empty x.now)) (sym c.deref.ensures.value)
    ∙ sym c.has_empty.ensures
    ∙ c.if-has_empty.false in
    let other : is_serving clause ≡ false =
    (λ i. bytes_eq (sym c.first_word-word.ensures i) (sym c.as_bytes.ensures.value i)) ∙ sym c.eq.ensures ∙ c.if-eq.false in
    let is : kind_in clause ≡ Some c.in-Some.kind = ap link_kind_of_word (sym c.first_word-word.ensures) ∙ sym c.kind_of.ensures ∙ c.in-Some.is in
    record {
      is = of_kind clause c.in-Some.kind other is full;
      usual = refl;
      rules =
          c.in_ok-put_rules.ensures
          ∙ ap (λ (l : List KindRule). plain_rules c.args.own.now.rules.items ++ l)
          (ap (rules_by (Some c.in-Some.kind)) (ap (map (λ (x : Bor (List ℕ)). x.now)) c.deref-2.ensures.value ∙ are) ∙ sym (kind_rules clause c.in-Some.kind other is));
      serves = sym (ap (λ (l : List (List ℕ)). map (λ (x : Bor (List ℕ)). x.now) c.args.own.now.serves.items ++ l) (kind_names clause other) ∙ append-nil (map (λ (x : Bor (List ℕ)). x.now) c.args.own.now.serves.items));
    }
