-- Clauses of a comment, and what they say.
use Rattle.std.proofs.Common.{◌≡◌, ℕ, zero, suc, ◌+◌, ◌-◌, ◌<◌, ◌≤◌, Bool, true, false, ◌&&◌, List, [], ◌∷◌, ◌++◌, Some, None, length, take, drop, get_or, map, codes, nat_eq, refl, sym, ap, ◌∙◌, arith}
use Rattle.std.specs.Borrow.{Bor}
use Rattle.std.specs.List.{list_all, list_any, flat_map, starts_with}
use Rattle.std.proofs.lemmas.List.{append-nil, map-append, take_all}
use Rattle.std.proofs.lemmas.List.Folds.{list_all-append}
use Rattle.std.proofs.lemmas.Grind.{flat_map-append}
use Rattle.msc_chart.specs.declared.queue.LinkKind.{LinkKind}
use Rattle.msc_chart.specs.Architectures.{link_kind_of_word}
use Rattle.msc_links.specs.declared.comment.OwnQueues.{OwnQueues}
use Rattle.msc_links.specs.Comments.{is_clause, is_empty, is_serving, items_in, kind_in, own_text, parts_by, plain_rules, reading_of, reading_of_kind, reading_of_parts, reading_of_word, rules_by, rules_in, says, says_nothing, serves_in, unreadable, word_of}
use Rattle.msc_links.proofs.Reading.{take_one}

and_false : (b : Bool) → (b && false) ≡ false
and_false true = refl
and_false false = refl

-- a clause by its first word and its items
module _ (clause : List ℕ) where
  pub with_empty : list_any is_empty (items_in clause) ≡ true → is_clause clause ≡ false
  unfolding is_clause
  with_empty h = rw h (and_false _)

  pub without_word : is_serving clause ≡ false → kind_in clause ≡ None → is_clause clause ≡ false
  unfolding is_clause
  without_word other none = rw (other, none) refl

  pub serving : is_serving clause ≡ true → list_any is_empty (items_in clause) ≡ false → is_clause clause ≡ true
  unfolding is_clause
  serving is full = rw (is, full) refl

  pub of_kind : (kind : LinkKind) → is_serving clause ≡ false → kind_in clause ≡ Some kind → list_any is_empty (items_in clause) ≡ false → is_clause clause ≡ true
  unfolding is_clause
  of_kind kind other is full = rw (other, is, full) refl

  pub serving_rules : is_serving clause ≡ true → rules_in clause ≡ []
  unfolding rules_in
  serving_rules is = rw is refl

  pub serving_names : is_serving clause ≡ true → serves_in clause ≡ items_in clause
  unfolding serves_in
  serving_names is = rw is refl

  pub kind_rules : (kind : LinkKind) → is_serving clause ≡ false → kind_in clause ≡ Some kind → rules_in clause ≡ rules_by (Some kind) (items_in clause)
  unfolding rules_in
  kind_rules kind other is = rw (other, is) refl

  pub kind_names : is_serving clause ≡ false → serves_in clause ≡ []
  unfolding serves_in
  kind_names other = rw other refl

-- where one of a list fails a test, not all pass
pub not_all : {A B : Type 0} (p : B → Bool) (f : A → B) (xs : List A) (i : ℕ) (d : A) → i < length xs → p (f (get_or xs i d)) ≡ false → list_all p (map f xs) ≡ false
not_all p f [] i d inside fails = absurd (omega (arith, inside))
not_all p f (x ∷ xs) zero d inside fails = rw fails refl
not_all p f (x ∷ xs) (suc i) d inside fails = rw (not_all p f xs i d (omega (arith, inside)) fails) (and_false _)

-- one more part
module _ {A B : Type 0} (g : A → B) (xs : List A) (i : ℕ) (d : A) (inside : i < length xs) where
  grow : map g (take (i + 1) xs) ≡ map g (take i xs) ++ g (get_or xs i d) ∷ []
  grow = ap (map g) (take_one xs i d inside) ∙ map-append g (take i xs) (get_or xs i d ∷ [])

  pub all_more : (p : B → Bool) → list_all p (map g (take i xs)) ≡ true → p (g (get_or xs i d)) ≡ true → list_all p (map g (take (i + 1) xs)) ≡ true
  all_more p so_far here =
      ap (list_all p) grow
      ∙ list_all-append p (map g (take i xs)) (g (get_or xs i d) ∷ [])
      ∙ (λ j. so_far j && (here j && true))

  pub said_more : {C : Type 0} (f : B → List C) (old new : List C) → old ≡ flat_map f (map g (take i xs)) → new ≡ old ++ f (g (get_or xs i d)) → new ≡ flat_map f (map g (take (i + 1) xs))
  said_more f old new so_far is =
      is
      ∙ (λ j. so_far j ++ f (g (get_or xs i d)))
      ∙ sym (ap (flat_map f) grow ∙ flat_map-append f (map g (take i xs)) (g (get_or xs i d) ∷ []) ∙ ap (λ l. flat_map f (map g (take i xs)) ++ l) (append-nil (f (g (get_or xs i d)))))

-- a comment with a part that is no clause
pub read_none : (usual : LinkKind) (clauses : List (List ℕ)) → list_all is_clause clauses ≡ false → reading_of_kind usual clauses ≡ unreadable
unfolding reading_of_kind
read_none usual clauses none = rw none refl

-- a comment in which each part is a clause
pub read_all : (usual : LinkKind) (clauses : List (List ℕ)) (own : OwnQueues) → list_all is_clause clauses ≡ true → own.usual ≡ usual
    → plain_rules own.rules.items ≡ flat_map rules_in clauses → map (λ name. name.now) own.serves.items ≡ flat_map serves_in clauses
    → says (own_text own) ≡ reading_of_kind usual clauses
unfolding reading_of_kind
read_all usual clauses own all usual_is rules_are serves_are =
    rw all (λ i. says (record { usual = usual_is i; rules = rules_are i; serves = serves_are i }))

-- no part says nothing
empty_by : (parts : List (Bor (List ℕ))) → length parts < 1 → says_nothing ≡ reading_of_parts (map (λ part. part.now) parts)
empty_by [] none = refl
empty_by (p ∷ ps) none = absurd (omega (arith, none))

-- a first part that does not begin with `queues` says nothing
other_by : (parts : List (Bor (List ℕ))) (d : Bor (List ℕ)) → 1 ≤ length parts → starts_with nat_eq ((get_or parts 0 d).now) (codes "queues ") ≡ false
    → says_nothing ≡ reading_of_parts (map (λ part. part.now) parts)
other_by [] d some other = absurd (omega (arith, some))
other_by (p ∷ ps) d some other = rw other refl

-- a first part that does is followed by a word
word_by : (parts : List (Bor (List ℕ))) (d : Bor (List ℕ)) (word : List ℕ) (rest : List (Bor (List ℕ))) → 1 ≤ length parts
    → starts_with nat_eq ((get_or parts 0 d).now) (codes "queues ") ≡ true → word ≡ word_of ((get_or parts 0 d).now)
    → rest ≡ take (length parts - 1) (drop 1 parts)
    → reading_of_word word (link_kind_of_word word) (map (λ part. part.now) rest) ≡ reading_of_parts (map (λ part. part.now) parts)
word_by [] d word rest some is own follows = absurd (omega (arith, some))
word_by (p ∷ ps) d word rest some is own follows =
    let all : rest ≡ ps = follows ∙ take_all (length (p ∷ ps) - 1) ps (omega arith) in
    rw is (λ i. reading_of_word (own i) (link_kind_of_word (own i)) (map (λ (part : Bor (List ℕ)). part.now) (all i)))

-- a comment by its first part
module _ (comment : List ℕ) (parts : List (Bor (List ℕ))) (are : map (λ part. part.now) parts ≡ parts_by 59 comment) where
  by_parts : reading_of comment ≡ reading_of_parts (map (λ part. part.now) parts)
  unfolding reading_of
  by_parts = ap reading_of_parts (sym are)

  pub read_empty : length parts < 1 → says_nothing ≡ reading_of comment
  read_empty none = empty_by parts none ∙ sym by_parts

  pub read_other : (d : Bor (List ℕ)) → 1 ≤ length parts → starts_with nat_eq ((get_or parts 0 d).now) (codes "queues ") ≡ false → says_nothing ≡ reading_of comment
  read_other d some other = other_by parts d some other ∙ sym by_parts

  pub read_word : (d : Bor (List ℕ)) (word : List ℕ) (rest : List (Bor (List ℕ))) → 1 ≤ length parts
      → starts_with nat_eq ((get_or parts 0 d).now) (codes "queues ") ≡ true → word ≡ word_of ((get_or parts 0 d).now)
      → rest ≡ take (length parts - 1) (drop 1 parts)
      → reading_of_word word (link_kind_of_word word) (map (λ part. part.now) rest) ≡ reading_of comment
  read_word d word rest some is own follows = word_by parts d word rest some is own follows ∙ sym by_parts
