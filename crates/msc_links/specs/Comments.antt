-- What a comment says about the queues of its text: `queues ARCH`, and clauses after semicolons.
use Rattle.std.specs.Prelude.{◌≡◌, ◌++◌, ℕ, Bool, true, not, cond, ◌&&◌, ◌||◌, ◌==◌, List, [], ◌∷◌, Option, None, Some, map, drop, length, codes, is_some, nat_eq, nat_le, flat_map}
use Rattle.std.specs.Str.{bytes_eq}
use Rattle.std.specs.List.{slice_split, list_any, list_all, starts_with, before_first, after_first}
use Rattle.strsim.specs.Edits.{levenshtein_row}
use Rattle.msc_chart.specs.declared.queue.LinkKind.{LinkKind}
use Rattle.msc_chart.specs.declared.queue.LinkKind.TheVariants.{Pair, Mailbox, Single}
use Rattle.msc_chart.specs.Architectures.{link_kind_of_word, link_word}
use Rattle.msc_links.specs.declared.comment.OwnQueues.{OwnQueues}
use Rattle.msc_links.specs.declared.rule.Rule.{Rule}
use Rattle.msc_links.specs.Blanks.{is_blank, trimmed}

-- a kind, and the text of LINK
pub record KindRule : Type 0 where
  pub kind : LinkKind
  pub link : List ℕ

-- what a comment says: the usual kind, the rules, and the names after `serves`
pub record OwnText : Type 0 where
  pub usual : LinkKind
  pub rules : List KindRule
  pub serves : List (List ℕ)

-- how a comment reads
pub data Reading : Type 0 where
  says_nothing : Reading
  unreadable : Reading
  says : OwnText → Reading

-- the parts between separators, without the blanks around each
unfoldable pub parts_by : ℕ → List ℕ → List (List ℕ)
parts_by separator text = map trimmed (slice_split (λ b. b == separator) text)

-- nothing stands here
abbrev pub is_empty : List ℕ → Bool
is_empty text = length text == 0

-- the kind that a clause begins with
abbrev pub kind_in : List ℕ → Option LinkKind
kind_in clause = link_kind_of_word (before_first is_blank clause)

-- a clause begins with `serves`
abbrev pub is_serving : List ℕ → Bool
is_serving clause = bytes_eq (before_first is_blank clause) (codes "serves")

-- the items of a clause: between commas, after its first word
abbrev pub items_in : List ℕ → List (List ℕ)
items_in clause = parts_by 44 (after_first is_blank clause)

-- a clause is a kind and links, or `serves` and names; none of these is empty
unfoldable pub is_clause : List ℕ → Bool
is_clause clause =
    (is_serving clause || is_some (kind_in clause)) && not (list_any is_empty (items_in clause))

-- the rules for these links
abbrev pub rules_by : Option LinkKind → List (List ℕ) → List KindRule
rules_by None links = []
rules_by (Some kind) links = map (λ link. record { kind = kind; link = link }) links

-- the rules of a clause
unfoldable pub rules_in : List ℕ → List KindRule
rules_in clause = cond (is_serving clause) [] (rules_by (kind_in clause) (items_in clause))

-- the names after the `serves` of a clause
unfoldable pub serves_in : List ℕ → List (List ℕ)
serves_in clause = cond (is_serving clause) (items_in clause) []

-- two words are at most two changes apart: bytes added, dropped or replaced
unfoldable pub is_near : List ℕ → List ℕ → Bool
is_near word other = nat_le (levenshtein_row nat_eq word other (length other)) 2

-- one word, at most two changes from the word for a kind
unfoldable pub is_slip : List ℕ → Bool
is_slip word = not (list_any is_blank word)
    && (is_near word (link_word Pair) || is_near word (link_word Mailbox) || is_near word (link_word Single))

-- a comment that begins with `queues` and a kind: each clause has to be one
unfoldable pub reading_of_kind : LinkKind → List (List ℕ) → Reading
reading_of_kind usual clauses = cond (list_all is_clause clauses)
    (says (record { usual = usual; rules = flat_map rules_in clauses; serves = flat_map serves_in clauses }))
    unreadable

-- a comment that begins with `queues` and a word: a kind, a slip, or another word, which says nothing
abbrev pub reading_of_word : List ℕ → Option LinkKind → List (List ℕ) → Reading
reading_of_word word (Some usual) clauses = reading_of_kind usual clauses
reading_of_word word None clauses = cond (is_slip word) unreadable says_nothing

-- the word after `queues`
unfoldable pub word_of : List ℕ → List ℕ
word_of head = trimmed (drop 7 head)

-- a comment in parts: the first begins with `queues` and a blank
abbrev pub reading_of_parts : List (List ℕ) → Reading
reading_of_parts [] = says_nothing
reading_of_parts (head ∷ clauses) = cond (starts_with nat_eq head (codes "queues "))
    (reading_of_word (word_of head) (link_kind_of_word (word_of head)) clauses)
    says_nothing

-- how a comment reads: semicolons separate its parts
unfoldable pub reading_of : List ℕ → Reading
reading_of comment = reading_of_parts (parts_by 59 comment)

-- some part of a comment begins with `serves`
unfoldable pub has_serving : List ℕ → Bool
has_serving comment = list_any is_serving (parts_by 59 comment)

-- a reading of this comment of a chart. A chart serves nothing, so it cannot be read if it says
-- something and some part begins with `serves`
abbrev pub without_serving : List ℕ → Reading → Reading
without_serving comment says_nothing = says_nothing
without_serving comment unreadable = unreadable
without_serving comment (says text) = cond (has_serving comment) unreadable (says text)

-- how a comment of a chart reads
unfoldable pub chart_reading_of : List ℕ → Reading
chart_reading_of comment = without_serving comment (reading_of comment)

-- rules as plain data
abbrev pub plain_rules : List Rule → List KindRule
plain_rules rules = map (λ rule. record { kind = rule.kind; link = rule.link.now }) rules

-- what the code has read
abbrev pub own_text : OwnQueues → OwnText
own_text own =
    record { usual = own.usual; rules = plain_rules own.rules.items; serves = map (λ name. name.now) own.serves.items }

abbrev pub own_reading : Option OwnQueues → Reading
own_reading None = says_nothing
own_reading (Some own) = says (own_text own)

-- one more clause has been taken: it is one, and what it says follows what was there
pub record HasTaken (old new : OwnQueues) (clause : List ℕ) : Type 0 where
  pub is : is_clause clause ≡ true
  pub usual : new.usual ≡ old.usual
  pub rules : plain_rules new.rules.items ≡ plain_rules old.rules.items ++ rules_in clause
  pub serves : map (λ name. name.now) new.serves.items
      ≡ map (λ name. name.now) old.serves.items ++ serves_in clause
