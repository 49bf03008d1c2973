-- What is read of a text keeps few lines, arrows between them, and a number of its own for each arrow.
use Rattle.std.proofs.Common.{◌≡◌, ℕ, zero, suc, ◌+◌, ◌<◌, ◌≤◌, Bool, true, false, cond, nat_lt, length, sym, arith, inl, inr, List, [], ◌∷◌, ◌++◌, Option, None, Some, Result, Ok, refl, ap, subst, ◌∙◌}
use Rattle.std.specs.Str.{bytes_eq}
use Rattle.std.proofs.lemmas.Bool.{ltb-true}
use Rattle.std.proofs.lemmas.List.{length_push}
use Rattle.std.proofs.lemmas.Slice.Eq.{bytes_eq-Decides}
use Rattle.msc_chart.specs.Lists.{StandsAt, Occurs}
use Rattle.msc_chart.proofs.DraftEvents.{joined}
use Rattle.msc_chart.proofs.ListLemmas.{by_test, clash}
use Rattle.msc_chart.proofs.Places.{any-place, place-any}
use Rattle.msc_mermaid.specs.declared.TheConstants.{LINE_LIMIT}
use Rattle.msc_mermaid.specs.declared.fault.ImportFault.{ImportFault}
use Rattle.msc_mermaid.specs.declared.fault.ImportFault.TheVariants.{Outside, TooDeep, TooManyLines}
use Rattle.msc_mermaid.specs.declared.statement.Arrow.{Arrow}
use Rattle.msc_mermaid.specs.declared.statement.Cross.{Cross}
use Rattle.msc_mermaid.specs.declared.statement.Diagram.{Diagram}
use Rattle.msc_mermaid.specs.declared.statement.Placed.{Placed}
use Rattle.msc_mermaid.specs.declared.statement.Span.{Span}
use Rattle.msc_mermaid.specs.declared.statement.Statement.{Statement}
use Rattle.msc_mermaid.specs.declared.statement.Statement.TheVariants.{Declares, Says, Begins, Closes}
use Rattle.msc_mermaid.specs.Gives.{unless}
use Rattle.msc_mermaid.specs.Outlines.{Outline, closed_by, finished, innermost, is_known, laid, meets, met, span_of, with_lines}
use Rattle.msc_mermaid.specs.Saying.{said_at}
use Rattle.msc_mermaid.proofs.StepLemmas.{noted_by}
use Rattle.msc_mermaid.specs.Reading.{Read, untold, is_arrow, listed, noted, read_one, shown_span, told, with_comment}
use Rattle.msc_place.specs.declared.position.Position.{Position}
use Rattle.msc_import_laws.specs.Lines.{StandsOnce}
use Rattle.msc_import_laws.specs.Outlined.{AreDistinct, Differ, IsOutlined}
use Rattle.msc_import_laws.proofs.Drafts.{unless_is}
use Rattle.msc_mermaid.proofs.SpellLemmas.{bound}
use Rattle.msc_import_laws.proofs.Stands.{first_joined, joined_at, second_joined}

-- lines behind others, with these among them
record Laid (before : List (List ℕ)) (after : List (List ℕ)) : Type 0 where
  few : length before ≤ LINE_LIMIT → length after ≤ LINE_LIMIT
  once : StandsOnce before → StandsOnce after
  keeps : (x : List ℕ) → Occurs before x → Occurs after x

same_laid : (ls : List (List ℕ)) → Laid ls ls
same_laid ls = record { few = λ h. h; once = λ h. h; keeps = λ x o. o }

both_laid : (a b c : List (List ℕ)) → Laid a b → Laid b c → Laid a c
both_laid a b c f g = record { few = λ h. g.few (f.few h); once = λ h. g.once (f.once h); keeps = λ x o. g.keeps x (f.keeps x o) }

-- one line more that is not there
once_more : (ls : List (List ℕ)) (c : List ℕ) → StandsOnce ls → ((i : ℕ) → StandsAt ls i c → ⊥) → StandsOnce (ls ++ c ∷ [])
once_more ls c once none = λ i j x h k.
    elim (joined_at ls (c ∷ []) i x h) [
      | inl l ↦ elim (joined_at ls (c ∷ []) j x k) [
        | inl r ↦ once i j x l r
        | inr r ↦ absurd (none i (subst (StandsAt ls i) (sym (only r.0 x r.2)) l))
      ]
      | inr l ↦ elim (joined_at ls (c ∷ []) j x k) [
        | inl r ↦ absurd (none j (subst (StandsAt ls j) (sym (only l.0 x l.2)) r))
        | inr r ↦ let a = first l.0 x l.2 in let b = first r.0 x r.2 in omega (arith, l.1, r.1, a, b)
      ]
    ]
  where
    only : (i : ℕ) (x : List ℕ) → StandsAt (c ∷ []) i x → c ≡ x
    only zero x h = cc
    only (suc i) x h = cc

    first : (i : ℕ) (x : List ℕ) → StandsAt (c ∷ []) i x → i ≡ 0
    first zero x h = refl
    first (suc i) x h = cc

-- a line that is met is there
line_met : (line : Position) (ident : List ℕ) (ls after : List (List ℕ)) → met line ident ls ≡ Ok after → Laid ls after × Occurs after ident
unfolding met
line_met line ident ls after e =
    by_test (is_known ls ident)
    (λ known.
    let same : ls ≡ after = let f : Ok ls ≡ Ok after = sym (ap (λ (b : Bool). cond b (Ok ls) (unless (nat_lt (length ls) LINE_LIMIT) (TooManyLines line) (ls ++ ident ∷ []))) known) ∙ e in cc in
    let at = any-place (λ l. bytes_eq l ident) ls known in
    let is : at.1 ≡ ident = (bytes_eq-Decides at.1 ident).0 at.3 in
    (subst (Laid ls) same (same_laid ls), subst (λ l. Occurs l ident) same (at.0, subst (StandsAt ls at.0) is at.2)))
    (λ new.
    let f : unless (nat_lt (length ls) LINE_LIMIT) (TooManyLines line) (ls ++ ident ∷ []) ≡ Ok after = sym (ap (λ (b : Bool). cond b (Ok ls) (unless (nat_lt (length ls) LINE_LIMIT) (TooManyLines line) (ls ++ ident ∷ []))) new) ∙ e in
    let r = unless_is (nat_lt (length ls) LINE_LIMIT) (TooManyLines line) (ls ++ ident ∷ []) after f in
    let room = ltb-true (length ls) LINE_LIMIT r.0 in
    let l = length_push ls ident in
    let none = λ (i : ℕ) (h : StandsAt ls i ident). clash (place-any (λ n. bytes_eq n ident) ls i ident h ((bytes_eq-Decides ident ident).1 refl)) new in
    (subst (Laid ls) r.1 (record { few = λ h. omega (arith, room, l); once = λ h. once_more ls ident h none; keeps = λ x o. first_joined ls (ident ∷ []) x o }), subst (λ l. Occurs l ident) r.1 (second_joined ls (ident ∷ []) ident (0, refl))))

line_meets : (line : Position) (ident : List ℕ) (first : ℕ) (o after : Outline) → meets line ident first o ≡ Ok after → Laid o.lines after.lines × Occurs after.lines ident
unfolding meets
line_meets line ident first o after e =
    let b = bound (met line ident o.lines) (λ ls. Ok (with_lines o ident first ls)) after e in
    let same : with_lines o ident first b.0 ≡ after = let f : Ok (with_lines o ident first b.0) ≡ Ok after = b.2 in cc in
    let lines : b.0 ≡ after.lines = ap (λ (x : Outline). x.lines) same in
    let r = line_met line ident o.lines b.0 b.1 in
    (subst (Laid o.lines) lines r.0, subst (λ l. Occurs l ident) lines r.1)

-- the ends of an arrow are lines
abbrev HasEnds : List (List ℕ) → Statement → Type 0
HasEnds ls s = (a : Arrow) → s ≡ Says a → Occurs ls a.from × Occurs ls a.to

all_laid : (line : Position) (first name : ℕ) (s : Statement) (o after : Outline) → laid line first name s o ≡ Ok after → Laid o.lines after.lines × HasEnds after.lines s
unfolding laid
all_laid line first name (Declares ident shown) o after e = ((line_meets line ident name o after e).0, λ a is. cc)
all_laid line first name (Says arrow) o after e =
    let b = bound (meets line arrow.from first o) (λ sent. meets line arrow.to name sent) after e in
    let sender = line_meets line arrow.from first o b.0 b.1 in
    let receiver = line_meets line arrow.to name b.0 after b.2 in (
      both_laid o.lines b.0.lines after.lines sender.0 receiver.0,
      λ a is. let same : arrow ≡ a = cc in (subst (λ (x : Arrow). Occurs after.lines x.from) same (receiver.0.keeps arrow.from sender.1), subst (λ (x : Arrow). Occurs after.lines x.to) same receiver.1),
    )
all_laid line first name (Begins kind) o after e =
    let r = unless_is _ (TooDeep line) _ after e in
    (subst (Laid o.lines) (ap (λ (x : Outline). x.lines) r.1) (same_laid o.lines), λ a is. cc)
all_laid line first name (Closes closer) o after e =
    let r = unless_is _ (Outside line closer) _ after e in
    (subst (Laid o.lines) (ap (λ (x : Outline). x.lines) r.1) (same_laid o.lines), λ a is. cc)

-- what was read, with so many arrows at most
pub record IsRead (n : ℕ) (r : Read) : Type 0 where
  few_lines : length r.outline.lines ≤ LINE_LIMIT
  once : StandsOnce r.outline.lines
  few : r.arrows ≤ n
  distinct : AreDistinct r.said
  known : (p : Placed) → Occurs r.said p → HasEnds r.outline.lines p.statement
  numbered : (p : Placed) (a : Arrow) → Occurs r.said p → p.statement ≡ Says a → p.number ≤ r.arrows
  low : (p : Placed) → Occurs r.said p → p.number ≤ r.arrows + 1

-- one statement more
one_distinct : (ps : List Placed) (q : Placed) → AreDistinct ps → ((p : Placed) → Occurs ps p → Differ p q) → AreDistinct (ps ++ q ∷ [])
one_distinct [] q h d = (λ p o. none p o, tt)
  where
    none : (p : Placed) → Occurs [] p → Differ q p
    none p (j, k) = cc
one_distinct (p ∷ ps) q h d = (
  λ x o. elim (joined ps (q ∷ []) x o) [ inl l ↦ h.0 x l | inr r ↦ subst (Differ p) (only x r) (d p (0, refl)) ],
  one_distinct ps q h.1 (λ x o. d x (suc o.0, o.1)),
)
  where
    only : (x : Placed) → Occurs (q ∷ []) x → q ≡ x
    only x (zero, k) = cc
    only x (suc j, k) = cc

module _ (n : ℕ) (r : Read) (read : IsRead n r) (here : Position) (whole : Span) (name tail : ℕ) (s : Statement) (o : Outline) (e : laid here whole.first name s r.outline ≡ Ok o) where
  next : Placed
  next = record { line = here.line; column = here.column; number = r.arrows + 1; statement = s; whole = whole; shown = shown_span whole tail s }

  only : (p : Placed) → Occurs (next ∷ []) p → next ≡ p
  only p (zero, k) = cc
  only p (suc j, k) = cc

  more : (b : Bool) → is_arrow s ≡ b → (cond b (r.arrows + 1) r.arrows ≤ n + 1) × (r.arrows ≤ cond b (r.arrows + 1) r.arrows) × ((a : Arrow) → s ≡ Says a → r.arrows + 1 ≤ cond b (r.arrows + 1) r.arrows)
  more true is = let f = read.few in (omega (arith, f), omega arith, λ a k. omega arith)
  more false is = let f = read.few in (omega (arith, f), omega arith, λ a k. absurd (no_arrow a k))
    where
      no_arrow : (a : Arrow) → s ≡ Says a → ⊥
      no_arrow a k = let t : is_arrow s ≡ true = ap is_arrow k in let f : true ≡ false = sym t ∙ is in cc

  listed_read : IsRead (n + 1) (listed r here whole tail s o)
  unfolding next
  listed_read =
      let l = all_laid here whole.first name s r.outline o e in
      let m = more (is_arrow s) refl in
      record {
        few_lines = l.0.few read.few_lines;
        once = l.0.once read.once;
        few = m.0;
        distinct = one_distinct r.said next read.distinct (λ p o a b x y same. let h = read.numbered p a o x in omega (arith, h, same));
        known = λ p o. elim (joined r.said (next ∷ []) p o) [
          | inl before ↦ λ a is. let k = read.known p before a is in (l.0.keeps a.from k.0, l.0.keeps a.to k.1)
          | inr here ↦ λ a is. l.1 a (ap (λ (x : Placed). x.statement) (only p here) ∙ is)
        ];
        numbered = λ p a o is. elim (joined r.said (next ∷ []) p o) [
          | inl before ↦ let k = read.numbered p a before is in let j = m.1 in omega (arith, k, j)
          | inr here ↦ let j = m.2 a (ap (λ (x : Placed). x.statement) (only p here) ∙ is) in let k = ap (λ (x : Placed). x.number) (only p here) in omega (arith, j, k)
        ];
        low = λ p o. elim (joined r.said (next ∷ []) p o) [
          | inl before ↦ let k = read.low p before in let j = m.1 in omega (arith, k, j)
          | inr here ↦ let k = ap (λ (x : Placed). x.number) (only p here) in let j = m.1 in omega (arith, j, k)
        ];
      }

-- the same parts of what was read
pub read_same : (n k : ℕ) (r q : Read) → n ≤ k → q.arrows ≡ r.arrows → q.outline ≡ r.outline → q.said ≡ r.said → IsRead n r → IsRead k q
read_same n k r q le a b c read = record {
  few_lines = rw b read.few_lines;
  once = subst (λ (o : Outline). StandsOnce o.lines) (sym b) read.once;
  few = let f = read.few in omega (arith, f, a, le);
  distinct = rw c read.distinct;
  known = λ p o. rw b (read.known p (rw (← c) o));
  numbered = λ p x o is. rw a (read.numbered p x (rw (← c) o) is);
  low = λ p o. rw a (read.low p (rw (← c) o));
}

-- a comment changes nothing of these
pub comment_read : (n : ℕ) (c : Span) (r : Read) → IsRead n r → IsRead n (with_comment c r)
comment_read n c r read = read_same n n r (with_comment c r) (omega arith) refl refl refl read

-- a statement is noted, or nothing is
module _ (n : ℕ) (r : Read) (read : IsRead n r) (here : Position) (whole : Span) (q : Read) where
  all_noted : (s : _) → noted r here whole s ≡ Ok q → IsRead (n + 1) q
  all_noted s e =
      noted_by (IsRead (n + 1)) r here whole q (read_same n (n + 1) r r (omega arith) refl refl refl read)
      (λ names. read_same n (n + 1) r (record { dying = names; arrows = r.arrows; outline = r.outline; said = r.said; comments = r.comments }) (omega arith) refl refl refl read)
      (λ t name tail o laid'. listed_read n r read here whole name tail t o laid') s e

-- one statement
pub one_read : (n : ℕ) (cross : Option Cross) (spot : _) (bytes : List ℕ) (r q : Read) → IsRead n r → read_one cross spot bytes r ≡ Ok q → IsRead (n + 1) q
unfolding read_one
one_read n cross spot bytes r q read e =
    let whole = span_of spot.first (length bytes) in
    let b = bound (said_at cross r.dying spot.here bytes) (noted r spot.here whole) q e in
    all_noted n r read spot.here whole q b.0 b.2

-- a diagram is what was read, where all blocks have ended
closed_is : {A : Type 0} (lines after : A) (x : Option _) → closed_by lines x ≡ Ok after → lines ≡ after
closed_is lines after None e = cc
closed_is lines after (Some b) e = cc

pub told_is : (r : Read) (d : Diagram) → told r ≡ Ok d → (r.outline.lines ≡ d.lines) × (r.said ≡ d.statements)
unfolding told finished
told_is r d e =
    let b = bound (finished r.outline) _ d e in
    let found = closed_is (r.outline.lines, r.outline.names) b.0 (innermost r.outline.opened) b.1 in
    let f : ◌≡◌ {A = Result Diagram ImportFault} (Ok (record { lines = b.0.0; names = b.0.1; statements = r.said; comments = r.comments })) (Ok d) = b.2 in
    let same : record { lines = b.0.0; names = b.0.1; statements = r.said; comments = r.comments } ≡ d = cc in
    (ap (λ (x : List (List ℕ) × List Span). x.0) found ∙ ap (λ (x : Diagram). x.lines) same, ap (λ (x : Diagram). x.statements) same)

-- nothing is read yet
pub none_read : IsRead 0 untold
none_read = record {
  few_lines = omega arith;
  once = λ i j x h k. cc;
  few = omega arith;
  distinct = tt;
  known = λ p o. absurd (no o);
  numbered = λ p a o is. absurd (no o);
  low = λ p o. absurd (no o);
}
  where
    no : {p : Placed} → Occurs [] p → ⊥
    no (j, h) = cc

-- a diagram as it is read, each of whose lines stands once
pub record IsFound (d : Diagram) : Type 0 where
  pub outlined : IsOutlined d
  pub once : StandsOnce d.lines

pub read_outlined : (n : ℕ) (r : Read) (d : Diagram) → n < 9999998 → IsRead n r → told r ≡ Ok d → IsFound d
read_outlined n r d small read e =
    let is = told_is r d e in
    record {
      outlined = record {
        few_lines = rw (← is.0) read.few_lines;
        distinct = rw (← is.1) read.distinct;
        low = λ p o. let l = read.low p (rw is.1 o) in let f = read.few in omega (arith, l, f, small);
        known = λ p a o says. rw (← is.0) (read.known p (rw is.1 o) a says);
      };
      once = subst (λ (ls : List (List ℕ)). StandsOnce ls) is.0 read.once;
    }
