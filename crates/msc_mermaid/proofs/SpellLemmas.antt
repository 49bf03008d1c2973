-- What a statement names and shows stands in it where so many of its bytes are left.
use Rattle.std.proofs.Math.Seq.{take-length}
use Rattle.std.proofs.Common.{◌≡◌, ◌≤◌, ℕ, zero, suc, ◌+◌, ◌-◌, Bool, true, false, cond, not, List, [], ◌∷◌, length, nat_lt, take, drop, Option, None, Some, Result, Ok, Err, refl, sym, ap, ◌∙◌, subst, arith, length-drop}
use Rattle.msc_lexer.specs.Bytes.{begins}
use Rattle.msc_mermaid.specs.declared.declaring.Tails.{Tails}
use Rattle.msc_mermaid.specs.declared.fault.Expectation.TheVariants as wanted
use Rattle.msc_mermaid.specs.declared.fault.ImportFault.{ImportFault}
use Rattle.msc_mermaid.specs.declared.fault.ImportFault.TheVariants.{Unsupported}
use Rattle.msc_mermaid.specs.declared.head.Head.{Head}
use Rattle.msc_mermaid.specs.declared.key.Mark.TheVariants as marks
use Rattle.msc_mermaid.specs.declared.seeking.Sought.TheVariants as sought
use Rattle.msc_mermaid.specs.declared.statement.Arrow.{Arrow}
use Rattle.msc_mermaid.specs.declared.statement.Cross.{Cross}
use Rattle.msc_mermaid.specs.declared.statement.Statement.{Statement}
use Rattle.msc_mermaid.specs.declared.declaring.Shown.{Shown}
use Rattle.msc_place.specs.declared.position.Position.{Position}
use Rattle.msc_mermaid.specs.Cutting.{bare_from, bare_step, without_entities}
use Rattle.msc_mermaid.specs.Gives.{◌>>=◌, unless}
use Rattle.msc_mermaid.specs.Keys.{begin_so, head_of, head_text, is_leftward, mark_text}
use Rattle.msc_mermaid.specs.Laws.{SpellsArrow, SpellsName, left_of}
use Rattle.msc_mermaid.specs.Names.{behind_colon, central_name, configured, declared, declares, from_shown, is_central, line_of, name_at, name_tail, parted, plain, sender, shown_behind, shown_text, unwrapped}
use Rattle.msc_mermaid.proofs.FrontLemmas.{trimmed_first}
use Rattle.msc_mermaid.specs.Saying.{arrow_by, arrow_of, arrow_with, behind_sign, is_sign, no_second}
use Rattle.msc_mermaid.specs.Seeking.{before, holds}
use Rattle.msc_mermaid.specs.White.{before_white, behind_white, body, front, trimmed}

-- the last bytes of some
pub record IsEnd (bytes xs : List ℕ) : Type 0 where
  pub from : ℕ
  pub is : xs ≡ drop from bytes

-- the first bytes of some
record IsFront (bytes xs : List ℕ) : Type 0 where
  count : ℕ
  is : xs ≡ take count bytes

pub drop_none : (k : ℕ) → drop {A = ℕ} k [] ≡ []
drop_none zero = refl
drop_none (suc k) = refl

drop_short : (k : ℕ) (xs : List ℕ) → length (drop k xs) ≤ length xs
drop_short zero [] = omega arith
drop_short zero (x ∷ xs) = omega arith
drop_short (suc k) [] = omega arith
drop_short (suc k) (x ∷ xs) = let r = drop_short k xs in omega (arith, r)

pub drop_twice : (m k : ℕ) (xs : List ℕ) → drop k (drop m xs) ≡ drop (m + k) xs
drop_twice zero k xs = let same : k ≡ 0 + k = omega arith in ap (λ n. drop n xs) same
drop_twice (suc m) k [] = drop_none k ∙ sym (drop_none (suc m + k))
drop_twice (suc m) k (x ∷ xs) =
    let same : suc (m + k) ≡ suc m + k = omega arith in
    drop_twice m k xs ∙ ap (λ n. drop n (x ∷ xs)) same

-- the last bytes are found from how many they are
pub drop_back : (k : ℕ) (xs : List ℕ) → drop (length xs - length (drop k xs)) xs ≡ drop k xs
drop_back zero xs = let z : length xs - length xs ≡ 0 = omega arith in ap (λ n. drop n xs) z
drop_back (suc k) [] = drop_none (0 - 0)
drop_back (suc k) (x ∷ xs) =
    let short = drop_short k xs in
    let same : suc (length xs) - length (drop k xs) ≡ suc (length xs - length (drop k xs)) = omega (arith, short) in
    ap (λ n. drop n (x ∷ xs)) same ∙ drop_back k xs

-- and the first ones
take_back : (n : ℕ) (xs : List ℕ) → take (length (take n xs)) xs ≡ take n xs
take_back zero xs = refl
take_back (suc n) [] = refl
take_back (suc n) (x ∷ xs) = ap (λ l. x ∷ l) (take_back n xs)

pub whole_end : (bytes : List ℕ) → IsEnd bytes bytes
whole_end bytes = record { from = 0; is = refl }

pub fewer : (bytes xs : List ℕ) (k : ℕ) → IsEnd bytes xs → IsEnd bytes (drop k xs)
fewer bytes xs k e = record { from = e.from + k; is = ap (drop k) e.is ∙ drop_twice e.from k bytes }

end_cond : (bytes : List ℕ) (b : Bool) (xs ys : List ℕ) → IsEnd bytes xs → IsEnd bytes ys → IsEnd bytes (cond b xs ys)
end_cond bytes true xs ys d e = d
end_cond bytes false xs ys d e = e

end_left : (bytes xs : List ℕ) → IsEnd bytes xs → drop (length bytes - length xs) bytes ≡ xs
end_left bytes xs e =
    ap (λ (x : List ℕ). drop (length bytes - length x) bytes) e.is ∙ drop_back e.from bytes ∙ sym e.is

front_back : (bytes xs : List ℕ) → IsFront bytes xs → take (length xs) bytes ≡ xs
front_back bytes xs f =
    ap (λ (x : List ℕ). take (length x) bytes) f.is ∙ take_back f.count bytes ∙ sym f.is

front_front : (m n : ℕ) (xs : List ℕ) → IsFront xs (take m (take n xs))
front_front zero n xs = record { count = 0; is = refl }
front_front (suc m) zero xs = record { count = 0; is = refl }
front_front (suc m) (suc n) [] = record { count = 0; is = refl }
front_front (suc m) (suc n) (x ∷ xs) =
    let r = front_front m n xs in record { count = suc r.count; is = ap (λ l. x ∷ l) r.is }

drop_front : (k n : ℕ) (xs : List ℕ) → IsFront (drop k xs) (drop k (take n xs))
drop_front zero n xs = record { count = n; is = refl }
drop_front (suc k) zero xs = record { count = 0; is = refl }
drop_front (suc k) (suc n) [] = record { count = 0; is = refl }
drop_front (suc k) (suc n) (x ∷ xs) = drop_front k n xs

-- what stands within the first bytes
within_front : (m k n : ℕ) (xs : List ℕ) → IsFront (drop k xs) (take m (drop k (take n xs)))
within_front m k n xs =
    let d = drop_front k n xs in
    let r = front_front m d.count (drop k xs) in
    record { count = r.count; is = ap (take m) d.is ∙ r.is }

-- a name at the front of the last bytes of a statement
pub name_stands : (bytes xs : List ℕ) (n : ℕ) → IsEnd bytes xs → left_of (name_tail xs (take n xs)) (length (trimmed (take n xs))) bytes ≡ trimmed (take n xs)
name_stands bytes xs n e =
    let k = front 0 (take n xs) in
    let long : length xs - k ≡ length (drop k xs) = sym (length-drop k xs) in
    let rest : drop (length bytes - (length xs - k)) bytes ≡ drop k xs = ap (λ (i : ℕ). drop (length bytes - i) bytes) long ∙ end_left bytes (drop k xs) (fewer bytes xs k e) in
    ap (take (length (trimmed (take n xs)))) rest ∙ front_back (drop k xs) (trimmed (take n xs)) (within_front (body 0 (drop k (take n xs))) k n xs)

-- a text has as many bytes without its entities
bare_length : (within : Bool) (bs : List ℕ) → length (bare_from within bs) ≡ length bs
unfolding bare_from
bare_length within [] = refl
bare_length within (b ∷ bs) = ap suc (bare_length (bare_step within b bs).1 bs)

-- a label or a shown name at the end of a statement
from_shown_end : (bytes xs : List ℕ) → IsEnd bytes xs → IsEnd bytes (from_shown xs)
from_shown_end bytes xs e =
    let white = fewer bytes xs (front 0 xs) e in
    let colon = end_cond bytes (begin_so (behind_white xs) (mark_text marks.Colon)) (drop 1 (behind_white xs)) (behind_white xs) (fewer bytes (behind_white xs) 1 white) white in
    let here = behind_colon (behind_white xs) in
    let free = end_cond bytes (begin_so here (mark_text marks.Wrap)) (drop 5 here) (cond (begin_so here (mark_text marks.NoWrap)) (drop 7 here) xs) (fewer bytes here 5 colon) (end_cond bytes (begin_so here (mark_text marks.NoWrap)) (drop 7 here) xs (fewer bytes here 7 colon) e) in
    fewer bytes (unwrapped here xs) (front 0 (unwrapped here xs)) free

pub shown_stands : (bytes xs : List ℕ) → IsEnd bytes xs → without_entities (left_of (shown_text xs).tail (length (shown_text xs).text) bytes) ≡ (shown_text xs).text
shown_stands bytes xs e =
    let rest = from_shown xs in
    let stands : drop (length bytes - length rest) bytes ≡ rest = end_left bytes rest (from_shown_end bytes xs e) in
    let many : length (without_entities (before_white rest)) ≡ length (before_white rest) = bare_length false (before_white rest) in
    ap (λ (n : ℕ). without_entities (take n (drop (length bytes - length rest) bytes))) many
    ∙ ap (λ (l : List ℕ). without_entities (take (length (before_white rest)) l)) stands
    ∙ ap without_entities (take_back (body 0 rest) rest)

-- what follows a value is answered where both are
pub bound : {A B : Type 0} (r : Result A ImportFault) (f : A → Result B ImportFault) (y : B) → (r >>= f) ≡ Ok y → (x : A) × (r ≡ Ok x) × (f x ≡ Ok y)
bound (Ok x) f y e = (x, refl, e)
bound (Err g) f y e = cc

unless_is : {A : Type 0} (b : Bool) (f : ImportFault) (x y : A) → unless b f x ≡ Ok y → x ≡ y
unless_is true f x y e = cc
unless_is false f x y e = cc

-- what stands behind a head, without a sign
sign_end : (bytes xs : List ℕ) → IsEnd bytes xs → IsEnd bytes (behind_sign xs)
sign_end bytes xs e =
    end_cond bytes (begins is_sign xs) (drop 1 xs) (cond (begin_so xs (mark_text marks.Centre)) (drop 2 xs) xs) (fewer bytes xs 1 e)
    (end_cond bytes (begin_so xs (mark_text marks.Centre)) (drop 2 xs) xs (fewer bytes xs 2 e) e)

spelled : (bytes : List ℕ) (x y : Arrow × Tails) → ◌≡◌ {A = Result (Arrow × Tails) ImportFault} (Ok x) (Ok y) → SpellsArrow bytes x.0 x.1 → SpellsArrow bytes y.0 y.1
spelled bytes x y same s =
    let one : x ≡ y = cc in subst (λ (z : Arrow × Tails). SpellsArrow bytes z.0 z.1) one s

-- a statement that begins with no white space begins with what begins it, without white space at both ends
trim_front : (bytes xs : List ℕ) → front 0 bytes ≡ 0 → IsFront bytes xs → IsFront bytes (trimmed xs)
trim_front bytes xs none f =
    let first : trimmed xs ≡ take (body 0 xs) xs = trimmed_first bytes xs f.count none f.is in
    let r = front_front (body 0 xs) f.count bytes in
    record { count = r.count; is = first ∙ ap (take (body 0 xs)) f.is ∙ r.is }

name_front : (here : Position) (bytes xs name : List ℕ) → front 0 bytes ≡ 0 → IsFront bytes xs → name_at here xs ≡ Ok name → IsFront bytes name
unfolding name_at
name_front here bytes xs name none f e =
    subst (IsFront bytes) (unless_is _ _ (trimmed xs) name e) (trim_front bytes xs none f)

take_front : (bytes xs : List ℕ) (n : ℕ) → IsFront bytes xs → IsFront bytes (take n xs)
take_front bytes xs n f =
    let r = front_front n f.count bytes in record { count = r.count; is = ap (take n) f.is ∙ r.is }

central_front : (here : Position) (bytes xs name : List ℕ) → front 0 bytes ≡ 0 → IsFront bytes xs → central_name here xs ≡ Ok name → IsFront bytes name
unfolding central_name
central_front here bytes xs name none f e =
    let b = bound (name_at here xs) _ name e in
    subst (IsFront bytes) (unless_is _ _ b.0 name b.2) (name_front here bytes xs b.0 none f b.1)

sender_front : (here : Position) (bytes xs name : List ℕ) → front 0 bytes ≡ 0 → IsFront bytes xs → sender here xs ≡ Ok name → IsFront bytes name
unfolding sender
sender_front here bytes xs name none f e = by (is_central (trimmed xs)) e
  where
    own : IsFront bytes (trimmed xs)
    own = trim_front bytes xs none f

    by : (b : Bool) → cond b (central_name here (take (length (trimmed xs) - 2) (trimmed xs))) (name_at here (trimmed xs)) ≡ Ok name → IsFront bytes name
    by true e = central_front here bytes (take (length (trimmed xs) - 2) (trimmed xs)) name none (take_front bytes (trimmed xs) (length (trimmed xs) - 2) own) e
    by false e = name_front here bytes (trimmed xs) name none own e

module _ (cross : Option Cross) (dying : List (List ℕ)) (here : Position) (a : Arrow) (t : Tails) where
  -- the arrow of these parts spells its ends and its label in the statement
  arrow_by_spells : (bytes : List ℕ) (head : Head) (front' rest : List ℕ) → IsFront bytes front' → IsEnd bytes rest → arrow_by cross dying here head front' rest ≡ Ok (a, t) → SpellsArrow bytes a t
  unfolding arrow_by no_second parted name_at
  arrow_by_spells bytes head front' rest f e is =
      let right = bound (unless (not (is_leftward head)) (Unsupported here head) rest) _ (a, t) is in
      let from = bound (sender here front') _ (a, t) right.2 in
      let behind = bound (no_second here (behind_white right.0)) _ (a, t) from.2 in
      let named = behind_sign behind.0 in
      let n = before (sought.Text marks.Colon) named in
      let parts = bound (parted here marks.Colon wanted.Label named) _ (a, t) behind.2 in
      let to = bound (name_at here parts.0.0) _ (a, t) parts.2 in
      let same_right : rest ≡ right.0 = unless_is _ _ rest right.0 right.1 in
      let same_behind : behind_white right.0 ≡ behind.0 = unless_is _ _ (behind_white right.0) behind.0 behind.1 in
      let same_parts : (take n named, drop (length (mark_text marks.Colon)) (drop n named)) ≡ parts.0 = unless_is _ _ (take n named, drop (length (mark_text marks.Colon)) (drop n named)) parts.0 parts.1 in
      let same_to : trimmed parts.0.0 ≡ to.0 = unless_is _ _ (trimmed parts.0.0) to.0 to.1 in
      let end_right = subst (IsEnd bytes) same_right e in
      let end_named = sign_end bytes behind.0 (subst (IsEnd bytes) same_behind (fewer bytes right.0 (front 0 right.0) end_right)) in
      let end_label = fewer bytes (drop n named) (length (mark_text marks.Colon)) (fewer bytes named n end_named) in
      let first : take n named ≡ parts.0.0 = ap (λ (p : List ℕ × List ℕ). p.0) same_parts in
      let second : drop (length (mark_text marks.Colon)) (drop n named) ≡ parts.0.1 = ap (λ (p : List ℕ × List ℕ). p.1) same_parts in
      let label = shown_stands bytes parts.0.1 (subst (IsEnd bytes) second end_label) in
      let name : left_of (name_tail named parts.0.0) (length (trimmed parts.0.0)) bytes ≡ trimmed parts.0.0 = subst (λ (x : List ℕ). left_of (name_tail named x) (length (trimmed x)) bytes ≡ trimmed x) first (name_stands bytes named n end_named) in
      let receiver : left_of (name_tail named parts.0.0) (length to.0) bytes ≡ to.0 = subst (λ (x : List ℕ). left_of (name_tail named parts.0.0) (length x) bytes ≡ x) same_to name in
      let first : front 0 bytes ≡ 0 → take (length from.0) bytes ≡ from.0 = λ none. front_back bytes from.0 (sender_front here bytes front' from.0 none f from.1) in
      spelled bytes _ (a, t) to.2 (record { sender = first; receiver = receiver; label = label })

  -- and so does the arrow of a statement
  pub arrow_spells : (bytes : List ℕ) → arrow_of cross dying here bytes ≡ Ok (a, t) → SpellsArrow bytes a t
  unfolding arrow_of
  arrow_spells bytes e = by (before sought.Arrow bytes) (head_of (drop (before sought.Arrow bytes) bytes)) e
    where
      by : (at : ℕ) (o : Option Head) → arrow_with cross dying here bytes at o ≡ Ok (a, t) → SpellsArrow bytes a t
      by at None e = cc
      by at (Some head) e =
          arrow_by_spells bytes head (take at bytes) (drop (at + length (head_text head)) bytes) (record { count = at; is = refl }) (fewer bytes bytes (at + length (head_text head)) (whole_end bytes)) e

-- a line that is declared spells its name
declares_named : (bytes name : List ℕ) (tail : ℕ) (shown : Option Shown) → left_of tail (length name) bytes ≡ name → SpellsName bytes (declares name tail shown).0 (declares name tail shown).1
declares_named bytes name tail None h ident shown e =
    let same : name ≡ ident = cc in subst (λ (x : List ℕ). left_of tail (length x) bytes ≡ x) same h
declares_named bytes name tail (Some s) h ident shown e =
    let same : name ≡ ident = cc in subst (λ (x : List ℕ). left_of tail (length x) bytes ≡ x) same h

named : (bytes : List ℕ) (x y : Statement × Tails) → ◌≡◌ {A = Result (Statement × Tails) ImportFault} (Ok x) (Ok y) → SpellsName bytes x.0 x.1 → SpellsName bytes y.0 y.1
named bytes x y same s =
    let one : x ≡ y = cc in subst (λ (z : Statement × Tails). SpellsName bytes z.0 z.1) one s

-- a name that stands there
Named : List ℕ → ℕ → List ℕ → Type 0
Named bytes tail ident = left_of tail (length (trimmed ident)) bytes ≡ trimmed ident

name_is : (here : Position) (bytes ident name : List ℕ) (tail : ℕ) → Named bytes tail ident → name_at here ident ≡ Ok name → left_of tail (length name) bytes ≡ name
unfolding name_at Named
name_is here bytes ident name tail h e =
    subst (λ (x : List ℕ). left_of tail (length x) bytes ≡ x) (unless_is _ _ (trimmed ident) name e) h

module _ (here : Position) (bytes : List ℕ) (y : Statement × Tails) where
  line_spells : (ident : List ℕ) (tail : ℕ) (shown : Option Shown) → Named bytes tail ident → line_of here ident tail shown ≡ Ok y → SpellsName bytes y.0 y.1
  unfolding line_of
  line_spells ident tail shown h e =
      let b = bound (name_at here ident) _ y e in
      named bytes (declares b.0 tail shown) y b.2 (declares_named bytes b.0 tail shown (name_is here bytes ident b.0 tail h b.1))

  configured_spells : (ident : List ℕ) (tail : ℕ) (config : List ℕ) → Named bytes tail ident → configured here ident tail config ≡ Ok y → SpellsName bytes y.0 y.1
  unfolding configured
  configured_spells ident tail config h e =
      let b = bound (name_at here ident) _ y e in
      let p = bound (parted here marks.DescriptionEnd wanted.Description config) _ y b.2 in
      let s = bound (shown_behind here (length config - length p.0.0) p.0.0 (behind_white p.0.1)) _ y p.2 in
      named bytes (declares b.0 tail s.0) y s.2 (declares_named bytes b.0 tail s.0 (name_is here bytes ident b.0 tail h b.1))

first_named : (bytes : List ℕ) (n : ℕ) → Named bytes (name_tail bytes (take n bytes)) (take n bytes)
unfolding Named
first_named bytes n = name_stands bytes bytes n (whole_end bytes)

whole_named : (bytes : List ℕ) → Named bytes (name_tail bytes bytes) bytes
whole_named bytes =
    subst (λ (x : List ℕ). Named bytes (name_tail bytes x) x) (take-length bytes) (first_named bytes (length bytes))

plain_spells : (here : Position) (bytes : List ℕ) (y : Statement × Tails) → plain here bytes ≡ Ok y → SpellsName bytes y.0 y.1
unfolding plain
plain_spells here bytes y e = by (holds bytes sought.Alias) e
  where
    by : (b : Bool) → cond b (line_of here (take (before sought.Alias bytes) bytes) (name_tail bytes (take (before sought.Alias bytes) bytes)) (Some (shown_text (drop 2 (behind_white (drop (before sought.Alias bytes) bytes)))))) (line_of here bytes (name_tail bytes bytes) None) ≡ Ok y → SpellsName bytes y.0 y.1
    by true e = line_spells here bytes y _ _ _ (first_named bytes (before sought.Alias bytes)) e
    by false e = line_spells here bytes y bytes (name_tail bytes bytes) None (whole_named bytes) e

pub declared_spells : (here : Position) (bytes : List ℕ) (s : Statement) (t : Tails) → declared here bytes ≡ Ok (s, t) → SpellsName bytes s t
unfolding declared
declared_spells here bytes s t e = by (nat_lt (before (sought.Text marks.Config) bytes) (before sought.Alias bytes)) e
  where
    by : (b : Bool) → cond b (configured here (take (before (sought.Text marks.Config) bytes) bytes) (name_tail bytes (take (before (sought.Text marks.Config) bytes) bytes)) (drop 2 (drop (before (sought.Text marks.Config) bytes) bytes))) (plain here bytes) ≡ Ok (s, t) → SpellsName bytes s t
    by true e = configured_spells here bytes (s, t) _ _ _ (first_named bytes (before (sought.Text marks.Config) bytes)) e
    by false e = plain_spells here bytes (s, t) e
