-- White space, one byte more.
use Rattle.std.proofs.Common.{◌≡◌, ◌<◌, ◌≤◌, ℕ, ◌+◌, ◌-◌, Bool, true, false, cond, ◌||◌, ◌==◌, nat_lt, zero, suc, List, [], ◌∷◌, length, get_or, drop, refl, sym, ap, ◌∙◌, arith, tests}
use Rattle.std.proofs.lemmas.List.{drop_more, drop_all}
use Rattle.msc_mermaid.specs.White.{ahead, front, body}

front_cons : (left b : ℕ) (bs : List ℕ) (here : ℕ) → ahead left (b ∷ bs) ≡ here → front left (b ∷ bs) ≡ cond (here == 0) 0 (1 + front (here - 1) bs)
unfolding front
front_cons left b bs here e = ap (λ n. cond (n == 0) 0 (1 + front (n - 1) bs)) e

front_nothing : (left : ℕ) → front left [] ≡ 0
unfolding front
front_nothing left = refl

body_cons : (left b : ℕ) (bs : List ℕ) (here : ℕ) → ahead left (b ∷ bs) ≡ here → body left (b ∷ bs) ≡ cond (here == 0 || nat_lt 0 (body (here - 1) bs)) (1 + body (here - 1) bs) 0
unfolding body
body_cons left b bs here e = ap (λ n. cond (n == 0 || nat_lt 0 (body (n - 1) bs)) (1 + body (n - 1) bs) 0) e

body_nothing : (left : ℕ) → body left [] ≡ 0
unfolding body
body_nothing left = refl

module _ (bytes : List ℕ) (i left : ℕ) where
  module _ (inside : i < length bytes) (here : ℕ) (is : ahead left (drop i bytes) ≡ here) where
    at : ahead left (get_or bytes i 0 ∷ drop (i + 1) bytes) ≡ here
    at = sym (ap (ahead left) (drop_more bytes i 0 inside)) ∙ is

    front_next : front left (drop i bytes) ≡ cond (here == 0) 0 (1 + front (here - 1) (drop (i + 1) bytes))
    front_next = ap (front left) (drop_more bytes i 0 inside) ∙ front_cons left (get_or bytes i 0) (drop (i + 1) bytes) here at

    -- no white space stands here
    pub front_stops : here ≡ 0 → front left (drop i bytes) ≡ 0
    front_stops none = front_next ∙ ap (λ n. cond (n == 0) 0 (1 + front (n - 1) (drop (i + 1) bytes))) none

    -- white space goes on
    pub front_on : (here == 0) ≡ false → front left (drop i bytes) ≡ 1 + front (here - 1) (drop (i + 1) bytes)
    front_on some = front_next ∙ ap (λ t. cond t 0 (1 + front (here - 1) (drop (i + 1) bytes))) some

    pub body_next : body left (drop i bytes) ≡ cond (here == 0 || nat_lt 0 (body (here - 1) (drop (i + 1) bytes))) (1 + body (here - 1) (drop (i + 1) bytes)) 0
    body_next = ap (body left) (drop_more bytes i 0 inside) ∙ body_cons left (get_or bytes i 0) (drop (i + 1) bytes) here at

  -- no byte is left
  pub front_end : length bytes ≤ i → front left (drop i bytes) ≡ 0
  front_end over = ap (front left) (drop_all i bytes over) ∙ front_nothing left

  pub body_end : length bytes ≤ i → body left (drop i bytes) ≡ 0
  body_end over = ap (body left) (drop_all i bytes over) ∙ body_nothing left

-- where the body ends, if the last byte before i that is not of white space ends at end
abbrev pub ends : ℕ → ℕ → ℕ → ℕ
ends i end more = cond (nat_lt 0 more) (i + more) end

-- one byte more, of white space or not
pub ends_on : (i end : ℕ) (text : Bool) (more : ℕ) → ends i end (cond (text || nat_lt 0 more) (1 + more) 0) ≡ ends (i + 1) (cond text (i + 1) end) more
ends_on i end true zero = omega arith
ends_on i end true (suc m) =
    let some : nat_lt 0 (suc m) ≡ true = search (arith, tests) in
    let more : nat_lt 0 (1 + suc m) ≡ true = search (arith, tests) in
    ap (λ t. cond t (i + (1 + suc m)) end) more ∙ sym (ap (λ t. cond t (i + 1 + suc m) (i + 1)) some ∙ (omega arith))
ends_on i end false zero = refl
ends_on i end false (suc m) =
    let some : nat_lt 0 (suc m) ≡ true = search (arith, tests) in
    let more : nat_lt 0 (1 + suc m) ≡ true = search (arith, tests) in
    ap (λ t. ends i end (cond t (1 + suc m) 0)) some ∙ ap (λ t. cond t (i + (1 + suc m)) end) more ∙ sym (ap (λ t. cond t (i + 1 + suc m) end) some ∙ (omega arith))

-- so far the body ends before the next byte
pub ends_within : (i end here next : ℕ) → next ≡ cond (here == 0) (i + 1) end → end ≤ i → next ≤ i + 1
ends_within i end zero next is low = omega (arith, is)
ends_within i end (suc h) next is low =
    let some : (suc h == 0) ≡ false = search (arith, tests) in
    let same : next ≡ end = is ∙ ap (λ t. cond t (i + 1) end) some in
    omega (arith, same, low)

-- white space in front is no longer than the bytes
pub front_within : (left : ℕ) (bytes : List ℕ) → front left bytes ≤ length bytes
front_within left [] = omega (arith, front_nothing left)
front_within left (b ∷ bs) =
    let more = front_within (ahead left (b ∷ bs) - 1) bs in
    let here = front_cons left b bs (ahead left (b ∷ bs)) refl in
    elim (ahead left (b ∷ bs) == 0) as (λ t. front left (b ∷ bs) ≡ cond t 0 (1 + front (ahead left (b ∷ bs) - 1) bs) → front left (b ∷ bs) ≤ length (b ∷ bs)) [
      | true ↦ λ e. omega (arith, e)
      | false ↦ λ e. omega (arith, e, more)
    ] here
