-- Walks over tokens: at each token that leads, one element is read from it on. What is collected along a
-- walk is said of those elements, one for each.
use Rattle.std.proofs.Common.{◌≡◌, ℕ, zero, suc, ◌+◌, ◌≤◌, Bool, true, false, ◌||◌, cond, List, [], ◌∷◌, ◌++◌, length, Option, Some, None, MatchOption, slice_get, refl, sym, ap, subst, ◌∙◌, arith}
use Rattle.std.specs.List.{AllByRecursion}
use Rattle.std.proofs.lemmas.List.{append_assoc}
use Rattle.std.proofs.lemmas.List.Sums.{sum_by-append, sum_by-cons}
use Rattle.msc_lexer.specs.Lexemes.{Symbol, Lexeme}
use Rattle.msc_place.specs.Standing.{tokens_with}
use Rattle.msc_place.specs.Collecting.{collected}
use Rattle.msc_place.proofs.Collected.{collected_led, collected_passed}

-- ---- tokens that are passed over

-- the tokens from b up to a fail the test
pub record Passes (test : Symbol → Bool) (b a : List Lexeme) : Type 0 where
  pub gap : List Lexeme
  pub whole : b ≡ gap ++ a
  pub fails : AllByRecursion (λ l. test l.symbol ≡ false) gap

-- no token is passed over
pub passes_none : (test : Symbol → Bool) (a : List Lexeme) → Passes test a a
passes_none test a = record { gap = []; whole = refl; fails = tt }

-- each of two lists passes, so both do
pub AllByRecursion-append : {X : Type 0} (P : X → Type 0) (xs ys : List X) → AllByRecursion P xs
    → AllByRecursion P ys → AllByRecursion P (xs ++ ys)
AllByRecursion-append P [] ys h k = k
AllByRecursion-append P (x ∷ xs) ys h k = (h.0, AllByRecursion-append P xs ys h.1 k)

-- one behind the other
pub passes_on : (test : Symbol → Bool) (b m a : List Lexeme) → Passes test b m → Passes test m a
    → Passes test b a
passes_on test b m a h k = record {
  gap = h.gap ++ k.gap;
  whole = h.whole ∙ ap (λ ls. h.gap ++ ls) k.whole ∙ sym (append_assoc h.gap k.gap a);
  fails = AllByRecursion-append (λ l. test l.symbol ≡ false) h.gap k.gap h.fails k.fails;
}

-- a test that fails wherever another does
pub weaker_all : (test other : Symbol → Bool) → ((s : Symbol) → test s ≡ false → other s ≡ false)
    → (ls : List Lexeme) → AllByRecursion (λ l. test l.symbol ≡ false) ls
    → AllByRecursion (λ l. other l.symbol ≡ false) ls
weaker_all test other f [] h = tt
weaker_all test other f (l ∷ ls) h = (f l.symbol h.0, weaker_all test other f ls h.1)

pub passes_weaker : (test other : Symbol → Bool)
    → ((s : Symbol) → test s ≡ false → other s ≡ false) → (b a : List Lexeme) → Passes test b a
    → Passes other b a
passes_weaker test other f b a h =
    record { gap = h.gap; whole = h.whole; fails = weaker_all test other f h.gap h.fails }

-- tokens that fail a test are none of those that pass it
pub none_with : (test : Symbol → Bool) (ls : List Lexeme)
    → AllByRecursion (λ l. test l.symbol ≡ false) ls → tokens_with test ls ≡ 0
none_with test [] h = refl
none_with test (l ∷ ls) h =
    sum_by-cons (λ m. cond (test m.symbol) 1 0) l ls ∙ rw (h.0, none_with test ls h.1) refl

-- tokens, and a token and tokens behind them, of which so many pass a test
with_one : (test : Symbol → Bool) (gap front : List Lexeme) (first : Lexeme) (n : ℕ)
    → tokens_with test gap ≡ 0 → test first.symbol ≡ true → tokens_with test front ≡ n
    → tokens_with test (gap ++ first ∷ front) ≡ suc n
with_one test gap front first n none is others =
    let f : Lexeme → ℕ = λ l. cond (test l.symbol) 1 0 in
    let a = sum_by-append f gap (first ∷ front) in
    let b : tokens_with test (first ∷ front) ≡ 1 + tokens_with test front = sum_by-cons f first front ∙ rw is refl in
    omega (arith, a, b, none, others)

with_none : (test : Symbol → Bool) (gap front : List Lexeme) (first : Lexeme)
    → tokens_with test gap ≡ 0 → test first.symbol ≡ false → tokens_with test front ≡ 0
    → tokens_with test (gap ++ first ∷ front) ≡ 0
with_none test gap front first none is others =
    let f : Lexeme → ℕ = λ l. cond (test l.symbol) 1 0 in
    let a = sum_by-append f gap (first ∷ front) in
    let b : tokens_with test (first ∷ front) ≡ 0 + tokens_with test front = sum_by-cons f first front ∙ rw is refl in
    omega (arith, a, b, none, others)

-- neither of two tests passes
pub neither : (x y : Bool) → (x || y) ≡ false → (x ≡ false) × (y ≡ false)
neither true y h = cc
neither false y h = (refl, h)

-- what holds of an optional value, more weakly
pub match_weaker : {X : Type 0} (o : Option X) (N M : Type 0) (S T : X → Type 0) → (N → M)
    → ((x : X) → S x → T x) → MatchOption o N S → MatchOption o M T
match_weaker None N M S T f g h = f h
match_weaker (Some x) N M S T f g h = g x h

-- ---- walks

module _ {Y P : Type 0} (leads stops : Symbol → Bool) (IsOne : List Lexeme → Y → Type 0) (of : List Lexeme → P) where
  -- a token that is no reason to stop and leads nothing
  abbrev pub other : Symbol → Bool
  other s = leads s || stops s

  -- from b up to a the tokens that lead are as many as the elements, and each is read from its own
  abbrev pub Walks : List Lexeme → List Lexeme → List Y → Type 0
  Walks b a [] = Passes other b a
  Walks b a (y ∷ ys) =
      (first : Lexeme) × (rest : List Lexeme) × Passes other b (first ∷ rest) × (leads first.symbol ≡ true) × (stops first.symbol ≡ false) × IsOne (first ∷ rest) y × Walks rest a ys

  -- a walk begins with tokens that are passed over
  pub walks_behind : (ys : List Y) (b m a : List Lexeme) → Passes other b m → Walks m a ys
      → Walks b a ys
  walks_behind [] b m a h w = passes_on other b m a h w
  walks_behind (y ∷ ys) b m a h w =
      (w.0, w.1, passes_on other b m (w.0 ∷ w.1) h w.2, w.3, w.4, w.5, w.6)

  -- one walk behind another
  pub walks_on : (xs ys : List Y) (b m a : List Lexeme) → Walks b m xs → Walks m a ys
      → Walks b a (xs ++ ys)
  walks_on [] ys b m a h w = walks_behind ys b m a h w
  walks_on (x ∷ xs) ys b m a h w =
      (h.0, h.1, h.2, h.3, h.4, h.5, walks_on xs ys h.1 m a h.6 w)

  -- a walk ends with tokens that are passed over
  pub walks_past : (ys : List Y) (b m a : List Lexeme) → Walks b m ys → Passes other m a
      → Walks b a ys
  walks_past [] b m a h w = passes_on other b m a h w
  walks_past (y ∷ ys) b m a h w =
      (h.0, h.1, h.2, h.3, h.4, h.5, walks_past ys h.1 m a h.6 w)

  -- what is collected of a walk: element k is read from a token that leads, before which k others
  -- stand, and the place is what is said of the tokens from it on
  pub record Found (b : List Lexeme) (ys : List Y) (k : ℕ) (p : P) : Type 0 where
    pub element : Y
    pub front : List Lexeme
    pub first : Lexeme
    pub rest : List Lexeme
    pub whole : b ≡ front ++ first ∷ rest
    pub earlier : tokens_with leads front ≡ k
    pub on : tokens_with stops front ≡ 0
    pub led : leads first.symbol ≡ true
    pub listed : slice_get ys k ≡ Some element
    pub is_one : IsOne (first ∷ rest) element
    pub is : p ≡ of (first ∷ rest)

  -- a place for each element, and no more
  abbrev pub AreFound : List Lexeme → List Y → List P → Type 0
  AreFound b ys ps = (k : ℕ) → MatchOption (slice_get ps k) (length ys ≤ k) (Found b ys k)

  -- nothing is collected of tokens that are passed over
  pub collected_gap : (gap a : List Lexeme) → AllByRecursion (λ l. other l.symbol ≡ false) gap
      → collected leads stops of (gap ++ a) ≡ collected leads stops of a
  collected_gap [] a h = refl
  collected_gap (l ∷ ls) a h =
      let n = neither (leads l.symbol) (stops l.symbol) h.0 in
      collected_passed leads stops of l (ls ++ a) n.1 n.0 ∙ collected_gap ls a h.1

  -- no token that is passed over leads, and none stops
  gap_leads : (b a : List Lexeme) (h : Passes other b a) → tokens_with leads h.gap ≡ 0
  gap_leads b a h =
      none_with leads h.gap (weaker_all other leads (λ s n. (neither (leads s) (stops s) n).0) h.gap h.fails)

  gap_stops : (b a : List Lexeme) (h : Passes other b a) → tokens_with stops h.gap ≡ 0
  gap_stops b a h =
      none_with stops h.gap (weaker_all other stops (λ s n. (neither (leads s) (stops s) n).1) h.gap h.fails)

  -- what was found behind the first element
  found_later : (y : Y) (ys : List Y) (b rest : List Lexeme) (first : Lexeme)
      → Passes other b (first ∷ rest) → leads first.symbol ≡ true → stops first.symbol ≡ false
      → (k : ℕ) (p : P) → Found rest ys k p → Found b (y ∷ ys) (suc k) p
  found_later y ys b rest first h led goes k p f = record {
    element = f.element;
    front = h.gap ++ first ∷ f.front;
    first = f.first;
    rest = f.rest;
    whole =
        h.whole ∙ ap (λ (r : List Lexeme). h.gap ++ first ∷ r) f.whole
        ∙ sym (append_assoc h.gap (first ∷ f.front) (f.first ∷ f.rest));
    earlier = with_one leads h.gap f.front first k (gap_leads b (first ∷ rest) h) led f.earlier;
    on = with_none stops h.gap f.front first (gap_stops b (first ∷ rest) h) goes f.on;
    led = f.led;
    listed = f.listed;
    is_one = f.is_one;
    is = f.is;
  }

  -- the first element was found, and those behind it
  found_next : (y : Y) (ys : List Y) (b rest : List Lexeme) (first : Lexeme) (ps : List P)
      → Passes other b (first ∷ rest) → leads first.symbol ≡ true → stops first.symbol ≡ false
      → IsOne (first ∷ rest) y → AreFound rest ys ps
      → AreFound b (y ∷ ys) (of (first ∷ rest) ∷ ps)
  found_next y ys b rest first ps h led goes one others zero = record {
    element = y;
    front = h.gap;
    first = first;
    rest = rest;
    whole = h.whole;
    earlier = gap_leads b (first ∷ rest) h;
    on = gap_stops b (first ∷ rest) h;
    led = led;
    listed = refl;
    is_one = one;
    is = refl;
  }
  found_next y ys b rest first ps h led goes one others (suc k) =
      match_weaker (slice_get ps k) (length ys ≤ k) (suc (length ys) ≤ suc k) (Found rest ys k) (Found b (y ∷ ys) (suc k))
      (λ le. omega (arith, le)) (found_later y ys b rest first h led goes k) (others k)

  -- along a walk behind which nothing is collected, a place is collected for each element
  pub found_all : (ys : List Y) (b a : List Lexeme) → Walks b a ys
      → collected leads stops of a ≡ [] → AreFound b ys (collected leads stops of b)
  found_all [] b a h none =
      let e : collected leads stops of b ≡ [] =
      ap (collected leads stops of) h.whole ∙ collected_gap h.gap a h.fails ∙ none in
      subst (AreFound b []) (sym e) (λ k. omega arith)
  found_all (y ∷ ys) b a h none =
      let e : collected leads stops of b ≡ of (h.0 ∷ h.1) ∷ collected leads stops of h.1 =
      ap (collected leads stops of) h.2.whole ∙ collected_gap h.2.gap (h.0 ∷ h.1) h.2.fails ∙ collected_led leads stops of h.0 h.1 h.4 h.3 in
      let others = found_all ys h.1 a h.6 none in
      subst (AreFound b (y ∷ ys)) (sym e) (found_next y ys b h.1 h.0 (collected leads stops of h.1) h.2 h.3 h.4 h.5 others)
