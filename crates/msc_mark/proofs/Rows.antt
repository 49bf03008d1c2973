-- Rows of the events that marks are for: made mark by mark, and read.
use Rattle.std.proofs.Common.{◌≡◌, ℕ, ◌+◌, ◌<◌, ◌≤◌, ◌*◌, true, false, ◌||◌, not, List, [], ◌∷◌, ◌++◌, Some, length, get_or, slice_get, refl, sym, ap, ◌∙◌, subst, arith, inl, inr, length-append}
use Rattle.std.specs.Option.{option_copied}
use Rattle.std.specs.Prelude.{nat_lt, Result, Ok, Err, IfOk}
use Rattle.std.proofs.lemmas.Bool.{cases_lt, lt-ltb}
use Rattle.std.proofs.lemmas.List.{get_or_append_left, get_or_default, get_or_push}
use Rattle.std.proofs.lemmas.Option.{get_or_from_slice_get, slice_get-get_or, slice_get_within}
use Rattle.bit_rows.specs.Rows.{has}
use Rattle.msc_chart.specs.Drawings.{Drawing}
use Rattle.msc_mark.specs.declared.ident.Ident as code
use Rattle.msc_mark.specs.declared.mark.Mark.{Mark}
use Rattle.msc_mark.specs.Accepting.{has_part, is_event_place, name_at, names_event, names_ident, number_at}
use Rattle.msc_mark.specs.Named.{AreNumbered, AreRows, HasNamed, IsKept, AreKept, MarkedChart, marked_chart}
use Rattle.msc_mark.proofs.Looking.{no_mark}

-- what follows for each value holds of the one that is answered
pub ok_more : {T E : Type 0} {P Q : T → Type 0} (r : Result T E) → ((x : T) → P x → Q x) → IfOk r P → IfOk r Q
ok_more (Ok x) more h = more x h
ok_more (Err e) more h = h

-- a mark that names no events is for all
pub full_is : (keys : List code.Ident) (m : Mark) (row : List ℕ) → has_part is_event_place m.words ≡ false
    → ((y : ℕ) → has row y ≡ nat_lt y (length keys)) → HasNamed keys m row
full_is keys m row none full q k at =
    full q ∙ lt-ltb q (length keys) (slice_get_within keys q k at)
    ∙ sym (ap (λ b. not b || names_ident k.name.now (option_copied k.number) m.words) none)

-- any other is for those that its words name
pub named_is : (keys : List code.Ident) (m : Mark) (old row : List ℕ) → has_part is_event_place m.words ≡ true
    → ((y : ℕ) → has old y ≡ false)
    → ((q : ℕ) (k : code.Ident) → slice_get keys q ≡ Some k
    → has row q ≡ (has old q || names_ident k.name.now (option_copied k.number) m.words))
    → HasNamed keys m row
named_is keys m old row some blank put q k at =
    put q k at ∙ ap (λ b. b || names_ident k.name.now (option_copied k.number) m.words) (blank q)
    ∙ sym (ap (λ b. not b || names_ident k.name.now (option_copied k.number) m.words) some)

-- the marks below i have their rows
pub record AreRowsTo (keys : List code.Ident) (marks : List Mark) (i : ℕ) (rows : List (List ℕ)) : Type 0 where
  pub all : length rows ≡ i
  pub room : (j : ℕ) → j < i → length keys ≤ 64 * length (get_or rows j [])
  pub each : (j : ℕ) (m : Mark) → j < i → slice_get marks j ≡ Some m → HasNamed keys m (get_or rows j [])

module _ (keys : List code.Ident) (marks : List Mark) where
  pub no_rows : AreRowsTo keys marks 0 []
  no_rows = record {
    all = refl;
    room = λ j less. absurd (omega arith);
    each = λ j m less at. absurd (omega arith);
  }

  -- one more
  pub rows_more : (i : ℕ) (rows : List (List ℕ)) (row : List ℕ) (m : Mark) → m ≡ get_or marks i m
      → length keys ≤ 64 * length row → HasNamed keys m row → AreRowsTo keys marks i rows
      → AreRowsTo keys marks (i + 1) (rows ++ row ∷ [])
  rows_more i rows row m is room named so_far = record {
    all = let size = so_far.all in omega (arith, size, length-append rows (row ∷ []));
    room = λ j less. elim (cases_lt j i) [
      | inl before ↦ subst (λ r. length keys ≤ 64 * length r) (sym (earlier j before)) (so_far.room j before)
      | inr past ↦ subst (λ r. length keys ≤ 64 * length r) (sym (last j (omega arith))) room
    ];
    each = λ j n less at. elim (cases_lt j i) [
      | inl before ↦ subst (HasNamed keys n) (sym (earlier j before)) (so_far.each j n before at)
      | inr past ↦
          let here : j ≡ i = omega arith in
          let same : m ≡ n = is ∙ ap (λ k. get_or marks k m) (sym here) ∙ get_or_from_slice_get marks j n m at in
          subst (HasNamed keys n) (sym (last j here)) (subst (λ x. HasNamed keys x row) same named)
    ];
  }
    where
      earlier : (j : ℕ) → j < i → get_or (rows ++ row ∷ []) j [] ≡ get_or rows j []
      earlier j before = get_or_append_left rows (row ∷ []) [] j (let size = so_far.all in omega (arith, size, before))

      last : (j : ℕ) → j ≡ i → get_or (rows ++ row ∷ []) j [] ≡ row
      last j here = get_or_push rows row [] j (so_far.all ∙ sym here)

  -- all marks have theirs
  pub rows_all : (i : ℕ) (rows : List (List ℕ)) → i ≡ length marks → AreRowsTo keys marks i rows
      → AreRows keys marks rows
  rows_all i rows past h = record {
    all = h.all ∙ past;
    room = λ j less. h.room j (let size = h.all in omega (arith, size, less));
    each = λ j m at. h.each j m (let inside = slice_get_within marks j m at in omega (arith, past, inside)) at;
  }

-- what is kept with no marks
pub nothing_kept : (marks : List Mark) (d : Drawing) → length marks ≡ 0 → AreKept marks d [] []
nothing_kept marks d none = record {
  all = sym none;
  each = λ i f m at known. absurd (let inside = slice_get_within marks i m at in omega (arith, inside, none));
}

-- what is kept of numbers and rows
pub all_kept : (marks : List Mark) (d : Drawing) (keys : List code.Ident) (numbers : List ℕ) (rows : List (List ℕ))
    → AreNumbered d keys numbers → AreRows keys marks rows → AreKept marks d numbers rows
all_kept marks d keys numbers rows n r = record {
  all = r.all;
  each = λ i f m at known.
      let inside : f < length numbers = let size = n.all in omega (arith, size, known) in
      let key = n.each f inside in
      let row = get_or rows i [] in
      let there : i < length rows = let size = r.all in let within = slice_get_within marks i m at in omega (arith, size, within) in
      let named = r.each i m at (get_or numbers f 0) key.key key.there in
      record {
        known = inside;
        within = let few = slice_get_within keys (get_or numbers f 0) key.key key.there in let room = r.room i there in omega (arith, few, room);
        named = named ∙ ap (λ x. names_event x (option_copied key.key.number) m) key.name
            ∙ ap (λ y. names_event (name_at d f) y m) key.number;
      };
}

module _ (v : MarkedChart) (marks : List Mark) (d : Drawing) (numbers : List ℕ) (rows : List (List ℕ))
    (same : marked_chart marks d ≡ v) (kept : AreKept marks d numbers rows) where
  -- of what is kept, what is seen
  kept_at : (i f : ℕ) (m : Mark) → slice_get v.marks i ≡ Some m → f < length v.chart.events
      → IsKept v.chart m (get_or rows i []) numbers f
  kept_at i f =
      subst (λ w. (m : Mark) → slice_get w.marks i ≡ Some m → f < length w.chart.events → IsKept w.chart m (get_or rows i []) numbers f) same (kept.each i f)

  kept_some : (i f : ℕ) → i < length v.marks → f < length v.chart.events
      → IsKept v.chart (get_or v.marks i no_mark) (get_or rows i []) numbers f
  kept_some i f inside known = kept_at i f (get_or v.marks i no_mark) (slice_get-get_or v.marks i no_mark inside) known

  row_is : (i : ℕ) (row x : List ℕ) → i < length v.marks → row ≡ x → x ≡ get_or rows i x → row ≡ get_or rows i []
  row_is i row x inside is at =
      let all = kept.all in
      let seen = ap (λ w. length w.marks) same in
      let there : i < length rows = omega (arith, all, seen, inside) in
      is ∙ at ∙ get_or_default rows i x [] there

  number_is : (i f n : ℕ) → i < length v.marks → f < length v.chart.events → n ≡ get_or numbers f n → n ≡ get_or numbers f 0
  number_is i f n inside known at = at ∙ get_or_default numbers f n 0 (kept_some i f inside known).known

  -- the event has a number
  pub number_known : (i f : ℕ) → i < length v.marks → f < length v.chart.events → f < length numbers
  number_known i f inside known = (kept_some i f inside known).known

  -- the row has room for it
  pub number_within : (i f n : ℕ) (row x : List ℕ) → i < length v.marks → f < length v.chart.events → row ≡ x
      → x ≡ get_or rows i x → n ≡ get_or numbers f n → n < 64 * length row
  number_within i f n row x inside known is at number =
      subst (λ r. n < 64 * length r) (sym (row_is i row x inside is at))
      (subst (λ k. k < 64 * length (get_or rows i [])) (sym (number_is i f n inside known number)) (kept_some i f inside known).within)

  -- and the row has it exactly if the mark is for the event
  pub number_told : (i f n : ℕ) (row x : List ℕ) (m : Mark) → i < length v.marks → f < length v.chart.events → row ≡ x
      → x ≡ get_or rows i x → n ≡ get_or numbers f n → slice_get v.marks i ≡ Some m
      → has row n ≡ names_event (name_at v.chart f) (number_at v.chart f) m
  number_told i f n row x m inside known is at number there =
      ap (λ r. has r n) (row_is i row x inside is at)
      ∙ ap (has (get_or rows i [])) (number_is i f n inside known number)
      ∙ (kept_at i f m there known).named
