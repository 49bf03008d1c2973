-- Races that are told one by one.
use Rattle.std.proofs.Common.{◌≡◌, ℕ, zero, suc, ◌+◌, ◌-◌, ◌<◌, ◌≤◌, ◌⊎◌, Bool, true, false, List, [], ◌∷◌, ◌++◌, Option, None, Some, length, map, take, fold, inl, inr, refl, sym, ap, subst, ◌∙◌, append-nil, arith}
use Rattle.std.proofs.lemmas.Bool.{true≢false}
use Rattle.std.proofs.lemmas.List.{length-append, length-map, length-take, map-append, take-append-le, take_all}
use Rattle.std.proofs.lemmas.List.Elements.{All-append, All-cons, All-nil}
use Rattle.msc_chart.specs.Lists.{StandsAt}
use Rattle.msc_picture.specs.declared.scene.Scene.{Scene}
use Rattle.msc_svg.proofs.Chains.{then_line}
use Rattle.msc_race.specs.Views.{wiring_of}
use Rattle.msc_tree.specs.Trees.{line_text, lines_text, Node}
use Rattle.msc_html.specs.declared.article.ShownRace.{ShownRace}
use Rattle.msc_html.specs.declared.races.Progress.{Progress}
use Rattle.msc_html.specs.declared.races.Source.{Source}
use Rattle.msc_html.specs.Articles.{article, Article, article_node}
use Rattle.msc_html.specs.Findings.{race_of, rows_drawn, run_rows, AreDrawn, AreNumbered, IsRightlyTold, LacksRoom}
use Rattle.msc_html.specs.Progress.{judged, GoesOn, HasTold, ShowsIn}
use Rattle.msc_html.specs.Progress.GoesOn.{draws, causes, left}

-- numbering goes on
numbered_more : (k : ℕ) (articles : List Article) (a : Article) → AreNumbered k articles
    → a.told.number ≡ k + length articles → AreNumbered k (articles ++ a ∷ [])
numbered_more k [] a h next = let here : a.told.number ≡ k = omega (arith, next) in (here, tt)
numbered_more k (b ∷ bs) a h next =
    (h.0, numbered_more (k + 1) bs a h.1 (omega (arith, next)))

-- the sum of rows over one more article
fold_push : (z : ℕ) (articles : List Article) (a : Article)
    → fold (λ sum (x : Article). sum + run_rows x.run) z (articles ++ a ∷ [])
    ≡ fold (λ sum (x : Article). sum + run_rows x.run) z articles + run_rows a.run
fold_push z [] a = refl
fold_push z (b ∷ bs) a = fold_push (z + run_rows b.run) bs a

rows_more : (articles : List Article) (a : Article)
    → rows_drawn (articles ++ a ∷ []) ≡ rows_drawn articles + run_rows a.run
rows_more articles a = fold_push 0 articles a

-- an item of a list with one more is one of the list, or the further one
at_end : (articles : List Article) (a b : Article) (k : ℕ) → StandsAt (articles ++ b ∷ []) k a
    → ((k < length articles) × StandsAt articles k a) ⊎ ((k ≡ length articles) × (a ≡ b))
at_end [] a b zero at = inr (refl, sym cc)
at_end [] a b (suc k) at = let f : ⊥ = cc in absurd f
at_end (x ∷ xs) a b zero at = inl (omega arith, at)
at_end (x ∷ xs) a b (suc k) at = elim (at_end xs a b k at) [
  | inl front ↦ inl (omega (arith, front.0), front.1)
  | inr end ↦ inr (ap suc end.0, end.1)
]

module _ (shows : ShownRace → Scene → Type 0) (many : ℕ) (articles : List Article) (a : Article)
    (h : AreDrawn shows many articles) where
  -- one more article
  longer : length (articles ++ a ∷ []) ≡ length articles + 1
  longer = length-append articles (a ∷ [])

  -- one more run is drawn
  drawn_more : (s : Scene) → many ≡ length articles → a.run ≡ Some s → shows a.told s
      → rows_drawn articles + length s.rows ≤ 1500 → AreDrawn shows (many + 1) (articles ++ a ∷ [])
  drawn_more s all is right fits = record {
    few = omega (arith, all, longer);
    some = λ k b at less. elim (at_end articles b a k at) [
      | inl front ↦ h.some k b front.1 (omega (arith, front.0, all))
      | inr end ↦ (
        s,
        ap (λ (x : Article). x.run) end.1 ∙ is,
        subst (λ (x : Article). shows x.told s) (sym end.1) right,
      )
    ];
    none = λ k b at more. elim (at_end articles b a k at) [
      | inl front ↦ absurd (omega (arith, front.0, more, all))
      | inr end ↦ absurd (omega (arith, end.0, more, all))
    ];
    room =
        let rows : run_rows a.run ≡ length s.rows = ap run_rows is in
        omega (arith, rows_more articles a, rows, fits);
    longest = λ b at. elim (at_end articles b a (many + 1) at) [
      | inl front ↦ absurd (omega (arith, front.0, all))
      | inr end ↦ absurd (omega (arith, end.0, all))
    ];
  }

  -- the rows, where the run of one more article is not drawn
  same_rows : a.run ≡ None → rows_drawn (articles ++ a ∷ []) ≡ rows_drawn articles
  same_rows is =
      let rows : run_rows a.run ≡ 0 = ap run_rows is in omega (arith, rows_more articles a, rows)

  -- there is no room for the run of the next one
  drawn_causes : many ≡ length articles → a.run ≡ None
      → LacksRoom shows (1500 - rows_drawn articles) a.told → AreDrawn shows many (articles ++ a ∷ [])
  drawn_causes all is lacking = record {
    few = omega (arith, all, longer);
    some = λ k b at less. elim (at_end articles b a k at) [
      | inl front ↦ h.some k b front.1 less
      | inr end ↦ absurd (omega (arith, end.0, less, all))
    ];
    none = λ k b at more. elim (at_end articles b a k at) [
      | inl front ↦ absurd (omega (arith, front.0, more, all))
      | inr end ↦ ap (λ (x : Article). x.run) end.1 ∙ is
    ];
    room = omega (arith, same_rows is, h.room);
    longest = λ b at. elim (at_end articles b a many at) [
      | inl front ↦ absurd (omega (arith, front.0, all))
      | inr end ↦
          subst (λ (n : ℕ). LacksRoom shows (1500 - n) b.told) (sym (same_rows is))
          (subst (λ (x : Article). LacksRoom shows (1500 - rows_drawn articles) x.told) (sym end.1) lacking)
    ];
  }

  -- a run before had no room
  drawn_left : many < length articles → a.run ≡ None → AreDrawn shows many (articles ++ a ∷ [])
  drawn_left cut is = record {
    few = omega (arith, cut, longer);
    some = λ k b at less. elim (at_end articles b a k at) [
      | inl front ↦ h.some k b front.1 less
      | inr end ↦ absurd (omega (arith, end.0, less, cut))
    ];
    none = λ k b at more. elim (at_end articles b a k at) [
      | inl front ↦ h.none k b front.1 more
      | inr end ↦ ap (λ (x : Article). x.run) end.1 ∙ is
    ];
    room = omega (arith, same_rows is, h.room);
    longest = λ b at. elim (at_end articles b a many at) [
      | inl front ↦
          subst (λ (n : ℕ). LacksRoom shows (1500 - n) b.told) (sym (same_rows is)) (h.longest b front.1)
      | inr end ↦ absurd (omega (arith, end.0, cut))
    ];
  }

-- what is drawn after one more article
record Goes (shows : ShownRace → Scene → Type 0) (articles : List Article) (room : ℕ) (full : Bool) : Type 0 where
  many : ℕ
  drawn : AreDrawn shows many articles
  left_is : room + rows_drawn articles ≡ 1500
  all : full ≡ false → many ≡ length articles
  cut : full ≡ true → many < length articles

goes : (shows : ShownRace → Scene → Type 0) (t : ShownRace) (old new : Progress) (run : Option Scene) (many : ℕ)
    (articles : List Article) → GoesOn shows t old new run → AreDrawn shows many articles
    → old.room + rows_drawn articles ≡ 1500 → (old.full ≡ false → many ≡ length articles)
    → (old.full ≡ true → many < length articles)
    → Goes shows (articles ++ article t run ∷ []) new.room new.full
goes shows t old new (Some run) many articles (draws s open_is right fits room full) h left_is all cut =
    let a = article t (Some s) in
    let here = all open_is in
    let long = longer shows many articles a h in
    let rows = rows_more articles a in
    record {
      many = many + 1;
      drawn = drawn_more shows many articles a h s here refl right (omega (arith, left_is, fits));
      left_is = omega (arith, rows, left_is, room, fits);
      all = λ f. omega (arith, here, long);
      cut = λ f. absurd (true≢false (sym f ∙ full));
    }
goes shows t old new None many articles (causes s open_is right wide room full) h left_is all cut =
    let a = article t None in
    let here = all open_is in
    let long = longer shows many articles a h in
    let same = same_rows shows many articles a h refl in
    let wider : 1500 - rows_drawn articles < length s.rows = omega (arith, left_is, wide) in
    record {
      many = many;
      drawn = drawn_causes shows many articles a h here refl (record { scene = s; right = right; wide = wider });
      left_is = omega (arith, same, left_is, room);
      all = λ f. absurd (true≢false (sym full ∙ f));
      cut = λ f. omega (arith, here, long);
    }
goes shows t old new None many articles (left full room still) h left_is all cut =
    let a = article t None in
    let here = cut full in
    let long = longer shows many articles a h in
    let same = same_rows shows many articles a h refl in
    record {
      many = many;
      drawn = drawn_left shows many articles a h here refl;
      left_is = omega (arith, same, left_is, room);
      all = λ f. absurd (true≢false (sym still ∙ f));
      cut = λ f. omega (arith, here, long);
    }

-- how many races are told
count_told : (races : List (ℕ × ℕ)) (articles : List Article) → map race_of articles ≡ take 50 races
    → (length articles ≤ 50) × (length articles < 50 → length races ≡ length articles)
    × (50 ≤ length articles → 50 ≤ length races)
count_told races articles are =
    let long = sym (length-map articles race_of) ∙ ap length are ∙ length-take 50 races in
    (omega (arith, long), λ few. omega (arith, long, few), λ many. omega (arith, long, many))

-- one more of the first 50
races_more : (races : List (ℕ × ℕ)) (race : ℕ × ℕ) (articles : List Article) (a : Article)
    → map race_of articles ≡ take 50 races → race_of a ≡ race → length articles < 50
    → map race_of (articles ++ a ∷ []) ≡ take 50 (races ++ race ∷ [])
races_more races race articles a are is few =
    let long = (count_told races articles are).1 few in
    let all : length (races ++ race ∷ []) ≡ length races + 1 = length-append races (race ∷ []) in
    map-append race_of articles (a ∷ [])
    ∙ ap (λ (l : List (ℕ × ℕ)). l ++ race_of a ∷ []) are
    ∙ ap (λ (l : List (ℕ × ℕ)). l ++ race_of a ∷ []) (take_all 50 races (omega (arith, long, few)))
    ∙ ap (λ (r : ℕ × ℕ). races ++ r ∷ []) is
    ∙ sym (take_all 50 (races ++ race ∷ []) (omega (arith, all, long, few)))

-- one more race is told
pub one_more : (source : Source) (base page next : List ℕ) (races : List (ℕ × ℕ)) (race : ℕ × ℕ)
    (p q new : Progress) (t : ShownRace) (run : Option Scene) → HasTold source base page races p
    → p.told < 50 → GoesOn (ShowsIn source) t p q run → new.told ≡ p.told + 1 → new.room ≡ q.room
    → new.full ≡ q.full → t.number ≡ p.told + 1 → (t.first, t.second) ≡ race
    → IsRightlyTold (wiring_of (judged source)) (article t run)
    → next ≡ page ++ line_text (article_node source.scene.now (judged source).chart (judged source).queues (article t run))
    → HasTold source base next (races ++ race ∷ []) new
one_more source base page next races race p q new t run h few step told room full number is right put =
    let a = article t run in
    let node = article_node source.scene.now (judged source).chart (judged source).queues in
    let g = goes (ShowsIn source) t p q run h.many h.articles step h.are.drawn h.room h.all h.cut in
    let long : length (h.articles ++ a ∷ []) ≡ length h.articles + 1 = length-append h.articles (a ∷ []) in
    record {
      articles = h.articles ++ a ∷ [];
      many = g.many;
      are = record {
        races_are = races_more races race h.articles a h.are.races_are is (omega (arith, few, h.told));
        numbered = numbered_more 1 h.articles a h.are.numbered (omega (arith, number, h.told));
        told = All-append (IsRightlyTold (wiring_of (judged source))) h.articles (a ∷ []) h.are.told
            (All-cons (IsRightlyTold (wiring_of (judged source))) a [] right
            (All-nil (IsRightlyTold (wiring_of (judged source)))));
        drawn = g.drawn;
      };
      page_is = then_line base page next (map node h.articles) (node a) h.page_is put
          ∙ ap (λ (l : List Node). base ++ lines_text l)
          (sym (map-append node h.articles (a ∷ [])));
      told = omega (arith, told, h.told, long);
      room = omega (arith, room, g.left_is);
      all = λ f. g.all (sym full ∙ f);
      cut = λ f. g.cut (sym full ∙ f);
    }

-- a race behind the first 50 changes nothing
pub no_more : (source : Source) (base page : List ℕ) (races : List (ℕ × ℕ)) (race : ℕ × ℕ) (p : Progress)
    → HasTold source base page races p → 50 ≤ p.told → HasTold source base page (races ++ race ∷ []) p
no_more source base page races race p h many =
    let long = (count_told races h.articles h.are.races_are).2 (omega (arith, many, h.told)) in
    record {
      articles = h.articles;
      many = h.many;
      are = record {
        races_are = h.are.races_are ∙ sym (take-append-le 50 races (race ∷ []) long);
        numbered = h.are.numbered;
        told = h.are.told;
        drawn = h.are.drawn;
      };
      page_is = h.page_is;
      told = h.told;
      room = h.room;
      all = h.all;
      cut = h.cut;
    }

-- before the first race
pub nothing_told : (source : Source) (base : List ℕ) (p : Progress) → p.told ≡ 0 → p.room ≡ 1500
    → p.full ≡ false → HasTold source base base [] p
nothing_told source base p told room full = record {
  articles = [];
  many = 0;
  are = record {
    races_are = refl;
    numbered = tt;
    told = All-nil (IsRightlyTold (wiring_of (judged source)));
    drawn = record {
      few = omega arith;
      some = λ k a at less. absurd (omega (arith, less));
      none = λ k a at more. let f : ⊥ = cc in absurd f;
      room = omega arith;
      longest = λ a at. let f : ⊥ = cc in absurd f;
    };
  };
  page_is = sym (append-nil base);
  told = told;
  room = omega (arith, room);
  all = λ f. refl;
  cut = λ f. absurd (true≢false (sym f ∙ full));
}
