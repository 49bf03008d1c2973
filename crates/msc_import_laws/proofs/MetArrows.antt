-- The messages of arrows, by the rounds in which they are met: one number is of one arrow in one
-- list of rounds.
use Rattle.std.proofs.Common.{◌≡◌, ℕ, ◌<◌, ◌≤◌, Bool, length, sym, arith, List, ◌++◌, ap, ◌∙◌}
use Rattle.std.specs.List.{AllByRecursion}
use Rattle.msc_chart.specs.Lists.{Occurs}
use Rattle.msc_scenarios.specs.declared.steps.Message.{Message}
use Rattle.msc_mermaid.specs.declared.statement.Arrow.{Arrow}
use Rattle.msc_mermaid.specs.declared.statement.Placed.{Placed}
use Rattle.msc_mermaid.specs.declared.statement.Statement.TheVariants.{Says}
use Rattle.msc_scenarios.specs.Steps.{Walk, Walker, message_of}
use Rattle.msc_import_laws.specs.Outlined.{AreDistinct, Differ}
use Rattle.msc_import_laws.proofs.Growth.{Grows, NoneShared}
use Rattle.msc_import_laws.proofs.Numbers.{IsRound, same_number, small_rounds}
use Rattle.msc_place.proofs.Walks.{AllByRecursion-append as all_joined}

-- all arrows have small numbers
abbrev pub AreLow : List Placed → Type 0
AreLow ps = (p : Placed) → Occurs ps p → p.number < 10000000

-- and those of a part
pub low_in : (ps qs : List Placed) → ((p : Placed) → Occurs qs p → Occurs ps p) → AreLow ps → AreLow qs
low_in ps qs f h = λ p o. h p (f p o)

module _ (lines : List (List ℕ)) where
  -- the message of an arrow of these statements, in these rounds and so many more at most
  pub record IsMet (d : ℕ) (ps : List Placed) (rounds : List ℕ) (m : Message) : Type 0 where
    pub placed : Placed
    pub arrow : Arrow
    pub lost : Bool
    pub more : List ℕ
    pub stands : Occurs ps placed
    pub says : placed.statement ≡ Says arrow
    pub low : placed.number < 10000000
    pub few : length more ≤ d
    pub short : AllByRecursion IsRound more
    pub is : m ≡ message_of lines placed arrow lost (rounds ++ more)

  -- the same of statements among more
  pub met_wider : (d e : ℕ) (ps qs : List Placed) (rounds : List ℕ) → d ≤ e → ((p : Placed) → Occurs ps p → Occurs qs p) → (m : Message) → IsMet d ps rounds m → IsMet e qs rounds m
  met_wider d e ps qs rounds le f m h = record {
    placed = h.placed;
    arrow = h.arrow;
    lost = h.lost;
    more = h.more;
    stands = f h.placed h.stands;
    says = h.says;
    low = h.low;
    few = let l = h.few in omega (arith, l, le);
    short = h.short;
    is = h.is;
  }

  -- one number is of one arrow, in one list of rounds
  pub same_met : (d e : ℕ) (ps qs : List Placed) (rs ss : List ℕ) (m n : Message) → AllByRecursion IsRound rs → AllByRecursion IsRound ss → (h : IsMet d ps rs m) → (k : IsMet e qs ss n) → m.number ≡ n.number
      → (h.placed.number ≡ k.placed.number) × (rs ++ h.more ≡ ss ++ k.more)
  same_met d e ps qs rs ss m n a b h k same =
      let low = h.low in
      let low' = k.low in
      same_number h.placed.number k.placed.number (rs ++ h.more) (ss ++ k.more) (omega (arith, low)) (omega (arith, low'))
      (small_rounds (rs ++ h.more) (all_joined IsRound rs h.more a h.short)) (small_rounds (ss ++ k.more) (all_joined IsRound ss k.more b k.short))
      (sym (ap (λ (x : Message). x.number) h.is) ∙ same ∙ ap (λ (x : Message). x.number) k.is)

  -- statements that differ share no number
  pub apart_met : (d e : ℕ) (ps qs : List Placed) (rs ss : List ℕ) → AllByRecursion IsRound rs → AllByRecursion IsRound ss → ((p q : Placed) → Occurs ps p → Occurs qs q → Differ p q) → NoneShared (IsMet d ps rs) (IsMet e qs ss)
  apart_met d e ps qs rs ss a b differ = λ m n h k same.
      differ h.placed k.placed h.stands k.stands h.arrow k.arrow h.says k.says (same_met d e ps qs rs ss m n a b h k same).0

  -- walkers that meet each arrow once in each of its rounds, and in so many more rounds at most
  unfoldable pub Meets : ℕ → Walker → Type 0
  Meets d inner = (ps : List Placed) (rounds : List ℕ) (w : Walk) → AreDistinct ps → AreLow ps → AllByRecursion IsRound rounds → w.lines ≡ lines → Grows (IsMet d ps rounds) w (inner ps rounds w)
