-- Paths: one way through a diagram's blocks, with its choices. What a block does is said by
-- passage_of and follow; the blocks that stand inside each other are walked from the outermost one
-- in.
use Rattle.std.specs.Prelude.{ℕ, zero, suc, ◌+◌, ◌-◌, Bool, true, false, cond, not, ◌||◌, ◌&&◌, ◌==◌, nat_le, nat_lt, List, [], ◌∷◌, ◌++◌, length, take, slice_get, codes, unwrap_or, Option, None, Some, Result, Err}
use Rattle.std.specs.List.{list_any, prefix_len, onto_first}
use Rattle.std.specs.Str.{bytes_eq}
use Rattle.msc_scenarios.specs.declared.TheConstants.{ARROW_LIMIT, ROUND_LIMIT}
use Rattle.msc_scenarios.specs.declared.steps.Ending.{Ending}
use Rattle.msc_scenarios.specs.declared.steps.Ending.TheVariants as ends
use Rattle.msc_scenarios.specs.declared.steps.Passage.{Passage}
use Rattle.msc_scenarios.specs.declared.steps.Passage.TheVariants as passages
use Rattle.msc_scenarios.specs.declared.steps.Message.{Message}
use Rattle.msc_scenarios.specs.declared.steps.Step.{Step}
use Rattle.msc_scenarios.specs.declared.steps.Step.TheVariants as steps
use Rattle.msc_mermaid.specs.declared.fault.ImportFault.{ImportFault}
use Rattle.msc_mermaid.specs.declared.fault.ImportFault.TheVariants.{Choice, TooManyArrows, TooManyChoices}
use Rattle.msc_mermaid.specs.declared.row.Closer.TheVariants as closers
use Rattle.msc_mermaid.specs.declared.row.Kind.{Kind}
use Rattle.msc_mermaid.specs.declared.row.Kind.TheVariants as kinds
use Rattle.msc_mermaid.specs.declared.statement.Arrow.{Arrow}
use Rattle.msc_mermaid.specs.declared.statement.Fate.{Fate}
use Rattle.msc_mermaid.specs.declared.statement.Fate.TheVariants as fates
use Rattle.msc_mermaid.specs.declared.statement.Placed.{Placed}
use Rattle.msc_mermaid.specs.declared.statement.Statement.{Statement}
use Rattle.msc_mermaid.specs.declared.statement.Statement.TheVariants.{Declares, Says, Begins, Closes}
use Rattle.msc_place.specs.declared.position.Position.{Position}
use Rattle.msc_mermaid.specs.Gives.{unless}
use Rattle.msc_scenarios.specs.Naming.{made, number_name}

-- a statement that ends a block, or begins a further branch of it
abbrev pub is_end : Statement → Bool
is_end (Closes closers.End) = true
is_end s = false

abbrev pub is_joint : Statement → Bool
is_joint (Closes closers.Else) = true
is_joint (Closes closers.And) = true
is_joint (Closes closers.Option) = true
is_joint s = false

-- such a statement of a block within which so many more are open
abbrev pub ends_at : ℕ → Statement → Bool
ends_at d s = is_end s && d == 0

abbrev pub joins_at : ℕ → Statement → Bool
joins_at d s = is_joint s && d == 0

-- how many blocks are open behind a statement, before which so many are
abbrev pub deeper : ℕ → Statement → ℕ
deeper d (Begins kind) = d + 1
deeper d (Closes closers.End) = d - 1
deeper d s = d

-- how many statements stand before the end of a block, within which so many more are open
unfoldable pub extent : ℕ → List Placed → ℕ
extent d [] = 0
extent d (p ∷ ps) =
    cond (ends_at d p.statement) 0 (1 + extent (deeper d p.statement) ps)

-- a statement begins the branch before which so many more begin, and how many begin after it before
-- that one
abbrev pub is_sought : ℕ → ℕ → Statement → Bool
is_sought d n s = joins_at d s && n == 0

abbrev pub left_after : ℕ → ℕ → Statement → ℕ
left_after d n s = cond (joins_at d s) (n - 1) n

-- the statement that begins the branch of a block before which so many further branches begin, within
-- which so many more blocks are open
unfoldable pub joint : ℕ → ℕ → List Placed → Option Placed
joint d n [] = None
joint d n (p ∷ ps) =
    cond (ends_at d p.statement) None (
    cond (is_sought d n p.statement) (Some p) (joint (deeper d p.statement) (left_after d n p.statement) ps)
    )

-- the branches of a block, within which so many more are open
unfoldable pub branches_in : ℕ → List Placed → List (List Placed)
branches_in d [] = [] ∷ []
branches_in d (p ∷ ps) =
    cond (joins_at d p.statement) ([] ∷ branches_in (deeper d p.statement) ps) (onto_first p (branches_in (deeper d p.statement) ps))

-- an arrow, or the end of what it stands in
abbrev pub is_drawn : Statement → Bool
is_drawn (Says arrow) = true
is_drawn (Begins kinds.Break) = true
is_drawn s = false

-- a block that ends what it stands in
abbrev pub is_break : Kind → Bool
is_break kinds.Break = true
is_break kind = false

-- a block of this kind that is not left out whole
abbrev pub is_there : Kind → List Placed → Bool
is_there kind inside = is_break kind || list_any (λ p. is_drawn p.statement) inside

-- what is done with a block of so many branches
abbrev pub passage_of : Kind → ℕ → Passage
passage_of kinds.Alt n = cond (nat_lt 1 n) passages.OneOf passages.Maybe
passage_of kinds.Opt n = passages.Maybe
passage_of kinds.Loop n = passages.Rounds
passage_of kinds.Break n = passages.Break
passage_of kinds.Critical n = cond (nat_lt 1 n) passages.First passages.Plain
passage_of kinds.Par n = passages.Par
passage_of kinds.Plain n = passages.Plain

-- the greatest choice that a block has, and the main one
abbrev pub most_of : Passage → ℕ → ℕ
most_of passages.OneOf n = n - 1
most_of passages.Maybe n = n
most_of passages.Rounds n = ROUND_LIMIT
most_of passages.Break n = 1
most_of passages.First n = n - 1
most_of passage n = 0

abbrev pub main_of : Passage → ℕ
main_of passages.Maybe = 1
main_of passages.Rounds = 1
main_of passage = 0

-- A walk: the lines of the diagram, the choices that are given and those that were taken, the steps
-- and how many arrows are among them, and how it has ended, if it has.
pub record Walk : Type 0 where
  pub lines : List (List ℕ)
  pub given : List ℕ
  pub taken : List ℕ
  pub steps : List Step
  pub arrows : ℕ
  pub ending : Ending

-- it has not ended
abbrev pub goes : Ending → Bool
goes ends.Goes = true
goes ends.Broke = false
goes (ends.Stopped f) = false

-- it goes on so, where it has not ended
abbrev pub go_on : Ending → Walk → Walk → Walk
go_on ends.Goes now next = next
go_on ends.Broke now next = now
go_on (ends.Stopped f) now next = now

abbrev pub then : Walk → (Walk → Walk) → Walk
then w f = go_on w.ending w (f w)

-- with one step more
abbrev pub put : Step → Walk → Walk
put s w = record {
  lines = w.lines;
  given = w.given;
  taken = w.taken;
  steps = w.steps ++ s ∷ [];
  arrows = w.arrows;
  ending = w.ending;
}

-- ended so
abbrev pub ended : Ending → Walk → Walk
ended e w = record {
  lines = w.lines;
  given = w.given;
  taken = w.taken;
  steps = w.steps;
  arrows = w.arrows;
  ending = e;
}

-- a break ends what it stands in, and nothing further out
abbrev pub healed : Ending → Ending
healed ends.Goes = ends.Goes
healed ends.Broke = ends.Goes
healed (ends.Stopped f) = ends.Stopped f

abbrev pub unbroken : Walk → Walk
unbroken w = ended (healed w.ending) w

abbrev pub cut_off : Ending → Ending
cut_off ends.Goes = ends.Broke
cut_off ends.Broke = ends.Broke
cut_off (ends.Stopped f) = ends.Stopped f

abbrev pub broken : Walk → Walk
broken w = ended (cut_off w.ending) w

-- the place of a line
abbrev pub line_at : List (List ℕ) → List ℕ → ℕ
line_at lines ident = prefix_len (λ l. not (bytes_eq l ident)) lines

-- nothing says whether an arrow is lost or arrives
abbrev pub is_open : Fate → Bool
is_open fates.Either = true
is_open fates.Lost = false
is_open fates.Arrives = false

abbrev pub is_loss : Fate → Bool
is_loss fates.Lost = true
is_loss fates.Arrives = false
is_loss fates.Either = false

-- an arrow is met by a choice: it may be lost or arrive, and is not to oneself
abbrev pub is_choice : Arrow → Bool
is_choice a = is_open a.fate && not (bytes_eq a.from a.to)

-- where a statement begins
abbrev pub start_of : Placed → Position
start_of p = record { line = p.line; column = p.column }

-- an arrow has two heads, between two lines: each sends the other a message
abbrev pub is_exchange : Arrow → Bool
is_exchange a = a.both && not (bytes_eq a.from a.to)

-- how many messages an arrow has
abbrev pub heads : Arrow → ℕ
heads a = cond (is_exchange a) 2 1

-- the message of an arrow in these rounds, where it is lost or arrives
abbrev pub message_of : List (List ℕ) → Placed → Arrow → Bool → List ℕ → Message
message_of lines p a lost rounds = record {
  from = line_at lines a.from;
  to = line_at lines a.to;
  name = made a.label (codes "m");
  number = number_name p.number rounds;
  lost = lost;
  both = is_exchange a;
  line = p.line;
  column = p.column;
  statement = p.whole;
  label = p.shown;
  rounds = rounds;
}

-- an arrow is met, where it is lost or arrives
unfoldable pub meet : Placed → Arrow → Bool → List ℕ → Walk → Walk
meet p a lost rounds w =
    cond (nat_le (w.arrows + heads a) ARROW_LIMIT) (record {
      lines = w.lines;
      given = w.given;
      taken = w.taken;
      steps = w.steps ++ steps.Meets (message_of w.lines p a lost rounds) ∷ [];
      arrows = w.arrows + heads a;
      ending = w.ending;
    }) (ended (ends.Stopped (TooManyArrows (start_of p))) w)

-- the choice that a block takes, of which this is the main one
abbrev pub choice_of : ℕ → Walk → ℕ
choice_of main w = unwrap_or (slice_get w.given (length w.taken)) main

-- with one choice more
abbrev pub with_choice : ℕ → Walk → Walk
with_choice c w = record {
  lines = w.lines;
  given = w.given;
  taken = w.taken ++ c ∷ [];
  steps = w.steps;
  arrows = w.arrows;
  ending = w.ending;
}

-- the walk behind the choice of a block that begins here
unfoldable pub choose : Position → ℕ → ℕ → Walk → Walk
choose here most main w =
    cond (nat_le (choice_of main w) most) (with_choice (choice_of main w) w) (ended (ends.Stopped (Choice here (length w.taken + 1) most)) (with_choice (choice_of main w) w))

-- An arrow is said. One with a choice is met as the branches of an alt are: lost by choice 0, which
-- is the main one, and arriving by choice 1.
unfoldable pub said : Placed → Arrow → List ℕ → Walk → Walk
said p a rounds w =
    cond (is_choice a) (then (choose (start_of p) 1 0 w) (meet p a (choice_of 0 w == 0) rounds)) (meet p a (is_loss a.fate) rounds w)

-- how the statements of a branch are walked
abbrev pub Walker : Type 0
Walker = List Placed → List ℕ → Walk → Walk

-- a branch, and none where there are fewer
abbrev pub branch_at : List (List Placed) → ℕ → List Placed
branch_at bs i = unwrap_or (slice_get bs i) []

-- so many rounds more of a loop
unfoldable pub rounds_from : Walker → List Placed → List ℕ → ℕ → ℕ → Walk → Walk
rounds_from inner body rounds k zero w = w
rounds_from inner body rounds k (suc n) w =
    then (inner body (rounds ++ (k + 1) ∷ []) w) (rounds_from inner body rounds (k + 1) n)

-- parallel branches, one behind the other, with a mark behind each
unfoldable pub side_by_side : Walker → List (List Placed) → List ℕ → Walk → Walk
side_by_side inner [] rounds w = w
side_by_side inner (b ∷ bs) rounds w =
    then (then (unbroken (inner b rounds w)) (put steps.Next)) (side_by_side inner bs rounds)

-- what follows the choice of a block of this form
unfoldable pub follow : Walker → Passage → List (List Placed) → List ℕ → ℕ → Walk → Walk
follow inner passages.OneOf bs rounds c w = unbroken (inner (branch_at bs c) rounds w)
follow inner passages.Maybe bs rounds c w =
    cond (c == 0) w (unbroken (inner (branch_at bs (c - 1)) rounds w))
follow inner passages.Rounds bs rounds c w =
    unbroken (rounds_from inner (branch_at bs 0) rounds 0 c w)
follow inner passages.Break bs rounds c w =
    cond (c == 0) w (broken (inner (branch_at bs 0) rounds w))
follow inner passages.First bs rounds c w =
    unbroken (then (inner (branch_at bs 0) rounds w) (λ v. cond (c == 0) v (inner (branch_at bs c) rounds v)))
follow inner passages.Par bs rounds c w = w
follow inner passages.Plain bs rounds c w = w

-- a block of this form, which begins here
unfoldable pub formed : Walker → Position → Passage → List (List Placed) → List ℕ → Walk → Walk
formed inner here passages.Plain bs rounds w = inner (branch_at bs 0) rounds w
formed inner here passages.Par bs rounds w =
    then (side_by_side inner bs rounds (put (steps.Opens here) w)) (put steps.Closes)
formed inner here passage bs rounds w =
    then (choose here (most_of passage (length bs)) (main_of passage) w) (follow inner passage bs rounds (choice_of (main_of passage) w))

-- a block of this kind, which begins here, with these statements inside
unfoldable pub block : Walker → Position → Kind → List Placed → List ℕ → Walk → Walk
block inner here kind inside rounds w =
    cond (is_there kind inside) (formed inner here (passage_of kind (length (branches_in 0 inside))) (branches_in 0 inside) rounds w) w

-- how many statements behind one belong to it
abbrev pub owned_by : Statement → List Placed → ℕ
owned_by (Begins kind) ps = extent 0 ps
owned_by s ps = 0

-- one statement, with those behind it
abbrev pub one : Walker → Placed → Statement → List Placed → List ℕ → Walk → Walk
one inner p (Says arrow) ps rounds w = said p arrow rounds w
one inner p (Begins kind) ps rounds w = block inner (start_of p) kind (take (extent 0 ps) ps) rounds w
one inner p (Declares ident shown) ps rounds w = w
one inner p (Closes closer) ps rounds w = w

-- statements, of which the first so many belong to one before them
unfoldable pub walk_on : Walker → ℕ → List Placed → List ℕ → Walk → Walk
walk_on inner n [] rounds w = w
walk_on inner (suc n) (p ∷ ps) rounds w = walk_on inner n ps rounds w
walk_on inner zero (p ∷ ps) rounds w =
    then (one inner p p.statement ps rounds w) (walk_on inner (owned_by p.statement ps) ps rounds)

-- statements, with as many blocks inside each other
unfoldable pub walk : ℕ → Walker
walk zero ps rounds w = w
walk (suc d) ps rounds w = walk_on (walk d) 0 ps rounds w

-- a walk that has not begun
abbrev pub at_rest : List (List ℕ) → List ℕ → Walk
at_rest lines given = record {
  lines = lines;
  given = given;
  taken = [];
  steps = [];
  arrows = 0;
  ending = ends.Goes;
}

-- why a walk has no draft beside its lines: its own fault, or more choices than blocks
abbrev pub unended : Walk → Ending → Result Walk ImportFault
unended w ends.Goes =
    unless (nat_le (length w.given) (length w.taken)) (TooManyChoices (length w.given) (length w.taken)) w
unended w ends.Broke =
    unless (nat_le (length w.given) (length w.taken)) (TooManyChoices (length w.given) (length w.taken)) w
unended w (ends.Stopped f) = Err f
