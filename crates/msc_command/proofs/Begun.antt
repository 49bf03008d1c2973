-- A command that words begin with is looked for alone: what other commands there are does not matter.
use Rattle.std.proofs.Common.{◌≡◌, refl, sym, ap, false, Bool, List, [], ◌∷◌, Some, codes, find}
use Rattle.std.specs.Str.{bytes_eq}
use Rattle.clap.specs.Words.{App, Kinds, Shape, Text}
use Rattle.clap.specs.Faults.{built_fault, walk_fault, level_fault, check_fault, defaults_fault}
use Rattle.clap.specs.Kinds.{or_else}
use Rattle.clap.specs.Simple.{entered, names_of, label_of}
use Rattle.clap.specs.Walk.{finished, stop_after, Names, Rule, Walk, answers_to, idle, nothing_held, subcommand_met, walk, walk_from, walked}
use Rattle.clap.proofs.FaultLemmas.{stopped_fault}
use Rattle.clap.proofs.WalkLemmas.{walk_stopped}

-- the walk over words stops at their first, which names a command
stopped_walk : (c : List Rule) (names : Names) (name : Text) (rest : List Text)
    → subcommand_met names idle name ≡ Some name
    → ◌≡◌ {A = Walk} (walk c names nothing_held (name ∷ rest)) (record (walk_from nothing_held) { stopped = Some (name, rest) })
unfolding walked
stopped_walk c names name rest met = rw met (sym (walk_stopped c names (walk_from nothing_held) name [] rest))

-- and has no fault
walk_passes : (s : Shape) (names : Names) (name : Text) (rest : List Text)
    → subcommand_met names idle name ≡ Some name → bytes_eq name (codes "help") ≡ false
    → walk_fault s names (walk_from nothing_held) (name ∷ rest) ≡ []
unfolding walk_fault walked
walk_passes s names name rest met other = rw (met, other) (stopped_fault s names (walk_from nothing_held) (name, []) rest)

-- where it stops
stopped_at : (c : List Rule) (names : Names) (name : Text) (rest : List Text)
    → subcommand_met names idle name ≡ Some name
    → stop_after c names (name ∷ rest) ≡ Some (name, rest)
stopped_at c names name rest met = ap (λ (w : Walk). w.stopped) (stopped_walk c names name rest met)

-- two programs have the same words of their own, and know the command of a name as the same
pub record KnowAlike (x y : App) (name : Text) : Type 0 where
  pub top : x.top ≡ y.top
  pub one : subcommand_met (names_of x) idle name ≡ Some name
  pub two : subcommand_met (names_of y) idle name ≡ Some name
  pub other : bytes_eq name (codes "help") ≡ false
  pub found : find (λ s. answers_to name (label_of s)) x.subs ≡ find (λ s. answers_to name (label_of s)) y.subs

-- both find the same of words that begin with it
pub same_found : (x y : App) (name : Text) (rest : List Text) → KnowAlike x y name
    → entered x (stop_after x.top.rules (names_of x) (name ∷ rest)) ≡ entered y (stop_after y.top.rules (names_of y) (name ∷ rest))
same_found x y name rest alike =
    rw (
      stopped_at x.top.rules (names_of x) name rest alike.one,
      stopped_at y.top.rules (names_of y) name rest alike.two,
      alike.found,
    ) refl

-- a level whose walk stops at its first word
level_at : (s : Shape) (names : Names) (name : Text) (rest : List Text) (named : Bool) (below : Kinds)
    → subcommand_met names idle name ≡ Some name → bytes_eq name (codes "help") ≡ false
    → level_fault s names nothing_held (name ∷ rest) named below
    ≡ or_else below (or_else (defaults_fault [] s.rules) (check_fault s (finished s.rules nothing_held) named))
level_at s names name rest named below met other =
    rw (walk_passes s names name rest met other, stopped_walk s.rules names name rest met) refl

-- and have the same faults
pub same_fault : (x y : App) (name : Text) (rest : List Text) → KnowAlike x y name
    → built_fault x nothing_held (name ∷ rest) ≡ built_fault y nothing_held (name ∷ rest)
same_fault x y name rest alike =
    rw (
      level_at x.top (names_of x) name rest _ _ alike.one alike.other,
      level_at y.top (names_of y) name rest _ _ alike.two alike.other,
      stopped_at x.top.rules (names_of x) name rest alike.one,
      stopped_at y.top.rules (names_of y) name rest alike.two,
      alike.found,
      alike.top,
    ) refl
