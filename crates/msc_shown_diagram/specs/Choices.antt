-- The choices of a scenario in words. The block or the arrow of a choice is the one at which a walk
-- with the choices before it stops if the next choice is one that no block has.
use Rattle.std.specs.Prelude.{◌≡◌, ℕ, ◌+◌, Bool, false, cond, not, ◌&&◌, ◌==◌, List, [], ◌∷◌, ◌++◌, Option, None, Some, Result, Err, drop, is_some, length, map, take}
use Rattle.std.specs.List.{enumerate_from, prefix_len}
use Rattle.std.specs.String.{string_bytes}
use Rattle.msc_mermaid.specs.declared.TheConstants.{DEPTH_LIMIT}
use Rattle.msc_mermaid.specs.declared.fault.ImportFault.{ImportFault}
use Rattle.msc_mermaid.specs.declared.fault.ImportFault.TheVariants.{Choice}
use Rattle.msc_mermaid.specs.declared.row.Kind.{Kind}
use Rattle.msc_mermaid.specs.declared.row.Kind.TheVariants as kinds
use Rattle.msc_mermaid.specs.declared.statement.Diagram.{Diagram}
use Rattle.msc_mermaid.specs.declared.statement.Placed.{Placed}
use Rattle.msc_mermaid.specs.declared.statement.Statement.{Statement}
use Rattle.msc_mermaid.specs.declared.statement.Statement.TheVariants.{Begins, Closes, Declares, Says}
use Rattle.msc_place.specs.declared.position.Position.{Position}
use Rattle.msc_scenarios.specs.Steps.{Walk, at_rest, joint, unended, walk}
use Rattle.msc_speech.specs.Messages.{label_said}
use Rattle.msc_wording.specs.Scenarios.{choices_text}
use Rattle.msc_wording.specs.declared.scenario.Outcome.{Outcome}
use Rattle.msc_wording.specs.declared.scenario.Outcome.TheVariants.{Arrives, Branch, Lost, Skipped, Taken, Times, WithoutOption}
use Rattle.msc_wording.specs.declared.scenario.SpokenChoice.{SpokenChoice}
use Rattle.msc_shown_diagram.specs.Branches.{branch_said, label_text, named_branch}
use Rattle.msc_shown_diagram.specs.Spans.{bytes_at}
use Rattle.msc_shown_diagram.specs.declared.TheConstants.{NO_CHOICE}
use Rattle.msc_shown_diagram.specs.declared.choices.ChoiceWords.{ChoiceWords}

-- a choice in words: what it is about, its line, unless that is named, and what is chosen
pub record PlainChoice : Type 0 where
  pub subject : List ℕ
  pub line : Option ℕ
  pub outcome : Outcome

-- that of the code, and that of one that is lent
abbrev pub plain_choice : ChoiceWords → PlainChoice
plain_choice c = record { subject = string_bytes c.subject; line = c.line; outcome = c.outcome }

abbrev pub plain_lent : SpokenChoice → PlainChoice
plain_lent c = record { subject = c.subject.now; line = c.line; outcome = c.outcome }

-- no words
abbrev pub no_choice : PlainChoice
no_choice = record { subject = []; line = None; outcome = Branch }

-- a block is taken or skipped
abbrev pub taken_or_not : ℕ → Outcome
taken_or_not choice = cond (choice == 0) Skipped Taken

-- what is chosen of a block, with several branches or not
abbrev pub block_outcome : Kind → Bool → ℕ → Outcome
block_outcome kinds.Alt several choice = cond several Branch (taken_or_not choice)
block_outcome kinds.Opt several choice = taken_or_not choice
block_outcome kinds.Break several choice = taken_or_not choice
block_outcome kinds.Loop several choice = Times choice
block_outcome kinds.Critical several choice = cond (choice == 0) WithoutOption Branch
block_outcome kinds.Par several choice = Branch
block_outcome kinds.Plain several choice = Branch

-- the choice of a block that begins with this statement, before these
abbrev pub block_choice : List ℕ → Kind → Placed → List Placed → ℕ → PlainChoice
block_choice text kind p ps choice = record {
  subject = branch_said text (named_branch p ps choice);
  line = Some (named_branch p ps choice).line;
  outcome = block_outcome kind (is_some (joint 0 0 ps)) choice;
}

-- a message is lost by choice 0, and arrives by choice 1
abbrev pub fate_of : ℕ → Outcome
fate_of choice = cond (choice == 0) Lost Arrives

-- the line, unless the label is empty
abbrev pub line_unless : List ℕ → ℕ → Option ℕ
line_unless label line = cond (length label == 0) None (Some line)

-- the choice of an arrow with a cross
abbrev pub arrow_choice : List ℕ → Placed → ℕ → PlainChoice
arrow_choice text p choice = record {
  subject = label_said (bytes_at text p.shown) false p.line;
  line = line_unless (label_text (bytes_at text p.shown)) p.line;
  outcome = fate_of choice;
}

-- the choice of a statement before these
abbrev pub statement_choice : List ℕ → Placed → Statement → List Placed → ℕ → PlainChoice
statement_choice text p (Says arrow) ps choice = arrow_choice text p choice
statement_choice text p (Begins kind) ps choice = block_choice text kind p ps choice
statement_choice text p (Declares ident shown) ps choice = no_choice
statement_choice text p (Closes closer) ps choice = no_choice

abbrev pub choice_by : List ℕ → List Placed → ℕ → PlainChoice
choice_by text [] choice = no_choice
choice_by text (p ∷ ps) choice = statement_choice text p p.statement ps choice

-- the statements from the one that begins at this position on
abbrev pub begins_at : Position → Placed → Bool
begins_at here p = p.line == here.line && p.column == here.column

abbrev pub statements_at : Position → List Placed → List Placed
statements_at here ps = drop (prefix_len (λ p. not (begins_at here p)) ps) ps

-- where a walk stopped for want of a choice, if it did
abbrev pub stop_of : Result Walk ImportFault → Option Position
stop_of (Err (Choice here number most)) = Some here
stop_of walked = None

-- where the walk through a diagram with these choices stops for want of one
abbrev pub stop_in : Walk → Option Position
stop_in w = stop_of (unended w w.ending)

abbrev pub stop_at : Diagram → List ℕ → Option Position
stop_at d given = stop_in (walk (DEPTH_LIMIT + 1) d.statements [] (at_rest d.lines given))

-- the position of the block or the arrow that takes the choice after these
abbrev pub next_choice : Diagram → List ℕ → Option Position
next_choice d before = stop_at d (before ++ NO_CHOICE ∷ [])

-- the choice that is taken there
abbrev pub choice_there : Diagram → List ℕ → ℕ → Option Position → PlainChoice
choice_there d text choice None = no_choice
choice_there d text choice (Some here) = choice_by text (statements_at here d.statements) choice

-- a choice after others
abbrev pub choice_said : Diagram → List ℕ → List ℕ → ℕ → PlainChoice
choice_said d text before choice = choice_there d text choice (next_choice d before)

-- the first eight choices of these, each after those before it
abbrev pub first_said : Diagram → List ℕ → List ℕ → List PlainChoice
first_said d text choices =
    map (λ at. choice_said d text (take at.0 choices) at.1) (enumerate_from 0 (take 8 choices))

-- These are the choices of a scenario in words: the first eight of them, and how many more there are.
pub record AreChoicesSaid (d : Diagram) (text choices said : List ℕ) : Type 0 where
  pub spoken : List SpokenChoice
  pub size : length spoken ≡ length choices
  pub first : map plain_lent (take 8 spoken) ≡ first_said d text choices
  pub is_text : said ≡ choices_text spoken
