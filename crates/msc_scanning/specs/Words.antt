-- What the words of a scan request.
use Rattle.std.specs.Prelude.{ℕ, Bool, true, false, ◌&&◌, not, cond, List, [], ◌∷◌, ◌++◌, map, Option, None, Some, codes}
use Rattle.std.specs.Borrow.{Bor}
use Rattle.std.specs.List.{list_any}
use Rattle.std.specs.Str.{bytes_eq}
use Rattle.msc_answer.specs.declared.tasks.LinkWords.{LinkWords}
use Rattle.msc_answer.specs.declared.tasks.ScenarioArgs.{ScenarioArgs}
use Rattle.msc_chart.specs.Architectures.{link_kind_of_word}
use Rattle.msc_chart.specs.declared.queue.LinkKind.{LinkKind}
use Rattle.msc_chart.specs.declared.queue.LinkKind.TheVariants.{Pair, Mailbox, Single}
use Rattle.msc_links.specs.Rules.{same_kind}
use Rattle.msc_scanning.specs.declared.words.Architecture.{Architecture}
use Rattle.msc_scanning.specs.declared.words.Plan.{Plan}

-- words as bytes
abbrev pub words_in : List (Bor (List ℕ)) → List (List ℕ)
words_in words = map (λ word. word.now) words

-- the queues of the texts, and those of a kind
abbrev pub of_texts : Architecture
of_texts = record { own = true; usual = Pair }

abbrev pub of_kind : LinkKind → Architecture
of_kind kind = record { own = false; usual = kind }

-- two architectures are the same
abbrev pub same : Architecture → Architecture → Bool
same one other = cond one.own other.own (not other.own && same_kind one.usual other.usual)

-- these with one more, unless it is there
abbrev pub added : List Architecture → Architecture → List Architecture
added found a = cond (list_any (λ it. same it a) found) found (found ++ a ∷ [])

-- with those of a word
abbrev pub with_kind : List Architecture → Option LinkKind → List Architecture
with_kind found None = found
with_kind found (Some kind) = added found (of_kind kind)

abbrev pub with_word : List Architecture → List ℕ → List Architecture
with_word found word =
    cond (bytes_eq word (codes "own")) (added found of_texts)
    (cond (bytes_eq word (codes "all")) (added (added (added found (of_kind Pair)) (of_kind Mailbox)) (of_kind Single))
    (with_kind found (link_kind_of_word word)))

-- with those of words
abbrev pub with_words : List Architecture → List (List ℕ) → List Architecture
with_words found [] = found
with_words found (word ∷ words) = with_words (with_word found word) words

-- the queues of the texts, if there are no others
abbrev pub or_own : List Architecture → List Architecture
or_own [] = of_texts ∷ []
or_own (a ∷ found) = a ∷ found

-- the architectures that words name
abbrev pub architectures_of : List (List ℕ) → List Architecture
architectures_of words = or_own (with_words [] words)

-- what the command line says of links, under an architecture
abbrev pub links_under : Architecture → LinkWords → LinkWords
links_under a links = record links { own = a.own }

-- the words of the check of a diagram
abbrev pub printing : Plan → ScenarioArgs
printing p = record p.args.words { quiet = false }
