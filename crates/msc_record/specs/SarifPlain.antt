-- What a document of SARIF is made of, as plain data. Texts are lists of bytes.
use Rattle.std.specs.Prelude.{ℕ, List, Option}
use Rattle.msc_record.specs.declared.location.Region.{Region}
use Rattle.msc_record.specs.declared.result.Level.{Level}

-- a part of a text, and what it is to the finding
pub record Mark : Type 0 where
  pub region : Region
  pub label : List ℕ

-- an event of a run, in words
pub record Step : Type 0 where
  pub region : Region
  pub text : List ℕ

-- a finding: its rule, its words, the architecture if it is named, the file that it is in, its
-- marks, and what stays the same when lines move
pub record Finding : Type 0 where
  pub rule : List ℕ
  pub level : Level
  pub sentence : List ℕ
  pub queues : Option (List ℕ)
  pub notes : List (List ℕ)
  pub file : List ℕ
  pub marks : List Mark
  pub key : Option (List ℕ)

-- a finding, with the events of a run that shows it, if one is printed
pub record ListedFinding : Type 0 where
  pub finding : Finding
  pub run : Option (List Step)

-- a file that failed, and why
pub record Failure : Type 0 where
  pub sentence : List ℕ
  pub file : List ℕ

-- what a scan comes to: its files, its exit status, and the files that failed
pub record Ending : Type 0 where
  pub files : List (List ℕ)
  pub status : ℕ
  pub failures : List Failure

-- a scan by this version of the program
pub record Scan : Type 0 where
  pub version : List ℕ
  pub findings : List ListedFinding
  pub ending : Ending
