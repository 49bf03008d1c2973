use Rattle.std.proofs.Common.{◌≡◌, ℕ, List, inl, inr, refl, codes, subst}
use Rattle.std.specs.Prelude.{◌≢◌}
use Rattle.clap.specs.Words.{found_of}
use Rattle.msc_source.specs.Inputs.{IsReadFrom}
use Rattle.msc_answer.specs.Answering.{EndsAs}
use Rattle.msc_command.specs.Program.{IsNamed}
use Rattle.msc_command.specs.declared.invocation.Invocation.{Invocation}
use Rattle.msc_command.proofs.program.obey.Goals as goal

pub returns-in_default : goal.returns-in_default
returns-in_default g c = inl (record { named = c.in_default.ensures; ends = refl; kept = refl; unread = refl })

pub returns-in-Task : goal.returns-in-Task
returns-in-Task g c = inr (inl (record {
  task = c.in-Task.task;
  asked = subst (λ (i : Invocation). IsNamed c.args.name.now (found_of c.args.words.now) i) c.in-Task.is c.in-Some.ensures;
  ends = subst (λ (file : List ℕ). EndsAs g.O.Write.contents c.in-Task.task file (λ text. file ≡ codes "-"
      → IsReadFrom (g.I.Read.remaining c.args.input.now) (g.I.Read.remaining c.perform_on.new.input) text) c.perform_on.result c.args.output.now c.perform_on.new.output)
      c.file_of.ensures c.perform_on.ensures.performed;
  apart = subst (λ (file : List ℕ). file ≢ codes "-" → c.perform_on.new.input ≡ c.args.input.now) c.file_of.ensures c.perform_on.ensures.apart;
}))

pub returns-in-Scan : goal.returns-in-Scan
returns-in-Scan g c = inr (inr (inl (record {
  args = c.in-Scan.scan_args;
  asked = subst (λ (i : Invocation). IsNamed c.args.name.now (found_of c.args.words.now) i) c.in-Scan.is c.in-Some.ensures;
  ends = c.scan.ensures.scanned;
  apart = c.scan.ensures.apart;
})))

pub returns-in-Completions : goal.returns-in-Completions
returns-in-Completions g c = inr (inr (inr (record {
  shell = c.in-Completions.shell;
  asked = subst (λ (i : Invocation). IsNamed c.args.name.now (found_of c.args.words.now) i) c.in-Completions.is c.in-Some.ensures;
  ends = c.print_completions.ensures;
  unread = refl;
})))
