-- A pipe and its scripts, as the code holds them.
use Rattle.std.specs.Prelude.{◌≡◌, ℕ, ℤ, List, [], ◌∷◌, All, map}
use Rattle.std.specs.Fmt.{signed_decimal}
use Rattle.lite_base.specs.Answers.{Answer}
use Rattle.pollrun.specs.Request.{IsScript}
use Rattle.pollrun.specs.Spelling.{spelled_list}
use Rattle.pollrun.specs.declared.request.Job.{Job}
use Rattle.pollrun.specs.declared.request.Job.TheVariants.{One, Two}
use Rattle.pollrun.specs.declared.request.Pipe.{Pipe}
use Rattle.pollrun.specs.declared.request.Pipe.TheVariants.{One as OnePipe, Two as TwoPipe}

-- The pipe of a job.
abbrev pub pipe_in : Job → Pipe
pipe_in (One pipe script) = OnePipe pipe
pipe_in (Two pipe first second) = TwoPipe pipe

-- The scripts of a job, in order.
abbrev pub scripts_in : Job → List (List (Answer ℤ))
scripts_in (One pipe script) = script.items ∷ []
scripts_in (Two pipe first second) = first.items ∷ second.items ∷ []

-- The job has this pipe, and the scripts that these words spell.
pub record IsJob (pipe : Pipe) (words : List (List ℕ)) (job : Job) : Type 0 where
  pub same_pipe : pipe_in job ≡ pipe
  pub spelled : words ≡ map (spelled_list signed_decimal) (scripts_in job)
  pub are_scripts : All IsScript (scripts_in job)
