use Rattle.lite_read.specs.ReadToEnd.{appends_where}
use Rattle.lite_read.specs.ReadUntil.{until_where}
use Rattle.properties_met.proofs.Unrefused.{appends_found, gathers_found, text_found, until_found}
use Rattle.properties_met.proofs.reading.read_behind.Goals as goal

pub returns-clause-ample_to_end : goal.returns-clause-ample_to_end
returns-clause-ample_to_end g c =
    λ all x y l none h. gathers_found all (λ v. appends_found _ v.start) x y l none h.gathered

pub returns-clause-ample_until : goal.returns-clause-ample_until
returns-clause-ample_until g c = λ all x y l none h. gathers_found all (λ v. until_found _ v.byte) x y l none h.gathered

pub returns-clause-ample_line : goal.returns-clause-ample_line
returns-clause-ample_line g c =
    λ all x y l none h.
    gathers_found all (λ v. text_found (until_where 10 _) (until_where 10 (λ _. ⊥)) (until_found _ 10)) x y l none
    h.gathered

pub returns-clause-ample_string : goal.returns-clause-ample_string
returns-clause-ample_string g c =
    λ all x y l none h.
    gathers_found all (λ v. text_found (appends_where _ 0) (appends_where (λ _. ⊥) 0) (appends_found _ 0)) x y l none
    h.gathered
