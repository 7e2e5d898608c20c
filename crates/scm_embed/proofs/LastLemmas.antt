-- Changes of the last element of a list that may fail.
use Rattle.std.proofs.Common.{◌≡◌, ℕ, ◌<◌, List, length, get_or, Option, Some, Result, Ok, Err, OnOk, sym, ap, ◌∙◌, subst}
use Rattle.std.specs.Prelude.{slice_set}
use Rattle.scm_types.specs.Edits.{modify}
use Rattle.scm_types.specs.declared.section.Section.{Section}
use Rattle.scm_types.specs.declared.file.File.{File}
use Rattle.scm_types.proofs.EditLemmas.{slice_set-changed}
use Rattle.scm_embed.specs.declared.addition.Part.{Part}
use Rattle.scm_embed.specs.declared.addition.BuildError.{BuildError}
use Rattle.scm_embed.specs.Additions.{Refuses, after_part, file_after_part}

-- the change of the element is done
pub changed_if : {A T E : Type 0} (r : Result T E) (f : A → A) (xs : List A) (i j : ℕ) (d w : A) → i ≡ j → i < length xs → OnOk r (w ≡ f (get_or xs i d))
    → OnOk r (slice_set xs i w ≡ modify f xs j)
changed_if (Ok x) f xs i j d w same h e = rw (← same) (slice_set-changed f xs i d w h e)
changed_if (Err x) f xs i j d w same h e = tt

-- a part of a file is added if its sections are
pub file_changed : {T E : Type 0} (r : Result T E) (part : Part) (file : File) (ss : List Section) → OnOk r (ss ≡ after_part part file.sections)
    → OnOk r (◌≡◌ {A = File} (record file { sections = ss }) (file_after_part part file))
file_changed (Ok x) part file ss e = ap (λ (those : List Section). record file { sections = those }) e
file_changed (Err x) part file ss e = tt

-- an addition is refused for the reason that was found
pub refused_for : (found refusal : Option BuildError) (error : BuildError) → found ≡ refusal → found ≡ Some error → Refuses refusal error
refused_for found refusal error e f = subst (λ (r : Option BuildError). Refuses r error) (sym f ∙ e) Refuses.refuses
