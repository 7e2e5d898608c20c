-- What is written of each section of a merge: the lines that are taken, or a version of an open conflict.
use Rattle.std.specs.Prelude.{◌≡◌, ◌≤◌, ◌+◌, ◌==◌, ◌||◌, ℕ, Bool, false, if◌then◌else◌, List, [], ◌∷◌, ◌++◌, replicate}
use Rattle.scm_types.specs.declared.section.Section.{Section}
use Rattle.scm_types.specs.declared.section.Section.TheVariants.{Unchanged, Changed, FileMode, Binary}
use Rattle.scm_merge.specs.declared.roles.Begun.{Begun}
use Rattle.scm_merge.specs.declared.roles.Role.{Role}
use Rattle.scm_merge.specs.declared.roles.Role.TheVariants.{Settled, Ours, Base, Theirs}
use Rattle.scm_merge.specs.Open.{has_taken}

-- the roles of the three sections of a conflict
abbrev pub conflict_roles : Bool → List Role
conflict_roles is_settled = if is_settled then Settled ∷ Settled ∷ Settled ∷ [] else Ours ∷ Base ∷ Theirs ∷ []

-- The role of each section. As for `open_from`, three sections of changed lines are a conflict. `seen`
-- of them came before and have no role yet, and `taken` says whether an item of these is taken.
abbrev pub roles_from : ℕ → Bool → List Section → List Role
roles_from seen taken [] = replicate seen Settled
roles_from seen taken (Unchanged lines ∷ ss) = replicate (seen + 1) Settled ++ roles_from 0 false ss
roles_from seen taken (Changed lines ∷ ss) =
    if seen == 2 then conflict_roles (taken || has_taken lines) ++ roles_from 0 false ss
    else roles_from (seen + 1) (taken || has_taken lines) ss
roles_from seen taken (FileMode is_checked mode ∷ ss) = replicate (seen + 1) Settled ++ roles_from 0 false ss
roles_from seen taken (Binary is_checked old new ∷ ss) = replicate (seen + 1) Settled ++ roles_from 0 false ss

-- the role of each section of a file
abbrev pub roles_of : List Section → List Role
roles_of sections = roles_from 0 false sections

-- The step goes over the section: the roles that it decides are added.
pub record IsRolesStep (before : Begun) (section : Section) (old new : List Role) (after : Begun) : Type 0 where
  pub goes_on : (rest : List Section)
      → new ++ roles_from after.seen after.is_taken rest ≡ old ++ roles_from before.seen before.is_taken (section ∷ rest)
  pub seen_small : after.seen ≤ 2
