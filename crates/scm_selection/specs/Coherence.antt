-- The files that a toggle keeps coherent.
use Rattle.std.specs.Prelude.{◌≡◌, ℕ, false, List, Some, slice_get}
use Rattle.scm_types.specs.declared.file.File.{File}
use Rattle.scm_types.specs.Repair.{is_new_and_deleted}
use Rattle.scm_types.specs.Same.{IsCoherent}

-- each file that is coherent in `old` is coherent in `new` too, unless it is new and also deleted
abbrev pub KeepsCoherent : List File → List File → Type 0
KeepsCoherent old new =
    (i : ℕ) (before after : File) → slice_get old i ≡ Some before → slice_get new i ≡ Some after
    → is_new_and_deleted before ≡ false → IsCoherent before → IsCoherent after
