-- Files with lines beside a link.
use Rattle.std.proofs.Common.{◌≡◌, ℕ, List, Bool, true, false, Option, Some, None, refl, sym, ◌∙◌, ap, if◌then◌else◌, option_map}
use Rattle.std.specs.Option.{option_or}
use Rattle.std.proofs.lemmas.Bool.{false≢true}
use Rattle.scm_types.specs.declared.file.File.{File}
use Rattle.scm_diff.specs.declared.change.Version.{Version}
use Rattle.scm_diff.specs.Change.{checked}
use Rattle.scm_tree_sides.specs.declared.modes.Modes.{Modes}
use Rattle.scm_tree_sides.specs.declared.modes.Side.{Side}
use Rattle.scm_tree_sides.specs.declared.shown.Shown.{Shown}
use Rattle.scm_tree_sides.specs.declared.shown.Shown.TheVariants.{Lines, Items, Whole}
use Rattle.scm_tree_sides.specs.declared.shown.Changed.{Changed}
use Rattle.scm_tree_sides.specs.declared.placed.Origin.{Origin}
use Rattle.scm_tree_sides.specs.declared.placed.Origin.TheVariants.{OfSide}
use Rattle.scm_tree_sides.specs.declared.placed.InTree.{InTree}
use Rattle.scm_tree_sides.specs.SideVersions.{Contents, GivesVersionsBack, mode_of_version, mode_on_side, modes_of, side_in, with_bytes}
use Rattle.scm_tree_sides.specs.Links.{file_mode, files_of, is_link, link_beside, link_of, mode_beside}
use Rattle.scm_tree_sides.specs.Shown.{is_by_lines}
use Rattle.scm_tree_sides.specs.InTree.{contents_beside, contents_of, in_tree, line_contents, mode_of}
use Rattle.scm_tree_sides.specs.Laws.{IsBesideLink, LinksComeBack, version_beside, without_link}

none_is_some : {A : Type 0} (x : A) → None ≡ Some x → ⊥
none_is_some x e = cc

abbrev tree_of : Option ℕ → Origin → InTree
tree_of mode contents = record { mode = mode; old_path_mode = None; contents = contents }

-- ---- where the file is, or is not, beside the link

-- Whether the new version is meant, and whether each version is a link. Exactly one of them is.
abbrev file_if : Bool → ℕ → Option ℕ
file_if is_link mode = if is_link then None else Some mode

abbrev origin_if : Bool → Option ℕ → Origin
origin_if is_new_link None = contents_of is_new_link
origin_if is_new_link (Some mode) = OfSide

new_there : (p q : Bool) (a b link : ℕ) → (if p then (if q then None else Some a) else if q then Some b else None) ≡ Some link → tree_of (option_or (file_if q b) (Some link)) (origin_if q (file_if q b)) ≡ tree_of (Some b) (if q then contents_of true else OfSide)
new_there true true a b link e = absurd (none_is_some link e)
new_there false false a b link e = absurd (none_is_some link e)
new_there true false a b link e = refl
new_there false true a b link e = ap (λ (o : Option ℕ). tree_of o (contents_of true)) (sym e)

old_there : (p q : Bool) (a b link : ℕ) → (if p then (if q then None else Some a) else if q then Some b else None) ≡ Some link → tree_of (option_or (file_if p a) (Some link)) (origin_if q (file_if p a)) ≡ tree_of (Some a) (if p then contents_of false else OfSide)
old_there true true a b link e = absurd (none_is_some link e)
old_there false false a b link e = absurd (none_is_some link e)
old_there true false a b link e = ap (λ (o : Option ℕ). tree_of o (contents_of false)) (sym e)
old_there false true a b link e = refl

-- what is there by the modes `m`, beside the link, where the file has the mode `f`
abbrev beside : Modes → ℕ → Option ℕ → InTree
beside m link f = tree_of (option_or f (Some link)) (contents_beside m f)

abbrev of_both : Option ℕ → Option ℕ → Modes
of_both old new = record { old = old; new = new }

origin_of : (a b : ℕ) (f : Option ℕ) → contents_beside (of_both (Some a) (Some b)) f ≡ origin_if (is_link b) f
origin_of a b None = refl
origin_of a b (Some mode) = refl

is_version : (is_new : Bool) (old new : Option ℕ) (link : ℕ) → link_of old new ≡ Some link → beside (of_both old new) link (file_mode (mode_of is_new (of_both old new))) ≡ version_beside is_new (of_both old new)
is_version is_new None new link e = absurd (none_is_some link e)
is_version is_new (Some a) None link e = absurd (none_is_some link e)
is_version true (Some a) (Some b) link e =
    ap (tree_of (option_or (file_if (is_link b) b) (Some link))) (origin_of a b (file_if (is_link b) b)) ∙ new_there (is_link a) (is_link b) a b link e
is_version false (Some a) (Some b) link e =
    ap (tree_of (option_or (file_if (is_link a) a) (Some link))) (origin_of a b (file_if (is_link a) a)) ∙ old_there (is_link a) (is_link b) a b link e

abbrev by_lines : Modes → Changed
by_lines m = record { modes = m; shown = Lines; is_renamed = false }

in_tree_beside : (m : Modes) (link : ℕ) (side : Side) → link_beside m ≡ Some link → in_tree (by_lines m) side ≡ beside m link (mode_on_side (files_of m) side)
in_tree_beside m link side e = ap (λ (o : Option ℕ). tree_of (mode_beside o m side) (line_contents o m side)) e

-- ---- the versions without the link

file_by : (b : Bool) (v : Version) → option_map (λ (x : Version). x.mode) (if b then None else Some v) ≡ file_if b v.mode
file_by true v = refl
file_by false v = refl

file_is : (v : Option Version) → mode_of_version (without_link v) ≡ file_mode (mode_of_version v)
file_is None = refl
file_is (Some v) = file_by (is_link v.mode) v

files_are : (old new : Option Version) → modes_of (without_link old) (without_link new) ≡ files_of (modes_of old new)
files_are old new =
    ap (λ (o : Option ℕ). of_both o (mode_of_version (without_link new))) (file_is old)
    ∙ ap (of_both (file_mode (mode_of_version old))) (file_is new)

mode_back : (bytes : List ℕ) (m : Option ℕ) → option_map (λ (x : Contents). x.mode) (with_bytes bytes m) ≡ m
mode_back bytes None = refl
mode_back bytes (Some mode) = refl

same_mode : (bs cs : List ℕ) (m n : Option ℕ) → with_bytes bs m ≡ with_bytes cs n → m ≡ n
same_mode bs cs m n e = sym (mode_back bs m) ∙ ap (option_map (λ (x : Contents). x.mode)) e ∙ mode_back cs n

abbrev version : Bool → Option Version → Option Version → Option Version
version true old new = new
version false old new = old

version_mode : (is_new : Bool) (old new : Option Version) → mode_of_version (version is_new old new) ≡ mode_of is_new (modes_of old new)
version_mode true old new = refl
version_mode false old new = refl

version_there : (is_new : Bool) (old new : Option Version) (link : ℕ) (side : Side) → link_beside (modes_of old new) ≡ Some link → mode_on_side (modes_of (without_link old) (without_link new)) side ≡ mode_of_version (without_link (version is_new old new)) → in_tree (by_lines (modes_of old new)) side ≡ version_beside is_new (modes_of old new)
version_there is_new old new link side e m =
    let found : mode_on_side (files_of (modes_of old new)) side ≡ file_mode (mode_of is_new (modes_of old new)) =
    sym (ap (λ (x : Modes). mode_on_side x side) (files_are old new)) ∙ m ∙ file_is (version is_new old new) ∙ ap file_mode (version_mode is_new old new) in
    in_tree_beside (modes_of old new) link side e
    ∙ ap (beside (modes_of old new) link) found
    ∙ is_version is_new (mode_of_version old) (mode_of_version new) link e

shown_is : (s : Shown) → is_by_lines s ≡ true → s ≡ Lines
shown_is Lines e = refl
shown_is Items e = absurd (false≢true e)
shown_is Whole e = absurd (false≢true e)

is_by : (c : Changed) (old new : Option Version) → IsBesideLink old new c → c ≡ by_lines (modes_of old new)
is_by c old new s =
    ap (λ (m : Modes). record { modes = m; shown = c.shown; is_renamed = c.is_renamed }) s.modes
    ∙ ap (λ (k : Shown). record { modes = modes_of old new; shown = k; is_renamed = c.is_renamed }) (shown_is c.shown s.by_lines)
    ∙ ap (λ (r : Bool). record { modes = modes_of old new; shown = Lines; is_renamed = r }) s.is_renamed

there : (is_new : Bool) (c : Changed) (old new : Option Version) (side : Side) → IsBesideLink old new c → mode_on_side (modes_of (without_link old) (without_link new)) side ≡ mode_of_version (without_link (version is_new old new)) → in_tree c side ≡ version_beside is_new c.modes
there is_new c old new side s m =
    ap (λ (x : Changed). in_tree x side) (is_by c old new s)
    ∙ version_there is_new old new s.link side (sym (ap link_beside s.modes) ∙ s.is_beside) m
    ∙ sym (ap (version_beside is_new) s.modes)

pub links_back : (c : Changed) (old new : Option Version) (old_bytes new_bytes : List ℕ) (file : File) → IsBesideLink old new c → GivesVersionsBack (without_link old) (without_link new) old_bytes new_bytes file → LinksComeBack c file
links_back c old new old_bytes new_bytes file s g = record {
  selected = there false c old new (side_in true file) s (same_mode _ _ _ _ g.selected);
  unselected = there true c old new (side_in false file) s (same_mode _ _ _ _ g.unselected);
  checked_selected = there true c old new (side_in true (checked file)) s (same_mode _ _ _ _ g.checked_selected);
  checked_unselected = there false c old new (side_in false (checked file)) s (same_mode _ _ _ _ g.checked_unselected);
}
