-- Files whose contents are items.
use Rattle.std.proofs.Common.{◌≡◌, ℕ, ◌≤◌, ◌%◌, ◌==◌, List, [], ◌++◌, Bool, true, false, not, ◌&&◌, ◌||◌, Option, Some, None, refl, sym, ◌∙◌, ap, if◌then◌else◌, option_map, flat_map, arith}
use Rattle.std.specs.Prelude.{unwrap_or}
use Rattle.std.proofs.lemmas.Bool.{false≢true}
use Rattle.std.proofs.lemmas.Bool.Decides.{nat_tests}
use Rattle.scm_types.specs.declared.file.File.{File}
use Rattle.scm_types.specs.declared.file_mode.FileMode.{FileMode}
use Rattle.scm_types.specs.declared.section.Section.{Section}
use Rattle.scm_types.specs.declared.split.SelectedContents.{SelectedContents}
use Rattle.scm_types.specs.declared.split.SelectedContents.TheVariants as contents
use Rattle.scm_types.specs.Split.{first_mode_change, is_emptied, last_binary_change, same, section_lines, tail_of, text_side}
use Rattle.scm_tree_sides.specs.declared.modes.Modes.{Modes}
use Rattle.scm_tree_sides.specs.declared.modes.Side.{Side}
use Rattle.scm_tree_sides.specs.declared.shown.Shown.{Shown}
use Rattle.scm_tree_sides.specs.declared.shown.Shown.TheVariants.{Lines, Items, Whole}
use Rattle.scm_tree_sides.specs.declared.shown.Changed.{Changed}
use Rattle.scm_tree_sides.specs.declared.shown.ShownAs.{ShownAs}
use Rattle.scm_tree_sides.specs.SideVersions.{is_binary, renamed_modes, side_in}
use Rattle.scm_tree_sides.specs.Shown.{both_modes, go_along, is_by_lines, is_no_file, is_same, is_whole, mode_before, renamed_modes_of, shown_as}
use Rattle.scm_tree_sides.specs.InTree.{bits_of_mode, contents_of, in_tree, is_mode_of, mode_of, placed}
use Rattle.scm_tree_sides.specs.Laws.{HasVersion, ItemsComeBack, ShowsItems, contents_items, file_mode_of, mode_at, mode_items, old_path_mode_at}

-- ---- what a side has of items that all have one mark

apart : (e : Bool) → is_binary (text_side e []) ≡ false
apart true = refl
apart false = refl

chosen_mode : (t : Bool) (before new : Option ℕ) → (if t then file_mode_of new else file_mode_of before) ≡ file_mode_of (if t then new else before)
chosen_mode true before new = refl
chosen_mode false before new = refl

equal_modes : (m n : Option ℕ) → is_same m n ≡ true → m ≡ n
equal_modes None None e = refl
equal_modes None (Some b) e = absurd (false≢true e)
equal_modes (Some a) None e = absurd (false≢true e)
equal_modes (Some a) (Some b) e = let f : a ≡ b = grind (arith, nat_tests) in ap Some f

unchanged : (t : Bool) (before new : Option ℕ) → before ≡ new → file_mode_of before ≡ file_mode_of (if t then new else before)
unchanged true before new e = ap file_mode_of e
unchanged false before new e = refl

not_not : (b : Bool) → false ≡ not b → b ≡ true
not_not true e = refl
not_not false e = absurd (false≢true e)

abbrev mode_found : Bool → FileMode → List Section → FileMode
mode_found selected before ss = unwrap_or (option_map (λ (c : Bool × FileMode). if same c.0 selected then c.1 else before) (first_mode_change ss)) before

mode_of_items : (has_mode has_contents k selected : Bool) (before new : Option ℕ) (old_words new_words : Option (List ℕ)) → has_mode ≡ not (is_same before new) → mode_found selected (file_mode_of before) (mode_items has_mode k new ++ contents_items has_contents k old_words new_words) ≡ file_mode_of (if same k selected then new else before)
mode_of_items true has_contents k selected before new old_words new_words e = chosen_mode (same k selected) before new
mode_of_items false true k selected before new old_words new_words e = unchanged (same k selected) before new (equal_modes before new (not_not (is_same before new) e))
mode_of_items false false k selected before new old_words new_words e = unchanged (same k selected) before new (equal_modes before new (not_not (is_same before new) e))

abbrev contents_found : Bool → Bool → List Section → SelectedContents
contents_found selected emptied ss =
    let text = text_side emptied (flat_map (section_lines selected) (tail_of ss)) in
    unwrap_or (option_map (λ (c : Bool × SelectedContents). if same c.0 selected then c.1 else text) (last_binary_change ss)) text

chosen_contents : (t emptied : Bool) (old_words new_words : Option (List ℕ)) → is_binary (if t then contents.Binary old_words new_words else text_side emptied []) ≡ t
chosen_contents true emptied old_words new_words = refl
chosen_contents false emptied old_words new_words = apart emptied

contents_of_items : (has_mode has_contents k selected emptied : Bool) (new : Option ℕ) (old_words new_words : Option (List ℕ)) → is_binary (contents_found selected emptied (mode_items has_mode k new ++ contents_items has_contents k old_words new_words)) ≡ (has_contents && same k selected)
contents_of_items true true k selected emptied new old_words new_words = chosen_contents (same k selected) emptied old_words new_words
contents_of_items false true k selected emptied new old_words new_words = chosen_contents (same k selected) emptied old_words new_words
contents_of_items true false k selected emptied new old_words new_words = apart emptied
contents_of_items false false k selected emptied new old_words new_words = apart emptied

-- The side is that of items which are all on it if `t`, and all not on it if not.
record IsOfItems (c : Changed) (is_other t : Bool) (side : Side) : Type 0 where
  pub mode : side.mode ≡ file_mode_of (if t then (shown_as c is_other).new else (shown_as c is_other).old)
  pub binary : side.is_binary ≡ ((shown_as c is_other).has_contents && t)

side_of_items : (c : Changed) (is_other k selected : Bool) (file : File) → ShowsItems c is_other k file → IsOfItems c is_other (same k selected) (side_in selected file)
side_of_items c is_other k selected file s =
    let shown : ShownAs = shown_as c is_other in
    let ss : List Section = mode_items shown.has_mode k shown.new ++ contents_items shown.has_contents k s.old_words s.new_words in
    record {
      mode = ap (λ (m : FileMode). mode_found selected m file.sections) s.mode
          ∙ ap (mode_found selected (file_mode_of shown.old)) s.sections
          ∙ mode_of_items shown.has_mode shown.has_contents k selected shown.old shown.new s.old_words s.new_words refl;
      binary = ap (λ (xs : List Section). is_binary (contents_found selected (is_emptied selected file) xs)) s.sections
          ∙ contents_of_items shown.has_mode shown.has_contents k selected (is_emptied selected file) shown.new s.old_words s.new_words;
    }

-- ---- the version that it has

-- whether a side's mode is that of a version
mode_of_same : (m n : Option ℕ) → is_mode_of (file_mode_of m) n ≡ is_same m n
mode_of_same None None = refl
mode_of_same None (Some b) = refl
mode_of_same (Some a) None = refl
mode_of_same (Some a) (Some b) = refl

same_self : (m : Option ℕ) → is_same m m ≡ true
same_self None = refl
same_self (Some a) = let e : (a == a) ≡ true = grind (arith, nat_tests) in e

bits_back : (m : Option ℕ) → bits_of_mode (file_mode_of m) ≡ m
bits_back None = refl
bits_back (Some a) = refl

or_false : (b : Bool) → (b || false) ≡ b
or_false true = refl
or_false false = refl

-- whether the contents are those of the new version, where they are apart from the mode, or go along with it
along : (g t : Bool) (before n : Option ℕ) → (g ≡ true → is_same before n ≡ false) → ((not g && t) || (g && is_mode_of (file_mode_of (if t then n else before)) n)) ≡ t
along false t before n e = or_false t
along true true before n e = mode_of_same n n ∙ same_self n
along true false before n e = mode_of_same before n ∙ e refl

new_item : (w g t : Bool) (before n : Option ℕ) → (w ≡ false → g ≡ true → is_same before n ≡ false) → (if w then (w || not g) && t else ((w || not g) && t) || (g && is_mode_of (file_mode_of (if t then n else before)) n)) ≡ t
new_item true g t before n e = refl
new_item false g t before n e = along g t before n (e refl)

new_item_of : (w g t is_other : Bool) (before n : Option ℕ) (mode : FileMode) (binary : Bool) → is_other ≡ true → mode ≡ file_mode_of (if t then n else before) → binary ≡ ((w || (is_other && not g)) && t) → (w ≡ false → g ≡ true → is_same before n ≡ false) → (if w then binary else binary || (g && is_mode_of mode n)) ≡ t
new_item_of w g t is_other before n mode binary o m b e =
    ap (λ (x : FileMode). if w then binary else binary || (g && is_mode_of x n)) m
    ∙ ap (λ (x : Bool). if w then x else x || (g && is_mode_of (file_mode_of (if t then n else before)) n)) (b ∙ ap (λ (x : Bool). (w || (x && not g)) && t) o)
    ∙ new_item w g t before n e

-- the mode at the path of a file that is not renamed
plain_mode : (w g t is_other : Bool) (before : Option ℕ) (modes : Modes) (mode : FileMode) (binary : Bool) → mode ≡ file_mode_of (if t then modes.new else before) → binary ≡ ((w || (is_other && not g)) && t) → (w ≡ false → before ≡ modes.old) → (if w then mode_of binary modes else bits_of_mode mode) ≡ mode_of t modes
plain_mode true g t is_other before modes mode binary m b e = ap (λ (x : Bool). mode_of x modes) b
plain_mode false g true is_other before modes mode binary m b e = ap bits_of_mode m ∙ bits_back modes.new
plain_mode false g false is_other before modes mode binary m b e = ap bits_of_mode m ∙ bits_back before ∙ e refl

-- the modes of a renamed file at its two paths, where the new version is in place if it is `true`
abbrev mode_pair : Bool → ℕ → ℕ → Option ℕ × Option ℕ
mode_pair true old new = (None, Some new)
mode_pair false old new = (Some old, None)

placed_modes : (t : Bool) (old new : ℕ) (mode : FileMode) → mode ≡ file_mode_of (if t then Some new else Some (old % 4096)) → 4096 ≤ new → renamed_modes old new mode ≡ mode_pair t old new
placed_modes true old new mode m k =
    let e : (new == new) ≡ true = grind (arith, nat_tests) in
    ap (renamed_modes old new) m ∙ ap (λ (x : Bool). if x then mode_pair true old new else mode_pair false old new) e
placed_modes false old new mode m k =
    let e : (old % 4096 == new) ≡ false = grind (arith, nat_tests, k) in
    ap (renamed_modes old new) m ∙ ap (λ (x : Bool). if x then mode_pair true old new else mode_pair false old new) e

pair_new : (t : Bool) (modes : Modes) (x : ℕ × ℕ) → (mode_pair t x.0 x.1).1 ≡ mode_at (Some x) t modes
pair_new true modes x = refl
pair_new false modes x = refl

pair_old : (t : Bool) (x : ℕ × ℕ) → (mode_pair t x.0 x.1).0 ≡ old_path_mode_at (Some x) t
pair_old true x = refl
pair_old false x = refl

before_plain : (w : Bool) (new old : Option ℕ) → w ≡ false → (if w then new else old) ≡ old
before_plain true new old e = absurd (false≢true (sym e))
before_plain false new old e = refl

differs : (is_equal b : Bool) → (not is_equal && b) ≡ true → is_equal ≡ false
differs true b e = absurd (false≢true e)
differs false b e = refl

kind_apart : (x : ℕ × ℕ) (n : Option ℕ) → n ≡ Some x.1 → 4096 ≤ x.1 → is_same (Some (x.0 % 4096)) n ≡ false
kind_apart x n e k =
    let f : (x.0 % 4096 == x.1) ≡ false = grind (arith, nat_tests, k) in
    ap (is_same (Some (x.0 % 4096))) e ∙ f

abbrev change : Modes → Shown → Bool → Changed
change m s r = record { modes = m; shown = s; is_renamed = r }

-- a renamed file has both versions, and the mode of the new one has a kind
abbrev IsBoth : Modes → Option (ℕ × ℕ) → Type 0
IsBoth m p = (x : ℕ × ℕ) → p ≡ Some x → (m.new ≡ Some x.1) × (4096 ≤ x.1)

-- the same of a side where the modes of a renamed file are `p`
record IsOfItemsAt (c : Changed) (is_other t : Bool) (side : Side) (p : Option (ℕ × ℕ)) : Type 0 where
  pub mode : side.mode ≡ file_mode_of (if t then c.modes.new else mode_before p c)
  pub binary : side.is_binary ≡ ((is_whole c || (is_other && not (go_along c.modes))) && t)

record HasVersionAt (t : Bool) (c : Changed) (is_other : Bool) (side : Side) (p : Option (ℕ × ℕ)) : Type 0 where
  pub mode : (placed p c side).mode ≡ mode_at p t c.modes
  pub old_path_mode : (placed p c side).old_path_mode ≡ old_path_mode_at p t
  pub contents : is_other ≡ true → (placed p c side).contents ≡ contents_of t

version_by_items : (m : Modes) (r is_other t : Bool) (side : Side) (p : Option (ℕ × ℕ)) → IsBoth m p → IsOfItemsAt (change m Items r) is_other t side p → HasVersionAt t (change m Items r) is_other side p
version_by_items m r is_other t side None both i =
    let c : Changed = change m Items r in
    let plain : is_whole c ≡ false → mode_before None c ≡ m.old = before_plain (is_whole c) m.new m.old in
    let apart_by : is_whole c ≡ false → go_along m ≡ true → is_same (mode_before None c) m.new ≡ false =
    λ w g. ap (λ (o : Option ℕ). is_same o m.new) (plain w) ∙ differs (is_same m.old m.new) (is_no_file m.old || is_no_file m.new) g in
    record {
      mode = plain_mode (is_whole c) (go_along m) t is_other (mode_before None c) m side.mode side.is_binary i.mode i.binary plain;
      old_path_mode = refl;
      contents = λ o. ap contents_of (new_item_of (is_whole c) (go_along m) t is_other (mode_before None c) m.new side.mode side.is_binary o i.mode i.binary apart_by);
    }
version_by_items m r is_other t side (Some x) both i =
    let c : Changed = change m Items r in
    let new : m.new ≡ Some x.1 = (both x refl).0 in
    let modes : renamed_modes x.0 x.1 side.mode ≡ mode_pair t x.0 x.1 =
    placed_modes t x.0 x.1 side.mode (i.mode ∙ ap (λ (o : Option ℕ). file_mode_of (if t then o else Some (x.0 % 4096))) new) (both x refl).1 in
    record {
      mode = ap (λ (y : Option ℕ × Option ℕ). y.1) modes ∙ pair_new t m x;
      old_path_mode = ap (λ (y : Option ℕ × Option ℕ). y.0) modes ∙ pair_old t x;
      contents = λ o. ap contents_of (new_item_of (is_whole c) (go_along m) t is_other (mode_before (Some x) c) m.new side.mode side.is_binary o i.mode i.binary (λ w g. kind_apart x m.new new (both x refl).1));
    }

version_by_whole : (m : Modes) (r is_other t : Bool) (side : Side) (p : Option (ℕ × ℕ)) → IsBoth m p → IsOfItemsAt (change m Whole r) is_other t side p → HasVersionAt t (change m Whole r) is_other side p
version_by_whole m r is_other t side None both i =
    let c : Changed = change m Whole r in
    let plain : is_whole c ≡ false → mode_before None c ≡ m.old = before_plain (is_whole c) m.new m.old in
    let apart_by : is_whole c ≡ false → go_along m ≡ true → is_same (mode_before None c) m.new ≡ false =
    λ w g. ap (λ (o : Option ℕ). is_same o m.new) (plain w) ∙ differs (is_same m.old m.new) (is_no_file m.old || is_no_file m.new) g in
    record {
      mode = plain_mode (is_whole c) (go_along m) t is_other (mode_before None c) m side.mode side.is_binary i.mode i.binary plain;
      old_path_mode = refl;
      contents = λ o. ap contents_of (new_item_of (is_whole c) (go_along m) t is_other (mode_before None c) m.new side.mode side.is_binary o i.mode i.binary apart_by);
    }
version_by_whole m r is_other t side (Some x) both i =
    let c : Changed = change m Whole r in
    let new : m.new ≡ Some x.1 = (both x refl).0 in
    let modes : renamed_modes x.0 x.1 side.mode ≡ mode_pair t x.0 x.1 =
    placed_modes t x.0 x.1 side.mode (i.mode ∙ ap (λ (o : Option ℕ). file_mode_of (if t then o else Some (x.0 % 4096))) new) (both x refl).1 in
    record {
      mode = ap (λ (y : Option ℕ × Option ℕ). y.1) modes ∙ pair_new t m x;
      old_path_mode = ap (λ (y : Option ℕ × Option ℕ). y.0) modes ∙ pair_old t x;
      contents = λ o. ap contents_of (new_item_of (is_whole c) (go_along m) t is_other (mode_before (Some x) c) m.new side.mode side.is_binary o i.mode i.binary (λ w g. kind_apart x m.new new (both x refl).1));
    }

version_of_side : (m : Modes) (s : Shown) (r is_other t : Bool) (side : Side) → is_by_lines s ≡ false → IsBoth m (renamed_modes_of (change m s r)) → IsOfItems (change m s r) is_other t side → HasVersion t (change m s r) is_other (in_tree (change m s r) side)
version_of_side m Lines r is_other t side by both i = absurd (false≢true (sym by))
version_of_side m Items r is_other t side by both i =
    let found : HasVersionAt t (change m Items r) is_other side (renamed_modes_of (change m Items r)) =
    version_by_items m r is_other t side (renamed_modes_of (change m Items r)) both (record { mode = i.mode; binary = i.binary }) in
    record { mode = found.mode; old_path_mode = found.old_path_mode; contents = found.contents }
version_of_side m Whole r is_other t side by both i =
    let found : HasVersionAt t (change m Whole r) is_other side (renamed_modes_of (change m Whole r)) =
    version_by_whole m r is_other t side (renamed_modes_of (change m Whole r)) both (record { mode = i.mode; binary = i.binary }) in
    record { mode = found.mode; old_path_mode = found.old_path_mode; contents = found.contents }

none_is_some : {A : Type 0} (x : A) → None ≡ Some x → ⊥
none_is_some x e = cc

new_of : (old new : Option ℕ) (x : ℕ × ℕ) → both_modes old new ≡ Some x → new ≡ Some x.1
new_of None new x e = absurd (none_is_some x e)
new_of (Some a) None x e = absurd (none_is_some x e)
new_of (Some a) (Some b) x e = ap (λ (o : Option (ℕ × ℕ)). option_map (λ (y : ℕ × ℕ). y.1) o) e

new_if : (r : Bool) (old new : Option ℕ) (x : ℕ × ℕ) → (if r then both_modes old new else None) ≡ Some x → new ≡ Some x.1
new_if true old new x e = new_of old new x e
new_if false old new x e = absurd (none_is_some x e)

has_version : (c : Changed) (is_other k selected : Bool) (file : File) → ShowsItems c is_other k file → HasVersion (same k selected) c is_other (in_tree c (side_in selected file))
has_version c is_other k selected file s =
    version_of_side c.modes c.shown c.is_renamed is_other (same k selected) (side_in selected file) s.by_items (λ x e. (new_if c.is_renamed c.modes.old c.modes.new x e, s.has_kind x e)) (side_of_items c is_other k selected file s)

pub come_back : (c : Changed) (is_other k : Bool) (file : File) → ShowsItems c is_other k file → ItemsComeBack c is_other k file
come_back c is_other true file s = record { selected = has_version c is_other true true file s; unselected = has_version c is_other true false file s }
come_back c is_other false file s = record { selected = has_version c is_other false true file s; unselected = has_version c is_other false false file s }
