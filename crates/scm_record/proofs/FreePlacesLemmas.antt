-- The boxes that the screen showed have the targets of its rows, and a run of columns has one target.
use Rattle.std.proofs.Common.{◌≡◌, ℕ, ◌+◌, ◌<◌, ◌≤◌, Bool, true, false, cond, List, [], ◌∷◌, length, take, get_or, refl, sym, ap, ◌∙◌, subst, arith, fold}
use Rattle.std.specs.Prelude.{ℤ, pos, ◌+ℤ◌, ◌≤ℤ◌, ◌&&◌, int_le, int_lt, nat_le, nat_lt, Option, None, option_map, if◌then◌else◌}
use Rattle.std.specs.Cmp.{IsEquivalence}
use Rattle.std.specs.Int.{int_max}
use Rattle.std.specs.List.{All, filter}
use Rattle.std.proofs.lemmas.Bool.{and_parts}
use Rattle.std.proofs.lemmas.Int.{ints, clamps}
use Rattle.std.proofs.lemmas.List.Elements.{All-head, All-tail}
use Rattle.scm_cells.specs.Rect.{end_y_of}
use Rattle.scm_cells.specs.declared.rect.Rect.{Rect}
use Rattle.scm_render.specs.Hits.{IsLawful, holds}
use Rattle.scm_render.specs.Target.{IsTargetOf, later_of, look}
use Rattle.scm_render.specs.declared.trace.DrawnRect.{DrawnRect}
use Rattle.scm_render.proofs.TargetLemmas.{target-found}
use Rattle.scm_types.specs.Limits.{max_scroll}
use Rattle.scm_view.specs.Frame.{Frame}
use Rattle.scm_widgets.specs.Clicks.{is_clickable}
use Rattle.scm_widgets.specs.SameIds.{same_id}
use Rattle.scm_widgets.specs.declared.ids.ComponentId.{ComponentId}
use Rattle.scm_layout_index.proofs.OwnerRunLemmas.{IsSteady, next-steady}
use Rattle.scm_record.specs.FreePlaces.{AreShown, has_row_among, holds_at, is_shown, target_in}
use Rattle.scm_record.specs.FrameQueries.{hit}
use Rattle.scm_record.specs.Frames.{AreFreePlaces, Scene}
use Rattle.scm_record.specs.declared.free_places.FreePlaces.{FreePlaces}

-- ---- the boxes that the screen showed

-- a fold goes on as it is without what it passes over anyway
fold-filter : {A B : Type 0} (f : B → A → B) (passes : A → Bool) → ((b : B) (a : A) → passes a ≡ false → f b a ≡ b) → (b : B) (xs : List A)
    → fold f b (filter passes xs) ≡ fold f b xs
fold-filter f passes idle b [] = refl
fold-filter {A} {B} f passes idle b (x ∷ xs) = go (passes x) refl (fold-filter f passes idle (f b x) xs) (fold-filter f passes idle b xs)
  where
    go : (t : Bool) → passes x ≡ t → fold f (f b x) (filter passes xs) ≡ fold f (f b x) xs → fold f b (filter passes xs) ≡ fold f b xs
        → fold f b (cond t (x ∷ filter passes xs) (filter passes xs)) ≡ fold f (f b x) xs
    go true e kept left = kept
    go false e kept left = left ∙ ap (λ (c : B). fold f c xs) (sym (idle b x e))

-- a rectangle that has a row of the screen has one of its rows
has-row : (r : Rect) (first end y : ℤ) → int_le r.y y ≡ true → int_lt y (end_y_of r) ≡ true → int_le first y ≡ true → int_lt y end ≡ true → has_row_among first end r ≡ true
has-row r first end y top bottom low high = go (int_max r.y first) (omega (arith, ints, clamps)) (omega (arith, ints, clamps))
  where
    go : (row : ℤ) → r.y ≤ℤ row → row ≤ℤ y → (int_lt row end && (int_le r.y row && int_lt row (r.y +ℤ pos r.height))) ≡ true
    go row p q =
        let a : int_lt row end ≡ true = grind (arith, ints) in
        let b : int_le r.y row ≡ true = grind (arith, ints) in
        let c : int_lt row (r.y +ℤ pos r.height) ≡ true = grind (arith, ints) in
        rw (a, b, c) refl

-- so one that has none holds no place there
holds-nothing : (r : Rect) (first end y x : ℤ) → has_row_among first end r ≡ false → int_le first y ≡ true → int_lt y end ≡ true → holds r y x ≡ false
unfolding holds
holds-nothing r first end y x none low high = go (int_le r.y y) (int_lt y (end_y_of r)) _ refl refl
  where
    go : (a b c : Bool) → int_le r.y y ≡ a → int_lt y (end_y_of r) ≡ b → ((a && b) && c) ≡ false
    go true true c p q = absurd (cc (none, has-row r first end y p q low high))
    go true false c p q = refl
    go false b c p q = refl

-- a box that the screen did not show is passed over
passed : (first end y x : ℤ) (found : Option (ComponentId × DrawnRect)) (e : ComponentId × DrawnRect) → int_le first y ≡ true → int_lt y end ≡ true
    → is_shown first end e ≡ false → look is_clickable y x found e ≡ found
unfolding is_shown
passed first end y x found e low high none = go (is_clickable e.0) none
  where
    go : (c : Bool) → (c && has_row_among first end e.1.rect) ≡ false → cond (c && holds e.1.rect y x) (later_of found e) found ≡ found
    go true q = rw (holds-nothing e.1.rect first end y x q low high) refl
    go false q = refl

-- a test of equality is an equivalence
equivalence-of : {K : Type 0} (same : K → K → Bool) → IsLawful same → IsEquivalence same
equivalence-of {K} same law = record {
  refl = law.self;
  symm = λ i j. go i j (same i j) (same j i) refl refl;
  congr = λ i j k e. ap (λ (l : K). same l k) (law.same i j e);
}
  where
    go : (i j : K) (a b : Bool) → same i j ≡ a → same j i ≡ b → a ≡ b
    go i j true true p q = refl
    go i j false false p q = refl
    go i j true false p q = cc (law.same i j p, law.self j, q)
    go i j false true p q = cc (law.same j i q, law.self i, p)

-- the target on a row of the screen is that among the boxes that the screen showed
pub shown-target : (places : FreePlaces) → IsLawful same_id → AreShown places → (y x : ℤ) → (int_le places.first y && int_lt y places.end) ≡ true
    → IsTargetOf same_id is_clickable places.boxes y x (target_in places.shown.items y x)
shown-target places law kept y x seen =
    let sides = and_parts (int_le places.first y) (int_lt y places.end) seen in
    let step = look is_clickable y x in
    let same : fold step None places.shown.items ≡ fold step None places.boxes.entries =
    ap (fold step None) kept.shown
    ∙ fold-filter step (is_shown places.first places.end) (λ found e none. passed places.first places.end y x found e sides.0 sides.1 none) None places.boxes.entries in
    subst (λ (o : Option (ComponentId × DrawnRect)). IsTargetOf same_id is_clickable places.boxes y x (option_map (λ (e : ComponentId × DrawnRect). e.0) o)) (sym same)
    (target-found same_id is_clickable places.boxes y x law (equivalence-of same_id law) kept.unique)

-- a target in the map is the owner of the frame
pub mapped-owner : (places : FreePlaces) (w : ℕ) (frame : Frame) → AreFreePlaces w frame places → (row column : ℤ) (y x : ℕ) → row ≡ pos y → column ≡ pos x → x < w
    → (o : Option ComponentId) → IsTargetOf same_id is_clickable places.boxes row column o → o ≡ frame.owner y x
mapped-owner places w frame kept row column y x at_row at_column within o target =
    let there = rw (at_row, at_column) at target in
    kept.map.owner y x within o there

-- and so is the target among the boxes that the screen showed
pub shown-owner : (places : FreePlaces) → IsLawful same_id → (w : ℕ) (frame : Frame) → AreFreePlaces w frame places → (row column : ℤ) (y x : ℕ) → row ≡ pos y → column ≡ pos x → x < w
    → (int_le places.first row && int_lt row places.end) ≡ true → target_in places.shown.items row column ≡ frame.owner y x
shown-owner places law w frame kept row column y x at_row at_column within seen =
    mapped-owner places w frame kept row column y x at_row at_column within (target_in places.shown.items row column) (shown-target places law kept.shown row column seen)

-- ---- runs of columns

-- a box has all columns c..e on row y, or none
abbrev pub HasAllOrNone : ℤ → ℕ → ℕ → ComponentId × DrawnRect → Type 0
HasAllOrNone y c e = IsSteady (λ (b : ComponentId × DrawnRect) (x : ℕ). holds_at b.1.rect y x) c e

one-box : (bs : List (ComponentId × DrawnRect)) (y : ℤ) (c e x : ℕ) (found : Option (ComponentId × DrawnRect)) → All (HasAllOrNone y c e) bs → c ≤ x → x < e
    → fold (look is_clickable y (pos x)) found bs ≡ fold (look is_clickable y (pos c)) found bs
one-box [] y c e x found h low high = refl
one-box (b ∷ bs) y c e x found h low high =
    ap (λ (t : Bool). fold (look is_clickable y (pos x)) (cond (is_clickable b.0 && t) (later_of found b) found) bs) (All-head (HasAllOrNone y c e) b bs h x low high)
    ∙ one-box bs y c e x (look is_clickable y (pos c) found b) (All-tail (HasAllOrNone y c e) b bs h) low high

pub one-target : (bs : List (ComponentId × DrawnRect)) (y : ℤ) (c e x : ℕ) → All (HasAllOrNone y c e) bs → c ≤ x → x < e → target_in bs y (pos x) ≡ target_in bs y (pos c)
one-target bs y c e x h low high = ap (option_map (λ (b : ComponentId × DrawnRect). b.0)) (one-box bs y c e x None h low high)

pub next-box : (bs : List (ComponentId × DrawnRect)) (i : ℕ) (b : ComponentId × DrawnRect) (y : ℤ) (c e d : ℕ) → i < length bs → d ≤ e → All (HasAllOrNone y c e) (take i bs) → HasAllOrNone y c d (get_or bs i b)
    → All (HasAllOrNone y c d) (take (i + 1) bs)
next-box bs i b y c e d = next-steady (λ (b : ComponentId × DrawnRect) (x : ℕ). holds_at b.1.rect y x) bs i b c e d

-- ---- what a click hits

-- an owner of the frame on a row of the screen is what a click there hits
pub free-hit : (scene : Scene) (s row x : ℕ) (o : Option ComponentId) → (nat_lt row scene.height && nat_le s max_scroll) ≡ true
    → o ≡ (if nat_lt x scene.width then scene.frame.owner (s + row) x else None) → o ≡ hit scene s row x
free-hit scene s row x o there owned =
    let parts = and_parts (nat_lt row scene.height) (nat_le s max_scroll) there in
    owned ∙ go (nat_lt x scene.width) (nat_lt row scene.height) (nat_le s max_scroll) (scene.frame.owner (s + row) x) parts.0 parts.1
  where
    go : (b c d : Bool) (p : Option ComponentId) → c ≡ true → d ≡ true → ◌≡◌ {A = Option ComponentId} (if b then p else None) (if (b && c) && d then p else None)
    go true c d p is_row is_low = rw (is_row, is_low) refl
    go false c d p is_row is_low = refl
