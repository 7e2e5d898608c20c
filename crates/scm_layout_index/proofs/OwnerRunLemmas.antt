-- Where a run of columns ends: no column between has another owner.
use Rattle.std.proofs.Common.{◌≡◌, ℕ, ◌+◌, ◌<◌, ◌≤◌, Bool, true, false, ◌==◌, nat_lt, List, [], ◌∷◌, length, take, get_or, refl, ap₂, arith}
use Rattle.std.specs.Prelude.{nat_le, if◌then◌else◌, Option, Some, None}
use Rattle.std.proofs.lemmas.Bool.Decides.{nat_tests}
use Rattle.std.proofs.lemmas.List.Elements.{All-head, All-more, All-tail, All-weaker}
use Rattle.std.specs.List.{All}
use Rattle.scm_types.specs.declared.keys.SelectionKey.{SelectionKey}
use Rattle.scm_types.specs.declared.keys.SelectionKey.TheVariants as keys
use Rattle.scm_render.specs.Hits.{first_of_two}
use Rattle.scm_widgets.specs.declared.ids.ComponentId.{ComponentId}
use Rattle.scm_widgets.specs.declared.overlay_rects.OverlayRect.{OverlayRect}
use Rattle.scm_widgets.specs.OverlayRects.{have_row, is_at, overlay_owner}
use Rattle.scm_document.specs.declared.index_pieces.SectionPiece.{SectionPiece}
use Rattle.scm_rows.specs.declared.row_kind.RowKind.TheVariants.{Header, Line, Mark, Context, Blank}
use Rattle.scm_document.specs.PieceOwners.{box_owner, part_owner, row_owner, section_owner}
use Rattle.scm_document.specs.SectionPieces.{kind_on}
use Rattle.scm_layout_index.specs.declared.layout_index.LayoutIndex.{LayoutIndex}
use Rattle.scm_document.specs.declared.index_pieces.RowPieces.{RowPieces}
use Rattle.scm_layout_index.specs.LayoutIndex.{document_owner, owner_in}
use Rattle.scm_layout_index.specs.OwnerRuns.{IsRun, end_before}
use Rattle.scm_layout_index.proofs.RowOwnerLemmas.{not-over}

-- a column of a run lies on the same side of a stop as the first
record OneSide (c stop e x : ℕ) : Type 0 where
  below : nat_lt x stop ≡ nat_lt c stop
  above : nat_le stop x ≡ nat_le stop c
  within : x < e

one-side : (c stop e x : ℕ) → c ≤ x → x < end_before c stop e → OneSide c stop e x
one-side c stop e x low high = record {
  below = grind (arith, nat_tests);
  above = grind (arith, nat_tests);
  within = grind (arith, nat_tests);
}

past-stop : (c stop e : ℕ) → c < e → c < end_before c stop e
past-stop c stop e h = grind (arith, nat_tests)

most-stop : (c stop e : ℕ) → end_before c stop e ≤ e
most-stop c stop e = grind (arith, nat_tests)

-- ---- sections

-- the row of a section's heading
pub heading-row : (w : ℕ) (s : SectionPiece) (j c e : ℕ) → kind_on s j ≡ Header → ((k : SelectionKey) → IsRun (box_owner w 2 k) w c e) → IsRun (nat_le 2) w c e
    → IsRun (section_owner w s j) w c e
unfolding part_owner
heading-row w s j c e kind boxes two = record {
  past = two.past;
  most = two.most;
  same = λ x low high.
      let beyond = two.same x low high in
      let box = λ (k : SelectionKey). (boxes k).same x low high in
      rw (kind, box, beyond) refl;
}

-- the row of a changed line
pub line-row : (w : ℕ) (s : SectionPiece) (j c i : ℕ) → kind_on s j ≡ Line i → c < w → IsRun (section_owner w s j) w c (end_before c 4 (end_before c 7 w))
unfolding part_owner
line-row w s j c i kind h = record {
  past = past-stop c 4 _ (past-stop c 7 w h);
  most = let m0 = most-stop c 4 (end_before c 7 w) in let m1 = most-stop c 7 w in omega arith;
  same = λ x low high.
      let s0 = one-side c 4 (end_before c 7 w) x low high in
      let s1 = one-side c 7 w x low s0.within in
      rw (kind, s0.above, s1.below) refl;
}

-- the row of a mode or a binary
pub mark-row : (w : ℕ) (s : SectionPiece) (j c : ℕ) → kind_on s j ≡ Mark → c < w → IsRun (section_owner w s j) w c (end_before c 2 (end_before c 5 w))
unfolding part_owner
mark-row w s j c kind h = record {
  past = past-stop c 2 _ (past-stop c 5 w h);
  most = let m0 = most-stop c 2 (end_before c 5 w) in let m1 = most-stop c 5 w in omega arith;
  same = λ x low high.
      let s0 = one-side c 2 (end_before c 5 w) x low high in
      let s1 = one-side c 5 w x low s0.within in
      rw (kind, s0.above, s1.below) refl;
}

-- a line of context
pub context-row : (w : ℕ) (s : SectionPiece) (j c i : ℕ) → kind_on s j ≡ Context i → c < w → IsRun (section_owner w s j) w c w
unfolding part_owner
context-row w s j c i kind h = record { past = h; most = omega arith; same = λ x low high. rw kind refl }

-- a row of context without a line
pub blank-row : (w : ℕ) (s : SectionPiece) (j c : ℕ) → kind_on s j ≡ Blank → c < w → IsRun (section_owner w s j) w c (end_before c 2 w)
unfolding part_owner
blank-row w s j c kind h = record {
  past = past-stop c 2 w h;
  most = most-stop c 2 w;
  same = λ x low high. let s0 = one-side c 2 w x low high in rw (kind, s0.above) refl;
}

-- ---- lists whose elements have all columns of a run, or none

-- f has the same answer for element a and each of the columns c..e
abbrev pub IsSteady : {A : Type 0} → (A → ℕ → Bool) → ℕ → ℕ → A → Type 0
IsSteady f c e a = (x : ℕ) → c ≤ x → x < e → f a x ≡ f a c

-- one element more, for fewer columns
pub next-steady : {A : Type 0} (f : A → ℕ → Bool) (xs : List A) (i : ℕ) (d : A) (c e few : ℕ) → i < length xs → few ≤ e → All (IsSteady f c e) (take i xs) → IsSteady f c few (get_or xs i d)
    → All (IsSteady f c few) (take (i + 1) xs)
next-steady f xs i d c e few within less h one =
    All-more (IsSteady f c few) xs i d within (All-weaker (IsSteady f c e) (IsSteady f c few) (λ a same x low high. same x low (omega (arith, less, high))) (take i xs) h) one

-- ---- what lies over the document

pub one-owner : (rs : List OverlayRect) (y c e x : ℕ) → All (IsSteady (λ (r : OverlayRect). is_at r y) c e) rs → c ≤ x → x < e → overlay_owner rs y x ≡ overlay_owner rs y c
one-owner [] y c e x h low high = refl
one-owner (r ∷ rs) y c e x h low high =
    let steady = IsSteady (λ (r : OverlayRect). is_at r y) c e in
    ap₂ (λ (o : Option ComponentId) (b : Bool). first_of_two o (if b then Some r.id else None)) (one-owner rs y c e x (All-tail steady r rs h) low high) (All-head steady r rs h x low high)

-- ---- rows

-- a header's row
pub header-row : (w : ℕ) (p : RowPieces) (y c e : ℕ) → y ≡ p.file.top → ((k : SelectionKey) → IsRun (box_owner w 0 k) w c e) → IsRun (row_owner w p y) w c e
header-row w p y c e is boxes = record {
  past = (boxes (keys.File p.file.key)).past;
  most = (boxes (keys.File p.file.key)).most;
  same = λ x low high.
      let top : (y == p.file.top) ≡ true = grind (arith, nat_tests) in
      let box = (boxes (keys.File p.file.key)).same x low high in
      rw (top, box) refl;
}

-- a row that nothing lies over
pub bare-run : (i : LayoutIndex) (y c e : ℕ) → have_row i.rects y ≡ false → IsRun (document_owner i y) i.width c e → IsRun (owner_in i y) i.width c e
bare-run i y c e none run = record {
  past = run.past;
  most = run.most;
  same = λ x low high. own x (run.same x low high) (within x (less high run.most)) (within c (less run.past run.most));
}
  where
    less : {a b d : ℕ} → a < b → b ≤ d → a < d
    less h g = omega arith

    within : (x : ℕ) → x < i.width → nat_lt x i.width ≡ true
    within x h = grind (arith, nat_tests)

    own : (x : ℕ) → document_owner i y x ≡ document_owner i y c → nat_lt x i.width ≡ true → nat_lt c i.width ≡ true → owner_in i y x ≡ owner_in i y c
    own x same left start = rw (left, start, not-over i.rects y x none, not-over i.rects y c none) same
