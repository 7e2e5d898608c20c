-- The view of a section of a file, by the counts of the layout.
use Rattle.std.proofs.Common.{◌≡◌, ℕ, zero, suc, ◌+◌, ◌<◌, ◌≤◌, List, [], ◌∷◌, length, get_or, refl, sym, ap, ap₂, subst, ◌∙◌, arith}
use Rattle.std.specs.Prelude.{sum_by, if◌then◌else◌}
use Rattle.std.proofs.lemmas.List.Sums.{sum_by-cons}
use Rattle.scm_types.specs.declared.keys.FileKey.{FileKey}
use Rattle.scm_types.specs.declared.section.Section.{Section}
use Rattle.scm_types.specs.Keys.{section_key_of}
use Rattle.scm_types.specs.Marks.{is_editable_section}
use Rattle.scm_document.specs.declared.section_view.SectionView.{SectionView}
use Rattle.scm_rows.specs.Lines.{old_lines}
use Rattle.scm_view.specs.ViewState.{Totals, ViewState, section_view_of, section_views_of}
use Rattle.scm_layout.specs.declared.section_counts.SectionCounts.{SectionCounts}
use Rattle.scm_layout.specs.Counts.{section_counts, sections_counts}
use Rattle.scm_layout.proofs.CountLemmas.{at_most_one_more}

-- section x with index n has the counts c and the view v
pub record IsCounted (s : ViewState) (t : Totals) (k : FileKey) (editable lines : ℕ) (n : ℕ) (x : Section) (c : SectionCounts) (v : SectionView) : Type 0 where
  pub counts : c ≡ section_counts c.editable_before c.lines_before x
  pub view : v ≡ section_view_of s t (section_key_of k n) c.editable_before c.lines_before x
  pub before : c.editable_before ≤ editable
  pub above : c.lines_before ≤ lines

counted-at : (s : ViewState) (t : Totals) (k : FileKey) (i editable line line' n : ℕ) (dx : Section) (dc : SectionCounts) (dv : SectionView) (xs : List Section) → line' ≡ line → n < length xs
    → IsCounted s t k (editable + n) (line + sum_by old_lines xs) (i + n) (get_or xs n dx) (get_or (sections_counts editable line' xs) n dc) (get_or (section_views_of s t k i editable line xs) n dv)
unfolding sections_counts section_views_of
counted-at s t k i editable line line' n dx dc dv [] e h = absurd (omega (arith, h))
counted-at s t k i editable line line' zero dx dc dv (x ∷ xs) e h =
    let same : i ≡ i + 0 = omega arith in
    record {
      counts = refl;
      view = ap₂ (λ l j. section_view_of s t (section_key_of k j) editable l x) (sym e) same;
      before = omega arith;
      above = omega (arith, e);
    }
counted-at s t k i editable line line' (suc n) dx dc dv (x ∷ xs) e h =
    let editable' = if is_editable_section x then editable + 1 else editable in
    let rest = counted-at s t k (suc i) editable' (line + old_lines x) (line' + old_lines x) n dx dc dv xs (omega (arith, e)) (omega (arith, h)) in
    let next : suc i + n ≡ i + suc n = omega arith in
    let more = at_most_one_more (is_editable_section x) editable editable (omega arith) in
    let all = sum_by-cons old_lines x xs in
    record {
      counts = rest.counts;
      view = rest.view ∙ ap (λ j. section_view_of s t (section_key_of k j) (get_or (sections_counts editable' (line' + old_lines x) xs) n dc).editable_before (get_or (sections_counts editable' (line' + old_lines x) xs) n dc).lines_before (get_or xs n dx)) next;
      before = omega (arith, rest.before, more);
      above = omega (arith, rest.above, all);
    }

-- section n of a file
pub section-at : (s : ViewState) (t : Totals) (k : FileKey) (n : ℕ) (dx : Section) (dc : SectionCounts) (dv : SectionView) (xs : List Section) → n < length xs
    → IsCounted s t k n (sum_by old_lines xs) n (get_or xs n dx) (get_or (sections_counts 0 0 xs) n dc) (get_or (section_views_of s t k 0 0 0 xs) n dv)
section-at s t k n dx dc dv xs h =
    let r = counted-at s t k 0 0 0 0 n dx dc dv xs refl h in
    let zero_and : 0 + n ≡ n = omega arith in
    record {
      counts = r.counts;
      view = r.view ∙ ap (λ j. section_view_of s t (section_key_of k j) (get_or (sections_counts 0 0 xs) n dc).editable_before (get_or (sections_counts 0 0 xs) n dc).lines_before (get_or xs n dx)) zero_and;
      before = omega (arith, r.before);
      above = omega (arith, r.above);
    }

-- section x, with index n, has the counts c and the view that these give
pub record IsCountedHere (s : ViewState) (t : Totals) (k : FileKey) (n : ℕ) (xs : List Section) (x : Section) (c : SectionCounts) : Type 0 where
  pub counts : c ≡ section_counts c.editable_before c.lines_before x
  pub view : (d : SectionView) → get_or (section_views_of s t k 0 0 0 xs) n d ≡ section_view_of s t (section_key_of k n) c.editable_before c.lines_before x
  pub before : c.editable_before ≤ n
  pub above : c.lines_before ≤ sum_by old_lines xs

pub counted-here : (s : ViewState) (t : Totals) (k : FileKey) (n : ℕ) (xs : List Section) (ns : List SectionCounts) (x : Section) (d c : SectionCounts) → ns ≡ sections_counts 0 0 xs → n < length xs
    → x ≡ get_or xs n x → c ≡ get_or ns n d → IsCountedHere s t k n xs x c
counted-here s t k n xs ns x d c e h is_x is_c =
    let here : get_or (sections_counts 0 0 xs) n d ≡ c = sym (is_c ∙ ap (λ (ms : List SectionCounts). get_or ms n d) e) in
    from (get_or xs n x) (get_or (sections_counts 0 0 xs) n d) (sym is_x) here (λ v. section-at s t k n x d v xs h)
  where
    from : (y : Section) (m : SectionCounts) → y ≡ x → m ≡ c → ((d : SectionView) → IsCounted s t k n (sum_by old_lines xs) n y m (get_or (section_views_of s t k 0 0 0 xs) n d)) → IsCountedHere s t k n xs x c
    from y m p q at =
        let is = λ (d : SectionView). subst (λ (z : Section). IsCounted s t k n (sum_by old_lines xs) n z c (get_or (section_views_of s t k 0 0 0 xs) n d)) p
        (subst (λ (l : SectionCounts). IsCounted s t k n (sum_by old_lines xs) n y l (get_or (section_views_of s t k 0 0 0 xs) n d)) q (at d)) in
        let one = is (section_view_of s t (section_key_of k n) 0 0 x) in
        record { counts = one.counts; view = λ d. (is d).view; before = one.before; above = one.above }
