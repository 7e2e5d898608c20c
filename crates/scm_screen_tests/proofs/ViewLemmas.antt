-- Views that are gone through; and small views are short ones.
use Rattle.std.proofs.Common.{◌≡◌, ℕ, ◌+◌, ◌*◌, ◌<◌, ◌≤◌, ◌^◌, Bool, true, List, [], ◌∷◌, length, drop, get_or, add-one, drop-cons, refl, arith}
use Rattle.std.specs.Prelude.{sum_by, ◌&&◌}
use Rattle.std.specs.List.{list_all}
use Rattle.std.proofs.lemmas.List.{drop_all}
use Rattle.std.proofs.lemmas.List.Sums.{sum_by-cons}
use Rattle.scm_types.specs.Limits.{has_short_texts, is_short_option, section_size}
use Rattle.scm_document.specs.declared.section_view.SectionView.{SectionView}
use Rattle.scm_document.specs.declared.file_view.FileView.{FileView}
use Rattle.scm_document.specs.declared.commit_view.CommitView.{CommitView}
use Rattle.scm_view.specs.ComponentRanges.{IsShortSection, IsShortFile, AreShortFiles, IsShortCommit, AreShortCommits}
use Rattle.scm_screen_tests.specs.Small.{IsSmallSection, AreSmallSections, IsSmallFile, AreSmallFiles, IsSmallCommit, AreSmallCommits}

-- ---- lists that are gone through

pub sections-more : (vs : List SectionView) (i : ℕ) (d : SectionView) → i < length vs → IsSmallSection (get_or vs i d) → AreSmallSections (drop (i + 1) vs) → AreSmallSections (drop i vs)
sections-more vs i d h k l = rw (drop-cons vs i d h) (k, rw add-one at l)

pub sections-end : (vs : List SectionView) (i : ℕ) → length vs ≤ i → AreSmallSections (drop i vs)
sections-end vs i h = rw (drop_all i vs h) tt

pub files-more : (vs : List FileView) (i : ℕ) (d : FileView) → i < length vs → IsSmallFile (get_or vs i d) → AreSmallFiles (drop (i + 1) vs) → AreSmallFiles (drop i vs)
files-more vs i d h k l = rw (drop-cons vs i d h) (k, rw add-one at l)

pub files-end : (vs : List FileView) (i : ℕ) → length vs ≤ i → AreSmallFiles (drop i vs)
files-end vs i h = rw (drop_all i vs h) tt

pub commits-more : (vs : List CommitView) (i : ℕ) (d : CommitView) → i < length vs → IsSmallCommit (get_or vs i d) → AreSmallCommits (drop (i + 1) vs) → AreSmallCommits (drop i vs)
commits-more vs i d h k l = rw (drop-cons vs i d h) (k, rw add-one at l)

pub commits-end : (vs : List CommitView) (i : ℕ) → length vs ≤ i → AreSmallCommits (drop i vs)
commits-end vs i h = rw (drop_all i vs h) tt

-- ---- small views are short

pub short-section : (v : SectionView) → IsSmallSection v → IsShortSection v
short-section v h = record { texts = h.texts; lines = omega (arith, h.lines) }

abbrev texts_of : SectionView → Bool
texts_of w = has_short_texts w.section.now

abbrev size_of : SectionView → ℕ
size_of w = section_size w.section.now

texts-short : (vs : List SectionView) → AreSmallSections vs → list_all texts_of vs ≡ true
texts-short [] h = refl
texts-short (v ∷ vs) h = rw (h.0.texts, texts-short vs h.1) refl

lines-few : (vs : List SectionView) → AreSmallSections vs → sum_by size_of vs ≤ 1000 * length vs
lines-few [] h = omega arith
lines-few (v ∷ vs) h = omega (arith, sum_by-cons size_of v vs, h.0.lines, lines-few vs h.1)

short-file : (v : FileView) → IsSmallFile v → IsShortFile v
short-file v h = record { old_path = h.old_path; path = h.path; texts = texts-short v.section_views h.sections; lines = omega (arith, lines-few v.section_views h.sections, h.count) }

short-files : (vs : List FileView) → AreSmallFiles vs → AreShortFiles vs
short-files [] h = tt
short-files (v ∷ vs) h = (short-file v h.0, short-files vs h.1)

pub short-commit : (v : CommitView) → IsSmallCommit v → IsShortCommit v
short-commit v h = record { message = rw h.message refl; files = short-files v.file_views h.files; count = omega (arith, h.count) }

pub short-commits : (vs : List CommitView) → AreSmallCommits vs → AreShortCommits vs
short-commits [] h = tt
short-commits (v ∷ vs) h = (short-commit v h.0, short-commits vs h.1)
