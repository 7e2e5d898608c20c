-- Views of few and short texts, as the tests draw them.
use Rattle.std.specs.Prelude.{◌≡◌, ◌≤◌, true, List, [], ◌∷◌, length, None}
use Rattle.scm_types.specs.Limits.{has_short_texts, is_short_option, is_short_text, section_size}
use Rattle.scm_document.specs.declared.section_view.SectionView.{SectionView}
use Rattle.scm_document.specs.declared.file_view.FileView.{FileView}
use Rattle.scm_document.specs.declared.commit_view.CommitView.{CommitView}
use Rattle.scm_document.specs.Rows.{lent_text}

pub record IsSmallSection (v : SectionView) : Type 0 where
  pub texts : has_short_texts v.section.now ≡ true
  pub lines : section_size v.section.now ≤ 1000

abbrev pub AreSmallSections : List SectionView → Type 0
AreSmallSections [] = Unit {0}
AreSmallSections (v ∷ vs) = IsSmallSection v × AreSmallSections vs

pub record IsSmallFile (v : FileView) : Type 0 where
  pub old_path : is_short_option (lent_text v.old_path) ≡ true
  pub path : is_short_text v.path.now ≡ true
  pub sections : AreSmallSections v.section_views
  pub count : length v.section_views ≤ 1000

abbrev pub AreSmallFiles : List FileView → Type 0
AreSmallFiles [] = Unit {0}
AreSmallFiles (v ∷ vs) = IsSmallFile v × AreSmallFiles vs

-- a commit without a message
pub record IsSmallCommit (v : CommitView) : Type 0 where
  pub message : v.commit_message_view.commit.now.message ≡ None
  pub files : AreSmallFiles v.file_views
  pub count : length v.file_views ≤ 1000

abbrev pub AreSmallCommits : List CommitView → Type 0
AreSmallCommits [] = Unit {0}
AreSmallCommits (v ∷ vs) = IsSmallCommit v × AreSmallCommits vs
