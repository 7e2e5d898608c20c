-- The forms of a state that are read from tokens, member by member.
use Rattle.std.proofs.Common.{◌≡◌, ℕ, suc, ◌≤◌, List, ◌∷◌, Bool, true, false, Option, Some, None, option_map, option_and_then, refl, sym, ap, ◌∙◌, subst, arith}
use Rattle.std.specs.Prelude.{IfSome, codes, if◌then◌else◌}
use Rattle.std.specs.Option.{option_or}
use Rattle.std.specs.Str.{bytes_eq}
use Rattle.std.proofs.lemmas.Slice.Eq.{bytes_eq-Decides}
use Rattle.json.specs.Token.{Token, begin_object}
use Rattle.json.specs.Token as token
use Rattle.json.specs.Json.{read_key}
use Rattle.serde_json.specs.Data.{Data, string, object, no_members, member, put}
use Rattle.serde_json.specs.Find.{as_bool, as_str}
use Rattle.scm_types.specs.declared.file_mode.FileMode.{FileMode}
use Rattle.scm_types.specs.declared.file_mode.FileMode.TheVariants.{Unix}
use Rattle.scm_types.specs.declared.line.ChangeType.{ChangeType}
use Rattle.scm_types.specs.declared.line.SectionChangedLine.{SectionChangedLine}
use Rattle.scm_types.specs.declared.section.Section.{Section}
use Rattle.scm_types.specs.declared.section.Section.TheVariants as section
use Rattle.scm_types.specs.declared.file.File.{File}
use Rattle.scm_types.specs.declared.state.Commit.{Commit}
use Rattle.scm_json.specs.Form.{absent_of, binary_of, bits_of, change_type_of, changed_of, commit_of, fields_of, file_mode_of, file_of, line_of, list_of, mode_of, optional, section_of, state_of, unchanged_of}
use Rattle.scm_json.specs.Tokens.{IsRead, IsReadMember}
use Rattle.scm_json.proofs.TokenLemmas.{IfRead-form, name-read, object-read, part-more, part-none}

-- ---- one member, and the end

one : {A B : Type 0} (form : Data → Option B) (part : Data → Option A) (low height : ℕ) (name : List ℕ) (t0 : List Token) (a : A) (t1 : List Token) (x : B) (r : List Token)
    → low ≤ height → (m : IsReadMember part low name t0 a t1) → read_key t1 ≡ Some (None, r) → form (object (put name m.is_read.datum no_members)) ≡ Some x → IsRead form (suc height) (begin_object ∷ t0) x r
one form part low height name t0 a t1 x r le m e f = object-read form height _ t0 t1 x r (part-more part low height _ t0 name t0 a t1 le (part-none height t0) m) e f

pub line-read : (t0 t1 t2 t3 r : List Token) (c : Bool) (k : ChangeType) (l : List ℕ)
    → IsReadMember as_bool 0 (codes "is_checked") t0 c t1 → IsReadMember change_type_of 0 (codes "change_type") t1 k t2 → IsReadMember as_str 0 (codes "line") t2 l t3 → read_key t3 ≡ Some (None, r)
    → IsRead line_of 1 (begin_object ∷ t0) (record { is_checked = c; change_type = k; line = l }) r
line-read t0 t1 t2 t3 r c k l x y z e =
    object-read line_of 0 _ t0 t3 _ r
    (part-more as_str 0 0 _ t0 (codes "line") t2 l t3 (omega arith) (part-more change_type_of 0 0 _ t0 (codes "change_type") t1 k t2 (omega arith) (part-more as_bool 0 0 _ t0 (codes "is_checked") t0 c t1 (omega arith) (part-none 0 t0) x) y) z)
    e (rw (x.is_read.is_form, y.is_read.is_form, z.is_read.is_form) refl)

pub unix-read : (t0 t1 r : List Token) (n : ℕ) → IsReadMember bits_of 0 (codes "Unix") t0 n t1 → read_key t1 ≡ Some (None, r) → IsRead mode_of 1 (begin_object ∷ t0) (Unix n) r
unix-read t0 t1 r n x e = one mode_of bits_of 0 0 (codes "Unix") t0 n t1 (Unix n) r (omega arith) x e (rw x.is_read.is_form refl)

pub commit-read : (t0 t1 r : List Token) (m : Option (List ℕ)) → IsReadMember (optional as_str) 0 (codes "message") t0 m t1 → read_key t1 ≡ Some (None, r) → IsRead commit_of 1 (begin_object ∷ t0) (record { message = m }) r
commit-read t0 t1 r m x e = one commit_of (optional as_str) 0 0 (codes "message") t0 m t1 _ r (omega arith) x e (rw x.is_read.is_form refl)

pub unchanged-read : (t0 t1 r : List Token) (ls : List (List ℕ)) → IsReadMember (list_of as_str) 1 (codes "lines") t0 ls t1 → read_key t1 ≡ Some (None, r) → IsRead unchanged_of 3 (begin_object ∷ t0) (section.Unchanged ls) r
unchanged-read t0 t1 r ls x e = one unchanged_of (list_of as_str) 1 2 (codes "lines") t0 ls t1 _ r (omega arith) x e (ap (option_map section.Unchanged) x.is_read.is_form)

pub changed-read : (t0 t1 r : List Token) (ls : List SectionChangedLine) → IsReadMember (list_of line_of) 2 (codes "lines") t0 ls t1 → read_key t1 ≡ Some (None, r) → IsRead changed_of 3 (begin_object ∷ t0) (section.Changed ls) r
changed-read t0 t1 r ls x e = one changed_of (list_of line_of) 2 2 (codes "lines") t0 ls t1 _ r (omega arith) x e (ap (option_map section.Changed) x.is_read.is_form)

pub file_mode-read : (t0 t1 t2 r : List Token) (c : Bool) (m : FileMode) → IsReadMember as_bool 0 (codes "is_checked") t0 c t1 → IsReadMember mode_of 1 (codes "mode") t1 m t2 → read_key t2 ≡ Some (None, r)
    → IsRead file_mode_of 3 (begin_object ∷ t0) (section.FileMode c m) r
file_mode-read t0 t1 t2 r c m x y e =
    object-read file_mode_of 2 _ t0 t2 _ r (part-more mode_of 1 2 _ t0 (codes "mode") t1 m t2 (omega arith) (part-more as_bool 0 2 _ t0 (codes "is_checked") t0 c t1 (omega arith) (part-none 2 t0) x) y) e
    (ap (option_and_then (λ c. option_map (λ m. section.FileMode c m) (mode_of y.is_read.datum))) x.is_read.is_form ∙ ap (option_map (λ m. section.FileMode c m)) y.is_read.is_form)

pub binary-read : (t0 t1 t2 t3 r : List Token) (c : Bool) (old new : Option (List ℕ))
    → IsReadMember as_bool 0 (codes "is_checked") t0 c t1 → IsReadMember (optional as_str) 0 (codes "old_description") t1 old t2 → IsReadMember (optional as_str) 0 (codes "new_description") t2 new t3 → read_key t3 ≡ Some (None, r)
    → IsRead binary_of 3 (begin_object ∷ t0) (section.Binary c old new) r
binary-read t0 t1 t2 t3 r c old new x y z e =
    object-read binary_of 2 _ t0 t3 _ r
    (part-more (optional as_str) 0 2 _ t0 (codes "new_description") t2 new t3 (omega arith) (part-more (optional as_str) 0 2 _ t0 (codes "old_description") t1 old t2 (omega arith) (part-more as_bool 0 2 _ t0 (codes "is_checked") t0 c t1 (omega arith) (part-none 2 t0) x) y) z)
    e (rw (x.is_read.is_form, y.is_read.is_form, z.is_read.is_form) refl)

-- ---- the mode that is not there

absent-or : (o : Option FileMode) → option_or o None ≡ o
absent-or None = refl
absent-or (Some m) = refl

pub absent-read : (s : List ℕ) (o : Option FileMode) (new : List Token) → o ≡ absent_of (string s) → IfSome o (λ m. IsRead mode_of 1 (token.string s ∷ new) m new)
absent-read s o new e =
    IfRead-form mode_of mode_of 0 1 (token.string s ∷ new) o new (omega arith) (λ d. refl) (name-read mode_of s o new (e ∙ sym (absent-or (absent_of (string s)))))

-- ---- sections, by the name of their kind

eq-is : (s t : List ℕ) → bytes_eq s t ≡ true → s ≡ t
eq-is s t e = (bytes_eq-Decides s t).0 e

fields-section : (kind : List ℕ) (d : Data) (x : Section) → fields_of kind d ≡ Some x → section_of (object (member kind d no_members)) ≡ Some x
fields-section kind d x e = by_unchanged (bytes_eq kind (codes "Unchanged")) refl e
  where
    by_binary : (b : Bool) → bytes_eq kind (codes "Binary") ≡ b → (if b then binary_of d else None) ≡ Some x → section_of (object (member kind d no_members)) ≡ Some x
    by_binary true t f = subst (λ k. section_of (object (member k d no_members)) ≡ Some x) (sym (eq-is kind (codes "Binary") t)) f
    by_binary false t f = absurd (cc f)

    by_mode : (b : Bool) → bytes_eq kind (codes "FileMode") ≡ b → (if b then file_mode_of d else (if bytes_eq kind (codes "Binary") then binary_of d else None)) ≡ Some x → section_of (object (member kind d no_members)) ≡ Some x
    by_mode true t f = subst (λ k. section_of (object (member k d no_members)) ≡ Some x) (sym (eq-is kind (codes "FileMode") t)) f
    by_mode false t f = by_binary (bytes_eq kind (codes "Binary")) refl f

    by_changed : (b : Bool) → bytes_eq kind (codes "Changed") ≡ b → (if b then changed_of d else (if bytes_eq kind (codes "FileMode") then file_mode_of d else (if bytes_eq kind (codes "Binary") then binary_of d else None))) ≡ Some x
        → section_of (object (member kind d no_members)) ≡ Some x
    by_changed true t f = subst (λ k. section_of (object (member k d no_members)) ≡ Some x) (sym (eq-is kind (codes "Changed") t)) f
    by_changed false t f = by_mode (bytes_eq kind (codes "FileMode")) refl f

    by_unchanged : (b : Bool) → bytes_eq kind (codes "Unchanged") ≡ b
        → (if b then unchanged_of d else (if bytes_eq kind (codes "Changed") then changed_of d else (if bytes_eq kind (codes "FileMode") then file_mode_of d else (if bytes_eq kind (codes "Binary") then binary_of d else None)))) ≡ Some x
        → section_of (object (member kind d no_members)) ≡ Some x
    by_unchanged true t f = subst (λ k. section_of (object (member k d no_members)) ≡ Some x) (sym (eq-is kind (codes "Unchanged") t)) f
    by_unchanged false t f = by_changed (bytes_eq kind (codes "Changed")) refl f

pub section-read : (t0 t1 t2 r : List Token) (kind : List ℕ) (x : Section) → read_key t0 ≡ Some (Some kind, t1) → IsRead (fields_of kind) 3 t1 x t2 → read_key t2 ≡ Some (None, r) → IsRead section_of 4 (begin_object ∷ t0) x r
section-read t0 t1 t2 r kind x k f e =
    one section_of (fields_of kind) 3 3 kind t0 x t2 x r (omega arith) (record { rest = t1; key = k; is_read = f }) e (fields-section kind f.datum x f.is_form)

-- ---- files and states

pub file-read : (t0 t1 t2 t3 t4 r : List Token) (old : Option (List ℕ)) (path : List ℕ) (mode : FileMode) (sections : List Section)
    → IsReadMember (optional as_str) 0 (codes "old_path") t0 old t1 → IsReadMember as_str 0 (codes "path") t1 path t2 → IsReadMember mode_of 1 (codes "file_mode") t2 mode t3
    → IsReadMember (list_of section_of) 5 (codes "sections") t3 sections t4 → read_key t4 ≡ Some (None, r)
    → IsRead file_of 6 (begin_object ∷ t0) (record { old_path = old; path = path; file_mode = mode; sections = sections }) r
file-read t0 t1 t2 t3 t4 r old path mode sections a b c d e =
    object-read file_of 5 _ t0 t4 _ r
    (part-more (list_of section_of) 5 5 _ t0 (codes "sections") t3 sections t4 (omega arith)
    (part-more mode_of 1 5 _ t0 (codes "file_mode") t2 mode t3 (omega arith)
    (part-more as_str 0 5 _ t0 (codes "path") t1 path t2 (omega arith)
    (part-more (optional as_str) 0 5 _ t0 (codes "old_path") t0 old t1 (omega arith) (part-none 5 t0) a) b) c) d)
    e (file-form a.is_read.datum b.is_read.datum c.is_read.datum d.is_read.datum a.is_read.is_form b.is_read.is_form c.is_read.is_form d.is_read.is_form)
  where
    file-form : (da db dc dd : Data) → optional as_str da ≡ Some old → as_str db ≡ Some path → mode_of dc ≡ Some mode → list_of section_of dd ≡ Some sections
        → file_of (object (put (codes "sections") dd (put (codes "file_mode") dc (put (codes "path") db (put (codes "old_path") da no_members))))) ≡ Some (record { old_path = old; path = path; file_mode = mode; sections = sections })
    file-form da db dc dd p q s u =
        ap (option_and_then (λ o. option_and_then (λ path. option_and_then (λ mode. option_map (λ sections. record { old_path = o; path = path; file_mode = mode; sections = sections }) (list_of section_of dd)) (mode_of dc)) (as_str db))) p
        ∙ ap (option_and_then (λ path. option_and_then (λ mode. option_map (λ sections. record { old_path = old; path = path; file_mode = mode; sections = sections }) (list_of section_of dd)) (mode_of dc))) q
        ∙ ap (option_and_then (λ mode. option_map (λ sections. record { old_path = old; path = path; file_mode = mode; sections = sections }) (list_of section_of dd))) s
        ∙ ap (option_map (λ sections. record { old_path = old; path = path; file_mode = mode; sections = sections })) u

pub state-read : (t0 t1 t2 t3 r : List Token) (b : Bool) (commits : List Commit) (files : List File)
    → IsReadMember as_bool 0 (codes "is_read_only") t0 b t1 → IsReadMember (list_of commit_of) 2 (codes "commits") t1 commits t2 → IsReadMember (list_of file_of) 7 (codes "files") t2 files t3 → read_key t3 ≡ Some (None, r)
    → IsRead state_of 8 (begin_object ∷ t0) (record { is_read_only = b; commits = commits; files = files }) r
state-read t0 t1 t2 t3 r b commits files x y z e =
    object-read state_of 7 _ t0 t3 _ r
    (part-more (list_of file_of) 7 7 _ t0 (codes "files") t2 files t3 (omega arith)
    (part-more (list_of commit_of) 2 7 _ t0 (codes "commits") t1 commits t2 (omega arith)
    (part-more as_bool 0 7 _ t0 (codes "is_read_only") t0 b t1 (omega arith) (part-none 7 t0) x) y) z)
    e (state-form x.is_read.datum y.is_read.datum z.is_read.datum x.is_read.is_form y.is_read.is_form z.is_read.is_form)
  where
    state-form : (dx dy dz : Data) → as_bool dx ≡ Some b → list_of commit_of dy ≡ Some commits → list_of file_of dz ≡ Some files
        → state_of (object (put (codes "files") dz (put (codes "commits") dy (put (codes "is_read_only") dx no_members)))) ≡ Some (record { is_read_only = b; commits = commits; files = files })
    state-form dx dy dz p q s =
        ap (option_and_then (λ r. option_and_then (λ cs. option_map (λ fs. record { is_read_only = r; commits = cs; files = fs }) (list_of file_of dz)) (list_of commit_of dy))) p
        ∙ ap (option_and_then (λ cs. option_map (λ fs. record { is_read_only = b; commits = cs; files = fs }) (list_of file_of dz))) q
        ∙ ap (option_map (λ fs. record { is_read_only = b; commits = commits; files = fs })) s
