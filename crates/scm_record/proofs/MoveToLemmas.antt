-- Moves of the selection lead to each key of the files, with what it lies in unfolded.
use Rattle.std.proofs.Common.{◌≡◌, ℕ, zero, suc, Bool, true, false, cond, List, [], ◌∷◌, ◌++◌, refl, sym, ap, ◌∙◌, subst, Option, Some, None}
use Rattle.std.specs.Prelude.{filter, reverse, is_some}
use Rattle.scm_types.specs.declared.file.File.{File}
use Rattle.scm_types.specs.declared.keys.SectionKey.{SectionKey}
use Rattle.scm_types.specs.declared.keys.SelectionKey.{SelectionKey}
use Rattle.scm_types.specs.declared.keys.SelectionKey.TheVariants as keys
use Rattle.scm_types.specs.Keys.{file_of_section, file_of_line, section_of_line}
use Rattle.scm_input.specs.declared.events.Event.{Event}
use Rattle.scm_input.specs.declared.events.Event.TheVariants as events
use Rattle.scm_selection.specs.KeySet.{is_key, has_key, with_key, with_key_flipped, without_key}
use Rattle.scm_selection.specs.KeyLists.{file_key, files_keys, sections_keys, is_visible, first_key}
use Rattle.scm_selection.specs.Moves.{next_key, previous_key}
use Rattle.scm_selection.specs.KeysAround.{is_key_of, keys_before, keys_after}
use Rattle.scm_selection.proofs.PartLemmas.{parted}
use Rattle.scm_selection.proofs.RelationLemmas.{previous_part, previous-is, and-left, and-right}
use Rattle.scm_selection.proofs.WalkLemmas.{Once, once-kept, once-turned, previous-turned}
use Rattle.scm_record.specs.Session.{Session, with_ensure, at_key, with_keys_above, with_fold_flipped}
use Rattle.scm_record.specs.Frames.{Scene}
use Rattle.scm_record.specs.Change.{stays}
use Rattle.scm_record.specs.Step.{change}
use Rattle.scm_selection.proofs.KeyOrderLemmas.{Ascends, with-same, with-has, with-ascends, with-keeps}
use Rattle.scm_record.proofs.WalkToLemmas.{step-next, kept-at, AllPass, filter-pass, Walks, arrived, walks, walk-down, walk-up}
use Rattle.scm_record.proofs.InsideLemmas.{file-of-section, section-of-line}

-- events that lead from session to session, whatever was drawn, while the run goes on
pub data Steps : Session → List Event → Session → Type 0 where
  stay : {s : Session} → Steps s [] s
  step : {s t u : Session} {event : Event} {rest : List Event} → ((scene : Scene) → change scene s event ≡ stays t) → Steps t rest u → Steps s (event ∷ rest) u

pub steps-after : {s t u : Session} {xs ys : List Event} → Steps s xs t → Steps t ys u → Steps s (xs ++ ys) u
steps-after stay q = q
steps-after (step e p) q = step e (steps-after p q)

-- the list with `n` events `EnsureSelectionInViewport` more
abbrev pub ensures : ℕ → List Event → List Event
ensures zero list = list
ensures (suc n) list = ensures n list ++ events.EnsureSelectionInViewport ∷ []

-- the session with `key` selected and other keys expanded, after `n` moves
abbrev pub moved : Session → SelectionKey → List SelectionKey → ℕ → Session
moved s key expanded n = record s { shown = record s.shown { selection = key; expanded = expanded }; pending = ensures n s.pending }

-- a move at least leads from `a` to `b`
pub record Arrives (s : Session) (a : SelectionKey) (e : List SelectionKey) (n : ℕ) (b : SelectionKey) (f : List SelectionKey) : Type 0 where
  pub list : List Event
  pub count : ℕ
  pub steps : Steps (moved s a e n) list (moved s b f (suc count))

pub arrives-after : (s : Session) (a b c : SelectionKey) (e f g : List SelectionKey) (n : ℕ) → Arrives s a e n b f → ((m : ℕ) → Arrives s b f (suc m) c g) → Arrives s a e n c g
arrives-after s a b c e f g n p q =
    let r = q p.count in
    record { list = p.list ++ r.list; count = r.count; steps = steps-after p.steps r.steps }

-- what a visible key lies in is expanded
pub kept-above : (e : List SelectionKey) (key : SelectionKey) → Ascends e → is_visible (has_key e) key ≡ true → with_keys_above e key ≡ e
kept-above e keys.None asc h = refl
kept-above e (keys.File k) asc h = refl
kept-above e (keys.Section k) asc h = with-same e (keys.File (file_of_section k)) asc h
kept-above e (keys.Line k) asc h =
    let file = with-same e (keys.File (file_of_line k)) asc (and-left (has_key e (keys.File (file_of_line k))) (has_key e (keys.Section (section_of_line k))) h) in
    let section = with-same e (keys.Section (section_of_line k)) asc (and-right (has_key e (keys.File (file_of_line k))) (has_key e (keys.Section (section_of_line k))) h) in
    rw file section

-- one move to a visible key
moved-to : (s : Session) (a b : SelectionKey) (e : List SelectionKey) (n : ℕ) → Ascends e → is_visible (has_key e) b ≡ true → with_ensure (at_key (moved s a e n) b) ≡ moved s b e (suc n)
moved-to s a b e n asc h = ap (λ (f : List SelectionKey). moved s b f (suc n)) (kept-above e b asc h)

module _ (s : Session) (closed : is_some s.shown.quit_dialog ≡ false) (e : List SelectionKey) (asc : Ascends e) where
  abbrev Shown : SelectionKey → Bool
  Shown = is_visible (has_key e)

  abbrev list : List SelectionKey
  list = filter Shown (files_keys 0 s.shown.state.files)

  once : Once list
  once = once-kept Shown s.shown.state.files

  -- down
  goes-next : (a b : SelectionKey) (n : ℕ) → ((o : SelectionKey) → next_key list a o ≡ b) → Shown b ≡ true → (scene : Scene) → change scene (moved s a e n) events.FocusNext ≡ stays (moved s b e (suc n))
  goes-next a b n is h scene =
      rw closed (ap (λ (k : SelectionKey). stays (with_ensure (at_key (moved s a e n) k))) (is (first_key s.shown.state.files)) ∙ ap stays (moved-to s a b e n asc h))

  -- up
  goes-previous : (a b : SelectionKey) (n : ℕ) → previous_key list a (first_key s.shown.state.files) ≡ b → Shown b ≡ true → (scene : Scene) → change scene (moved s a e n) events.FocusPrev ≡ stays (moved s b e (suc n))
  goes-previous a b n is h scene =
      rw closed (ap (λ (k : SelectionKey). stays (with_ensure (at_key (moved s a e n) k))) is ∙ ap stays (moved-to s a b e n asc h))

  -- some moves up
  pub start-up : {a b : SelectionKey} (n : ℕ) → Walks Shown (reverse list) a b → (stays_at : previous_key list b (first_key s.shown.state.files) ≡ b) → Shown b ≡ true → Arrives s a e n b e
  start-up {b = b} n arrived is h = record { list = events.FocusPrev ∷ []; count = n; steps = step (goes-previous b b n is h) stay }
  start-up n (walks {a = a} {b = b} {rest = rest} is h w) stays_at g =
      let o = first_key s.shown.state.files in
      let goes : previous_key list a o ≡ b = previous-turned list once a o ∙ step-next (reverse list) (once-turned list once) a b rest is o in
      let more = start-up (suc n) w stays_at g in
      record { list = events.FocusPrev ∷ more.list; count = more.count; steps = step (goes-previous a b n goes h) more.steps }

  -- any number of moves
  record Comes (a : SelectionKey) (n : ℕ) (b : SelectionKey) : Type 0 where
    pub list_of : List Event
    pub count_of : ℕ
    pub steps_of : Steps (moved s a e (suc n)) list_of (moved s b e (suc count_of))

  comes-down : {a b : SelectionKey} (n : ℕ) → Walks Shown list a b → Comes a n b
  comes-down n arrived = record { list_of = []; count_of = n; steps_of = stay }
  comes-down n (walks {a = a} {b = b} {rest = rest} is h w) =
      let more = comes-down (suc n) w in
      record { list_of = events.FocusNext ∷ more.list_of; count_of = more.count_of; steps_of = step (goes-next a b (suc n) (step-next list once a b rest is) h) more.steps_of }

first-is : (files : List File) (f : File) (fs : List File) → files ≡ f ∷ fs → first_key files ≡ file_key 0
first-is files f fs e = ap first_key e

-- the visible keys begin with the first file
abbrev others : (SelectionKey → Bool) → File → List File → List SelectionKey
others test f fs = filter test (sections_keys 0 0 f.sections ++ files_keys 1 fs)

begins-with : (e : List SelectionKey) (files : List File) (f : File) (fs : List File) → files ≡ f ∷ fs → filter (is_visible (has_key e)) (files_keys 0 files) ≡ file_key 0 ∷ others (is_visible (has_key e)) f fs
begins-with e files f fs is = ap (λ (l : List File). filter (is_visible (has_key e)) (files_keys 0 l)) is

-- the first key stays
stays-first : (first : SelectionKey) (rest : List SelectionKey) (o : SelectionKey) → is_key first first ≡ true → previous_key (first ∷ rest) first o ≡ first
stays-first first rest o self = previous-is (first ∷ rest) first o ∙ rw self refl

module _ (s : Session) (closed : is_some s.shown.quit_dialog ≡ false) (f : File) (fs : List File) (files : s.shown.state.files ≡ f ∷ fs) (e : List SelectionKey) (asc : Ascends e) where
  abbrev Seen : SelectionKey → Bool
  Seen = is_visible (has_key e)

  abbrev seen : List SelectionKey
  seen = filter Seen (files_keys 0 s.shown.state.files)

  abbrev rest : List SelectionKey
  rest = others Seen f fs

  whole : seen ≡ file_key 0 ∷ rest
  whole = begins-with e s.shown.state.files f fs files

  once-whole : Once (file_key 0 ∷ rest)
  once-whole = subst Once whole (once-kept Seen s.shown.state.files)

  pass-whole : AllPass Seen (file_key 0 ∷ rest)
  pass-whole = subst (AllPass Seen) whole (filter-pass Seen (files_keys 0 s.shown.state.files))

  abbrev o : SelectionKey
  o = first_key s.shown.state.files

  -- a move to a visible key, and then any number of them
  comes-after : (a b c : SelectionKey) (n : ℕ) → (first : Arrives s a e n b e) → Comes s closed e asc b first.count c → Arrives s a e n c e
  comes-after a b c n first way = record { list = first.list ++ way.list_of; count = way.count_of; steps = steps-after first.steps way.steps_of }

  -- from anywhere to the first file
  to-first : (a : SelectionKey) (n : ℕ) (r : Option (List SelectionKey × List SelectionKey)) → parted (is_key a) seen ≡ r → Arrives s a e n (file_key 0) e
  to-first a n None away =
      let goes : previous_key seen a o ≡ file_key 0 = previous-is seen a o ∙ ap (previous_part a o) away ∙ first-is s.shown.state.files f fs files in
      record { list = events.FocusPrev ∷ []; count = n; steps = step (goes-previous s closed e asc a (file_key 0) n goes refl) stay }
  to-first a n (Some p) there =
      let found : parted (is_key a) (file_key 0 ∷ rest) ≡ Some (p.0, p.1) = subst (λ (l : List SelectionKey). parted (is_key a) l ≡ Some p) whole there in
      let up = walk-up Seen (file_key 0) rest once-whole pass-whole a p.0 p.1 found in
      let stays_there : previous_key seen (file_key 0) o ≡ file_key 0 = ap (λ (l : List SelectionKey). previous_key l (file_key 0) o) whole ∙ stays-first (file_key 0) rest o refl in
      start-up s closed e asc n (subst (λ (l : List SelectionKey). Walks Seen (reverse l) a (file_key 0)) (sym whole) up) stays_there refl

  -- and from there to a visible key
  pub go-to : (a b : SelectionKey) (n : ℕ) → is_key_of s.shown.state.files b ≡ true → Seen b ≡ true → Arrives s a e n b e
  go-to a b n is h =
      let first = to-first a n (parted (is_key a) seen) refl in
      let found = subst (λ (l : List SelectionKey). parted (is_key b) l ≡ Some (filter Seen (keys_before s.shown.state.files b), filter Seen (keys_after s.shown.state.files b))) whole (kept-at Seen s.shown.state.files b is h) in
      let down = walk-down Seen (file_key 0) rest once-whole pass-whole b (filter Seen (keys_before s.shown.state.files b)) (filter Seen (keys_after s.shown.state.files b)) found in
      comes-after a (file_key 0) b n first (comes-down s closed e asc first.count (subst (λ (l : List SelectionKey). Walks Seen l (file_key 0) b) (sym whole) down))

-- ---- folds

-- `ExpandItem` unfolds what is folded
unfolds : (s : Session) (k : SelectionKey) (e : List SelectionKey) (n : ℕ) → is_some s.shown.quit_dialog ≡ false → Ascends e
    → with_fold_flipped e k ≡ with_key_flipped e k → (b : Bool) → has_key e k ≡ b → Arrives s k e (suc n) k (with_key e k)
unfolds s k e n closed asc can true has = record {
  list = [];
  count = n;
  steps = subst (λ (l : List SelectionKey). Steps (moved s k e (suc n)) [] (moved s k l (suc n))) (sym (with-same e k asc has)) stay;
}
unfolds s k e n closed asc can false has =
    let added : with_fold_flipped e k ≡ with_key e k = can ∙ ap (λ (b : Bool). cond b (without_key e k) (with_key e k)) has in
    record {
      list = events.ExpandItem ∷ [];
      count = suc n;
      steps = step (λ scene. rw closed (ap (λ (l : List SelectionKey). stays (moved s k l (suc (suc n)))) added)) stay;
    }

module _ (s : Session) (closed : is_some s.shown.quit_dialog ≡ false) (f : File) (fs : List File) (files : s.shown.state.files ≡ f ∷ fs) (e : List SelectionKey) (asc : Ascends e) where
  to-section : (a : SelectionKey) (k : SectionKey) (n : ℕ) → is_key_of s.shown.state.files (keys.Section k) ≡ true → Arrives s a e n (keys.Section k) (with_keys_above e (keys.Section k))
  to-section a k n h =
      let file = keys.File (file_of_section k) in
      let e1 = with_key e file in
      let asc1 = with-ascends e file asc in
      arrives-after s a file (keys.Section k) e e e1 n
      (go-to s closed f fs files e asc a file n (file-of-section s.shown.state.files k h) refl)
      (λ m. arrives-after s file file (keys.Section k) e e1 e1 (suc m)
      (unfolds s file e m closed asc refl (has_key e file) refl)
      (λ j. go-to s closed f fs files e1 asc1 file (keys.Section k) (suc j) h (with-has e file)))

  -- moves lead to each key, with what it lies in unfolded
  pub jump : (a b : SelectionKey) (n : ℕ) → is_key_of s.shown.state.files b ≡ true → Arrives s a e n b (with_keys_above e b)
  jump a keys.None n h = cc
  jump a (keys.File k) n h = go-to s closed f fs files e asc a (keys.File k) n h refl
  jump a (keys.Section k) n h = to-section a k n h
  jump a (keys.Line k) n h =
      let file = keys.File (file_of_line k) in
      let section = keys.Section (section_of_line k) in
      let is_section = section-of-line s.shown.state.files k h in
      let e1 = with_key e file in
      let e2 = with_key e1 section in
      let asc1 = with-ascends e file asc in
      let asc2 = with-ascends e1 section asc1 in
      let open_file : has_key e2 file ≡ true = with-keeps e1 section file (with-has e file) in
      let open_section : has_key e2 section ≡ true = with-has e1 section in
      arrives-after s a section (keys.Line k) e e1 e2 n
      (to-section a (section_of_line k) n is_section)
      (λ m. arrives-after s section section (keys.Line k) e1 e2 e2 (suc m)
      (unfolds s section e1 m closed asc1 refl (has_key e1 section) refl)
      (λ j. go-to s closed f fs files e2 asc2 section (keys.Line k) (suc j) h (rw (open_file, open_section) refl)))
