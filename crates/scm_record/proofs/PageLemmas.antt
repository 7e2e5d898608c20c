-- Walks over the visible keys, either way.
use Rattle.std.proofs.Common.{◌≡◌, ℕ, ◌<◌, ◌∙◌, ap, sym, refl, Bool, true, false, cond, List, [], ◌∷◌, length, arith, Option, Some, None}
use Rattle.std.specs.Prelude.{is_some, position}
use Rattle.scm_types.specs.declared.keys.SelectionKey.{SelectionKey}
use Rattle.scm_types.specs.declared.keys.SelectionKey.TheVariants as keys
use Rattle.scm_selection.specs.KeySet.{is_key}
use Rattle.scm_selection.specs.Moves.{keys_behind}
use Rattle.scm_selection.proofs.MoveLemmas.{after_found}
use Rattle.scm_selection.proofs.WalkLemmas.{Once, once-turned, among-turned}
use Rattle.scm_record.specs.declared.pages.Way.{Way}
use Rattle.scm_record.specs.declared.pages.Way.TheVariants.{Up, Down}
use Rattle.scm_record.specs.Frames.{Scene}
use Rattle.scm_record.specs.FrameQueries.{top_in}
use Rattle.scm_record.specs.Pages.{towards, walk_end, is_page_away, page_from, page_key}

-- no key comes twice either way
pub once-towards : (way : Way) (ks : List SelectionKey) → Once ks → Once (towards way ks)
once-towards Up ks once = once-turned ks once
once-towards Down ks once = once

-- a key comes in that direction if it is in the list
pub among-towards : (way : Way) (ks : List SelectionKey) → Once ks → (key : SelectionKey) → is_some (position (is_key key) (towards way ks)) ≡ is_some (position (is_key key) ks)
among-towards Up ks once key = among-turned ks once key
among-towards Down ks once key = refl

module _ (is_enough : SelectionKey → Bool) (key : SelectionKey) where
  -- a walk over no keys stays
  pub walked-end : (ks : List SelectionKey) → ks ≡ [] → walk_end is_enough key ks ≡ key
  walked-end ks e = ap (walk_end is_enough key) e

  -- it stops at a key that is far enough
  pub walked-here : (ks rest : List SelectionKey) (next : SelectionKey) → ks ≡ next ∷ rest → is_enough next ≡ true → walk_end is_enough key ks ≡ next
  walked-here ks rest next e far = ap (walk_end is_enough key) e ∙ ap (λ b. cond b next (walk_end is_enough next rest)) far

  -- and goes on from any other
  pub walked-on : (ks rest : List SelectionKey) (next : SelectionKey) → ks ≡ next ∷ rest → is_enough next ≡ false → walk_end is_enough key ks ≡ walk_end is_enough next rest
  walked-on ks rest next e near = ap (walk_end is_enough key) e ∙ ap (λ b. cond b next (walk_end is_enough next rest)) near

-- fewer keys are left after a step
pub fewer-left : (ks rest : List SelectionKey) (next : SelectionKey) → ks ≡ next ∷ rest → length rest < length ks
fewer-left ks rest next e = let counted : length ks ≡ length (next ∷ rest) = ap length e in omega (arith, counted)

module _ (scene : Scene) (way : Way) (list : List SelectionKey) (key : SelectionKey) (row : ℕ) (drawn : top_in scene key ≡ Some row) where
  placed : (place : Option ℕ) → position (is_key key) list ≡ place → page_key scene way list key ≡ page_from scene way list key (Some row) place
  placed place e = ap (λ top. page_from scene way list key top (position (is_key key) list)) drawn ∙ ap (page_from scene way list key (Some row)) e

  -- from a key that was drawn and is in the list it is walked
  pub page-there : (place : Option ℕ) → position (is_key key) list ≡ place → is_some place ≡ true → page_key scene way list key ≡ walk_end (is_page_away scene way row) key (keys_behind list key)
  page-there None e there = absurd (cc there)
  page-there (Some i) e there = placed (Some i) e ∙ ap (walk_end (is_page_away scene way row) key) (sym (after_found (is_key key) list i e))

  -- from another one nowhere
  pub page-away : (place : Option ℕ) → position (is_key key) list ≡ place → is_some place ≡ false → page_key scene way list key ≡ keys.None
  page-away None e away = placed None e
  page-away (Some i) e away = absurd (cc away)
