-- Layers: strips on consecutive rows, each with what it shows and who owns its columns. The document is a layer, and so is each
-- overlay: the sticky header, the menu bar with its open menu, and the dialogs.
use Rattle.std.specs.Prelude.{ℕ, zero, suc, ◌+◌, ◌-◌, min, max, ℤ, pos, ◌+ℤ◌, int_le, int_lt, Bool, ◌&&◌, cond, List, [], ◌∷◌, length, fold, Option, Some, None, nat_le, nat_lt}
use Rattle.scm_render.specs.Canvas.{Row}
use Rattle.scm_render.specs.Lines.{line}
use Rattle.scm_render.specs.Hits.{first_of_two}

-- one row of a layer
pub record Strip (K : Type 0) : Type 0 where
  -- the row that results if the strip is drawn over a row
  pub shows : Row → Row
  -- the owner of each column, if any
  pub owner : ℕ → Option K

-- strips on consecutive rows of the document
pub record Layer (K : Type 0) : Type 0 where
  -- the row of the first strip
  pub first : ℕ
  -- the strips, from the top down
  pub strips : List (Strip K)

-- whether column x is in c..c + n
abbrev pub is_within : ℤ → ℕ → ℕ → Bool
is_within c n x = int_le c (pos x) && int_lt (pos x) (c +ℤ pos n)

module _ {K : Type 0} where
  -- a strip that shows nothing and owns nothing
  abbrev pub clear : Strip K
  clear = record { shows = λ row. row; owner = λ x. None }

  -- strip a over strip b
  abbrev pub over : Strip K → Strip K → Strip K
  over a b = record { shows = λ row. a.shows (b.shows row); owner = λ x. first_of_two (a.owner x) (b.owner x) }

  -- the strips of the second list, with those of the first list over them from index k of the second on
  unfoldable pub laid_over : ℕ → List (Strip K) → List (Strip K) → List (Strip K)
  laid_over k [] bs = bs
  laid_over zero (a ∷ more) [] = []
  laid_over (suc k) (a ∷ more) [] = []
  laid_over zero (a ∷ more) (b ∷ bs) = over a b ∷ laid_over zero more bs
  laid_over (suc k) (a ∷ more) (b ∷ bs) = b ∷ laid_over k (a ∷ more) bs

  -- strip s, where i also owns the columns that pass `test` and have no owner in s
  abbrev pub owned : K → (ℕ → Bool) → Strip K → Strip K
  owned i test s = over s (record { shows = λ row. row; owner = λ x. cond (test x) (Some i) None })

  -- the strip of layer l on document row z; `clear` if the layer has no such row
  abbrev pub strip_at : ℕ → Layer K → Strip K
  strip_at z l = line clear l.strips (pos l.first) (pos z)

  -- the row that results if layers are drawn over `row` on document row z, the first layer first
  unfoldable pub shown_by : List (Layer K) → ℕ → Row → Row
  shown_by [] z row = row
  shown_by (l ∷ ls) z row = shown_by ls z ((strip_at z l).shows row)

  -- the owner of column x on document row z: that of the last layer that has an owner there
  unfoldable pub owned_by : List (Layer K) → ℕ → ℕ → Option K
  owned_by [] z x = None
  owned_by (l ∷ ls) z x = first_of_two (owned_by ls z x) ((strip_at z l).owner x)

  -- the end of layer l's rows, exclusive
  abbrev pub end_of : Layer K → ℕ
  end_of l = l.first + length l.strips

  -- the number of rows of the smallest row range around layer l and layers ls
  abbrev pub rows_around : Layer K → List (Layer K) → ℕ
  rows_around l ls = fold (λ e k. max e (end_of k)) (end_of l) ls - fold (λ f k. min f k.first) l.first ls

-- ---- texts and boxes on a row

-- whether column x is in c..c + n
abbrev pub is_among : ℕ → ℕ → ℕ → Bool
is_among c n x = nat_le c x && nat_lt x (c + n)
