-- On a terminal of any widths a paint of a view changes only the rows that it writes, and each symbol of one byte stands at its place.
use Rattle.std.proofs.Common.{◌≡◌, ◌≢◌, ℕ, zero, suc, ◌+◌, ◌-◌, ◌<◌, ◌≤◌, true, false, List, [], ◌∷◌, ◌++◌, length, get_or, replicate, refl, sym, ap, ◌∙◌, subst, arith, Some, None, inl, inr}
use Rattle.std.proofs.lemmas.Bool.{cases_eq}
use Rattle.std.proofs.lemmas.List.{get_or-replicate, length-replicate}
use Rattle.scm_cells.specs.declared.style.Style.{Style}
use Rattle.scm_terminal.specs.AnyTerminal.{Display, HasPlaces, IsAsLarge, Might, Puts, ShowsByte, ShowsRow}
use Rattle.scm_terminal.specs.Promise.{Paints}
use Rattle.scm_terminal.specs.Style.{plain_style}
use Rattle.scm_terminal.specs.StyledCell.{StyledCell, First, HasSize}
use Rattle.scm_terminal.specs.Terminal.{Command, MoveTo, SetStyle, SetWrap, Spot}
use Rattle.scm_terminal.proofs.AnyLemmas.{Might-first, Might-none, Might-split}
use Rattle.scm_terminal.proofs.SentLemmas.{byte-stays}
use Rattle.scm_front_paint.specs.AnyWidths.{KeepsBoth, PlacedBefore, PlacesBoth, both_placed, nothing_known}
use Rattle.scm_front_paint.specs.Below.{AreWhole, Pictures, PaintsBoth}
use Rattle.scm_front_paint.specs.Blank.{Begins, blank_cells, blank_picture, blanking, begin_row, from_blanks, from_known, put_blank}
use Rattle.scm_front_paint.proofs.BlankLemmas.{blank_cell, blanks-above, blanks-last, blanks-size, cells-are}

-- ---- displays

as-large : (t m u : Display) → IsAsLarge t m → IsAsLarge m u → IsAsLarge t u
as-large t m u a b = record { wide = b.wide ∙ a.wide; high = b.high ∙ a.high }

-- a terminal of the same size has the same places
places-on : (t m : Display) (width height : ℕ) → IsAsLarge t m → HasPlaces t width height → HasPlaces m width height
places-on t m width height large places = record {
  wide = large.wide ∙ places.wide;
  high = subst (λ (n : ℕ). height ≤ n) (sym large.high) places.high;
}

-- there are places for a picture of `few` rows where there are some for `height` rows
fewer-places : (t : Display) (width height few : ℕ) → few ≤ height → HasPlaces t width height → HasPlaces t width few
fewer-places t width height few less places = let high = places.high in record { wide = places.wide; high = omega arith }

row-on : (t m : Display) (rows : List (List StyledCell)) (row : ℕ) → get_or m.rows row [] ≡ get_or t.rows row [] → ShowsRow t rows row → ShowsRow m rows row
row-on t m rows row e shows = λ column b style inside cell. ap (λ cells. get_or cells column None) e ∙ shows column b style inside cell

-- ---- a row of blanks

-- the cursor is at a place, and what is put there is plain
abbrev IsAt : ℕ → ℕ → Display → Type 0
IsAt row column t = (t.row ≡ Some row) × ((t.column ≡ Some column) × (t.style ≡ Some plain_style))

-- what `n` blanks do from a column on
record Blanks (row column n : ℕ) (t u : Display) : Type 0 where
  large : IsAsLarge t u
  others : (k : ℕ) → k ≢ row → get_or u.rows k [] ≡ get_or t.rows k []
  wraps : u.wraps ≡ t.wraps
  before : (k : ℕ) → k < column → ShowsByte t row k 32 plain_style → ShowsByte u row k 32 plain_style
  puts : (k : ℕ) → column ≤ k → k < column + n → ShowsByte u row k 32 plain_style

blanks-may : (n row column width : ℕ) (t u : Display) → t.width ≡ width → row < length t.rows → column + n ≤ width → t.wraps ≡ Some false
    → (0 < n → IsAt row column t) → Might (replicate n put_blank) t u → Blanks row column n t u
blanks-may zero row column width t u wide high room off at might =
    let is = Might-none t u might in
    record {
      large = record { wide = ap (λ (x : Display). x.width) is; high = ap (λ (x : Display). length x.rows) is };
      others = λ k away. ap (λ (x : Display). get_or x.rows k []) is;
      wraps = ap (λ (x : Display). x.wraps) is;
      before = λ k low shows. subst (λ (x : Display). ShowsByte x row k 32 plain_style) (sym is) shows;
      puts = λ k from below. absurd (omega arith);
    }
blanks-may (suc n) row column width t u wide high room off at might =
    let first = Might-first put_blank (replicate n put_blank) t u might in
    let m = first.0 in
    let here = at (omega arith) in
    let put : Puts (32 ∷ []) t m = first.1.0 in
    let changed = put.stays row column off here.0 here.1.0 (byte-stays t.width column 32) in
    let inside : column < t.width = omega (arith, wide, room) in
    let byte = put.byte row column 32 plain_style off here.0 here.1.0 here.1.1 high inside refl in
    let same_high = changed.high in
    let rest = blanks-may n row (column + 1) width m u (changed.wide ∙ wide) (omega (arith, same_high, high)) (omega (arith, room)) (changed.wraps ∙ off)
    (λ some. (changed.at, (byte.moves (omega (arith, wide, room, some)), changed.style ∙ here.1.1))) first.1.1 in
    record {
      large = as-large t m u (record { wide = changed.wide; high = changed.high }) rest.large;
      others = λ k away. rest.others k away ∙ changed.others k away;
      wraps = rest.wraps ∙ changed.wraps;
      before = λ k low shows. rest.before k (omega (arith, low)) (byte.stay k 32 plain_style (λ e. omega (arith, e, low)) shows);
      puts = λ k from below. elim (cases_eq k column) [
        | inl e ↦ subst (λ (c : ℕ). ShowsByte u row c 32 plain_style) (sym e) (rest.before column (omega arith) byte.shows)
        | inr away ↦ rest.puts k (omega (arith, away, from)) (omega (arith, below))
      ];
    }

-- the terminal after the commands before the blanks
abbrev begun : ℕ → ℕ → Display → Display
begun zero row t = t
begun (suc width) row t = record t { row = Some row; column = Some 0; style = Some plain_style }

begins : (width row : ℕ) (t u : Display) → t.width ≡ width → row < length t.rows → Might (begin_row width row) t u → u ≡ begun width row t
begins zero row t u wide high might = Might-none t u might
begins (suc width) row t u wide high might =
    let first = Might-first (MoveTo row 0) (SetStyle plain_style ∷ []) t u might in
    let second = Might-first (SetStyle plain_style) [] first.0 u first.1.1 in
    let moved = first.1.0 high (omega (arith, wide)) in
    Might-none second.0 u second.1.1 ∙ second.1.0 ∙ ap (λ (x : Display). record x { style = Some plain_style }) moved

begun-at : (width row : ℕ) (t : Display) → 0 < width → IsAt row 0 (begun width row t)
begun-at zero row t h = absurd (omega arith)
begun-at (suc width) row t h = (refl, (refl, refl))

begun-large : (width row : ℕ) (t : Display) → IsAsLarge t (begun width row t)
begun-large zero row t = record { wide = refl; high = refl }
begun-large (suc width) row t = record { wide = refl; high = refl }

begun-rows : (width row : ℕ) (t : Display) → (begun width row t).rows ≡ t.rows
begun-rows zero row t = refl
begun-rows (suc width) row t = refl

begun-wraps : (width row : ℕ) (t : Display) → (begun width row t).wraps ≡ t.wraps
begun-wraps zero row t = refl
begun-wraps (suc width) row t = refl

-- what the commands that make row `row` blank do to a terminal
record Blanked (width row : ℕ) (t u : Display) : Type 0 where
  large : IsAsLarge t u
  others : (k : ℕ) → k ≢ row → get_or u.rows k [] ≡ get_or t.rows k []
  shows : (column : ℕ) → column < width → ShowsByte u row column 32 plain_style
  wraps : u.wraps ≡ Some true

blanked : (width row : ℕ) (t u : Display) → t.width ≡ width → row < length t.rows → Might (blanking width row) t u → Blanked width row t u
unfolding blanking
blanked width row t u wide high might =
    let puts = begin_row width row ++ replicate width put_blank in
    let first = Might-first (SetWrap false) (puts ++ (SetWrap true ∷ [])) t u might in
    let off : Display = record t { wraps = Some false } in
    let halves = Might-split puts (SetWrap true ∷ []) off u (subst (λ (x : Display). Might (puts ++ (SetWrap true ∷ [])) x u) first.1.0 first.1.1) in
    let m = halves.0 in
    let last = Might-first (SetWrap true) [] m u halves.1.1 in
    let end : u ≡ record m { wraps = Some true } = Might-none last.0 u last.1.1 ∙ last.1.0 in
    let parts = Might-split (begin_row width row) (replicate width put_blank) off m halves.1.0 in
    let start = begun width row off in
    let is : parts.0 ≡ start = begins width row off parts.0 wide high parts.1.0 in
    let large = begun-large width row off in
    let start_high = large.high in
    let done = blanks-may width row 0 width start m (large.wide ∙ wide) (omega (arith, start_high, high)) (omega arith) (begun-wraps width row off) (begun-at width row off)
    (subst (λ (x : Display). Might (replicate width put_blank) x m) is parts.1.1) in
    record {
      large = record {
        wide = ap (λ (x : Display). x.width) end ∙ done.large.wide ∙ large.wide;
        high = ap (λ (x : Display). length x.rows) end ∙ done.large.high ∙ large.high;
      };
      others = λ k away.
          ap (λ (x : Display). get_or x.rows k []) end ∙ done.others k away ∙ ap (λ (rows : List (List Spot)). get_or rows k []) (begun-rows width row off);
      shows = λ column inside.
          ap (λ (x : Display). get_or (get_or x.rows row []) column None) end ∙ done.puts column (omega arith) (omega (arith, inside));
      wraps = ap (λ (x : Display). x.wraps) end;
    }

-- so the row shows the last row of a picture of blanks
blank-row : (width height : ℕ) (t u : Display) → Blanked width height t u → ShowsRow u (blank_picture width height) height
blank-row width height t u done = λ column b style inside cell.
    let is = blanks-last width height ∙ cells-are width in
    let below : column < width = subst (λ (n : ℕ). column < n) (ap length is ∙ length-replicate width blank_cell) inside in
    let read : First (32 ∷ []) plain_style ≡ First (b ∷ []) style =
    sym (get_or-replicate width column blank_cell (First [] style) below) ∙ ap (λ (cells : List StyledCell). get_or cells column (First [] style)) (sym is) ∙ cell in
    subst (λ (s : Style). ShowsByte u height column b s) (cc read) (subst (λ (c : ℕ). ShowsByte u height column c plain_style) (cc read) (done.shows column below))

-- ---- both pictures

module _ (width height : ℕ) (known new : Pictures) (bytes : List ℕ) (p : PaintsBoth width known new bytes) (w : AreWhole width height new) where
  status-high : length new.status ≡ height + 1
  status-high = w.status.high

  last-row : length new.status - 1 ≡ height
  last-row = let high = status-high in omega arith

  session-high : length new.session ≡ height
  session-high = w.session.high

  no-size : (rows : List (List StyledCell)) (n : ℕ) → rows ≡ [] → 0 < n → HasSize width n rows → ⊥
  no-size rows n none some size = let high = size.high in let empty : length rows ≡ 0 = ap length none in omega arith

  -- what the commands of the status row do
  record StatusPlaced (t m : Display) : Type 0 where
    large : IsAsLarge t m
    below : (k : ℕ) → height < k → get_or m.rows k [] ≡ get_or t.rows k []
    wraps : t.wraps ≡ Some true → m.wraps ≡ Some true
    -- where the pictures before are whole, the session's rows stay
    others : AreWhole width height known → (k : ℕ) → k < height → get_or m.rows k [] ≡ get_or t.rows k []
    same : AreWhole width height known → get_or known.status height [] ≡ get_or new.status height [] → get_or m.rows height [] ≡ get_or t.rows height []
    shows : (HasSize width (height + 1) known.status → ShowsRow t known.status height) → ShowsRow m new.status height

  -- a paint of the status row where its picture before is known, or none is
  module _ (from : List (List StyledCell)) (second : List ℕ) (q : Paints width from new.status second) (t u : Display) (places : HasPlaces t width (height + 1))
      (might : Might q.commands t u) where
    room : HasPlaces t width (length new.status)
    room = subst (HasPlaces t width) (sym status-high) places

    painted-large : IsAsLarge t u
    painted-large = q.places.sized t u room might

    painted-below : (k : ℕ) → height < k → get_or u.rows k [] ≡ get_or t.rows k []
    painted-below k past = q.places.below t u room might k (let high = status-high in omega arith)

    painted-row : (k : ℕ) → HasSize width (height + 1) from → get_or from k [] ≡ get_or new.status k [] → get_or u.rows k [] ≡ get_or t.rows k []
    painted-row k size e = q.places.keeps t u room might (subst (λ (n : ℕ). HasSize width n from) (sym status-high) size) k e

    painted-shows : (HasSize width (height + 1) from → ShowsRow t from height) → ShowsRow u new.status height
    painted-shows shows =
        q.places.shows t u room might height (let high = status-high in omega arith)
        (λ size. shows (subst (λ (n : ℕ). HasSize width n from) status-high size))

  status-over : {row : ℕ} {last from : List (List StyledCell)} {commands : List Command} → Begins width row last from commands → row ≡ height → last ≡ known.status
      → (second : List ℕ) (q : Paints width from new.status second) (t m : Display) → HasPlaces t width (height + 1) → Might (commands ++ q.commands) t m → StatusPlaced t m
  status-over (from_known {known = last}) e is second q t m places might =
      let size = λ (a : AreWhole width height known). subst (HasSize width (height + 1)) (sym is) a.status in
      record {
        large = painted-large last second q t m places might;
        below = painted-below last second q t m places might;
        wraps = q.places.wraps t m (room last second q t m places might) might;
        others = λ a k low.
            painted-row last second q t m places might k (size a)
            (ap (λ (rows : List (List StyledCell)). get_or rows k []) is ∙ a.blank k low ∙ sym (w.blank k low));
        same = λ a f. painted-row last second q t m places might height (size a) (ap (λ (rows : List (List StyledCell)). get_or rows height []) is ∙ f);
        shows = λ shows.
            painted-shows last second q t m places might
            (subst (λ (rows : List (List StyledCell)). HasSize width (height + 1) rows → ShowsRow t rows height) (sym is) shows);
      }
  status-over {row} from_blanks e is second q t m places might =
      let blanks = blank_picture width row in
      let halves = Might-split (blanking width row) q.commands t m might in
      let b = halves.0 in
      let high = places.high in
      let done = blanked width row t b places.wide (omega arith) halves.1.0 in
      let on = places-on t b width (height + 1) done.large places in
      let unknown = λ (a : AreWhole width height known). no-size known.status (height + 1) (sym is) (omega arith) a.status in
      record {
        large = as-large t b m done.large (painted-large blanks second q b m on halves.1.1);
        below = λ k past. painted-below blanks second q b m on halves.1.1 k past ∙ done.others k (λ f. omega arith);
        wraps = λ f. q.places.wraps b m (room blanks second q b m on halves.1.1) halves.1.1 done.wraps;
        others = λ a k low. absurd (unknown a);
        same = λ a f. absurd (unknown a);
        shows = λ shows.
            painted-shows blanks second q b m on halves.1.1
            (λ size. subst (λ (r : ℕ). ShowsRow b (blank_picture width row) r) e (blank-row width row t b done));
      }

  status-placed : (t m : Display) → HasPlaces t width (height + 1) → Might p.status.commands t m → StatusPlaced t m
  status-placed t m places might =
      status-over p.status.beginning.begins last-row refl p.status.second p.status.paints t m places (subst (λ (cs : List Command). Might cs t m) p.status.are might)

  -- ---- the session, after the status row

  module _ (t u : Display) (places : HasPlaces t width (height + 1)) (might : Might (p.status.commands ++ p.session.commands) t u) where
    abbrev halves : (m : Display) × (Might p.status.commands t m × Might p.session.commands m u)
    halves = Might-split p.status.commands p.session.commands t u might

    abbrev m : Display
    m = halves.0

    status : StatusPlaced t m
    status = status-placed t m places halves.1.0

    space : HasPlaces m width (length new.session)
    space =
        subst (HasPlaces m width) (sym session-high) (fewer-places m width (height + 1) height (omega arith) (places-on t m width (height + 1) status.large places))

    session-below : (k : ℕ) → height ≤ k → get_or u.rows k [] ≡ get_or m.rows k []
    session-below k past = p.session.places.below m u space halves.1.1 k (subst (λ (n : ℕ). n ≤ k) (sym session-high) past)

    known-size : AreWhole width height known → HasSize width (length new.session) known.session
    known-size a = subst (λ (n : ℕ). HasSize width n known.session) (sym session-high) a.session

    row-kept : AreWhole width height known → (row : ℕ) → row < height → get_or known.session row [] ≡ get_or new.session row [] → get_or u.rows row [] ≡ get_or t.rows row []
    row-kept a row low e = p.session.places.keeps m u space halves.1.1 (known-size a) row e ∙ status.others a row low

    status-kept : AreWhole width height known → get_or known.status height [] ≡ get_or new.status height [] → get_or u.rows height [] ≡ get_or t.rows height []
    status-kept a e = session-below height (omega arith) ∙ status.same a e

    below-kept : (row : ℕ) → height < row → get_or u.rows row [] ≡ get_or t.rows row []
    below-kept row past = session-below row (omega arith) ∙ status.below row past

    session-shows : (row : ℕ) → row < height → (HasSize width height known.session → ShowsRow m known.session row) → ShowsRow u new.session row
    session-shows row low shows =
        p.session.places.shows m u space halves.1.1 row (subst (λ (n : ℕ). row < n) (sym session-high) low)
        (λ size. shows (subst (λ (n : ℕ). HasSize width n known.session) session-high size))

    status-shows : (HasSize width (height + 1) known.status → ShowsRow t known.status height) → ShowsRow u new.status height
    status-shows shows = row-on m u new.status height (session-below height (omega arith)) (status.shows shows)

    both-shown : PlacedBefore width height known t → PlacesBoth height new u
    both-shown (nothing_known e) = record {
      session = λ row low. session-shows row low (λ size. absurd (no-size known.session height (ap (λ (x : Pictures). x.session) e) (omega arith) size));
      status = status-shows (λ size. absurd (no-size known.status (height + 1) (ap (λ (x : Pictures). x.status) e) (omega arith) size));
    }
    both-shown (both_placed a before) = record {
      session = λ row low. session-shows row low (λ size. row-on t m known.session row (status.others a row low) (before.session row low));
      status = status-shows (λ size. before.status);
    }

    all-large : IsAsLarge t u
    all-large = as-large t m u status.large (p.session.places.sized m u space halves.1.1)

    wraps-on : t.wraps ≡ Some true → u.wraps ≡ Some true
    wraps-on e = p.session.places.wraps m u space halves.1.1 (status.wraps e)

  pub keeps-both : KeepsBoth width height known new (p.status.commands ++ p.session.commands)
  keeps-both = record {
    keeps = λ t u places might a row low e. row-kept t u places might a row low e;
    keeps_status = λ t u places might a e. status-kept t u places might a e;
    below = λ t u places might row past. below-kept t u places might row past;
    shows = λ t u places might before. both-shown t u places might before;
    sized = λ t u places might. all-large t u places might;
    wraps = λ t u places might e. wraps-on t u places might e;
  }
