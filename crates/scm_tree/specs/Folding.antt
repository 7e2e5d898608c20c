-- Names that a file system takes for another name. NTFS and HFS+ do not tell small letters from capital ones, and pass over some bytes.
use Rattle.std.specs.Prelude.{◌≡◌, ◌≤◌, ℕ, zero, suc, ◌+◌, ◌==◌, ◌&&◌, ◌||◌, nat_lt, List, [], ◌∷◌, length, drop, slice_index, Bool, true, false, if◌then◌else◌}
use Rattle.std.specs.List.{list_any, slice_split}
use Rattle.scm_tree.specs.declared.folding.Compared.{Compared}

-- the small letter of a capital letter, and each other byte itself
abbrev pub small : ℕ → ℕ
small b = if nat_lt 64 b && nat_lt b 91 then b + 32 else b

-- whether `low ≤ b ≤ high`
abbrev pub is_between : ℕ → ℕ → ℕ → Bool
is_between low high b = nat_lt b (high + 1) && nat_lt low (b + 1)

-- whether three bytes are U+200C to U+200F, U+202A to U+202E, U+206A to U+206F or U+FEFF, which HFS+ passes over
abbrev pub is_ignorable : ℕ → ℕ → ℕ → Bool
is_ignorable a b c =
    ((a == 0xE2) && (b == 0x80) && (is_between 0x8C 0x8F c || is_between 0xAA 0xAE c))
    || ((a == 0xE2) && (b == 0x81) && is_between 0xAA 0xAF c)
    || ((a == 0xEF) && (b == 0xBB) && (c == 0xBF))

-- whether the bytes begin with a code point that HFS+ passes over
abbrev pub begins_ignorable : List ℕ → Bool
begins_ignorable bytes = is_ignorable (slice_index bytes 0) (slice_index bytes 1) (slice_index bytes 2)

-- The letters of a name that HFS+ compares, without its first `skip` bytes.
unfoldable pub letters : ℕ → List ℕ → List ℕ
letters skip [] = []
letters (suc skip) (b ∷ bs) = letters skip bs
letters zero (b ∷ bs) = if begins_ignorable (b ∷ bs) then letters 2 bs else small b ∷ letters 0 bs

-- whether the lists are the same
unfoldable pub is_same : List ℕ → List ℕ → Bool
is_same [] [] = true
is_same [] (y ∷ ys) = false
is_same (x ∷ xs) [] = false
is_same (x ∷ xs) (y ∷ ys) = if x == y then is_same xs ys else false

-- whether the byte is letter `count` of `word`, in small or capital letters
abbrev pub is_letter : List ℕ → ℕ → ℕ → Bool
is_letter word count b = if nat_lt count (length word) then small b == slice_index word count else false

-- whether HFS+ takes the name for `word`
abbrev pub is_on_hfs : List ℕ → List ℕ → Bool
is_on_hfs word name = is_same (letters 0 name) word

-- whether the name begins with `word`, in small or capital letters
unfoldable pub begins : List ℕ → List ℕ → Bool
begins [] name = true
begins (w ∷ ws) [] = false
begins (w ∷ ws) (b ∷ bs) = if small b == w then begins ws bs else false

-- whether the byte is a dot or a blank
abbrev pub is_dot_or_blank : ℕ → Bool
is_dot_or_blank b = (b == 46) || (b == 32)

-- whether NTFS passes over the end of a name: over dots and blanks, and over all from a `:` (the byte 58) on
unfoldable pub is_passed : List ℕ → Bool
is_passed [] = true
is_passed (b ∷ bs) = if b == 58 then true else if is_dot_or_blank b then is_passed bs else false

-- whether NTFS takes the name for `word`
abbrev pub is_on_ntfs : List ℕ → List ℕ → Bool
is_on_ntfs word name = begins word name && is_passed (drop (length word) name)

-- whether the byte is `\`, which parts the names of folders on Windows
abbrev pub is_backslash : ℕ → Bool
is_backslash b = b == 92

-- whether NTFS takes a part of the name for `word`, or for its short form `short`
abbrev pub has_part : List ℕ → List ℕ → List ℕ → Bool
has_part word short name = list_any (λ part. is_on_ntfs word part || is_on_ntfs short part) (slice_split is_backslash name)

-- whether a file system takes the name for `word`, whose short form on NTFS is `short`
abbrev pub is_taken_for : List ℕ → List ℕ → List ℕ → Bool
is_taken_for word short name = is_on_hfs word name || has_part word short name

-- Byte `i` of the name was compared: what is after it is the rest of the word exactly if what begins with it was.
pub record IsNext (word name : List ℕ) (i : ℕ) (at next : Compared) : Type 0 where
  pub same : is_same (letters at.skip (drop i name)) (drop at.count word) ≡ is_same (letters next.skip (drop (i + 1) name)) (drop next.count word)
  pub within : next.count ≤ length word
