-- What is written as commands is read as these commands.
use Rattle.std.proofs.Common.{◌≡◌, ◌≢◌, ℕ, ◌+◌, ◌-◌, ◌*◌, ◌<◌, ◌≤◌, ◌^◌, ◌==◌, Bool, true, false, List, [], ◌∷◌, ◌++◌, length, map, refl, sym, ap, ap₂, subst, ◌∙◌, arith, Option, Some, None, encode_utf8, encode_utf8_all, decimal, append-nil, append_assoc, length-append, ⊎_elim}
use Rattle.std.specs.Prelude.{if◌then◌else◌, option_map}
use Rattle.std.specs.Option.{option_and_then}
use Rattle.std.specs.List.{All, flat_map}
use Rattle.std.specs.Str.{chars, is_utf8}
use Rattle.std.specs.Str.Parse.{AllDigits}
use Rattle.std.proofs.lemmas.Bool.{cases_lt}
use Rattle.std.proofs.lemmas.Bool.Decides.{nat_tests}
use Rattle.std.proofs.lemmas.Fmt.{digits_decimal, digits_value-decimal}
use Rattle.std.proofs.lemmas.List.Elements.{All-head, All-tail}
use Rattle.std.proofs.lemmas.Str.{IsUtf8-from_is_utf8, encodes-chars, encode_ascii, length-encode}
use Rattle.std.proofs.lemmas.Str.Parse.{IsNumeralModel, numerals_by_fold, tells_digits, digit_from_value}
use Rattle.scm_cells.specs.Cluster.{Cluster, is_printable}
use Rattle.scm_cells.specs.Clusters.{visible_width, with_width, IsMeasured}
use Rattle.scm_cells.proofs.PrintableLemmas.{is_printable_char, printable-kept}
use Rattle.scm_cells.specs.declared.style.Colour.{Colour}
use Rattle.scm_cells.specs.declared.style.Colour.TheVariants.{Black, Red, Green, Yellow, Blue, Magenta, Cyan, White}
use Rattle.scm_cells.specs.declared.style.Style.{Style}
use Rattle.scm_terminal.specs.Bytes.{is_digit}
use Rattle.scm_terminal.specs.Style.{colour_bytes, text_if, flag_bytes, style_bytes, with_number, style_of}
use Rattle.scm_terminal.specs.Streams.{HasNoEscape}
use Rattle.scm_terminal.specs.Terminal.{Command, MoveTo, SetStyle, Put, SetWrap, IsSafe, IsNotControl, IsNear, Before, Moved, Byte, Symbol, behind, MayFollow, AreApart, AreReadable, bytes_of}
use Rattle.scm_terminal.specs.Reading.{put_byte, text_commands, commands_of_both, sequence_commands, control_commands, part_commands, Parts, with_byte, parts_of, all_part_commands, read_commands}
use Rattle.scm_terminal.proofs.ControlLemmas.{holds_no_control}

-- ---- bytes between escapes

no_escape-append : (xs ys : List ℕ) → HasNoEscape xs → HasNoEscape ys → HasNoEscape (xs ++ ys)
no_escape-append [] ys h g = g
no_escape-append (x ∷ xs) ys h g = (h.0, no_escape-append xs ys h.1 g)

no_escape-plain : (xs : List ℕ) → All IsNotControl xs → HasNoEscape xs
no_escape-plain [] all = tt
no_escape-plain (x ∷ xs) all = let first = All-head IsNotControl x xs all in (λ e. omega arith, no_escape-plain xs (All-tail IsNotControl x xs all))

abbrev text_before : List ℕ → Parts → Parts
text_before xs parts = record { text = xs ++ parts.text; behind = parts.behind }

with-other : (b : ℕ) (parts : Parts) → b ≢ 27 → with_byte b parts ≡ record { text = b ∷ parts.text; behind = parts.behind }
with-other b parts h = let not : (b == 27) ≡ false = grind (arith, nat_tests) in rw not refl

parts-text : (xs rest : List ℕ) → HasNoEscape xs → parts_of (xs ++ rest) ≡ text_before xs (parts_of rest)
unfolding parts_of
parts-text [] rest h = refl
parts-text (x ∷ xs) rest h = ap (with_byte x) (parts-text xs rest h.1) ∙ with-other x (text_before xs (parts_of rest)) h.0

parts-escape : (xs rest : List ℕ) → HasNoEscape xs
    → parts_of (27 ∷ (xs ++ rest)) ≡ record { text = []; behind = (xs ++ (parts_of rest).text) ∷ (parts_of rest).behind }
unfolding parts_of
parts-escape xs rest h = ap (with_byte 27) (parts-text xs rest h)

-- ---- numbers

abbrev read_on : ℕ → List ℕ → ℕ
read_on n [] = n
read_on n (d ∷ ds) = read_on (n * 10 + (d - 48)) ds

numerals : IsNumeralModel (AllDigits 10) (read_on 0)
numerals = numerals_by_fold _ tells_digits read_on (record { empty = λ n. refl; more = λ n d ds h. refl })

digit-is : (d : ℕ) → 48 ≤ d → d ≤ 57 → is_digit d ≡ true
digit-is d h g = grind (arith, nat_tests)

sequence-digits : (n : ℕ) (ns ds rest : List ℕ) → AllDigits 10 ds → sequence_commands (n ∷ ns) (ds ++ rest) ≡ sequence_commands (read_on n ds ∷ ns) rest
sequence-digits n ns [] rest h = refl
sequence-digits n ns (d ∷ ds) rest h =
    let k = digit_from_value d h.0 in
    rw (digit-is d k.0 k.1) (sequence-digits (n * 10 + (d - 48)) ns ds rest h.1)

sequence-decimal : (n : ℕ) (ns rest : List ℕ) → n < 2 ^ 64 → sequence_commands (0 ∷ ns) (decimal n ++ rest) ≡ sequence_commands (n ∷ ns) rest
sequence-decimal n ns rest h =
    sequence-digits 0 ns (decimal n) rest (digits_decimal numerals n h) ∙ ap (λ (m : ℕ). sequence_commands (m ∷ ns) rest) (digits_value-decimal numerals n h)

-- what begins with a digit or a semicolon sets no mode
control-digits : (ds rest : List ℕ) → AllDigits 10 ds → control_commands (ds ++ 59 ∷ rest) ≡ sequence_commands (0 ∷ []) (ds ++ 59 ∷ rest)
control-digits [] rest h = refl
control-digits (d ∷ ds) rest h =
    let k = digit_from_value d h.0 in
    let not : (d == 63) ≡ false = grind (arith, nat_tests) in
    rw not refl

no_escape-digits : (ds : List ℕ) → AllDigits 10 ds → HasNoEscape ds
no_escape-digits [] h = tt
no_escape-digits (d ∷ ds) h = let k = digit_from_value d h.0 in (λ e. omega (arith, k.0), no_escape-digits ds h.1)

no_escape-decimal : (n : ℕ) → n < 2 ^ 64 → HasNoEscape (decimal n)
no_escape-decimal n h = no_escape-digits (decimal n) (digits_decimal numerals n h)

-- ---- a move

abbrev move_body : ℕ → ℕ → List ℕ
move_body row column = 91 ∷ (decimal (row + 1) ++ (59 ∷ (decimal (column + 1) ++ (72 ∷ []))))

move-bytes : (row column : ℕ) → bytes_of (MoveTo row column) ≡ 27 ∷ move_body row column
unfolding bytes_of
move-bytes row column = refl

move-body : (row column : ℕ) → row < 2 ^ 16 → column < 2 ^ 16 → HasNoEscape (move_body row column)
move-body row column h g = (
  λ e. omega (arith, e),
  no_escape-append (decimal (row + 1)) (59 ∷ (decimal (column + 1) ++ (72 ∷ []))) (no_escape-decimal (row + 1) (omega arith))
      (λ e. omega (arith, e), no_escape-append (decimal (column + 1)) (72 ∷ []) (no_escape-decimal (column + 1) (omega arith)) (λ e. omega (arith, e), tt)),
)

move-read : (row column : ℕ) (text : List ℕ) → row < 2 ^ 16 → column < 2 ^ 16
    → part_commands (move_body row column ++ text) ≡ commands_of_both (Some (MoveTo row column ∷ [])) (text_commands text)
move-read row column text h g =
    let first : (decimal (row + 1) ++ (59 ∷ (decimal (column + 1) ++ (72 ∷ [])))) ++ text ≡ decimal (row + 1) ++ (59 ∷ ((decimal (column + 1) ++ (72 ∷ [])) ++ text)) =
    append_assoc (decimal (row + 1)) (59 ∷ (decimal (column + 1) ++ (72 ∷ []))) text in
    let second : (decimal (column + 1) ++ (72 ∷ [])) ++ text ≡ decimal (column + 1) ++ (72 ∷ text) = append_assoc (decimal (column + 1)) (72 ∷ []) text in
    let same : (row + 1) - 1 ≡ row = omega arith in
    let same' : (column + 1) - 1 ≡ column = omega arith in
    ap control_commands first
    ∙ control-digits (decimal (row + 1)) ((decimal (column + 1) ++ (72 ∷ [])) ++ text) (digits_decimal numerals (row + 1) (omega arith))
    ∙ sequence-decimal (row + 1) [] (59 ∷ ((decimal (column + 1) ++ (72 ∷ [])) ++ text)) (omega arith)
    ∙ ap (sequence_commands (0 ∷ ((row + 1) ∷ []))) second
    ∙ sequence-decimal (column + 1) ((row + 1) ∷ []) (72 ∷ text) (omega arith)
    ∙ ap₂ (λ (r c : ℕ). commands_of_both (Some (MoveTo r c ∷ [])) (text_commands text)) same same'

-- ---- a style

abbrev numbers_if : Bool → ℕ → List ℕ → List ℕ
numbers_if b n ns = if b then n ∷ ns else ns

abbrev colour_numbers : Option Colour → List ℕ → List ℕ
colour_numbers None ns = ns
colour_numbers (Some Black) ns = 30 ∷ ns
colour_numbers (Some Red) ns = 31 ∷ ns
colour_numbers (Some Green) ns = 32 ∷ ns
colour_numbers (Some Yellow) ns = 33 ∷ ns
colour_numbers (Some Blue) ns = 34 ∷ ns
colour_numbers (Some Magenta) ns = 35 ∷ ns
colour_numbers (Some Cyan) ns = 36 ∷ ns
colour_numbers (Some White) ns = 37 ∷ ns

-- the numbers of a style, the last in front
abbrev style_numbers : Style → List ℕ
style_numbers s = colour_numbers s.colour (numbers_if s.reversed 7 (numbers_if s.underlined 4 (numbers_if s.dim 2 (numbers_if s.bold 1 (0 ∷ [])))))

abbrev styled : Option Colour → Bool → Bool → Bool → Bool → Style
styled c b d u r = record { colour = c; bold = b; dim = d; underlined = u; reversed = r }

bold-of : (b : Bool) → style_of (numbers_if b 1 (0 ∷ [])) ≡ Some (styled None b false false false)
unfolding style_of
bold-of true = refl
bold-of false = refl

dim-of : (b d : Bool) (ns : List ℕ) → style_of ns ≡ Some (styled None b false false false) → style_of (numbers_if d 2 ns) ≡ Some (styled None b d false false)
unfolding style_of
dim-of b true ns e = ap (option_and_then (with_number 2)) e
dim-of b false ns e = e

underlined-of : (b d u : Bool) (ns : List ℕ) → style_of ns ≡ Some (styled None b d false false) → style_of (numbers_if u 4 ns) ≡ Some (styled None b d u false)
unfolding style_of
underlined-of b d true ns e = ap (option_and_then (with_number 4)) e
underlined-of b d false ns e = e

reversed-of : (b d u r : Bool) (ns : List ℕ) → style_of ns ≡ Some (styled None b d u false) → style_of (numbers_if r 7 ns) ≡ Some (styled None b d u r)
unfolding style_of
reversed-of b d u true ns e = ap (option_and_then (with_number 7)) e
reversed-of b d u false ns e = e

colour-of : (c : Option Colour) (b d u r : Bool) (ns : List ℕ) → style_of ns ≡ Some (styled None b d u r) → style_of (colour_numbers c ns) ≡ Some (styled c b d u r)
unfolding style_of
colour-of None b d u r ns e = e
colour-of (Some Black) b d u r ns e = ap (option_and_then (with_number 30)) e
colour-of (Some Red) b d u r ns e = ap (option_and_then (with_number 31)) e
colour-of (Some Green) b d u r ns e = ap (option_and_then (with_number 32)) e
colour-of (Some Yellow) b d u r ns e = ap (option_and_then (with_number 33)) e
colour-of (Some Blue) b d u r ns e = ap (option_and_then (with_number 34)) e
colour-of (Some Magenta) b d u r ns e = ap (option_and_then (with_number 35)) e
colour-of (Some Cyan) b d u r ns e = ap (option_and_then (with_number 36)) e
colour-of (Some White) b d u r ns e = ap (option_and_then (with_number 37)) e

style-of : (s : Style) → style_of (style_numbers s) ≡ Some s
style-of s =
    colour-of s.colour s.bold s.dim s.underlined s.reversed _
    (reversed-of s.bold s.dim s.underlined s.reversed _ (underlined-of s.bold s.dim s.underlined _ (dim-of s.bold s.dim _ (bold-of s.bold))))

flag-sequence : (b : Bool) (n : ℕ) (ns rest : List ℕ) → n < 10 → sequence_commands ns (text_if b (59 ∷ ((48 + n) ∷ [])) ++ rest) ≡ sequence_commands (numbers_if b n ns) rest
flag-sequence true n ns rest h =
    let digit : is_digit (48 + n) ≡ true = digit-is (48 + n) (omega arith) (omega arith) in
    let value : 0 * 10 + ((48 + n) - 48) ≡ n = omega arith in
    rw (digit, value) refl
flag-sequence false n ns rest h = refl

colour-sequence : (c : Option Colour) (ns rest : List ℕ) → sequence_commands ns (colour_bytes c ++ rest) ≡ sequence_commands (colour_numbers c ns) rest
colour-sequence None ns rest = refl
colour-sequence (Some Black) ns rest = refl
colour-sequence (Some Red) ns rest = refl
colour-sequence (Some Green) ns rest = refl
colour-sequence (Some Yellow) ns rest = refl
colour-sequence (Some Blue) ns rest = refl
colour-sequence (Some Magenta) ns rest = refl
colour-sequence (Some Cyan) ns rest = refl
colour-sequence (Some White) ns rest = refl

abbrev style_body : Style → List ℕ
style_body s = 91 ∷ (48 ∷ (flag_bytes s ++ (colour_bytes s.colour ++ (109 ∷ []))))

style-bytes : (s : Style) → bytes_of (SetStyle s) ≡ 27 ∷ style_body s
unfolding bytes_of style_bytes
style-bytes s = refl

no_escape-if : (b : Bool) (n : ℕ) → 27 < n → HasNoEscape (text_if b (59 ∷ (n ∷ [])))
no_escape-if true n h = (λ e. omega (arith, e), (λ e. omega (arith, e), tt))
no_escape-if false n h = tt

no_escape-colour : (c : Option Colour) → HasNoEscape (colour_bytes c)
no_escape-colour None = tt
no_escape-colour (Some Black) = (λ e. omega (arith, e), (λ e. omega (arith, e), (λ e. omega (arith, e), tt)))
no_escape-colour (Some Red) = (λ e. omega (arith, e), (λ e. omega (arith, e), (λ e. omega (arith, e), tt)))
no_escape-colour (Some Green) = (λ e. omega (arith, e), (λ e. omega (arith, e), (λ e. omega (arith, e), tt)))
no_escape-colour (Some Yellow) = (λ e. omega (arith, e), (λ e. omega (arith, e), (λ e. omega (arith, e), tt)))
no_escape-colour (Some Blue) = (λ e. omega (arith, e), (λ e. omega (arith, e), (λ e. omega (arith, e), tt)))
no_escape-colour (Some Magenta) = (λ e. omega (arith, e), (λ e. omega (arith, e), (λ e. omega (arith, e), tt)))
no_escape-colour (Some Cyan) = (λ e. omega (arith, e), (λ e. omega (arith, e), (λ e. omega (arith, e), tt)))
no_escape-colour (Some White) = (λ e. omega (arith, e), (λ e. omega (arith, e), (λ e. omega (arith, e), tt)))

no_escape-flags : (s : Style) → HasNoEscape (flag_bytes s)
no_escape-flags s =
    no_escape-append (text_if s.bold (59 ∷ (49 ∷ []))) _ (no_escape-if s.bold 49 (omega arith))
    (no_escape-append (text_if s.dim (59 ∷ (50 ∷ []))) _ (no_escape-if s.dim 50 (omega arith))
    (no_escape-append (text_if s.underlined (59 ∷ (52 ∷ []))) _ (no_escape-if s.underlined 52 (omega arith)) (no_escape-if s.reversed 55 (omega arith))))

style-body : (s : Style) → HasNoEscape (style_body s)
style-body s = (
  λ e. omega (arith, e),
  (
    λ e. omega (arith, e),
    no_escape-append (flag_bytes s) (colour_bytes s.colour ++ (109 ∷ [])) (no_escape-flags s)
        (no_escape-append (colour_bytes s.colour) (109 ∷ []) (no_escape-colour s.colour) (λ e. omega (arith, e), tt)),
  ),
)

flags-sequence : (s : Style) (rest : List ℕ)
    → sequence_commands (0 ∷ []) (flag_bytes s ++ rest) ≡ sequence_commands (numbers_if s.reversed 7 (numbers_if s.underlined 4 (numbers_if s.dim 2 (numbers_if s.bold 1 (0 ∷ []))))) rest
flags-sequence s rest =
    let bold = text_if s.bold (59 ∷ (49 ∷ [])) in
    let dim = text_if s.dim (59 ∷ (50 ∷ [])) in
    let lined = text_if s.underlined (59 ∷ (52 ∷ [])) in
    let reversed = text_if s.reversed (59 ∷ (55 ∷ [])) in
    ap (sequence_commands (0 ∷ [])) (append_assoc bold (dim ++ (lined ++ reversed)) rest ∙ ap (λ t. bold ++ t) (append_assoc dim (lined ++ reversed) rest ∙ ap (λ t. dim ++ t) (append_assoc lined reversed rest)))
    ∙ flag-sequence s.bold 1 (0 ∷ []) (dim ++ (lined ++ (reversed ++ rest))) (omega arith)
    ∙ flag-sequence s.dim 2 (numbers_if s.bold 1 (0 ∷ [])) (lined ++ (reversed ++ rest)) (omega arith)
    ∙ flag-sequence s.underlined 4 (numbers_if s.dim 2 (numbers_if s.bold 1 (0 ∷ []))) (reversed ++ rest) (omega arith)
    ∙ flag-sequence s.reversed 7 (numbers_if s.underlined 4 (numbers_if s.dim 2 (numbers_if s.bold 1 (0 ∷ [])))) rest (omega arith)

style-read : (s : Style) (text : List ℕ) → part_commands (style_body s ++ text) ≡ commands_of_both (Some (SetStyle s ∷ [])) (text_commands text)
style-read s text =
    let first : (flag_bytes s ++ (colour_bytes s.colour ++ (109 ∷ []))) ++ text ≡ flag_bytes s ++ (colour_bytes s.colour ++ (109 ∷ text)) =
    append_assoc (flag_bytes s) (colour_bytes s.colour ++ (109 ∷ [])) text ∙ ap (λ t. flag_bytes s ++ t) (append_assoc (colour_bytes s.colour) (109 ∷ []) text) in
    ap (sequence_commands (0 ∷ [])) first
    ∙ flags-sequence s (colour_bytes s.colour ++ (109 ∷ text))
    ∙ colour-sequence s.colour _ (109 ∷ text)
    ∙ ap (λ (o : Option Style). commands_of_both (option_map (λ command. command ∷ []) (option_map SetStyle o)) (text_commands text)) (style-of s)

-- ---- whether symbols wrap

abbrev wrap_body : Bool → List ℕ
wrap_body b = 91 ∷ (63 ∷ (55 ∷ ((if b then 104 else 108) ∷ [])))

wrap-bytes : (b : Bool) → bytes_of (SetWrap b) ≡ 27 ∷ wrap_body b
unfolding bytes_of
wrap-bytes b = refl

wrap-body : (b : Bool) → HasNoEscape (wrap_body b)
wrap-body true = (λ e. omega (arith, e), (λ e. omega (arith, e), (λ e. omega (arith, e), (λ e. omega (arith, e), tt))))
wrap-body false = (λ e. omega (arith, e), (λ e. omega (arith, e), (λ e. omega (arith, e), (λ e. omega (arith, e), tt))))

wrap-read : (b : Bool) (text : List ℕ) → part_commands (wrap_body b ++ text) ≡ commands_of_both (Some (SetWrap b ∷ [])) (text_commands text)
wrap-read true text = refl
wrap-read false text = refl

-- ---- symbols

one_char : (b c : ℕ) (cs : List ℕ) → encode_utf8 c ++ encode_utf8_all cs ≡ b ∷ [] → b < 128
one_char b c cs e = ⊎_elim low high (cases_lt c 128)
  where
    low : c < 128 → b < 128
    low h = let same : c ∷ encode_utf8_all cs ≡ b ∷ [] = ap (λ (t : List ℕ). t ++ encode_utf8_all cs) (sym (encode_ascii c h)) ∙ e in let is : c ≡ b = cc in omega arith

    high : 128 ≤ c → b < 128
    high h =
        let size = ap length e in
        let both = length-append (encode_utf8 c) (encode_utf8_all cs) in
        let long : 2 ≤ length (encode_utf8 c) = grind (arith, nat_tests, length-encode c) in
        absurd (omega arith)

byte-low : (b : ℕ) → is_utf8 (b ∷ []) ≡ true → b < 128
byte-low b u = at (chars (b ∷ [])) (encodes-chars (b ∷ []) (IsUtf8-from_is_utf8 (b ∷ []) u))
  where
    at : (cs : List ℕ) → encode_utf8_all cs ≡ b ∷ [] → b < 128
    at [] e = absurd (cc)
    at (c ∷ cs) e = one_char b c cs e

-- a kept symbol of one byte is printable ASCII of one column
pub byte-printable : (b columns : ℕ) → IsMeasured (b ∷ [], columns) → is_printable_char b ≡ true
byte-printable b columns m =
    let plain = All-head IsNotControl b [] (holds_no_control (b ∷ []) columns m).1 in
    let low = byte-low b m.utf8 in
    let some : b ≢ 127 = plain.1 in
    let within : b ≤ 126 = omega arith in
    grind (arith, nat_tests)

pub byte-columns : (b columns : ℕ) → IsMeasured (b ∷ [], columns) → columns ≡ 1
unfolding with_width
byte-columns b columns m =
    let one : option_map {U = Cluster} (λ w. (b ∷ [], w)) (visible_width (b ∷ [])) ≡ Some (b ∷ [], 1) = printable-kept b (byte-printable b columns m) in
    let own : option_map {U = Cluster} (λ w. (b ∷ [], w)) (Some columns) ≡ Some (b ∷ [], 1) = ap (option_map {U = Cluster} (λ w. (b ∷ [], w))) (sym m.columns) ∙ one in
    let same : ◌≡◌ {A = Cluster} (b ∷ [], columns) (b ∷ [], 1) = cc in
    ap (λ (c : Cluster). c.1) same

text-printable : (text : List ℕ) → is_printable text ≡ true → text_commands text ≡ Some (map put_byte text)
unfolding text_commands
text-printable text h = rw h refl

-- a kept symbol of more bytes is read whole
text-symbol : (symbol : List ℕ) (columns : ℕ) → IsMeasured (symbol, columns) → (length symbol == 1) ≡ false → text_commands symbol ≡ Some (Put symbol columns ∷ [])
unfolding text_commands
text-symbol symbol columns m long = at (is_printable symbol) refl
  where
    at : (b : Bool) → is_printable symbol ≡ b → (if b then Some (map put_byte symbol) else option_map (λ n. Put symbol n ∷ []) (visible_width symbol)) ≡ Some (Put symbol columns ∷ [])
    at true e = let one = m.single e in absurd (grind (arith, nat_tests))
    at false e = ap (option_map (λ n. Put symbol n ∷ [])) m.columns

-- ---- commands

-- what text is read as, by what stands before it
abbrev IsText : Before → List ℕ → List Command → Type 0
IsText Moved text puts = Unit {0}
IsText Byte text puts = (is_printable text ≡ true) × (puts ≡ map put_byte text)
IsText Symbol text puts = (text ≡ []) × (puts ≡ [])

is_text-none : (before : Before) → IsText before [] []
is_text-none Moved = tt
is_text-none Byte = (refl, refl)
is_text-none Symbol = (refl, refl)

text-none : text_commands [] ≡ Some []
unfolding text_commands
text-none = refl

-- bytes are read as commands, of which the first put the text before the first escape
record Reads (before : Before) (commands : List Command) (parts : Parts) : Type 0 where
  pub puts : List Command
  pub others : List Command
  pub is : commands ≡ puts ++ others
  pub text : text_commands parts.text ≡ Some puts
  pub behind : all_part_commands parts.behind ≡ Some others
  pub kind : IsText before parts.text puts

abbrev bytes : List Command → List ℕ
bytes commands = flat_map bytes_of commands

reads-command : (before later : Before) (command : Command) (cs : List Command) (body : List ℕ) → bytes_of command ≡ 27 ∷ body → HasNoEscape body
    → ((text : List ℕ) → part_commands (body ++ text) ≡ commands_of_both (Some (command ∷ [])) (text_commands text))
    → Reads later cs (parts_of (bytes cs)) → Reads before (command ∷ cs) (parts_of (bytes (command ∷ cs)))
reads-command before later command cs body written clean read more =
    let parts = parts_of (bytes cs) in
    let cut : parts_of (bytes (command ∷ cs)) ≡ record { text = []; behind = (body ++ parts.text) ∷ parts.behind } =
    ap (λ (t : List ℕ). parts_of (t ++ bytes cs)) written ∙ parts-escape body (bytes cs) clean in
    let first : part_commands (body ++ parts.text) ≡ Some (command ∷ more.puts) = read parts.text ∙ ap (commands_of_both (Some (command ∷ []))) more.text in
    let made : Reads before (command ∷ cs) (record { text = []; behind = (body ++ parts.text) ∷ parts.behind }) = record {
      puts = [];
      others = command ∷ (more.puts ++ more.others);
      is = ap (λ t. command ∷ t) more.is;
      text = text-none;
      behind = ap₂ commands_of_both first more.behind;
      kind = is_text-none before;
    } in
    subst (Reads before (command ∷ cs)) (sym cut) made

reads-byte : (before : Before) (b columns : ℕ) (cs : List Command) (parts : Parts) → IsMeasured (b ∷ [], columns) → MayFollow before (b ∷ [])
    → Reads Byte cs parts → Reads before (Put (b ∷ []) columns ∷ cs) (record { text = b ∷ parts.text; behind = parts.behind })
reads-byte before b columns cs parts m follows more =
    let one = byte-columns b columns m in
    let printable : is_printable (b ∷ parts.text) ≡ true = rw (byte-printable b columns m, more.kind.0) refl in
    record {
      puts = put_byte b ∷ more.puts;
      others = more.others;
      is = ap₂ (λ (n : ℕ) (t : List Command). Put (b ∷ []) n ∷ t) one more.is;
      text = text-printable (b ∷ parts.text) printable ∙ ap (λ t. Some (put_byte b ∷ t)) (sym more.kind.1);
      behind = more.behind;
      kind = kind before follows printable;
    }
  where
    kind : (before : Before) → MayFollow before (b ∷ []) → is_printable (b ∷ parts.text) ≡ true → IsText before (b ∷ parts.text) (put_byte b ∷ more.puts)
    kind Moved follows printable = tt
    kind Byte follows printable = (printable, ap (λ t. put_byte b ∷ t) more.kind.1)
    kind Symbol follows printable = absurd follows

reads-symbol : (before : Before) (symbol : List ℕ) (columns : ℕ) (cs : List Command) (parts : Parts) → IsMeasured (symbol, columns) → (length symbol == 1) ≡ false
    → MayFollow before symbol → Reads Symbol cs parts → Reads before (Put symbol columns ∷ cs) (record { text = symbol ++ parts.text; behind = parts.behind })
reads-symbol before symbol columns cs parts m long follows more =
    let alone : symbol ++ parts.text ≡ symbol = ap (λ t. symbol ++ t) more.kind.0 ∙ append-nil symbol in
    record {
      puts = Put symbol columns ∷ [];
      others = more.others;
      is = ap (λ t. Put symbol columns ∷ t) (more.is ∙ ap (λ t. t ++ more.others) more.kind.1);
      text = ap text_commands alone ∙ text-symbol symbol columns m long;
      behind = more.behind;
      kind = kind before follows;
    }
  where
    kind : (before : Before) → MayFollow before symbol → IsText before (symbol ++ parts.text) (Put symbol columns ∷ [])
    kind Moved follows = tt
    kind Byte follows = absurd (grind (arith, nat_tests))
    kind Symbol follows = absurd follows

pub one_byte : (symbol : List ℕ) → (length symbol == 1) ≡ true → (b : ℕ) × (symbol ≡ b ∷ [])
one_byte [] h = absurd (cc)
one_byte (b ∷ []) h = (b, refl)
one_byte (b ∷ (c ∷ cs)) h = absurd (grind (arith, nat_tests))

reads-put : (before : Before) (symbol : List ℕ) (columns : ℕ) (cs : List Command) (parts : Parts) (is_one : Bool) → (length symbol == 1) ≡ is_one → IsMeasured (symbol, columns)
    → MayFollow before symbol → Reads (if is_one then Byte else Symbol) cs parts
    → Reads before (Put symbol columns ∷ cs) (record { text = symbol ++ parts.text; behind = parts.behind })
reads-put before symbol columns cs parts true e m follows more =
    let byte = one_byte symbol e in
    subst (λ (s : List ℕ). Reads before (Put s columns ∷ cs) (record { text = s ++ parts.text; behind = parts.behind })) (sym byte.1)
    (reads-byte before byte.0 columns cs parts (subst (λ (s : List ℕ). IsMeasured (s, columns)) byte.1 m) (subst (MayFollow before) byte.1 follows) more)
reads-put before symbol columns cs parts false e m follows more = reads-symbol before symbol columns cs parts m e follows more

put-bytes : (symbol : List ℕ) (columns : ℕ) → bytes_of (Put symbol columns) ≡ symbol
unfolding bytes_of
put-bytes symbol columns = refl

reads : (before : Before) (commands : List Command) → All IsSafe commands → All IsNear commands → AreApart before commands → Reads before commands (parts_of (bytes commands))
unfolding parts_of
reads before [] safe near apart = record { puts = []; others = []; is = refl; text = text-none; behind = refl; kind = is_text-none before }
reads before (MoveTo row column ∷ cs) safe near apart =
    let place = All-head IsNear (MoveTo row column) cs near in
    reads-command before Moved (MoveTo row column) cs (move_body row column) (move-bytes row column) (move-body row column place.0 place.1) (λ text. move-read row column text place.0 place.1)
    (reads Moved cs (All-tail IsSafe (MoveTo row column) cs safe) (All-tail IsNear (MoveTo row column) cs near) apart)
reads before (SetStyle style ∷ cs) safe near apart =
    reads-command before before (SetStyle style) cs (style_body style) (style-bytes style) (style-body style) (λ text. style-read style text)
    (reads before cs (All-tail IsSafe (SetStyle style) cs safe) (All-tail IsNear (SetStyle style) cs near) apart)
reads before (SetWrap wraps ∷ cs) safe near apart =
    reads-command before before (SetWrap wraps) cs (wrap_body wraps) (wrap-bytes wraps) (wrap-body wraps) (λ text. wrap-read wraps text)
    (reads before cs (All-tail IsSafe (SetWrap wraps) cs safe) (All-tail IsNear (SetWrap wraps) cs near) apart)
reads before (Put symbol columns ∷ cs) safe near apart =
    let m = All-head IsSafe (Put symbol columns) cs safe in
    let clean = no_escape-plain symbol (holds_no_control symbol columns m).1 in
    let cut : parts_of (bytes (Put symbol columns ∷ cs)) ≡ text_before symbol (parts_of (bytes cs)) =
    ap (λ (t : List ℕ). parts_of (t ++ bytes cs)) (put-bytes symbol columns) ∙ parts-text symbol (bytes cs) clean in
    subst (Reads before (Put symbol columns ∷ cs)) (sym cut)
    (reads-put before symbol columns cs (parts_of (bytes cs)) (length symbol == 1) refl m apart.0
    (reads (behind symbol) cs (All-tail IsSafe (Put symbol columns) cs safe) (All-tail IsNear (Put symbol columns) cs near) apart.1))

pub read_back : (before : Before) (commands : List Command) → All IsSafe commands → All IsNear commands → AreApart before commands → read_commands (flat_map bytes_of commands) ≡ Some commands
unfolding read_commands
read_back before commands safe near apart =
    let all = reads before commands safe near apart in
    ap₂ commands_of_both all.text all.behind ∙ ap (λ (cs : List Command). Some cs) (sym all.is)

pub read-readable : (commands : List Command) → AreReadable commands → read_commands (flat_map bytes_of commands) ≡ Some commands
read-readable commands h = read_back Symbol commands h.safe h.near h.apart

pub read-once : (commands others : List Command) → AreReadable commands → AreReadable others → flat_map bytes_of commands ≡ flat_map bytes_of others → commands ≡ others
read-once commands others h g e =
    let same : Some commands ≡ Some others = sym (read-readable commands h) ∙ ap read_commands e ∙ read-readable others g in
    cc
