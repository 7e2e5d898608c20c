-- The bytes of a file that shows a change come back.
use Rattle.std.proofs.Common.{arith, ◌≡◌, ◌==◌, ℕ, List, [], Bool, true, false, if◌then◌else◌, Option, Some, None, option_map, refl, sym, ap, ◌∙◌, subst}
use Rattle.scm_types.specs.declared.file.File.{File}
use Rattle.scm_diff.specs.declared.change.Version.{Version}
use Rattle.scm_diff.specs.Bytes.{bytes_of_text, text_of_bytes}
use Rattle.scm_diff.specs.Change.{text_in}
use Rattle.scm_diff.specs.Files.{GivesBytesBack}
use Rattle.scm_diff.proofs.ByteLemmas.{bytes-back}
use Rattle.scm_c_values.specs.Keys.{no_index}
use Rattle.scm_c_values.specs.Texts.{GivenChange, GivenVersion, ShowsChange, bytes_in, seen_version, version_with}

abbrev text_or_none : Option GivenVersion → List ℕ
text_or_none None = []
text_or_none (Some v) = v.text

text_by : (is_absent : Bool) (bytes : List ℕ) (bits : ℕ) (v : Option Version)
    → option_map seen_version v ≡ (if is_absent then None else Some (record { text = text_of_bytes bytes; bits = bits }))
    → text_in v ≡ text_of_bytes (if is_absent then [] else bytes)
text_by true bytes bits None e = refl
text_by true bytes bits (Some v) e = cc
text_by false bytes bits None e = cc
text_by false bytes bits (Some v) e = ap text_or_none e

-- the text of a version that was handed in stands for its bytes
pub text_given : (bytes : List ℕ) (bits : ℕ) (v : Option Version)
    → option_map seen_version v ≡ version_with (text_of_bytes bytes) bits → text_in v ≡ text_of_bytes (bytes_in bytes bits)
text_given bytes bits v e = text_by (bits == no_index) bytes bits v e

nothing_back : bytes_of_text (text_of_bytes []) ≡ []
nothing_back = bytes-back [] (λ i. omega arith)

back_by : (is_absent : Bool) (bytes : List ℕ) → bytes_of_text (text_of_bytes bytes) ≡ bytes
    → bytes_of_text (text_of_bytes (if is_absent then [] else bytes)) ≡ (if is_absent then [] else bytes)
back_by true bytes e = nothing_back
back_by false bytes e = e

pub bytes_given_back : (bytes : List ℕ) (bits : ℕ) → bytes_of_text (text_of_bytes bytes) ≡ bytes → bytes_of_text (text_of_bytes (bytes_in bytes bits)) ≡ bytes_in bytes bits
bytes_given_back bytes bits e = back_by (bits == no_index) bytes e

pub gives_bytes_back : (given : GivenChange) (old new : List ℕ) (file : File) → (s : ShowsChange given file)
    → text_in s.old ≡ text_of_bytes old → text_in s.new ≡ text_of_bytes new
    → bytes_of_text (text_of_bytes old) ≡ old → bytes_of_text (text_of_bytes new) ≡ new → GivesBytesBack old new file
gives_bytes_back given old new file s a b old_back new_back =
    subst (λ (f : File). GivesBytesBack old new f) (sym s.is) (record {
      selected = ap bytes_of_text (s.is_change.selected ∙ a) ∙ old_back;
      unselected = ap bytes_of_text (s.is_change.unselected ∙ b) ∙ new_back;
      checked_selected = ap bytes_of_text (s.is_change.checked_selected ∙ b) ∙ new_back;
      checked_unselected = ap bytes_of_text (s.is_change.checked_unselected ∙ a) ∙ old_back;
    })
