-- Texts that are judged and kept in Normalization Form C (UAX 15).
use Rattle.std.specs.Prelude.{◌≡◌, ◌↔◌, ◌⊎◌, ℕ, List, chars, encode_utf8_all}
use Rattle.unicode_normalization.specs.Forms.{nfc, Nfc}
use Rattle.unicode_normalization.specs.QuickCheck.{quick_check_text, Yes}
use Rattle.nextest_config_values.specs.Identifier.Error.{NameFault, flawed}
use Rattle.nextest_config_values.specs.Read.Fault.{Reason}

-- the characters of the text's Normalization Form C
abbrev pub normal_chars : List ℕ → List ℕ
normal_chars text = nfc (chars text)

-- the text's Normalization Form C
abbrev pub normal_form : List ℕ → List ℕ
normal_form text = encode_utf8_all (normal_chars text)

-- the quick check (UAX 15, section 9) tells that the text is in Normalization Form C
abbrev pub IsQuicklyNormal : List ℕ → Type 0
IsQuicklyNormal text = quick_check_text Nfc (chars text) ≡ Yes

-- which characters are a name of a form, what is wrong with others, and the reason of a refusal;
-- characters are a name, or have one flaw
pub record Grammar (Flaw : Type 0) : Type 1 where
  pub IsForm : List ℕ → Type 0
  pub IsFlaw : List ℕ → Flaw → Type 0
  pub form_or_flaw : (cs : List ℕ) → IsForm cs ⊎ ((f : Flaw) × IsFlaw cs f)
  pub one_flaw : (cs : List ℕ) (f g : Flaw) → IsFlaw cs f → IsFlaw cs g → f ≡ g
  pub not_flawed : (cs : List ℕ) (f : Flaw) → IsForm cs → IsFlaw cs f → ⊥
  pub reason : NameFault Flaw → Reason

-- a text that is kept: its characters are of this grammar, and in Normalization Form C
pub record IsKeptText (IsInGrammar : List ℕ → Type 0) (kept : List ℕ) : Type 0 where
  pub form : IsInGrammar (chars kept)
  pub normal : nfc (chars kept) ≡ chars kept

-- the text's normal form is of this grammar, and is kept
abbrev pub IsNormalText : (List ℕ → Type 0) → List ℕ → List ℕ → Type 0
IsNormalText IsInGrammar text kept = IsInGrammar (normal_chars text) × (kept ≡ normal_form text)

-- the text's normal form has this flaw, and is named
abbrev pub IsNormalFault : {Flaw : Type 0} → (List ℕ → Flaw → Type 0) → List ℕ → NameFault Flaw
    → Type 0
IsNormalFault IsFlaw text (flawed flaw named) = IsFlaw (normal_chars text) flaw
    × (named ≡ normal_form text)

-- two predicates hold of the same things
abbrev pub SameAnswers : {X : Type 0} → (X → Type 0) → (X → Type 0) → Type 0
SameAnswers {X} P Q = (x : X) → P x ↔ Q x
