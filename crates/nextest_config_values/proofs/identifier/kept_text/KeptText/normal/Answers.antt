use Rattle.std.proofs.Common.{◌∙◌, ap, refl, sym}
use Rattle.std.proofs.lemmas.Result.{err_from_is_err_and}
use Rattle.std.proofs.lemmas.Str.{chars_from_encodes, encodes-chars, IsUtf8-string_bytes}
use Rattle.std.specs.Prelude.{chars, encode_utf8_all}
use Rattle.unicode_normalization.proofs.IterLemmas.{Spells-chars}
use Rattle.nextest_config_values.proofs.identifier.kept_text.KeptText.normal.Goals as goal

pub returns-in-Yes : goal.returns-in-Yes
returns-in-Yes c =
    let text = c.args.text.now in
    let in_form = c.in-Yes.ensures.yes (chars text) (Spells-chars c.chars.result text c.utf8.text c.chars.ensures.rest) refl in
    let same = c.in_ok-kept.ensures.value in
    record {
      normal = same ∙ sym (ap encode_utf8_all in_form ∙ encodes-chars text c.utf8.text);
      characters = ap chars same ∙ sym in_form;
      inline = λ quick fits. refl;
    }

pub returns-in_err-normal : goal.returns-in_err-normal
returns-in_err-normal c =
    let text = c.args.text.now in
    let value = c.is_nfc_quick.ensures.value (chars text) (Spells-chars c.chars.result text c.utf8.text c.chars.ensures.rest) in
    let failed = err_from_is_err_and c.from_residual-in_err-normal.result c.from_residual-in_err-normal.ensures.1 in
    record { normal = rw failed.1 tt; characters = rw failed.1 tt; inline = λ quick fits. absurd (c.in_default.not-Yes (value ∙ quick)) }

pub returns-clause-characters : goal.returns-clause-characters
returns-clause-characters c =
    ap chars c.from_string.ensures ∙ sym (chars_from_encodes _ _ (IsUtf8-string_bytes c.in_ok-normal.normal) (sym c.in_ok-normal.ensures))
