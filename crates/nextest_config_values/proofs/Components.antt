-- Identifiers that are kept: their forms by characters, and their parts by bytes.
use Rattle.std.proofs.Common.{◌≡◌, ◌≢◌, ℕ, List, ◌∷◌, ◌++◌, Option, Some, None, sym, ap, ◌∙◌, subst, inl, inr}
use Rattle.std.specs.Prelude.{MatchOption, IsUtf8, chars}
use Rattle.std.specs.Borrow.{Bor}
use Rattle.std.proofs.lemmas.Str.Pattern.{IsSplitOnceResult}
use Rattle.nextest_config_values.specs.Helpers.Identifiers.{IsPlainIdentifier}
use Rattle.nextest_config_values.specs.Identifier.{AreComponents, after_mark, HasNoColon, IsIdentifierForm, IsMarked, no_colon_uncut, one_cut, plain_no_at_sign, plain_no_colon, tool_mark}
use Rattle.nextest_config_values.proofs.Texts.{chars_after, mark_plain, no_colon_bytes, no_colon_chars, not_after, split_colon}

pub unmarked_plain : (text : List ℕ) → IsUtf8 text → IsIdentifierForm (chars text) → ((rest : List ℕ) → text ≢ tool_mark ++ rest) → IsPlainIdentifier (chars text)
unmarked_plain text u (inl h) none = h
unmarked_plain text u (inr h) none = absurd (not_after tool_mark text mark_plain u none _ h.2.marked)

pub plain_unmarked : (text : List ℕ) → IsPlainIdentifier (chars text) → ¬ (IsMarked text)
plain_unmarked text h m = plain_no_at_sign (chars text) _ h (chars_after tool_mark text _ mark_plain m.2.whole)

marked_pair : (text rest : List ℕ) → text ≡ tool_mark ++ rest → IsIdentifierForm (chars text) → (tool name : List ℕ) × (chars rest ≡ tool ++ (58 ∷ name)) × IsPlainIdentifier tool × IsPlainIdentifier name
marked_pair text rest e (inl h) = absurd (plain_no_at_sign (chars text) _ h (chars_after tool_mark text rest mark_plain e))
marked_pair text rest e (inr h) =
    (h.0, h.1, after_mark (chars rest) (h.0 ++ (58 ∷ h.1)) (chars text) (chars_after tool_mark text rest mark_plain e) h.2.marked, h.2.tool_is_plain, h.2.name_is_plain)

-- `split_once` at the first colon after the mark gives the components
pub marked_components : (Z : Type 0) (text rest : List ℕ) (r : Option (Bor (List ℕ) × Bor (List ℕ))) → text ≡ tool_mark ++ rest → IsUtf8 rest → IsIdentifierForm (chars text) → IsSplitOnceResult 58 rest r
    → MatchOption r Z (λ x. AreComponents text x.0.now x.1.now)
marked_components Z text rest None e u form split =
    let pair = marked_pair text rest e form in
    absurd (no_colon_uncut pair.0 pair.1 (subst HasNoColon pair.2 (no_colon_chars rest u (split_colon rest None u split))))
marked_components Z text rest (Some x) e u form split =
    let pair = marked_pair text rest e form in
    let cut = split_colon rest (Some x) u split in
    let same = one_cut (chars x.0.now) pair.0 (chars x.1.now) pair.1 cut.characters.first (plain_no_colon pair.0 pair.3) (sym cut.characters.cut ∙ pair.2) in
    let second : IsPlainIdentifier (chars x.1.now) = rw same.1 pair.4 in
    record {
      whole = e ∙ ap (λ cs. tool_mark ++ cs) cut.bytes.cut;
      tool_is_plain = rw same.0 pair.3;
      name_is_plain = second;
      tool_uncut = cut.bytes.first;
      name_uncut = no_colon_bytes x.1.now cut.after_utf8 (plain_no_colon (chars x.1.now) second);
    }
