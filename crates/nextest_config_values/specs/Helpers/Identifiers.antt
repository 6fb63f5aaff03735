-- Identifiers without a tool, by their characters.
use Rattle.std.specs.Prelude.{◌≡◌, ◌≢◌, ℕ, ◌==◌, ◌||◌, List, [], ◌∷◌, IsTrue}
use Rattle.std.specs.List.{AllByRecursion}
use Rattle.unicode_ident.specs.Ident.{is_xid_start, is_xid_continue}
use Rattle.toml_spans.specs.Characters.{hyphen}
use Rattle.nextest_config_values.specs.declared.helpers.identifiers.InvalidIdentifierKind.{InvalidIdentifierKind}
use Rattle.nextest_config_values.specs.declared.helpers.identifiers.InvalidIdentifierKind.TheVariants as flaws

-- a character after the first one: XID_Continue (UAX 31), or '-'
abbrev pub GoesOn : ℕ → Type 0
GoesOn c = IsTrue ((c == hyphen) || is_xid_continue c)

-- one character of XID_Start (UAX 31), and then such as go on
abbrev pub IsPlainIdentifier : List ℕ → Type 0
IsPlainIdentifier [] = ⊥
IsPlainIdentifier (first ∷ rest) = IsTrue (is_xid_start first) × AllByRecursion GoesOn rest

-- what is wrong with characters that are no identifier
abbrev pub IsPlainFlaw : List ℕ → InvalidIdentifierKind → Type 0
IsPlainFlaw cs flaws.Empty = cs ≡ []
IsPlainFlaw cs flaws.InvalidXid = (cs ≢ []) × ¬ (IsPlainIdentifier cs)
