-- What may be meant by what is found in a platform.
use Rattle.std.specs.Prelude.{◌≡◌, ℕ, ◌&&◌, ◌⊎◌, Bool, true, false, List, [], ◌∷◌, ◌++◌, chars, codes, Option, Some, None}
use Rattle.std.specs.Str.{skip_leading_whitespace as behind_spaces}
use Rattle.nextest_config_values.specs.NearestWord.{IsNearest}
use Rattle.nextest_config_filters.specs.Filter.Expression.{is_cased}
use Rattle.nextest_config_filters.specs.Front.{begins, behind_run, in_key, opening, run}
use Rattle.nextest_config_filters.specs.Platform.Key.{target_keys}
use Rattle.nextest_config_filters.specs.Platform.Outcome.{IsOutcome}
use Rattle.nextest_config_filters.specs.Platform.Walk.{passes}
use Rattle.nextest_config_filters.specs.Text.{meant_by}
use Rattle.nextest_config_filters.specs.declared.platform.flaw.PlatformFlaw.{PlatformFlaw}
use Rattle.nextest_config_filters.specs.declared.platform.flaw.PlatformFlaw.TheVariants as flaws

-- the text in `cfg(..)`
abbrev pub in_cfg : List ℕ → List ℕ
in_cfg text = codes "cfg(" ++ (text ++ codes ")")

-- what is written in other characters
abbrev pub sign_hint : List ℕ → Option (List ℕ)
sign_hint = meant_by (
    (codes "&" ∷ codes "&&" ∷ [], codes "all(.., ..)")
    ∷ (codes "|" ∷ codes "||" ∷ [], codes "any(.., ..)")
    ∷ (codes "!" ∷ [], codes "not(..)")
    ∷ (codes "'" ∷ [], codes "\"")
    ∷ [])

-- `cfg` in any letters, and behind spaces a parenthesis
abbrev pub is_like_cfg : List ℕ → Bool
is_like_cfg cs =
    is_cased (run in_key cs) (codes "cfg") && begins opening (behind_spaces (behind_run in_key cs))

-- the text in `cfg(..)`, where that passes
abbrev pub IsHintInCfg : List ℕ → Option (List ℕ) → Type 0
IsHintInCfg text hint =
    (IsOutcome (chars (in_cfg text)) passes × (hint ≡ Some (in_cfg text)))
    ⊎ (¬ IsOutcome (chars (in_cfg text)) passes × (hint ≡ None))

-- by whether the text is like `cfg(..)`
abbrev pub IsHintFor : Bool → List ℕ → Option (List ℕ) → Type 0
IsHintFor true text hint = hint ≡ Some (codes "cfg(..)")
IsHintFor false text hint = IsHintInCfg text hint

-- what may be meant by what is found
abbrev pub IsPlatformHint : PlatformFlaw → List ℕ → Option (List ℕ) → Type 0
IsPlatformHint flaws.FamilyName found hint = hint ≡ Some (in_cfg found)
IsPlatformHint flaws.NoName found hint = IsHintFor (is_like_cfg (chars found)) found hint
IsPlatformHint flaws.Unexpected found hint = hint ≡ sign_hint found
IsPlatformHint flaws.UnknownKey found hint = IsNearest target_keys found hint
IsPlatformHint flaw found hint = hint ≡ None
