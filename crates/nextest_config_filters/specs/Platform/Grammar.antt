-- The grammar of platforms as they are documented, apart from how they are read: the predicates of
-- Rust's conditional compilation with values that are strings, in `cfg(..)`, and names of targets.
use Rattle.std.specs.Prelude.{◌≡◌, ℕ, ◌⊎◌, true, false, List, [], ◌∷◌, ◌++◌, codes}
use Rattle.std.specs.Char.{is_ascii_digit, is_whitespace}
use Rattle.std.specs.List.{AllByRecursion}
use Rattle.toml_spans.specs.Characters.{double_quote}
use Rattle.nextest_config_filters.specs.Front.{begins_key, closing, comma, equals_sign, in_key, opening}
use Rattle.nextest_config_filters.specs.Platform.Key.{families, groups, is_unknown, needs_value, systems}
use Rattle.nextest_config_filters.specs.Platform.Outcome.{is_mark}
use Rattle.nextest_config_filters.specs.Text.{is_one_of}

-- white space
abbrev pub AreSpaces : List ℕ → Type 0
AreSpaces = AllByRecursion (λ c. is_whitespace c ≡ true)

-- ---- options

-- an identifier of ASCII characters
pub record IsIdentifier (cs : List ℕ) : Type 0 where
  pub first : ℕ
  pub others : List ℕ
  pub whole : cs ≡ first ∷ others
  pub begins : begins_key first ≡ true
  pub goes_on : AllByRecursion (λ c. in_key c ≡ true) others

-- one that is the name of no group, and nearly that of no key of a target
pub record IsKey (cs : List ℕ) : Type 0 where
  pub identifier : IsIdentifier cs
  pub no_group : is_one_of cs groups ≡ false
  pub known : is_unknown cs ≡ false

-- characters between quotes, which are a number where the key asks for one
pub record IsValueOf (key value : List ℕ) : Type 0 where
  pub no_quote : AllByRecursion (λ c. c ≡ double_quote → ⊥) value
  pub number : key ≡ codes "target_pointer_width"
      → AllByRecursion (λ c. is_ascii_digit c ≡ true) value × (value ≡ [] → ⊥)

-- a key, or a key and its value
pub data IsOption : List ℕ → Type 0 where
  a_key : (key : List ℕ) → IsKey key → needs_value key ≡ false → IsOption key
  with_value : (key before behind value : List ℕ) → IsKey key → is_one_of key families ≡ false
      → AreSpaces before → AreSpaces behind → IsValueOf key value
      → IsOption (key
      ++ (before ++ (equals_sign ∷ (behind ++ (double_quote ∷ (value ++ (double_quote ∷ [])))))))

-- ---- predicates

-- a predicate, or what stands between the parentheses of `all` and `any`
pub data Part : Type 0 where
  predicate : Part
  members : Part

-- a predicate is an option, `all(..)` or `any(..)` of members, or `not(..)` of a predicate; members
-- are predicates with commas between, and perhaps one behind the last. Spaces stand between any two
-- tokens
pub data Is : Part → List ℕ → Type 0 where
  an_option : (cs : List ℕ) → IsOption cs → Is predicate cs
  a_group : (name before inside : List ℕ) → (name ≡ codes "all") ⊎ (name ≡ codes "any")
      → AreSpaces before → Is members inside
      → Is predicate (name ++ (before ++ (opening ∷ (inside ++ (closing ∷ [])))))
  a_negation : (before first cs last : List ℕ) → AreSpaces before → AreSpaces first
      → Is predicate cs → AreSpaces last
      → Is predicate (codes "not"
      ++ (before ++ (opening ∷ (first ++ (cs ++ (last ++ (closing ∷ [])))))))
  no_member : (spaces : List ℕ) → AreSpaces spaces → Is members spaces
  last_member : (first cs last : List ℕ) → AreSpaces first → Is predicate cs → AreSpaces last
      → Is members (first ++ (cs ++ last))
  another : (first cs last others : List ℕ) → AreSpaces first → Is predicate cs → AreSpaces last
      → Is members others
      → Is members (first ++ (cs ++ (last ++ (comma ∷ others))))

-- ---- platforms

-- the name of a target: any characters but spaces and marks
pub record IsTargetName (cs : List ℕ) : Type 0 where
  pub plain : AllByRecursion (λ c. (is_whitespace c ≡ false) × (is_mark c ≡ false)) cs
  pub no_family : is_one_of cs families ≡ false
  pub no_system : is_one_of cs systems ≡ false

-- `cfg(..)` of one predicate, or the name of a target
pub data IsPlatform : List ℕ → Type 0 where
  a_cfg : (first cs last : List ℕ) → AreSpaces first → Is predicate cs → AreSpaces last
      → IsPlatform (codes "cfg(" ++ (first ++ (cs ++ (last ++ (closing ∷ [])))))
  a_target : (cs : List ℕ) → IsTargetName cs → IsPlatform cs

-- a platform as it is documented, between spaces
pub record IsDocumentedPlatform (cs : List ℕ) : Type 0 where
  pub first : List ℕ
  pub platform : List ℕ
  pub last : List ℕ
  pub first_space : AreSpaces first
  pub is_platform : IsPlatform platform
  pub last_space : AreSpaces last
  pub whole : cs ≡ first ++ (platform ++ last)
