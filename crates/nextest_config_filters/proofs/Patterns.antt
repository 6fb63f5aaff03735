-- What the parser of regular expressions answers.
use Rattle.std.proofs.Common.{◌≡◌, ℕ, Bool, ◌<◌, true, false, List, Option, Some, None, refl, ap, inl, inr}
use Rattle.std.specs.Prelude.{◌⊎◌, chars, IfSome, IsSomeAnd}
use Rattle.std.proofs.lemmas.Bool.{le-leb, lt-leb}
use Rattle.regex_syntax.specs.Brackets.{Nested}
use Rattle.regex_syntax.specs.Grammar.{Names, read}
use Rattle.regex_syntax.specs.Verdict.{default_config, Reads, Refuses}
use Rattle.regex_syntax.specs.declared.error.ErrorKind.{ErrorKind}
use Rattle.regex_syntax.specs.declared.error.ErrorKind.TheVariants.{NestLimitExceeded, OutOfMemory}
use Rattle.nextest_config_filters.specs.Filter.Regex.{is_pattern, nests_well}

some_well : {X : Type 0} (found : Option X) (P : X → Type 0) (test : Option X → Bool) → IsSomeAnd found P
    → ((x : X) → P x → test (Some x) ≡ true) → test found ≡ true
some_well None P test is each = absurd is
some_well (Some x) P test is each = each x is

module _ {A : Type 0} where
  too_deep : (found : Option (Nested A × Names)) → IfSome found (λ x. 250 < x.0.depth) → nests_well found ≡ false
  too_deep None deep = refl
  too_deep (Some (re, names)) deep = lt-leb re.depth 250 deep

  refused_by : (found : Option (Nested A × Names)) (kind : ErrorKind)
      → (kind ≡ OutOfMemory) ⊎ ((found ≡ None) ⊎ ((kind ≡ NestLimitExceeded) × IfSome found (λ x. 250 < x.0.depth)))
      → (kind ≡ OutOfMemory) ⊎ (nests_well found ≡ false)
  refused_by found kind (inl memory) = inl memory
  refused_by found kind (inr (inl none)) = inr (ap nests_well none)
  refused_by found kind (inr (inr deep)) = inr (too_deep found deep.1)

-- what it reads is a pattern
pub accepts : (pattern : List ℕ) (hir : _) (names : Names) → Reads default_config pattern hir names
    → is_pattern (chars pattern) ≡ true
unfolding Reads is_pattern
accepts pattern hir names reads =
    some_well (read default_config (chars pattern)) _ nests_well reads (λ x is. le-leb x.0.depth 250 is.0)

-- and what it refuses is none, where memory didn't run out
pub refuses : (pattern : List ℕ) (kind : ErrorKind) → Refuses default_config pattern kind
    → (kind ≡ OutOfMemory) ⊎ (is_pattern (chars pattern) ≡ false)
unfolding Refuses is_pattern
refuses pattern kind refused = refused_by (read default_config (chars pattern)) kind refused
